-- Where one function of a module traps: what is reached then, before and after gc, and that it is sound.
use Rattle.std.proofs.Common.{◌≡◌, ◌≢◌, ◌==◌, ℕ, Bool, true, false, List, [], ◌∷◌, Option, Some, None, refl, sym, ap, ◌∙◌, subst, inl, inr, ⊎_elim}
use Rattle.std.specs.Prelude.{Contains, IsSome}
use Rattle.std.proofs.lemmas.Bool.{eqb-false, eqb-true}
use Rattle.walrus.specs.Base.Operators.{Types, Functions, Tables, Memories, Tags, Globals, Elements, DataSegments, Item, Op, function_item, type_item}
use Rattle.walrus.proofs.Base.Lists.{Contains-head, Contains-none, Contains-uncons}
use Rattle.walrus.proofs.Base.Standing.{some_inj}
use Rattle.walrus.specs.Contents.There.{IsSound}
use Rattle.walrus.specs.Model.Abstract.{Abstract, Body, Function, FunctionKind, ImportedFunction, LocalFunction, Name, Subject, Uninitialised}
use Rattle.walrus.specs.Model.Kept.{Kept}
use Rattle.walrus.specs.Model.Live.{IsLive}
use Rattle.walrus.specs.Model.Pipeline.{Collected}
use Rattle.walrus.specs.Model.Reached.{Reached, root}
use Rattle.walrus.specs.Model.Refers.{IsUsed, Refers, body_names, data_names, element_names, function_names, global_names, kind_names, memory_names, named_by, table_names, tag_names, type_names, used_locals, written_in}
use Rattle.walrus.specs.Model.Roots.{data_segment, element_segment}
use Rattle.walrus.proofs.Model.PipelineAlike.{AgreesOn, RootsIn, agrees_back, reached_through, refers_follows, root_follows}
use Rattle.walrus_tools.specs.Alone.{handlers_if, trapped_at, trapped_if, trapped_kind}
use Rattle.walrus_tools.specs.Trap.{trap_ops}

-- ---- a function that traps refers to nothing that it didn't refer to

kind_down : (ty : ℕ) (k : FunctionKind) (y : Item) → Contains (type_item ty ∷ kind_names (trapped_kind k)) y → Contains (type_item ty ∷ kind_names k) y
kind_down ty (LocalFunction b) y h = ⊎_elim
    (λ (is : type_item ty ≡ y). subst (λ (x : Item). Contains (type_item ty ∷ body_names b) x) is (Contains-head (type_item ty) (body_names b)))
    (λ none. absurd (Contains-none y none))
    (Contains-uncons (type_item ty) y [] h)
kind_down ty (ImportedFunction i) y h = h
kind_down ty Uninitialised y h = h

names_down : (hit : Bool) (o : Option Function) (y : Item) → Contains (named_by function_names (trapped_if hit o)) y → Contains (named_by function_names o) y
names_down false o y h = h
names_down true None y h = h
names_down true (Some g) y h = kind_down g.ty g.kind y h

handlers_down : (hit : Bool) (types : List ℕ) (t : ℕ) → Contains (handlers_if hit types) t → Contains types t
handlers_down false types t h = h
handlers_down true types t h = absurd (Contains-none t h)

abbrev IsNoFunction : Item → Type 0
IsNoFunction x = x.0 ≡ Functions → ⊥

module _ (f : ℕ) (v : Abstract) where
  abbrev w : Abstract
  w = trapped_at f v

  refers_down : (x y : Item) → Refers w x y → Refers v x y
  refers_down (Functions, i) y (inl h) = inl (names_down (i == f) (v.functions i) y h)
  refers_down (Functions, i) y (inr (t, at, is)) = inr (t, handlers_down (i == f) (v.handler_types i) t at, is)
  refers_down (Types, i) y h = h
  refers_down (Tables, i) y h = h
  refers_down (Memories, i) y h = h
  refers_down (Tags, i) y h = h
  refers_down (Globals, i) y h = h
  refers_down (Elements, i) y h = h
  refers_down (DataSegments, i) y h = h

  written_elsewhere : (x : Item) → IsNoFunction x → written_in v x ≡ written_in w x
  written_elsewhere (Functions, i) k = absurd (k refl)
  written_elsewhere (Types, i) k = refl
  written_elsewhere (Tables, i) k = refl
  written_elsewhere (Memories, i) k = refl
  written_elsewhere (Tags, i) k = refl
  written_elsewhere (Globals, i) k = refl
  written_elsewhere (Elements, i) k = refl
  written_elsewhere (DataSegments, i) k = refl

  same_elsewhere : AgreesOn IsNoFunction w v
  same_elsewhere = record {
    exports = refl;
    begins = refl;
    asks = refl;
    elements = λ i k. refl;
    data_segments = λ i k. refl;
    written = written_elsewhere;
    table_segments = λ t k s. refl;
    memory_segments = λ m k s. refl;
    handler_types = λ i k. absurd (k refl);
  }

  roots_elsewhere : RootsIn IsNoFunction w
  roots_elsewhere = record { data_segments = λ i d at h e. cc; elements = λ i d at h e. cc }

  pub reached_down : (x : Item) → Reached w x → Reached v x
  reached_down = reached_through w v (root_follows IsNoFunction w v same_elsewhere roots_elsewhere) (λ x y h there refers. refers_down x y refers)

-- ---- the same is reached before and after gc

module _ (f : ℕ) (v l : Abstract) (c : Collected v l) where
  abbrev a : Abstract
  a = trapped_at f v

  abbrev b : Abstract
  b = trapped_at f l

  kept_written : (x : Item) → Kept v x → written_in b x ≡ written_in a x
  kept_written (Functions, i) k = ap (λ (o : Option Function). named_by function_names (trapped_if (i == f) o)) (c.functions.kept i k)
  kept_written (Types, i) k = ap (named_by type_names) (c.types.kept i k)
  kept_written (Tables, i) k = ap (named_by table_names) (c.tables.kept i k)
  kept_written (Memories, i) k = ap (named_by memory_names) (c.memories.kept i k)
  kept_written (Tags, i) k = ap (named_by tag_names) (c.tags.kept i k)
  kept_written (Globals, i) k = ap (named_by global_names) (c.globals.kept i k)
  kept_written (Elements, i) k = ap (named_by element_names) (c.elements.kept i k)
  kept_written (DataSegments, i) k = ap (named_by data_names) (c.data_segments.kept i k)

  agrees : AgreesOn (Kept v) a b
  agrees = record {
    exports = c.exports;
    begins = c.start;
    asks = c.section_roots;
    elements = c.elements.kept;
    data_segments = c.data_segments.kept;
    written = kept_written;
    table_segments = c.table_segments;
    memory_segments = c.memory_segments;
    handler_types = λ i k. ap (handlers_if (i == f)) (c.handler_types i k);
  }

  roots_before : RootsIn (Kept v) a
  roots_before = record {
    data_segments = λ i d at h. inl (root (DataSegments, i) (data_segment i d at h refl));
    elements = λ i e at h. inl (root (Elements, i) (element_segment i e at h refl));
  }

  roots_after : RootsIn (Kept v) b
  roots_after = record {
    data_segments = λ i d at h. (c.data_segments.left i d at).0;
    elements = λ i e at h. (c.elements.left i e at).0;
  }

  pub reached_in : (x : Item) → Reached a x → Reached b x
  reached_in = reached_through a b (root_follows (Kept v) a b agrees roots_before) (λ x y h there refers. refers_follows (Kept v) a b agrees x y (inl (reached_down f v x h)) refers)

  pub reached_out : (x : Item) → Reached b x → Reached a x
  reached_out = reached_through b a (root_follows (Kept v) b a (agrees_back (Kept v) a b agrees) roots_after)
      (λ x y h there refers. refers_follows (Kept v) b a (agrees_back (Kept v) a b agrees) x y (inl (reached_down f v x there)) refers)

-- ---- a module in which the function at f has a body that traps

abbrev pub with_functions : Abstract → (ℕ → Option Function) → (ℕ → List ℕ) → (Subject → List Name) → Abstract
with_functions l functions handlers names = record l { functions = functions; handler_types = handlers; named = names }

-- of these functions the one at f traps, and the others are those of l
pub record TrapsAt (f : ℕ) (l : Abstract) (functions : ℕ → Option Function) (handlers : ℕ → List ℕ) : Type 0 where
  pub ty : ℕ
  pub was : Body
  pub had : l.functions f ≡ Some (record { ty = ty; kind = LocalFunction was })
  pub trap : Body
  pub is : functions f ≡ Some (record { ty = ty; kind = LocalFunction trap })
  pub traps : trap.operators ≡ trap_ops
  pub none : handlers f ≡ []
  pub others : (i : ℕ) → i ≢ f → functions i ≡ l.functions i
  pub handlers_stay : (i : ℕ) → i ≢ f → handlers i ≡ l.handler_types i

module _ (f : ℕ) (l : Abstract) (functions : ℕ → Option Function) (handlers : ℕ → List ℕ) (names : Subject → List Name) (t : TrapsAt f l functions handlers) where
  abbrev m : Abstract
  m = with_functions l functions handlers names

  abbrev Any : Item → Type 0
  Any x = Unit {0}

  written_trapped : (i : ℕ) (hit : Bool) → (i == f) ≡ hit → named_by function_names (functions i) ≡ named_by function_names (trapped_if hit (l.functions i))
  written_trapped i false differs = ap (named_by function_names) (t.others i (eqb-false i f differs))
  written_trapped i true same =
      let at : i ≡ f = eqb-true i f same in
      ap (λ (j : ℕ). named_by function_names (functions j)) at ∙ ap (named_by function_names) t.is
      ∙ ap (λ (ops : List Op). type_item t.ty ∷ body_names (record t.trap { operators = ops })) t.traps
      ∙ sym (ap (λ (o : Option Function). named_by function_names (trapped_if true o)) (ap l.functions at ∙ t.had))

  handlers_trapped : (i : ℕ) (hit : Bool) → (i == f) ≡ hit → handlers i ≡ handlers_if hit (l.handler_types i)
  handlers_trapped i false differs = t.handlers_stay i (eqb-false i f differs)
  handlers_trapped i true same = ap handlers (eqb-true i f same) ∙ t.none

  written_same : (x : Item) → Any x → written_in m x ≡ written_in (trapped_at f l) x
  written_same (Functions, i) k = written_trapped i (i == f) refl
  written_same (Types, i) k = refl
  written_same (Tables, i) k = refl
  written_same (Memories, i) k = refl
  written_same (Tags, i) k = refl
  written_same (Globals, i) k = refl
  written_same (Elements, i) k = refl
  written_same (DataSegments, i) k = refl

  trapped_alike : AgreesOn Any (trapped_at f l) m
  trapped_alike = record {
    exports = refl;
    begins = refl;
    asks = refl;
    elements = λ i k. refl;
    data_segments = λ i k. refl;
    written = written_same;
    table_segments = λ i k s. refl;
    memory_segments = λ i k s. refl;
    handler_types = λ i k. handlers_trapped i (i == f) refl;
  }

  roots_any : (n : Abstract) → RootsIn Any n
  roots_any n = record { data_segments = λ i d at h. tt; elements = λ i e at h. tt }

  pub trapped_to : (x : Item) → Reached (trapped_at f l) x → Reached m x
  trapped_to = reached_through (trapped_at f l) m (root_follows Any (trapped_at f l) m trapped_alike (roots_any _)) (λ x y h there refers. refers_follows Any (trapped_at f l) m trapped_alike x y tt refers)

  pub trapped_from : (x : Item) → Reached m x → Reached (trapped_at f l) x
  trapped_from = reached_through m (trapped_at f l) (root_follows Any m (trapped_at f l) (agrees_back Any (trapped_at f l) m trapped_alike) (roots_any _))
      (λ x y h there refers. refers_follows Any m (trapped_at f l) (agrees_back Any (trapped_at f l) m trapped_alike) x y tt refers)

  -- ---- what is reached is sound

  live_function : (i : ℕ) (hit : Bool) → (i == f) ≡ hit → IsSome (l.functions i) → IsSome (functions i)
  live_function i true same h = subst (λ (o : Option Function). IsSome o) (sym (ap functions (eqb-true i f same) ∙ t.is)) refl
  live_function i false differs h = subst (λ (o : Option Function). IsSome o) (sym (t.others i (eqb-false i f differs))) h

  pub live_still : (x : Item) → IsLive l x → IsLive m x
  live_still (Functions, i) h = live_function i (i == f) refl h
  live_still (Types, i) h = h
  live_still (Tables, i) h = h
  live_still (Memories, i) h = h
  live_still (Tags, i) h = h
  live_still (Globals, i) h = h
  live_still (Elements, i) h = h
  live_still (DataSegments, i) h = h

  was_live : (i : ℕ) (hit : Bool) → (i == f) ≡ hit → IsSome (functions i) → IsSome (l.functions i)
  was_live i true same h = subst (λ (o : Option Function). IsSome o) (sym (ap l.functions (eqb-true i f same) ∙ t.had)) refl
  was_live i false differs h = subst (λ (o : Option Function). IsSome o) (t.others i (eqb-false i f differs)) h

  pub live_before : (i : ℕ) → IsLive m (function_item i) → IsLive l (function_item i)
  live_before i h = was_live i (i == f) refl h

  unused : (x : ℕ) → IsUsed t.trap x → ⊥
  unused x used = Contains-none x (subst (λ (ops : List Op). Contains (used_locals (record t.trap { operators = ops })) x) t.traps used)

  -- the function at f has the trap as its body
  trap_kind : (g : Function) → functions f ≡ Some g → g.kind ≡ LocalFunction t.trap
  trap_kind g at = ap (λ (h : Function). h.kind) (some_inj g (record { ty = t.ty; kind = LocalFunction t.trap }) (sym at ∙ t.is))

  module _ (x : Item) (s : IsSound l x) where
    begun : (i : ℕ) (g : Function) (hit : Bool) → (i == f) ≡ hit → x ≡ (Functions, i) → functions i ≡ Some g → g.kind ≢ Uninitialised
    begun i g false differs is at = s.initialised i g is (sym (t.others i (eqb-false i f differs)) ∙ at)
    begun i g true same is at = λ none. let no : LocalFunction t.trap ≡ Uninitialised = sym (trap_kind g (ap functions (sym (eqb-true i f same)) ∙ at)) ∙ none in cc

    local_there : (i : ℕ) (g : Function) (b : Body) (k : ℕ) (hit : Bool) → (i == f) ≡ hit → x ≡ (Functions, i) → functions i ≡ Some g → g.kind ≡ LocalFunction b → IsUsed b k → IsSome (b.local_type k)
    local_there i g b k false differs is at kind used = s.locals i g b k is (sym (t.others i (eqb-false i f differs)) ∙ at) kind used
    local_there i g b k true same is at kind used =
        let own : LocalFunction t.trap ≡ LocalFunction b = sym (trap_kind g (ap functions (sym (eqb-true i f same)) ∙ at)) ∙ kind in
        let trap : b ≡ t.trap = cc in
        absurd (unused k (subst (λ (c : Body). IsUsed c k) trap used))

    pub sound_still : IsSound m x
    sound_still = record {
      live = live_still x s.live;
      initialised = λ i g is at. begun i g (i == f) refl is at;
      locals = λ i g b k is at kind used. local_there i g b k (i == f) refl is at kind used;
    }

-- ---- functions that are kept are reached

pub function_reached : (v : Abstract) (i : ℕ) → Kept v (function_item i) → Reached v (function_item i)
function_reached v i (inl h) = h
function_reached v i (inr spare) = let no : Functions ≡ Memories = ap (λ (x : Item). x.0) spare.is in absurd (cc)
