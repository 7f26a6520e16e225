-- What gc leaves, with the bodies and the names of the module that was read: it is written as the same.
use Rattle.std.proofs.Common.{◌≡◌, ℕ, zero, suc, ◌<◌, ◌≤◌, Bool, true, false, List, [], ◌∷◌, length, refl, sym, ap, ◌∙◌, subst, arith, inl, inr, ◌⊎◌, ⊎_elim}
use Rattle.std.specs.Prelude.{Option, Some, None, IsSome, Contains, option_map, slice_get}
use Rattle.walrus_base.specs.Types.{ValType}
use Rattle.walrus_base.specs.Operators.{Space, Types, Functions, Tables, Memories, Tags, Globals, Elements, DataSegments, Item}
use Rattle.walrus_model.specs.Abstract.{Abstract, Name, Subject, TheModule, AnItem, ALocal, TypeDef, Body, FunctionKind, ImportedFunction, LocalFunction, Uninitialised, Function}
use Rattle.walrus_model.specs.Carried.{Carries, Carried, In}
use Rattle.walrus_model.specs.Config.{Config}
use Rattle.walrus_model.specs.Declared.{IsRefInBody, IsRefInGlobal, IsUndeclared, HasDeclaredSegment, Declares}
use Rattle.walrus_model.specs.Kept.{Kept, IsImportOf}
use Rattle.walrus_model.specs.Live.{IsLive}
use Rattle.walrus_model.specs.Names.{last_name, own_name, name_of, body_of, MayBeNamed, AreNamed, WritesNames}
use Rattle.walrus_model.specs.Order.{Rises, ByImport, FunctionsByImport}
use Rattle.walrus_model.specs.Out.{IsTheSegment, Written}
use Rattle.walrus_model.specs.Pipeline.{Collected}
use Rattle.walrus_model.specs.Refers.{IsUsed, named_by, function_names, written_in}
use Rattle.walrus_model.specs.Renaming.{Renaming, joined, renamed_table, renamed_memory, renamed_tag, renamed_global, renamed_element, renamed_data, renamed_import}
use Rattle.walrus_model.specs.Rules.{Holds}
use Rattle.walrus_model.specs.Same.{BothAnd, SameBody, SameKind, SameFunction}
use Rattle.walrus_model.proofs.Orders.{is_some_by}
use Rattle.walrus_base.proofs.Standing.{some_of}
use Rattle.walrus_theorem.specs.Chain.{IsBehind, IsWholeBody, ParsedAs}
use Rattle.walrus_theorem.specs.Once.{Premises}
use Rattle.walrus_theorem.specs.Pinned.{LocalHasType, DeclaresLocal, LocalTypeBeginsBefore, LocalTypeGoesBefore, LocalGoesBefore, IsWrittenAs}
use Rattle.walrus_model.proofs.Alike.{table_one, memory_one, tag_one, global_one, element_one, data_one}
use Rattle.walrus_theorem.proofs.JoinedSteps.{used_there, used_back, refs_there, refs_back, by_kinds, function_joined}
use Rattle.walrus_base.proofs.SameVal.{placed, unplaced}
use Rattle.walrus_theorem.proofs.Straight.{straight, moved, carried, was_read, named_same}
use Rattle.walrus_theorem.proofs.Things.{both_there, some_same, body_at, body_is, local_kind}

-- ---- the module

-- the other where the one is there
abbrev pub masked : {X Y : Type 0} → Option X → Option Y → Option Y
masked None o = None
masked (Some x) o = o

abbrev pub as_list : Option Name → List Name
as_list None = []
as_list (Some name) = name ∷ []

abbrev pub wanted : Config → Abstract → Subject → Option Name
wanted c m TheModule = name_of c m TheModule
wanted c m (ALocal f x) = name_of c m (ALocal f x)
wanted c m (AnItem (Types, i)) = masked (m.types i) (name_of c m (AnItem (Types, i)))
wanted c m (AnItem (Functions, i)) = name_of c m (AnItem (Functions, i))
wanted c m (AnItem (Tables, i)) = name_of c m (AnItem (Tables, i))
wanted c m (AnItem (Memories, i)) = name_of c m (AnItem (Memories, i))
wanted c m (AnItem (Tags, i)) = name_of c m (AnItem (Tags, i))
wanted c m (AnItem (Globals, i)) = name_of c m (AnItem (Globals, i))
wanted c m (AnItem (Elements, i)) = name_of c m (AnItem (Elements, i))
wanted c m (AnItem (DataSegments, i)) = name_of c m (AnItem (DataSegments, i))

abbrev pub plain : Config → Abstract → Abstract → Abstract
plain c m w = record w {
  functions = λ i. masked (w.functions i) (m.functions i);
  named = λ y. as_list (wanted c m y);
  table_segments = m.table_segments;
  memory_segments = m.memory_segments;
  handler_types = m.handler_types;
  section_roots = m.section_roots;
}

last_as_list : (o : Option Name) → last_name (as_list o) ≡ o
last_as_list None = refl
last_as_list (Some name) = refl

masked_some : {X Y : Type 0} (o : Option X) (q : Option Y) → IsSome o → masked o q ≡ q
masked_some None q h = absurd (cc)
masked_some (Some x) q h = refl

unmasked : {X Y : Type 0} (o : Option X) (q : Option Y) → IsSome (masked o q) → IsSome o
unmasked None q h = absurd (cc)
unmasked (Some x) q h = refl

pub both_of : {X Y : Type 0} (S : X → Y → Type 0) (a : Option X) (b : Option Y) (x : X) (y : Y) → a ≡ Some x → b ≡ Some y → S x y → BothAnd S a b
both_of S (Some x) (Some y) u v d e s = let p : x ≡ u = cc in let q : y ≡ v = cc in subst (λ z. S z y) (sym p) (subst (S u) (sym q) s)
both_of S (Some x) None u v d e s = absurd (cc)
both_of S None b u v d e s = absurd (cc)

pub both_map : {X Y : Type 0} (S T : X → Y → Type 0) (a : Option X) (b : Option Y) → ((x : X) (y : Y) → S x y → T x y) → BothAnd S a b → BothAnd T a b
both_map S T (Some x) (Some y) law h = law x y h
both_map S T (Some x) None law h = h
both_map S T None b law h = h

-- the chosen ones by another word for them
pub chosen_by : {X : Type 0} (K L A : ℕ → Type 0) (r : ℕ → ℕ) (S T : ℕ → X → X → Type 0) (xs us ys : ℕ → Option X)
    → ((i : ℕ) → K i → L i) → ((i : ℕ) → L i → K i) → ((i : ℕ) → K i → BothAnd (S i) (xs i) (ys (r i)) → BothAnd (T i) (us i) (ys (r i)))
    → Carries K A r S xs ys → Carries L A r T us ys
chosen_by K L A r S T xs us ys there back law d = record {
  same = λ i l. law i (back i l) (d.same i (back i l));
  onto = λ j h. ⊎_elim (λ (k : (i : ℕ) × K i × (r i ≡ j)). inl (k.0, there k.0 k.1, k.2)) (λ a. inr a) (d.onto j h);
}

past_of : {X : Type 0} (xs : List X) (k : ℕ) → slice_get xs k ≡ None → length xs ≤ k
past_of [] k e = omega arith
past_of (x ∷ xs) zero e = absurd (cc)
past_of (x ∷ xs) (suc k) e = let h : length xs ≤ k = past_of xs k e in omega (arith, h)

module _ (c : Config) (m v w : Abstract) (p : ParsedAs c m v) (k : Collected v w) (holds : Holds m) where
  abbrev move : ℕ → ℕ → ℕ
  move = moved c m v p

  abbrev r : Renaming
  r = straight move

  abbrev u : Abstract
  u = plain c m w

  -- ---- functions, and their bodies

  pub record Pair (i : ℕ) : Type 0 where
    pub old : Function
    pub new : Function
    pub at_m : m.functions i ≡ Some old
    pub at_v : v.functions i ≡ Some new
    pub at_w : w.functions i ≡ Some new
    pub at_u : u.functions i ≡ Some old
    pub same : SameFunction r i old new
    pub kept : Kept v (Functions, i)

  pub pair : (i : ℕ) → IsSome (w.functions i) → Pair i
  pair i h =
      let g = some_of (w.functions i) h in
      let left = k.functions.left i g.0 g.1 in
      let read : IsSome (m.functions i) = was_read c m v p i (is_some_by (v.functions i) g.0 left.1) in
      let both = both_there (SameFunction r i) (m.functions i) (v.functions i) ((carried c m v p).functions.same i read) in
      let one : both.1 ≡ g.0 = some_same both.1 g.0 (sym both.3 ∙ left.1) in
      record {
        old = both.0;
        new = g.0;
        at_m = both.2;
        at_v = left.1;
        at_w = g.1;
        at_u = masked_some (w.functions i) (m.functions i) h ∙ both.2;
        same = subst (SameFunction r i both.0) one both.4;
        kept = left.0;
      }

  pub there : (x : Item) → IsLive w x → IsLive u x
  there (Types, i) h = h
  there (Functions, i) h = is_some_by (u.functions i) ((pair i h).old) ((pair i h).at_u)
  there (Tables, i) h = h
  there (Memories, i) h = h
  there (Tags, i) h = h
  there (Globals, i) h = h
  there (Elements, i) h = h
  there (DataSegments, i) h = h

  back : (x : Item) → IsLive u x → IsLive w x
  back (Types, i) h = h
  back (Functions, i) h = unmasked (w.functions i) (m.functions i) h
  back (Tables, i) h = h
  back (Memories, i) h = h
  back (Tags, i) h = h
  back (Globals, i) h = h
  back (Elements, i) h = h
  back (DataSegments, i) h = h

  -- a body, as it was read and as it is in memory
  pub record Twins (i : ℕ) (a b : Body) : Type 0 where
    pub in_m : body_of m i ≡ Some a
    pub in_u : body_of u i ≡ Some a
    pub in_w : body_of w i ≡ Some b
    pub same : SameBody r i a b
    pub whole : IsWholeBody p.renaming i a b
    pub kept : Kept v (Functions, i)

  local_back : (i : ℕ) (a : FunctionKind) (b : Body) → SameKind r i a (LocalFunction b) → (d : Body) × (a ≡ LocalFunction d) × SameBody r i d b
  local_back i (LocalFunction a) b h = (a, refl, h)
  local_back i (ImportedFunction q) b h = elim h [ ]
  local_back i Uninitialised b h = elim h [ ]

  twins : (i : ℕ) (a b : Body) (q : Pair i) → q.old.kind ≡ LocalFunction a → q.new.kind ≡ LocalFunction b → SameBody r i a b → Twins i a b
  twins i a b q e f s = record {
    in_m = body_is m i q.old a q.at_m e;
    in_u = body_is u i q.old a q.at_u e;
    in_w = body_is w i q.new b q.at_w f;
    same = s;
    whole = p.bodies i a b (body_is m i q.old a q.at_m e) (body_is v i q.new b q.at_v f);
    kept = q.kept;
  }

  from_u : (i : ℕ) (a : Body) → body_of u i ≡ Some a → (b : Body) × Twins i a b
  from_u i a e =
      let g = body_at (u.functions i) a e in
      let q = pair i (back (Functions, i) (is_some_by (u.functions i) g.0 g.1)) in
      let one : q.old ≡ g.0 = some_same q.old g.0 (sym q.at_u ∙ g.1) in
      let kind : q.old.kind ≡ LocalFunction a = ap (λ (z : Function). z.kind) one ∙ g.2 in
      let local = local_kind r i a q.new.kind (subst (λ z. SameKind r i z q.new.kind) kind q.same.kind) in
      (local.0, twins i a local.0 q kind local.1 local.2)

  pub from_w : (i : ℕ) (b : Body) → body_of w i ≡ Some b → (a : Body) × Twins i a b
  from_w i b e =
      let g = body_at (w.functions i) b e in
      let q = pair i (is_some_by (w.functions i) g.0 g.1) in
      let one : q.new ≡ g.0 = some_same q.new g.0 (sym q.at_w ∙ g.1) in
      let kind : q.new.kind ≡ LocalFunction b = ap (λ (z : Function). z.kind) one ∙ g.2 in
      let local = local_back i q.old.kind b (subst (λ z. SameKind r i q.old.kind z) kind q.same.kind) in
      (local.0, twins i local.0 b q local.1 kind local.2)

  -- ---- the order of declared locals

  module _ (i : ℕ) (a b : Body) (z : Twins i a b) where
    typed : (x : ℕ) → IsUsed a x → IsSome (a.local_type x)
    typed x h = holds.indices.locals i a x z.in_m h

    no_parameter : (x : ℕ) → IsUsed a x → (Contains a.parameters x → ⊥) → Contains b.parameters (move i x) → ⊥
    no_parameter x h away at =
        let q = placed b.parameters (move i x) at in
        let e : Some q.0 ≡ None = sym q.1 ∙ z.same.parameters x h ∙ unplaced a.parameters x away in
        cc

    a_parameter : (x : ℕ) → IsUsed a x → (Contains b.parameters (move i x) → ⊥) → Contains a.parameters x → ⊥
    a_parameter x h away at =
        let q = placed a.parameters x at in
        let e : Some q.0 ≡ None = sym q.1 ∙ sym (z.same.parameters x h) ∙ unplaced b.parameters (move i x) away in
        cc

    declared : (x : ℕ) → DeclaresLocal a x → DeclaresLocal b (move i x)
    declared x d = (used_there move i a b z.same x d.0, no_parameter x d.0 d.1)

    one_type : (x : ℕ) (s t : ValType ℕ) → a.local_type x ≡ Some s → b.local_type (move i x) ≡ Some t → s ≡ t
    one_type x s t e f = let g : Some s ≡ Some t = sym (z.whole.types x s e) ∙ f in cc

    begins : (s t : ValType ℕ) → LocalTypeBeginsBefore a s t → LocalTypeBeginsBefore b s t
    begins s t h = (move i h.0, (declared h.0 h.1.0, z.whole.types h.0 s h.1.1, behind))
      where
        behind : (y : ℕ) → DeclaresLocal b y → LocalHasType b y t → move i h.0 < y
        behind y d e =
            let x = used_back move i a b z.same y d.0 in
            let ty = some_of (a.local_type x.0) (typed x.0 x.1) in
            let one : ty.0 ≡ t = one_type x.0 ty.0 t ty.1 (ap b.local_type x.2 ∙ e) in
            let away : Contains a.parameters x.0 → ⊥ = a_parameter x.0 x.1 (λ at. d.1 (subst (Contains b.parameters) x.2 at)) in
            let lt : h.0 < x.0 = h.1.2 x.0 (x.1, away) (ty.1 ∙ ap Some one) in
            subst (λ n. move i h.0 < n) x.2 (z.whole.rise h.0 x.0 (is_some_by (a.local_type h.0) s h.1.1) (typed x.0 x.1) lt)

    type_goes : (s t : ValType ℕ) → LocalTypeGoesBefore a s t → LocalTypeGoesBefore b s t
    type_goes s t (inl h) = inl h
    type_goes s t (inr h) = inr (h.0, begins s t h.1)

    goes_by : (s t : ValType ℕ) (x y : ℕ) → LocalHasType a x s → LocalHasType a y t → (LocalTypeGoesBefore a s t) ⊎ ((s ≡ t) × (x < y)) → (LocalTypeGoesBefore b s t) ⊎ ((s ≡ t) × (move i x < move i y))
    goes_by s t x y e f (inl h) = inl (type_goes s t h)
    goes_by s t x y e f (inr h) = inr (h.0, z.whole.rise x y (is_some_by (a.local_type x) s e) (is_some_by (a.local_type y) t f) h.1)

    goes : (x y : ℕ) → LocalGoesBefore a x y → LocalGoesBefore b (move i x) (move i y)
    goes x y (s, (t, (e, f, h))) = (s, (t, (z.whole.types x s e, z.whole.types y t f, goes_by s t x y e f h)))

  -- ---- what is named

  pub kept_item : (x : Item) → IsLive w x → Kept v x × IsLive v x
  kept_item (Types, i) h = let g = some_of (w.types i) h in let l = k.types.left i g.0 g.1 in (l.0, is_some_by (v.types i) g.0 l.1)
  kept_item (Functions, i) h = let g = some_of (w.functions i) h in let l = k.functions.left i g.0 g.1 in (l.0, is_some_by (v.functions i) g.0 l.1)
  kept_item (Tables, i) h = let g = some_of (w.tables i) h in let l = k.tables.left i g.0 g.1 in (l.0, is_some_by (v.tables i) g.0 l.1)
  kept_item (Memories, i) h = let g = some_of (w.memories i) h in let l = k.memories.left i g.0 g.1 in (l.0, is_some_by (v.memories i) g.0 l.1)
  kept_item (Tags, i) h = let g = some_of (w.tags i) h in let l = k.tags.left i g.0 g.1 in (l.0, is_some_by (v.tags i) g.0 l.1)
  kept_item (Globals, i) h = let g = some_of (w.globals i) h in let l = k.globals.left i g.0 g.1 in (l.0, is_some_by (v.globals i) g.0 l.1)
  kept_item (Elements, i) h = let g = some_of (w.elements i) h in let l = k.elements.left i g.0 g.1 in (l.0, is_some_by (v.elements i) g.0 l.1)
  kept_item (DataSegments, i) h = let g = some_of (w.data_segments i) h in let l = k.data_segments.left i g.0 g.1 in (l.0, is_some_by (v.data_segments i) g.0 l.1)

  pub read_from : {X : Type 0} (K A : ℕ → Type 0) (S : ℕ → X → X → Type 0) (xs ys : ℕ → Option X) → Carries K A (λ i. i) S xs ys → ((j : ℕ) → A j → ⊥) → (j : ℕ) → IsSome (ys j) → K j
  read_from K A S xs ys d away j h = ⊎_elim (λ (z : (i : ℕ) × K i × (i ≡ j)). subst K z.2 z.1) (λ a. absurd (away j a)) (d.onto j h)

  abbrev q : Carried (IsLive m) (IsBehind (length p.types)) (straight (moved c m v p)) m v
  q = carried c m v p

  wanted_type : (i : ℕ) (o : Option TypeDef) → m.types i ≡ o → own_name v (AnItem (Types, i)) ≡ masked o (name_of c m (AnItem (Types, i)))
  wanted_type i None e = p.added i (past_of p.types i (sym (p.types_read i) ∙ e))
  wanted_type i (Some x) e = p.items (Types, i) (is_some_by (m.types i) x e)

  named_v : (x : Item) → IsLive v x → own_name v (AnItem x) ≡ wanted c m (AnItem x)
  named_v (Types, i) h = wanted_type i (m.types i) refl
  named_v (Functions, i) h = p.items (Functions, i) (was_read c m v p i h)
  named_v (Tables, i) h = p.items (Tables, i) (read_from _ _ _ m.tables v.tables q.tables (λ j a. cc) i h)
  named_v (Memories, i) h = p.items (Memories, i) (read_from _ _ _ m.memories v.memories q.memories (λ j a. cc) i h)
  named_v (Tags, i) h = p.items (Tags, i) (read_from _ _ _ m.tags v.tags q.tags (λ j a. cc) i h)
  named_v (Globals, i) h = p.items (Globals, i) (read_from _ _ _ m.globals v.globals q.globals (λ j a. cc) i h)
  named_v (Elements, i) h = p.items (Elements, i) (read_from _ _ _ m.elements v.elements q.elements (λ j a. cc) i h)
  named_v (DataSegments, i) h = p.items (DataSegments, i) (read_from _ _ _ m.data_segments v.data_segments q.data_segments (λ j a. cc) i h)

  own_u : (y : Subject) → own_name u y ≡ wanted c m y
  own_u y = last_as_list (wanted c m y)

  item_name : (x : Item) → IsLive w x → own_name w (AnItem x) ≡ own_name u (AnItem x)
  item_name x h = let l = kept_item x h in ap last_name (k.named (AnItem x) l.0) ∙ named_v x l.1 ∙ sym (own_u (AnItem x))

  module_name : own_name w TheModule ≡ own_name u TheModule
  module_name = ap last_name (k.named TheModule tt) ∙ p.own ∙ sym (own_u TheModule)

  local_name : (i : ℕ) (a b : Body) → Twins i a b → (x : ℕ) → IsUsed a x → own_name w (ALocal i (move i x)) ≡ own_name u (ALocal i x)
  local_name i a b z x h = ap last_name (k.named (ALocal i (move i x)) z.kept) ∙ p.locals i a x z.in_m (typed i a b z x h) ∙ sym (own_u (ALocal i x))

  -- ---- undeclared functions

  pub undeclared_there : (f : ℕ) → IsUndeclared (IsLive w) w f → IsUndeclared (IsLive u) u f
  undeclared_there f h = record { named = named h.named; not_exported = h.not_exported; not_listed = h.not_listed }
    where
      named : (IsRefInBody (IsLive w) w f) ⊎ (IsRefInGlobal (IsLive w) w f) → (IsRefInBody (IsLive u) u f) ⊎ (IsRefInGlobal (IsLive u) u f)
      named (inl (i, b, l, e, at)) = let t = from_w i b e in inl (i, t.0, there (Functions, i) l, t.1.in_u, refs_back move i t.0 b f t.1.same at)
      named (inr g) = inr g

  undeclared_back : (f : ℕ) → IsUndeclared (IsLive u) u f → IsUndeclared (IsLive w) w f
  undeclared_back f h = record { named = named h.named; not_exported = h.not_exported; not_listed = h.not_listed }
    where
      named : (IsRefInBody (IsLive u) u f) ⊎ (IsRefInGlobal (IsLive u) u f) → (IsRefInBody (IsLive w) w f) ⊎ (IsRefInGlobal (IsLive w) w f)
      named (inl (i, a, l, e, at)) = let t = from_u i a e in inl (i, t.0, back (Functions, i) l, t.1.in_w, refs_there move i a t.0 f t.1.same at)
      named (inr g) = inr g

  -- ---- what it is written as

  module _ (n : Abstract) (is : IsWrittenAs c w n) where
    abbrev s : Renaming
    s = is.written.renaming

    abbrev t : Renaming
    t = joined (straight (moved c m v p)) is.written.renaming

    abbrev d : Carried (IsLive w) (IsTheSegment is.written.segment) is.written.renaming w n
    d = is.written.carried

    same_made : {X : Type 0} (K L A : ℕ → Type 0) (g : ℕ → ℕ) (f h : X → X) (xs ys : ℕ → Option X) → ((i : ℕ) → K i → L i) → ((i : ℕ) → L i → K i) → ((x : X) → f x ≡ h x) → Carries K A g (λ i x y. y ≡ f x) xs ys → Carries L A g (λ i x y. y ≡ h x) xs ys
    same_made K L A g f h xs ys forth to law e = chosen_by K L A g (λ i x y. y ≡ f x) (λ i x y. y ≡ h x) xs xs ys forth to (λ i z both. both_map (λ x y. y ≡ f x) (λ x y. y ≡ h x) (xs i) (ys (g i)) (λ x y a. a ∙ law x) both) e

    imports_there : (i : ℕ) → IsImportOf (IsLive w) w i → IsImportOf (IsLive u) u i
    imports_there i (x, e, l) = (x, e, there x.item l)

    imports_back : (i : ℕ) → IsImportOf (IsLive u) u i → IsImportOf (IsLive w) w i
    imports_back i (x, e, l) = (x, e, back x.item l)

    function_law : (i : ℕ) → IsLive w (Functions, i) → BothAnd (SameFunction s i) (w.functions i) (n.functions (s.numbers Functions i)) → BothAnd (SameFunction t i) (u.functions i) (n.functions (s.numbers Functions i))
    function_law i l both =
        let a = pair i l in
        let b = both_there (SameFunction s i) (w.functions i) (n.functions (s.numbers Functions i)) both in
        let one : b.0 ≡ a.new = some_same b.0 a.new (sym b.2 ∙ a.at_w) in
        both_of (SameFunction t i) (u.functions i) (n.functions (s.numbers Functions i)) a.old b.1 a.at_u b.3 (function_joined move s i a.old a.new b.1 a.same (subst (λ z. SameFunction s i z b.1) one b.4))

    new_carried : Carried (IsLive u) (IsTheSegment is.written.segment) t u n
    new_carried = record {
      types = d.types;
      imports = chosen_by (IsImportOf (IsLive w) w) (IsImportOf (IsLive u) u) (λ i. ⊥) s.imports (λ i x y. y ≡ renamed_import s x) (λ i x y. y ≡ renamed_import t x) w.imports w.imports n.imports imports_there imports_back (λ i z both. both) d.imports;
      functions = chosen_by (In (IsLive w) Functions) (In (IsLive u) Functions) (In (IsTheSegment is.written.segment) Functions) (s.numbers Functions) (SameFunction s) (SameFunction t) w.functions u.functions n.functions (λ i. there (Functions, i)) (λ i. back (Functions, i)) function_law d.functions;
      tables = same_made _ _ _ (s.numbers Tables) (renamed_table s) (renamed_table t) w.tables n.tables (λ i z. z) (λ i z. z) (λ x. table_one s t x (λ y at. refl) (λ y at. refl)) d.tables;
      memories = same_made _ _ _ (s.numbers Memories) (renamed_memory s) (renamed_memory t) w.memories n.memories (λ i z. z) (λ i z. z) (λ x. memory_one s t x (λ y at. refl)) d.memories;
      tags = same_made _ _ _ (s.numbers Tags) (renamed_tag s) (renamed_tag t) w.tags n.tags (λ i z. z) (λ i z. z) (λ x. tag_one s t x (λ y at. refl) (λ y at. refl)) d.tags;
      globals = same_made _ _ _ (s.numbers Globals) (renamed_global s) (renamed_global t) w.globals n.globals (λ i z. z) (λ i z. z) (λ x. global_one s t x (λ y at. refl) (λ y at. refl)) d.globals;
      elements = same_made _ _ _ (s.numbers Elements) (renamed_element s) (renamed_element t) w.elements n.elements (λ i z. z) (λ i z. z) (λ x. element_one s t x (λ y at. refl)) d.elements;
      data_segments = same_made _ _ _ (s.numbers DataSegments) (renamed_data s) (renamed_data t) w.data_segments n.data_segments (λ i z. z) (λ i z. z) (λ x. data_one s t x (λ y at. refl)) d.data_segments;
      imports_apart = λ i j a b e. d.imports_apart i j (imports_back i a) (imports_back j b) e;
      apart = λ space away i j a b e. d.apart space away i j (back (space, i) a) (back (space, j) b) e;
      exports = d.exports;
      start = d.start;
    }

    before : (space : Space) (i j : ℕ) → IsLive w (space, i) → IsLive w (space, j) → ByImport u space i j → ByImport w space i j
    before Types i j a b h = h
    before Functions i j a b h =
        let x = pair i a in
        let y = pair j b in
        both_of (FunctionsByImport i j) (option_map (λ f. f.kind) (w.functions i)) (option_map (λ f. f.kind) (w.functions j)) x.new.kind y.new.kind
        (ap (option_map (λ f. f.kind)) x.at_w) (ap (option_map (λ f. f.kind)) y.at_w)
        (by_kinds move i j x.old.kind x.new.kind y.old.kind y.new.kind x.same.kind y.same.kind (kinds x.old y.old x.at_u y.at_u h))
      where
        kinds : (f g : Function) → u.functions i ≡ Some f → u.functions j ≡ Some g → BothAnd (FunctionsByImport i j) (option_map (λ z. z.kind) (u.functions i)) (option_map (λ z. z.kind) (u.functions j)) → FunctionsByImport i j f.kind g.kind
        kinds f g e o both = subst (λ z. BothAnd (FunctionsByImport i j) (Some f.kind) (option_map (λ y. y.kind) z)) o (subst (λ z. BothAnd (FunctionsByImport i j) (option_map (λ y. y.kind) z) (option_map (λ y. y.kind) (u.functions j))) e both)
    before Tables i j a b h = h
    before Memories i j a b h = h
    before Tags i j a b h = h
    before Globals i j a b h = h
    before Elements i j a b h = h
    before DataSegments i j a b h = h

    new_rises : Rises (IsLive u) (ByImport u) t (IsImportOf (IsLive u) u)
    new_rises = record {
      items = λ space away i j a b h. is.written.rises.items space away i j (back (space, i) a) (back (space, j) b) (before space i j (back (space, i) a) (back (space, j) b) h);
      imports = λ i j a b h. is.written.rises.imports i j (imports_back i a) (imports_back j b) h;
    }

    declared_segment : (fs : List ℕ) (segment : Option ℕ) → HasDeclaredSegment (IsLive w) s w n fs segment → HasDeclaredSegment (IsLive u) t u n fs segment
    declared_segment [] segment h = h
    declared_segment (f ∷ fs) segment h = (h.0, h.1, record { is = h.2.is; last = h.2.last })

    new_declares : Declares (IsLive u) t u n is.written.segment
    new_declares = record {
      functions = is.written.declares.functions;
      undeclared = record {
        rising = is.written.declares.undeclared.rising;
        are = λ f. let both = is.written.declares.undeclared.are f in ((λ at. undeclared_there f (both.0 at)), (λ h. both.1 (undeclared_back f h)));
      };
      declared = declared_segment is.written.declares.functions is.written.segment is.written.declares.declared;
    }

    may : (y : Subject) → MayBeNamed (IsLive w) s w y → MayBeNamed (IsLive u) t u y
    may TheModule h = h
    may (AnItem (Types, i)) h = h
    may (AnItem (Functions, i)) (x, l, e) = (x, there x l, e)
    may (AnItem (Tables, i)) (x, l, e) = (x, there x l, e)
    may (AnItem (Memories, i)) (x, l, e) = (x, there x l, e)
    may (AnItem (Tags, i)) (x, l, e) = (x, there x l, e)
    may (AnItem (Globals, i)) (x, l, e) = (x, there x l, e)
    may (AnItem (Elements, i)) (x, l, e) = (x, there x l, e)
    may (AnItem (DataSegments, i)) (x, l, e) = (x, there x l, e)
    may (ALocal g y) (f, b, x, l, e, h, o, a) =
        let z = from_w f b e in
        let old = used_back move f z.0 b z.1.same x h in
        (f, z.0, old.0, there (Functions, f) l, z.1.in_u, old.1, o, a ∙ ap (s.locals f) (sym old.2))

    new_named : AreNamed (own_name w) (IsLive w) s w n → AreNamed (own_name u) (IsLive u) t u n
    new_named h = record {
      module_name = h.module_name ∙ module_name;
      items = λ x l plain. h.items x (back x l) plain ∙ item_name x (back x l);
      locals = λ f a x l e used. let z = from_u f a e in h.locals f z.0 (move f x) (back (Functions, f) l) z.1.in_w (used_there move f a z.0 z.1.same x used) ∙ local_name f a z.0 z.1 x used;
      only = λ y some. may y (h.only y some);
    }

    by_flag : (flag : Bool) → WritesNames flag (own_name w) (IsLive w) s w n → WritesNames flag (own_name u) (IsLive u) t u n
    by_flag true h = new_named h
    by_flag false h = h

    new_written : Written c u n
    new_written = record {
      renaming = t;
      segment = is.written.segment;
      indices = is.written.indices;
      carried = new_carried;
      rises = new_rises;
      declares = new_declares;
      names = by_flag c.writes_names is.written.names;
      producers = is.written.producers;
      indexed = record { live = λ x l. is.written.indexed.live x (back x l); dead = λ x away. is.written.indexed.dead x (λ l. away (there x l)) };
      customs = is.written.customs;
    }

    new_local : (f : ℕ) (a : Body) (x y : ℕ) → body_of u f ≡ Some a → DeclaresLocal a x → DeclaresLocal a y → LocalGoesBefore a x y → s.locals f (move f x) < s.locals f (move f y)
    new_local f a x y e dx dy h =
        let z = from_u f a e in
        is.pinned.locals f z.0 (move f x) (move f y) z.1.in_w (declared f a z.0 z.1 x dx) (declared f a z.0 z.1 y dy) (goes f a z.0 z.1 x y h)

    pub plain_written : IsWrittenAs c u n
    unfolding new_written
    plain_written = record {
      written = new_written;
      pinned = record {
        types_rise = is.pinned.types_rise;
        type_names = λ flag i l. is.pinned.type_names flag i l ∙ item_name (Types, i) l;
        locals = new_local;
      };
    }

  -- ---- it names nothing dead either

  functions_name : (i : ℕ) (o : Option Function) → w.functions i ≡ o → named_by function_names (masked o (m.functions i)) ≡ named_by function_names o
  functions_name i None e = refl
  functions_name i (Some g) e =
      let a = pair i (is_some_by (w.functions i) g e) in
      let one : a.new ≡ g = some_same a.new g (sym a.at_w ∙ e) in
      ap (named_by function_names) a.at_m
      ∙ sym (named_same move i (Some a.old) (Some a.new) (λ h. a.same) (λ h. refl))
      ∙ ap (λ (f : Function). named_by function_names (Some f)) one

  written_back : (x y : Item) → Contains (written_in u x) y → Contains (written_in w x) y
  written_back (Types, i) y at = at
  written_back (Functions, i) y at = subst (λ l. Contains l y) (functions_name i (w.functions i) refl) at
  written_back (Tables, i) y at = at
  written_back (Memories, i) y at = at
  written_back (Tags, i) y at = at
  written_back (Globals, i) y at = at
  written_back (Elements, i) y at = at
  written_back (DataSegments, i) y at = at

  pub plain_premises : Premises w → Premises u
  plain_premises h = record {
    written = λ x y at. there y (h.written x y (written_back x y at));
    locals = λ f a x e used. let z = from_u f a e in typed f a z.0 z.1 x used;
    exports = λ e at. there e.item (h.exports e at);
    start = λ f e. there (Functions, f) (h.start f e);
  }
