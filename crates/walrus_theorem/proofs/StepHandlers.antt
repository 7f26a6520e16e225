-- The types that legacy handlers need: what they name is named by the body that needs them, and where they are found or added they stand.
use Rattle.std.proofs.Common.{◌≡◌, ℕ, zero, suc, ◌+◌, ◌<◌, ◌≤◌, Bool, true, false, List, [], ◌∷◌, ◌++◌, length, map, refl, sym, ◌∙◌, subst, arith, inl, inr, ⊎_elim, ◌⊎◌, eqb-true}
use Rattle.std.proofs.lemmas.Grind.{flat_map-append}
use Rattle.std.proofs.lemmas.List.FromFn.{length-range_with_len, get_or-range_with_len}
use Rattle.std.specs.List.{range_with_len}
use Rattle.std.specs.Prelude.{flat_map, Option, Some, None, option_map, slice_get, Contains, nat_le, nat_lt, get_or, ◌==◌, if◌then◌else◌}
use Rattle.walrus_base.specs.Types.{ValType, CompType, Func, Struct, Array, val_heaps, heap_names, val_names, comp_names, sub_names}
use Rattle.walrus_base.specs.Composite.{FunctionType, function_comp}
use Rattle.walrus_base.specs.TypeDef.{type_params, type_results}
use Rattle.walrus_base.specs.Operators.{Functions, Tags, Item, type_item, BlockType, NoResult, OneResult, OfType, block_names, Arg, Index, Label, Local, Number, Count, Byte, S32, S64, Bits32, Bits64, Value, Heap, Block, Access, Op, arg_names, op_names, names_of}
use Rattle.walrus_model.specs.BlockHandlers.{params_of, results_of, OpenBlock, Try, OtherBlock, opens_other, closes, without_innermost, catch_type, catch_all_type, tag_params, block_results, opened_results, caught_params, blocks_after, handler_at, handlers_from}
use Rattle.walrus_model.specs.Abstract.{Abstract, TypeDef, Body, Function, FunctionKind, ImportedFunction, LocalFunction, Uninitialised, Tag}
use Rattle.walrus_model.specs.Names.{body_of, body_of_function, body_of_kind}
use Rattle.walrus_model.specs.Handlers.{tag_type, handlers_of}
use Rattle.walrus_model.specs.Refers.{named_by, type_names, tag_names, function_names, kind_names, local_names, used_locals, written_in}
use Rattle.walrus_theorem.specs.Chain.{alone, IsLoneTypeAt, TypeIsFoundOrAdded, Found, Added, AreFoundOrAdded, NoMore, AndThen, handlers_by, AddsHandlers, NoFunction, AndThose}
use Rattle.walrus_model.proofs.StepPlain.{CatchesTags}
use Rattle.walrus_base.proofs.Lists.{Contains-head, Contains-tail, Contains-map, Contains-append_1, Contains-append_2, Contains-uncons, Contains-none}

-- ---- lists

pub Contains-split : {A : Type 0} (x : A) (xs ys : List A) → Contains (xs ++ ys) x → Contains xs x ⊎ Contains ys x
Contains-split x [] ys h = inr h
Contains-split x (y ∷ xs) ys h = ⊎_elim
    (λ e. inl (subst (λ z. Contains (y ∷ xs) z) e (Contains-head y xs)))
    (λ rest. ⊎_elim (λ l. inl (Contains-tail y x xs l)) (λ r. inr r) (Contains-split x xs ys rest))
    (Contains-uncons y x (xs ++ ys) h)

module _ {X : Type 0} where
  pub slice_get-front : (xs ys : List X) (i : ℕ) (x : X) → slice_get xs i ≡ Some x → slice_get (xs ++ ys) i ≡ Some x
  slice_get-front [] ys i x e = absurd (cc)
  slice_get-front (z ∷ xs) ys zero x e = e
  slice_get-front (z ∷ xs) ys (suc i) x e = slice_get-front xs ys i x e

  slice_get-seam : (xs : List X) (y : X) → slice_get (xs ++ y ∷ []) (length xs) ≡ Some y
  slice_get-seam [] y = refl
  slice_get-seam (z ∷ xs) y = slice_get-seam xs y

  length-longer : (xs : List X) (y : X) → length xs ≤ length (xs ++ y ∷ [])
  length-longer [] y = omega arith
  length-longer (z ∷ xs) y = let h : length xs ≤ length (xs ++ y ∷ []) = length-longer xs y in omega arith

-- ---- what they name

module _ (P : Item → Type 0) where
  abbrev Fine : List (ValType ℕ) → Type 0
  Fine vs = (t : ℕ) → Contains (flat_map heap_names (flat_map val_heaps vs)) t → P (type_item t)

  abbrev pub FineComp : CompType ℕ → Type 0
  FineComp comp = (t : ℕ) → Contains (comp_names comp) t → P (type_item t)

  abbrev AllFine : List FunctionType → Type 0
  AllFine [] = Unit {0}
  AllFine (f ∷ fs) = Fine f.params × Fine f.results × AllFine fs

  abbrev TriesFine : List OpenBlock → Type 0
  TriesFine [] = Unit {0}
  TriesFine (Try r ∷ blocks) = Fine r × TriesFine blocks
  TriesFine (OtherBlock ∷ blocks) = TriesFine blocks

  func_fine : (ps rs : List (ValType ℕ)) → Fine ps → Fine rs → FineComp (Func ps rs)
  func_fine ps rs p r t at = ⊎_elim (p t) (r t)
      (Contains-split t (flat_map heap_names (flat_map val_heaps ps)) (flat_map heap_names (flat_map val_heaps rs))
      (subst (λ l. Contains l t) (flat_map-append heap_names (flat_map val_heaps ps) (flat_map val_heaps rs)) at))

  none_fine : Fine []
  none_fine t at = absurd (Contains-none t at)

  all_fine_append : (xs ys : List FunctionType) → AllFine xs → AllFine ys → AllFine (xs ++ ys)
  all_fine_append [] ys h k = k
  all_fine_append (x ∷ xs) ys h k = (h.0, h.1, all_fine_append xs ys h.2 k)

  all_fine_each : (fs : List FunctionType) → AllFine fs → (comp : CompType ℕ) → Contains (map function_comp fs) comp → FineComp comp
  all_fine_each [] h comp at = absurd (Contains-none comp at)
  all_fine_each (f ∷ fs) h comp at = ⊎_elim
      (λ e. subst FineComp e (func_fine f.params f.results h.0 h.1))
      (λ rest. all_fine_each fs h.2 comp rest)
      (Contains-uncons (function_comp f) comp (map function_comp fs) at)

  if_fine : (b : Bool) (f : FunctionType) → Fine f.params → Fine f.results → AllFine (if b then [] else f ∷ [])
  if_fine true f p r = tt
  if_fine false f p r = (p, r, tt)

  if_fine_2 : (b : Bool) (f : FunctionType) → Fine f.params → Fine f.results → AllFine (if b then f ∷ [] else [])
  if_fine_2 true f p r = (p, r, tt)
  if_fine_2 false f p r = tt

  catch_fine : (p r : List (ValType ℕ)) → Fine p → Fine r → AllFine (catch_type p r)
  catch_fine [] r hp hr = if_fine (nat_le (length r) 1) (record { params = []; results = r }) none_fine hr
  catch_fine (v ∷ p) r hp hr = (hp, hr, tt)

  catch_all_fine : (r : List (ValType ℕ)) → Fine r → AllFine (catch_all_type r)
  catch_all_fine r hr = if_fine_2 (nat_lt 1 (length r)) (record { params = []; results = r }) none_fine hr

  two_fine : (a b : Bool) (xs ys : List FunctionType) → (a ≡ true → AllFine xs) → AllFine ys → AllFine (if a then xs else (if b then ys else []))
  two_fine true b xs ys h k = h refl
  two_fine false true xs ys h k = k
  two_fine false false xs ys h k = tt

  inner_fine : (blocks : List OpenBlock) → TriesFine blocks → TriesFine (without_innermost blocks)
  inner_fine [] h = tt
  inner_fine (OtherBlock ∷ blocks) h = h
  inner_fine (Try results ∷ blocks) h = h.1

  after_fine : (six opens shuts : Bool) (r : List (ValType ℕ)) (blocks : List OpenBlock) → Fine r → TriesFine blocks → TriesFine (if six then Try r ∷ blocks else (if opens then OtherBlock ∷ blocks else (if shuts then without_innermost blocks else blocks)))
  after_fine true opens shuts r blocks hr h = (hr, h)
  after_fine false true shuts r blocks hr h = h
  after_fine false false true r blocks hr h = inner_fine blocks h
  after_fine false false false r blocks hr h = h

module _ (m : Abstract) (P : Item → Type 0) (closed : (x y : Item) → P x → Contains (written_in m x) y → P y) where
  type_fine : (t : ℕ) (x : TypeDef) → m.types t ≡ Some x → P (type_item t) → FineComp P x.sub.comp
  type_fine t x at p u has = closed (type_item t) (type_item u) p
      (subst (λ (o : Option TypeDef). Contains (named_by type_names o) (type_item u)) (sym at)
      (Contains-append_2 (type_item u) (map type_item x.group) (map type_item (sub_names x.sub))
      (Contains-map type_item u (sub_names x.sub) (Contains-append_2 u x.sub.supertypes (comp_names x.sub.comp) has))))

  comp_params_fine : (comp : CompType ℕ) → FineComp P comp → Fine P (type_params comp)
  comp_params_fine (Func ps rs) f = λ t at. f t (subst (λ l. Contains l t) (sym (flat_map-append heap_names (flat_map val_heaps ps) (flat_map val_heaps rs)))
      (Contains-append_1 t (flat_map heap_names (flat_map val_heaps ps)) (flat_map heap_names (flat_map val_heaps rs)) at))
  comp_params_fine (Struct fields) f = none_fine P
  comp_params_fine (Array element) f = none_fine P

  comp_results_fine : (comp : CompType ℕ) → FineComp P comp → Fine P (type_results comp)
  comp_results_fine (Func ps rs) f = λ t at. f t (subst (λ l. Contains l t) (sym (flat_map-append heap_names (flat_map val_heaps ps) (flat_map val_heaps rs)))
      (Contains-append_2 t (flat_map heap_names (flat_map val_heaps ps)) (flat_map heap_names (flat_map val_heaps rs)) at))
  comp_results_fine (Struct fields) f = none_fine P
  comp_results_fine (Array element) f = none_fine P

  params_fine : (t : ℕ) (o : Option TypeDef) → m.types t ≡ o → P (type_item t) → Fine P (params_of o)
  params_fine t None at p = none_fine P
  params_fine t (Some x) at p = comp_params_fine x.sub.comp (type_fine t x at p)

  results_fine : (t : ℕ) (o : Option TypeDef) → m.types t ≡ o → P (type_item t) → Fine P (results_of o)
  results_fine t None at p = none_fine P
  results_fine t (Some x) at p = comp_results_fine x.sub.comp (type_fine t x at p)

  abbrev AllIn : List Item → Type 0
  AllIn xs = (y : Item) → Contains xs y → P y

  block_fine : (b : BlockType) → AllIn (map type_item (block_names b)) → Fine P (block_results m.types (tag_type m) b)
  block_fine NoResult h = none_fine P
  block_fine (OneResult v) h = λ t at. ⊎_elim
      (λ here. h (type_item t) (Contains-map type_item t (val_names v) here))
      (λ none. absurd (Contains-none t none))
      (Contains-split t (flat_map heap_names (val_heaps v)) [] (subst (λ l. Contains l t) (flat_map-append heap_names (val_heaps v) []) at))
  block_fine (OfType t) h = results_fine t (m.types t) refl (h (type_item t) (Contains-head (type_item t) []))

  opened_fine : (args : List Arg) → AllIn (flat_map arg_names args) → Fine P (opened_results m.types (tag_type m) args)
  opened_fine [] h = none_fine P
  opened_fine (Block b ∷ args) h = block_fine b (λ y at. h y (Contains-append_1 y (map type_item (block_names b)) (flat_map arg_names args) at))
  opened_fine (Index x ∷ args) h = none_fine P
  opened_fine (Label n ∷ args) h = none_fine P
  opened_fine (Local n ∷ args) h = none_fine P
  opened_fine (Number n ∷ args) h = none_fine P
  opened_fine (Count n ∷ args) h = none_fine P
  opened_fine (Byte n ∷ args) h = none_fine P
  opened_fine (S32 n ∷ args) h = none_fine P
  opened_fine (S64 n ∷ args) h = none_fine P
  opened_fine (Bits32 n ∷ args) h = none_fine P
  opened_fine (Bits64 n ∷ args) h = none_fine P
  opened_fine (Value v ∷ args) h = none_fine P
  opened_fine (Heap k ∷ args) h = none_fine P
  opened_fine (Access a b c ∷ args) h = none_fine P

  tag_fine : (i : ℕ) (o : Option Tag) → m.tags i ≡ o → P (Tags, i) → Fine P (tag_params m.types (tag_type m) (option_map (λ t. t.ty) o))
  tag_fine i None at p = none_fine P
  tag_fine i (Some t) at p = params_fine t.ty (m.types t.ty) refl
      (closed (Tags, i) (type_item t.ty) p (subst (λ (o : Option Tag). Contains (named_by tag_names o) (type_item t.ty)) (sym at) (Contains-head (type_item t.ty) [])))

  caught_fine : (args : List Arg) → ((x : Item) (rest : List Arg) → args ≡ Index x ∷ rest → x.0 ≡ Tags) → AllIn (flat_map arg_names args) → Fine P (caught_params m.types (tag_type m) args)
  caught_fine [] tag h = none_fine P
  caught_fine (Index x ∷ args) tag h = tag_fine x.1 (m.tags x.1) refl (subst (λ s. P (s, x.1)) (tag x args refl) (h x (Contains-head x (flat_map arg_names args))))
  caught_fine (Block b ∷ args) tag h = none_fine P
  caught_fine (Label n ∷ args) tag h = none_fine P
  caught_fine (Local n ∷ args) tag h = none_fine P
  caught_fine (Number n ∷ args) tag h = none_fine P
  caught_fine (Count n ∷ args) tag h = none_fine P
  caught_fine (Byte n ∷ args) tag h = none_fine P
  caught_fine (S32 n ∷ args) tag h = none_fine P
  caught_fine (S64 n ∷ args) tag h = none_fine P
  caught_fine (Bits32 n ∷ args) tag h = none_fine P
  caught_fine (Bits64 n ∷ args) tag h = none_fine P
  caught_fine (Value v ∷ args) tag h = none_fine P
  caught_fine (Heap k ∷ args) tag h = none_fine P
  caught_fine (Access a b c ∷ args) tag h = none_fine P

  at_fine : (blocks : List OpenBlock) (o : Op) → (o.op ≡ 0x07 → (x : Item) (rest : List Arg) → o.args ≡ Index x ∷ rest → x.0 ≡ Tags) → AllIn (op_names o) → TriesFine P blocks → AllFine P (handler_at m.types (tag_type m) blocks o)
  at_fine [] o tag h blocks = tt
  at_fine (OtherBlock ∷ around) o tag h blocks = tt
  at_fine (Try r ∷ around) o tag h blocks =
      two_fine P (o.op == 0x07) (o.op == 0x19) (catch_type (caught_params m.types (tag_type m) o.args) r) (catch_all_type r)
      (λ seven. catch_fine P (caught_params m.types (tag_type m) o.args) r (caught_fine o.args (tag (eqb-true o.op 0x07 seven)) h) blocks.0)
      (catch_all_fine P r blocks.0)

  from_fine : (blocks : List OpenBlock) (ops : List Op) → CatchesTags ops → AllIn (names_of ops) → TriesFine P blocks → AllFine P (handlers_from m.types (tag_type m) blocks ops)
  from_fine blocks [] tag h tries = tt
  from_fine blocks (o ∷ ops) tag h tries =
      let here : AllIn (op_names o) = λ y at. h y (Contains-append_1 y (op_names o) (names_of ops) at) in
      all_fine_append P (handler_at m.types (tag_type m) blocks o) (handlers_from m.types (tag_type m) (blocks_after m.types (tag_type m) blocks o) ops)
      (at_fine blocks o (λ seven x rest is. tag o x rest (Contains-head o ops) seven is) here tries)
      (from_fine (blocks_after m.types (tag_type m) blocks o) ops
      (λ p x rest at seven is. tag p x rest (Contains-tail o p ops at) seven is)
      (λ y at. h y (Contains-append_2 y (op_names o) (names_of ops) at))
      (after_fine P (o.op == 0x06) (opens_other o.op) (closes o.op) (opened_results m.types (tag_type m) o.args) blocks (opened_fine o.args here) tries))

  kind_has : (k : FunctionKind) (b : Body) → body_of_kind k ≡ Some b → (y : Item) → Contains (names_of b.operators) y → Contains (kind_names k) y
  kind_has (LocalFunction a) b e y at = let is : b ≡ a = cc in Contains-append_1 y (names_of a.operators) (flat_map (local_names a) (used_locals a)) (subst (λ (c : Body). Contains (names_of c.operators) y) is at)
  kind_has (ImportedFunction i) b e y at = absurd (cc)
  kind_has Uninitialised b e y at = absurd (cc)

  pub function_has : (o : Option Function) (b : Body) → body_of_function o ≡ Some b → (y : Item) → Contains (names_of b.operators) y → Contains (named_by function_names o) y
  function_has None b e y at = absurd (cc)
  function_has (Some f) b e y at = Contains-tail (type_item f.ty) y (kind_names f.kind) (kind_has f.kind b e y at)

  -- the types that a handler type names are in P, where P has all that the function names and is closed under what is named
  pub handlers_fine : (f : ℕ) (b : Body) → body_of m f ≡ Some b → CatchesTags b.operators → ((y : Item) → Contains (written_in m (Functions, f)) y → P y) → (comp : CompType ℕ) → Contains (handlers_of m b) comp → FineComp P comp
  handlers_fine f b at tag h =
      all_fine_each P (handlers_from m.types (tag_type m) (OtherBlock ∷ []) b.operators)
      (from_fine (OtherBlock ∷ []) b.operators tag (λ y has. h y (function_has (m.functions f) b at y has)) tt)

-- ---- where they stand

abbrev pub Extends : List TypeDef → List TypeDef → Type 0
Extends old new = (i : ℕ) (x : TypeDef) → slice_get old i ≡ Some x → slice_get new i ≡ Some x

pub record Placed (comps : List (CompType ℕ)) (types : List TypeDef) (places : List ℕ) : Type 0 where
  pub there : (comp : CompType ℕ) → Contains comps comp → (p : ℕ) × Contains places p × IsLoneTypeAt comp types p
  pub back : (p : ℕ) → Contains places p → (comp : CompType ℕ) × Contains comps comp × IsLoneTypeAt comp types p

abbrev pub Below : ℕ → CompType ℕ → Type 0
Below n comp = (t : ℕ) → Contains (comp_names comp) t → t < n

abbrev pub AllBelow : ℕ → List (CompType ℕ) → Type 0
AllBelow n comps = (comp : CompType ℕ) → Contains comps comp → Below n comp

stands_later : (old new : List TypeDef) → Extends old new → (comp : CompType ℕ) (p : ℕ) → IsLoneTypeAt comp old p → IsLoneTypeAt comp new p
stands_later old new e comp p s = (e p (alone p comp) s.0, s.1)

placed_later : (old new : List TypeDef) → Extends old new → (comps : List (CompType ℕ)) (places : List ℕ) → Placed comps old places → Placed comps new places
placed_later old new e comps places s = record {
  there = λ comp at. let h = s.there comp at in (h.0, h.1, stands_later old new e comp h.0 h.2);
  back = λ p at. let h = s.back p at in (h.0, h.1, stands_later old new e h.0 p h.2);
}

module _ (n : ℕ) where
  pub record OnePlaced (comp : CompType ℕ) (old new : List TypeDef) (p : ℕ) : Type 0 where
    pub extends : Extends old new
    pub long : n ≤ length new
    pub stands : IsLoneTypeAt comp new p

  pub one_placed : (comp : CompType ℕ) (old new : List TypeDef) (p : ℕ) → TypeIsFoundOrAdded comp old new p → Below n comp → n ≤ length old → OnePlaced comp old new p
  one_placed comp old new p (Found stands first same) below long = record {
    extends = λ i x e. subst (λ (l : List TypeDef). slice_get l i ≡ Some x) (sym same) e;
    long = subst (λ (l : List TypeDef). n ≤ length l) (sym same) long;
    stands = subst (λ (l : List TypeDef). IsLoneTypeAt comp l p) (sym same) stands;
  }
  one_placed comp old new p (Added none place made) below long = record {
    extends = λ i x e. subst (λ (l : List TypeDef). slice_get l i ≡ Some x) (sym made) (slice_get-front old (alone p comp ∷ []) i x e);
    long = subst (λ (l : List TypeDef). n ≤ length l) (sym made) (let more : length old ≤ length (old ++ alone p comp ∷ []) = length-longer old (alone p comp) in omega arith);
    stands = (
      subst (λ (l : List TypeDef). slice_get l p ≡ Some (alone p comp)) (sym made) (subst (λ q. slice_get (old ++ alone p comp ∷ []) q ≡ Some (alone p comp)) (sym place) (slice_get-seam old (alone p comp))),
      λ at. let lt : p < n = below p at in let is : p ≡ length old = place in omega arith,
    );
  }

  pub record ManyPlaced (comps : List (CompType ℕ)) (old new : List TypeDef) (places : List ℕ) : Type 0 where
    pub extends : Extends old new
    pub long : n ≤ length new
    pub placed : Placed comps new places

  pub many_placed : (comps : List (CompType ℕ)) (old new : List TypeDef) (places : List ℕ) → AreFoundOrAdded comps old new places → AllBelow n comps → n ≤ length old → ManyPlaced comps old new places
  many_placed comps old new places (NoMore types) below long = record {
    extends = λ i x e. e;
    long = long;
    placed = record { there = λ comp at. absurd (Contains-none comp at); back = λ p at. absurd (Contains-none p at) };
  }
  many_placed whole first last places (AndThen comp comps old middle new p ps one rest) below long =
      let a = one_placed comp old middle p one (below comp (Contains-head comp comps)) long in
      let b = many_placed comps middle new ps rest (λ c at. below c (Contains-tail comp c comps at)) a.long in
      let here : IsLoneTypeAt comp new p = stands_later middle new b.extends comp p a.stands in
      record {
        extends = λ i x e. b.extends i x (a.extends i x e);
        long = b.long;
        placed = record {
          there = λ c at. ⊎_elim
              (λ e. (p, Contains-head p ps, subst (λ d. IsLoneTypeAt d new p) e here))
              (λ later. let h = b.placed.there c later in (h.0, Contains-tail p h.0 ps h.1, h.2))
              (Contains-uncons comp c comps at);
          back = λ q at. ⊎_elim
              (λ e. (comp, Contains-head comp comps, subst (λ r. IsLoneTypeAt comp new r) e here))
              (λ later. let h = b.placed.back q later in (h.0, Contains-tail comp h.0 comps h.1, h.2))
              (Contains-uncons p q ps at);
        };
      }

module _ (m : Abstract) (places : ℕ → List ℕ) (n : ℕ) (below : (f : ℕ) → AllBelow n (handlers_by m (body_of m f))) where
  pub record AllPlaced (fs : List ℕ) (old new : List TypeDef) : Type 0 where
    pub extends : Extends old new
    pub placed : (f : ℕ) → Contains fs f → Placed (handlers_by m (body_of m f)) new (places f)

  pub all_placed : (fs : List ℕ) (old new : List TypeDef) → AddsHandlers m places fs old new → n ≤ length old → AllPlaced fs old new
  all_placed fs old new (NoFunction types) long = record { extends = λ i x e. e; placed = λ f at. absurd (Contains-none f at) }
  all_placed whole first last (AndThose f fs old middle new one rest) long =
      let a = many_placed n (handlers_by m (body_of m f)) old middle (places f) one (below f) long in
      let b = all_placed fs middle new rest a.long in
      record {
        extends = λ i x e. b.extends i x (a.extends i x e);
        placed = λ g at. ⊎_elim
            (λ e. subst (λ h. Placed (handlers_by m (body_of m h)) new (places h)) e (placed_later middle new b.extends (handlers_by m (body_of m f)) (places f) a.placed))
            (λ later. b.placed g later)
            (Contains-uncons f g fs at);
      }

  pub in_range : (count f : ℕ) → f < count → Contains (range_with_len 0 count) f
  in_range count f lt = (
    f,
    subst (λ k. f < k) (sym (length-range_with_len 0 count)) lt,
    (let e : get_or (range_with_len 0 count) f f ≡ 0 + f = get_or-range_with_len 0 count f f lt in e ∙ (let z : 0 + f ≡ f = omega arith in z)),
  )

  pub handlers_placed : (count : ℕ) (old new : List TypeDef) → AddsHandlers m places (range_with_len 0 count) old new → n ≤ length old → (f : ℕ) → f < count → Placed (handlers_by m (body_of m f)) new (places f)
  handlers_placed count old new adds long f lt = let a = all_placed (range_with_len 0 count) old new adds long in a.placed f (in_range count f lt)
