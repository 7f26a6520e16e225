-- What is parsed of one module twice is one module, the numbers of locals and what nothing asks for aside.
use Rattle.std.proofs.Common.{◌≡◌, ℕ, ◌<◌, ◌≤◌, ◌∷◌, ◌++◌, length, map, refl, sym, ap, ap₂, ◌∙◌, subst, arith, inl, inr, ◌⊎◌, ⊎_elim}
use Rattle.std.specs.Prelude.{Option, Some, None, IsSome, Contains, flat_map, option_map, slice_get}
use Rattle.std.specs.List.{range_with_len}
use Rattle.std.proofs.lemmas.Bool.{cases_lt}
use mathlib.Core.Path.{fun_ext}
use Rattle.walrus_base.specs.Types.{ValType, map_val, val_names}
use Rattle.walrus_base.specs.Operators.{Functions, Item, type_item, locals_of, names_of}
use Rattle.walrus_model.specs.Abstract.{Abstract, Body, FunctionKind, ImportedFunction, LocalFunction, Uninitialised, Function}
use Rattle.walrus_model.specs.Carried.{Carries, Carried}
use Rattle.walrus_model.specs.Config.{Config}
use Rattle.walrus_model.specs.Live.{IsLive}
use Rattle.walrus_model.specs.Refers.{named_by, IsUsed, used_locals, local_names, body_names, kind_names, function_names}
use Rattle.walrus_model.specs.Renaming.{Renaming, renamed, renamed_table, renamed_memory, renamed_tag, renamed_global, renamed_element, renamed_data, renamed_import}
use Rattle.walrus_model.specs.Same.{BothAnd, SameBody, SameKind, SameFunction}
use Rattle.walrus_theorem.specs.Chain.{IsBehind, ParsedAs, AddsHandlers}
use Rattle.walrus_base.proofs.Agree.{same_looks}
use Rattle.walrus_model.proofs.Alike.{table_one, memory_one, tag_one, global_one, element_one, data_one}
use Rattle.walrus_theorem.proofs.HandlersOnce.{places_once}
use Rattle.walrus_base.proofs.Lists.{map-itself, flat_map-follows}
use Rattle.walrus_model.proofs.OpsFollow.{ops_follow, ops_locals_follow, val_items}
use Rattle.walrus_theorem.proofs.Things.{made}
use Rattle.walrus_base.proofs.RangeBounds.{range_has}
use Rattle.walrus_model.proofs.OneList.{got_at}

-- every number stays but those of locals
abbrev pub straight : (ℕ → ℕ → ℕ) → Renaming
straight l = record { numbers = λ space i. i; imports = λ i. i; locals = l }

is_straight : (r : Renaming) → ((x : Item) → r.numbers x.0 x.1 ≡ x.1) → ((i : ℕ) → r.imports i ≡ i) → r ≡ straight r.locals
is_straight r h k = λ j. record {
  numbers = (fun_ext (λ space. fun_ext (λ i. h (space, i)))) j;
  imports = (fun_ext k) j;
  locals = r.locals;
}

module _ (c : Config) (m v : Abstract) (p : ParsedAs c m v) where
  abbrev pub moved : ℕ → ℕ → ℕ
  moved = p.renaming.locals

  pub carried : Carried (IsLive m) (IsBehind (length p.types)) (straight moved) m v
  carried = subst (λ r. Carried (IsLive m) (IsBehind (length p.types)) r m v) (is_straight p.renaming p.in_place p.imports_in_place) p.carried

-- ---- both modules

module _ (c : Config) (m v w : Abstract) (p : ParsedAs c m v) (q : ParsedAs c m w) where
  abbrev a : Renaming
  a = straight (moved c m v p)

  abbrev b : Renaming
  b = straight (moved c m w q)

  abbrev cv : Carried (IsLive m) (IsBehind (length p.types)) (straight (moved c m v p)) m v
  cv = carried c m v p

  abbrev cw : Carried (IsLive m) (IsBehind (length q.types)) (straight (moved c m w q)) m w
  cw = carried c m w q

  one_of : {X : Type 0} (K A B : ℕ → Type 0) (f g : X → X) (xs ys zs : ℕ → Option X) → Carries K A (λ i. i) (λ i x y. y ≡ f x) xs ys → Carries K B (λ i. i) (λ i x y. y ≡ g x) xs zs → ((x : X) → f x ≡ g x) → ((j : ℕ) → A j → ⊥) → ((j : ℕ) → B j → ⊥) → ys ≡ zs
  one_of K A B f g xs ys zs d e law na nb = same_looks ys zs
      (made K A B (λ i. i) (λ i. i) f g xs ys zs d e (λ i k. refl) (λ i x k h. law x) (λ j y x. absurd (na j x)))
      (made K B A (λ i. i) (λ i. i) g f xs zs ys e d (λ i k. refl) (λ i x k h. sym (law x)) (λ j y x. absurd (nb j x)))

  pub imports_same : v.imports ≡ w.imports
  imports_same = one_of _ _ _ (renamed_import a) (renamed_import b) m.imports v.imports w.imports cv.imports cw.imports (λ x. refl) (λ j h. h) (λ j h. h)

  pub tables_same : v.tables ≡ w.tables
  tables_same = one_of _ _ _ (renamed_table a) (renamed_table b) m.tables v.tables w.tables cv.tables cw.tables (λ x. table_one a b x (λ y at. refl) (λ y at. refl)) (λ j h. cc) (λ j h. cc)

  pub memories_same : v.memories ≡ w.memories
  memories_same = one_of _ _ _ (renamed_memory a) (renamed_memory b) m.memories v.memories w.memories cv.memories cw.memories (λ x. memory_one a b x (λ y at. refl)) (λ j h. cc) (λ j h. cc)

  pub tags_same : v.tags ≡ w.tags
  tags_same = one_of _ _ _ (renamed_tag a) (renamed_tag b) m.tags v.tags w.tags cv.tags cw.tags (λ x. tag_one a b x (λ y at. refl) (λ y at. refl)) (λ j h. cc) (λ j h. cc)

  pub globals_same : v.globals ≡ w.globals
  globals_same = one_of _ _ _ (renamed_global a) (renamed_global b) m.globals v.globals w.globals cv.globals cw.globals (λ x. global_one a b x (λ y at. refl) (λ y at. refl)) (λ j h. cc) (λ j h. cc)

  pub elements_same : v.elements ≡ w.elements
  elements_same = one_of _ _ _ (renamed_element a) (renamed_element b) m.elements v.elements w.elements cv.elements cw.elements (λ x. element_one a b x (λ y at. refl)) (λ j h. cc) (λ j h. cc)

  pub data_same : v.data_segments ≡ w.data_segments
  data_same = one_of _ _ _ (renamed_data a) (renamed_data b) m.data_segments v.data_segments w.data_segments cv.data_segments cw.data_segments (λ x. data_one a b x (λ y at. refl)) (λ j h. cc) (λ j h. cc)

  pub exports_same : v.exports ≡ w.exports
  exports_same = cv.exports ∙ sym cw.exports

  pub start_same : v.start ≡ w.start
  start_same = cv.start ∙ sym cw.start

  -- types and the types of handlers

  types_read : p.types ≡ q.types
  types_read = got_at p.types q.types (λ k. sym (p.types_read k) ∙ q.types_read k)

  count_one : p.functions ≡ q.functions
  count_one = by_either (cases_lt p.functions q.functions) (cases_lt q.functions p.functions)
    where
      by_either : (p.functions < q.functions) ⊎ (q.functions ≤ p.functions) → (q.functions < p.functions) ⊎ (p.functions ≤ q.functions) → p.functions ≡ q.functions
      by_either (inl h) k = let x : p.functions < p.functions = (p.functions_read p.functions).0 ((q.functions_read p.functions).1 h) in absurd (omega (arith, x))
      by_either (inr h) (inl k) = let x : q.functions < q.functions = (q.functions_read q.functions).0 ((p.functions_read q.functions).1 k) in absurd (omega (arith, x))
      by_either (inr h) (inr k) = omega (arith, h, k)

  other_handlers : AddsHandlers m w.handler_types (range_with_len 0 p.functions) p.types q.all_types
  other_handlers = subst (λ n. AddsHandlers m w.handler_types (range_with_len 0 n) p.types q.all_types) (sym count_one) (subst (λ ts. AddsHandlers m w.handler_types (range_with_len 0 q.functions) ts q.all_types) (sym types_read) q.handlers)

  abbrev placed : (p.all_types ≡ q.all_types) × ((f : ℕ) → Contains (range_with_len 0 p.functions) f → v.handler_types f ≡ w.handler_types f)
  placed = places_once m v.handler_types w.handler_types (range_with_len 0 p.functions) p.types p.all_types q.all_types p.handlers other_handlers

  pub types_same : v.types ≡ w.types
  types_same = fun_ext (λ i. p.types_made i ∙ ap (λ ts. slice_get ts i) placed.0 ∙ sym (q.types_made i))

  handlers_at : (f : ℕ) → (f < p.functions) ⊎ (p.functions ≤ f) → v.handler_types f ≡ w.handler_types f
  handlers_at f (inl h) = placed.1 f (range_has 0 p.functions f (omega arith) (omega (arith, h)))
  handlers_at f (inr h) = p.no_handlers f h ∙ sym (q.no_handlers f (subst (λ n. n ≤ f) count_one h))

  pub handlers_same : v.handler_types ≡ w.handler_types
  handlers_same = fun_ext (λ f. handlers_at f (cases_lt f p.functions))

  pub table_segments_same : v.table_segments ≡ w.table_segments
  table_segments_same = fun_ext (λ t. fun_ext (λ e. p.table_segments t e ∙ sym (q.table_segments t e)))

  pub memory_segments_same : v.memory_segments ≡ w.memory_segments
  memory_segments_same = fun_ext (λ t. fun_ext (λ e. p.memory_segments t e ∙ sym (q.memory_segments t e)))

pub not_there : {X A : Type 0} (o : Option X) → o ≡ None → IsSome o → A
not_there None e h = absurd (cc)
not_there (Some x) e h = absurd (cc)

-- ---- bodies name what the bodies that were read do

module _ (l : ℕ → ℕ → ℕ) where
  abbrev r : Renaming
  r = straight l

  local_same : (o : Option (ValType ℕ)) → named_by (λ v. map type_item (val_names v)) (option_map (map_val (λ i. i)) o) ≡ map (λ (x : Item). x) (named_by (λ v. map type_item (val_names v)) o)
  local_same None = refl
  local_same (Some v) = val_items r v

  body_same : (i : ℕ) (a b : Body) → SameBody r i a b → body_names b ≡ body_names a
  body_same i a b s = ap₂ ◌++◌ ops locals
    where
      ops : names_of b.operators ≡ names_of a.operators
      ops = ap names_of s.operators ∙ ops_follow r (l i) a.operators ∙ map-itself (renamed r) (names_of a.operators) (λ x. refl)

      used : used_locals b ≡ map (l i) (used_locals a)
      used = ap locals_of s.operators ∙ ops_locals_follow r (l i) a.operators

      at : (x : ℕ) → IsUsed a x → local_names b (l i x) ≡ map (λ (y : Item). y) (local_names a x)
      at x u = ap (named_by (λ v. map type_item (val_names v))) (s.types x u) ∙ local_same (a.local_type x)

      locals : flat_map (local_names b) (used_locals b) ≡ flat_map (local_names a) (used_locals a)
      locals = ap (flat_map (local_names b)) used ∙ flat_map-follows (local_names b) (local_names a) (l i) (λ (y : Item). y) (used_locals a) at ∙ map-itself (λ (y : Item). y) (flat_map (local_names a) (used_locals a)) (λ x. refl)

  kind_same : (i : ℕ) (a b : FunctionKind) → SameKind r i a b → kind_names b ≡ kind_names a
  kind_same i (ImportedFunction p) (ImportedFunction q) s = refl
  kind_same i (LocalFunction a) (LocalFunction b) s = body_same i a b s
  kind_same i (ImportedFunction p) (LocalFunction b) s = absurd s
  kind_same i (ImportedFunction p) Uninitialised s = absurd s
  kind_same i (LocalFunction a) (ImportedFunction q) s = absurd s
  kind_same i (LocalFunction a) Uninitialised s = absurd s
  kind_same i Uninitialised b s = absurd s

  function_same : (i : ℕ) (f g : Function) → SameFunction r i f g → function_names g ≡ function_names f
  function_same i f g s = ap₂ (λ t xs. type_item t ∷ xs) s.ty (kind_same i f.kind g.kind s.kind)

  pub named_same : (i : ℕ) (o q : Option Function) → (IsSome o → BothAnd (SameFunction r i) o q) → (IsSome q → IsSome o) → named_by function_names q ≡ named_by function_names o
  named_same i None None there back = refl
  named_same i None (Some g) there back = not_there {X = Function} None refl (back refl)
  named_same i (Some f) None there back = absurd (there refl)
  named_same i (Some f) (Some g) there back = function_same i f g (there refl)

module _ (c : Config) (m v : Abstract) (p : ParsedAs c m v) where
  -- a function that is parsed was read
  pub was_read : (i : ℕ) → IsSome (v.functions i) → IsSome (m.functions i)
  was_read i h = ⊎_elim (λ (k : (j : ℕ) × IsLive m (Functions, j) × (j ≡ i)). subst (λ j. IsSome (m.functions j)) k.2 k.1) (λ away. absurd (cc)) ((carried c m v p).functions.onto i h)

  pub functions_name : (i : ℕ) → named_by function_names (v.functions i) ≡ named_by function_names (m.functions i)
  functions_name i = named_same (moved c m v p) i (m.functions i) (v.functions i) ((carried c m v p).functions.same i) (was_read i)
