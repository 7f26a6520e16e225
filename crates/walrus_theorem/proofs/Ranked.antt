-- The declarations of a body that is written stand: one for each type, none for no local, by the ranks of their types.
use Rattle.std.proofs.Common.{◌≡◌, ℕ, zero, suc, ◌<◌, ◌≤◌, ◌⊎◌, inl, inr, Bool, List, [], ◌∷◌, ◌++◌, map, replicate, refl, sym, ap, ap₂, subst, ◌∙◌, arith}
use Rattle.std.specs.Prelude.{◌≢◌, Option, Some, flat_map}
use Rattle.std.specs.List.{AllByRecursion}
use Rattle.std.proofs.lemmas.List.Elements.{All-from_recursion, recursion_from_All}
use Rattle.wasm_forms.specs.Grammar.{Is, IsRow, U32, ◌then◌}
use Rattle.wasm_forms.specs.Reading.{◌>>=◌}
use Rattle.wasm_forms.specs.Types.{ValueStands, value_type}
use Rattle.wasm_forms.specs.declared.types.RawVal.{RawVal}
use Rattle.wasm_operators.proofs.OneRead.{value_type_read}
use Rattle.wasm_operators.proofs.OneStands.{value_made}
use Rattle.walrus_base.specs.Arena.{item_at}
use Rattle.walrus_base.specs.Types.{HeapType, OfHeap, Concrete, Exact, RefType, ValType, I32, I64, F32, F64, V128, Ref}
use Rattle.walrus_base.specs.Operators.{Types, locals_of}
use Rattle.walrus_code.specs.FromRaw.{val_of}
use Rattle.walrus_code.specs.Names.{Lookup, named_heap, named_val}
use Rattle.walrus_bodies.specs.Body.{declarations}
use Rattle.walrus_model.specs.DeclaredLocals.{rank, GoesBefore, TypeGoesBefore, AreGrouped}
use Rattle.walrus_model.specs.EmittedBody.{Source, BodyWritten, spelled_as, looked_up}
use Rattle.walrus_model.proofs.LawOrder.{Sorted, sorted_of}
use Rattle.walrus_theorem.specs.Spelling.{BodyStands}
use Rattle.walrus_model.proofs.SortedPairs.{pairs_of}
use Rattle.walrus_base.proofs.Lookups.{heads}
use Rattle.walrus_base.proofs.Standing.{some_inj}
use Rattle.wasm_forms.proofs.Bind.{bind_some as through}

-- ---- ranks rise along the locals, their types and the groups

abbrev Low : ValType ℕ → ValType ℕ → Type 0
Low v w = rank v ≤ rank w

module _ (slots : List (Option (ValType ℕ))) (used parameters : List ℕ) where
  ways : (x y : ℕ) (v w : ValType ℕ) → (TypeGoesBefore slots used parameters v w ⊎ ((v ≡ w) × (x < y))) → Low v w
  ways x y v w (inl (inl h)) = omega (arith, h)
  ways x y v w (inl (inr h)) = omega (arith, h.0)
  ways x y v w (inr h) = let same : rank v ≡ rank w = ap rank h.0 in omega (arith, same)

  low_by : (x y : ℕ) (v w : ValType ℕ) → item_at slots x ≡ Some v → item_at slots y ≡ Some w → GoesBefore slots used parameters x y → Low v w
  low_by x y v w here there g =
      let first : g.0 ≡ v = some_inj g.0 v (sym g.1.1.0 ∙ here) in
      let second : g.1.0 ≡ w = some_inj g.1.0 w (sym g.1.1.1 ∙ there) in
      subst (λ (u : ValType ℕ). Low v u) second (subst (λ (u : ValType ℕ). Low u g.1.0) first (ways x y g.0 g.1.0 g.1.1.2))

  low_all : (x : ℕ) (v : ValType ℕ) (order : List ℕ) (types : List (ValType ℕ)) → item_at slots x ≡ Some v → map (item_at slots) order ≡ map Some types → AllByRecursion (GoesBefore slots used parameters x) order → AllByRecursion (Low v) types
  low_all x v [] [] here are h = tt
  low_all x v [] (t ∷ types) here are h = absurd cc
  low_all x v (y ∷ order) [] here are h = absurd cc
  low_all x v (y ∷ order) (t ∷ types) here are h =
      let p = heads (item_at slots y) (Some t) (map (item_at slots) order) (map Some types) are in
      (low_by x y v t here p.0 h.0, low_all x v order types here p.1 h.1)

  types_rise : (order : List ℕ) (types : List (ValType ℕ)) → map (item_at slots) order ≡ map Some types → Sorted (GoesBefore slots used parameters) order → Sorted Low types
  types_rise [] [] are h = tt
  types_rise [] (t ∷ types) are h = absurd cc
  types_rise (x ∷ order) [] are h = absurd cc
  types_rise (x ∷ order) (t ∷ types) are h =
      let p = heads (item_at slots x) (Some t) (map (item_at slots) order) (map Some types) are in
      (low_all x t order types p.0 p.1 h.0, types_rise order types p.1 h.1)

abbrev Group : Type 0
Group = ℕ × ValType ℕ

abbrev Filled : Group → Type 0
Filled g = 0 < g.0

abbrev spread : List Group → List (ValType ℕ)
spread gs = flat_map (λ g. replicate g.0 g.1) gs

later : (P : ValType ℕ → Type 0) (vs ws : List (ValType ℕ)) → AllByRecursion P (vs ++ ws) → AllByRecursion P ws
later P [] ws h = h
later P (v ∷ vs) ws h = later P vs ws h.1

behind : (vs ws : List (ValType ℕ)) → Sorted Low (vs ++ ws) → Sorted Low ws
behind [] ws h = h
behind (v ∷ vs) ws h = behind vs ws h.1

first_of : (P : ValType ℕ → Type 0) (v : ValType ℕ) (n : ℕ) (ws : List (ValType ℕ)) → 0 < n → AllByRecursion P (replicate n v ++ ws) → P v
first_of P v zero ws some h = absurd (omega (arith, some))
first_of P v (suc n) ws some h = h.0

of_groups : (P : ValType ℕ → Type 0) (gs : List Group) → AllByRecursion Filled gs → AllByRecursion P (spread gs) → AllByRecursion (λ (g : Group). P g.1) gs
of_groups P [] f h = tt
of_groups P (g ∷ gs) f h = (first_of P g.1 g.0 (spread gs) f.0 h, of_groups P gs f.1 (later P (replicate g.0 g.1) (spread gs) h))

abbrev LowGroups : Group → Group → Type 0
LowGroups g h = Low g.1 h.1

one_group : (v : ValType ℕ) (n : ℕ) (gs : List Group) → 0 < n → AllByRecursion Filled gs → Sorted Low (replicate n v ++ spread gs) → AllByRecursion (λ (h : Group). Low v h.1) gs
one_group v zero gs some f h = absurd (omega (arith, some))
one_group v (suc n) gs some f h = of_groups (Low v) gs f (later (Low v) (replicate n v) (spread gs) h.0)

groups_rise : (gs : List Group) → AllByRecursion Filled gs → Sorted Low (spread gs) → Sorted LowGroups gs
groups_rise [] f h = tt
groups_rise (g ∷ gs) f h = (one_group g.1 g.0 gs f.0 f.1 h, groups_rise gs f.1 (behind (replicate g.0 g.1) (spread gs) h))

-- ---- a type looked up

module _ (names : Lookup) (apart : (u v j : ℕ) → names Types u ≡ Some j → names Types v ≡ Some j → u ≡ v) where
  concrete_one : (t u : ℕ) (c : HeapType ℕ) → (names Types t >>= λ found. Some (Concrete found)) ≡ Some c → (names Types u >>= λ found. Some (Concrete found)) ≡ Some c → t ≡ u
  concrete_one t u c e f =
      let p = through (names Types t) (λ found. Some (Concrete found)) c e in
      let q = through (names Types u) (λ found. Some (Concrete found)) c f in
      let same : Concrete p.0 ≡ Concrete q.0 = some_inj (Concrete p.0) c p.2 ∙ sym (some_inj (Concrete q.0) c q.2) in
      let number : p.0 ≡ q.0 = cc in
      apart t u p.0 p.1 (q.1 ∙ ap (λ (n : ℕ). Some n) (sym number))

  exact_one : (t u : ℕ) (c : HeapType ℕ) → (names Types t >>= λ found. Some (Exact found)) ≡ Some c → (names Types u >>= λ found. Some (Exact found)) ≡ Some c → t ≡ u
  exact_one t u c e f =
      let p = through (names Types t) (λ found. Some (Exact found)) c e in
      let q = through (names Types u) (λ found. Some (Exact found)) c f in
      let same : Exact p.0 ≡ Exact q.0 = some_inj (Exact p.0) c p.2 ∙ sym (some_inj (Exact q.0) c q.2) in
      let number : p.0 ≡ q.0 = cc in
      apart t u p.0 p.1 (q.1 ∙ ap (λ (n : ℕ). Some n) (sym number))

  heap_one : (a b c : HeapType ℕ) → named_heap names a ≡ Some c → named_heap names b ≡ Some c → a ≡ b
  heap_one (OfHeap x) (OfHeap y) c e f = some_inj (OfHeap x) (OfHeap y) (e ∙ sym f)
  heap_one (OfHeap x) (Concrete u) c e f = let q = through (names Types u) (λ found. Some (Concrete found)) c f in let no : Some (OfHeap x) ≡ Some (Concrete q.0) = e ∙ sym q.2 in absurd cc
  heap_one (OfHeap x) (Exact u) c e f = let q = through (names Types u) (λ found. Some (Exact found)) c f in let no : Some (OfHeap x) ≡ Some (Exact q.0) = e ∙ sym q.2 in absurd cc
  heap_one (Concrete t) (OfHeap y) c e f = let q = through (names Types t) (λ found. Some (Concrete found)) c e in let no : Some (OfHeap y) ≡ Some (Concrete q.0) = f ∙ sym q.2 in absurd cc
  heap_one (Concrete t) (Concrete u) c e f = ap (λ (n : ℕ). Concrete n) (concrete_one t u c e f)
  heap_one (Concrete t) (Exact u) c e f =
      let p = through (names Types t) (λ found. Some (Concrete found)) c e in
      let q = through (names Types u) (λ found. Some (Exact found)) c f in
      let no : Some (Concrete p.0) ≡ Some (Exact q.0) = p.2 ∙ sym q.2 in absurd cc
  heap_one (Exact t) (OfHeap y) c e f = let q = through (names Types t) (λ found. Some (Exact found)) c e in let no : Some (OfHeap y) ≡ Some (Exact q.0) = f ∙ sym q.2 in absurd cc
  heap_one (Exact t) (Concrete u) c e f =
      let p = through (names Types t) (λ found. Some (Exact found)) c e in
      let q = through (names Types u) (λ found. Some (Concrete found)) c f in
      let no : Some (Exact p.0) ≡ Some (Concrete q.0) = p.2 ∙ sym q.2 in absurd cc
  heap_one (Exact t) (Exact u) c e f = ap (λ (n : ℕ). Exact n) (exact_one t u c e f)

  rank_kept : (v w : ValType ℕ) → named_val names v ≡ Some w → rank v ≡ rank w
  rank_kept (Ref r) w e = let q = through (named_heap names r.heap) (λ heap. Some (Ref (record { nullable = r.nullable; heap = heap }))) w e in ap rank (some_inj (Ref (record { nullable = r.nullable; heap = q.0 })) w q.2)
  rank_kept I32 w e = ap rank (some_inj I32 w e)
  rank_kept I64 w e = ap rank (some_inj I64 w e)
  rank_kept F32 w e = ap rank (some_inj F32 w e)
  rank_kept F64 w e = ap rank (some_inj F64 w e)
  rank_kept V128 w e = ap rank (some_inj V128 w e)

  val_by : (v u w : ValType ℕ) → rank v ≡ rank u → named_val names v ≡ Some w → named_val names u ≡ Some w → v ≡ u
  val_by (Ref r) (Ref s) w p e f =
      let q = through (named_heap names r.heap) (λ heap. Some (Ref (record { nullable = r.nullable; heap = heap }))) w e in
      let t = through (named_heap names s.heap) (λ heap. Some (Ref (record { nullable = s.nullable; heap = heap }))) w f in
      let left : RefType ℕ = record { nullable = r.nullable; heap = q.0 } in
      let right : RefType ℕ = record { nullable = s.nullable; heap = t.0 } in
      let same : Ref left ≡ Ref right = some_inj (Ref left) w q.2 ∙ sym (some_inj (Ref right) w t.2) in
      let inner : left ≡ right = cc in
      ap₂ (λ (n : Bool) (k : HeapType ℕ). Ref (record { nullable = n; heap = k })) (ap (λ (x : RefType ℕ). x.nullable) inner) (heap_one r.heap s.heap q.0 q.1 (t.1 ∙ sym (ap (λ (x : RefType ℕ). Some x.heap) inner)))
  val_by (Ref r) I32 w p e f = absurd (cc)
  val_by (Ref r) I64 w p e f = absurd (cc)
  val_by (Ref r) F32 w p e f = absurd (cc)
  val_by (Ref r) F64 w p e f = absurd (cc)
  val_by (Ref r) V128 w p e f = absurd (cc)
  val_by I32 (Ref s) w p e f = absurd (cc)
  val_by I32 I32 w p e f = refl
  val_by I32 I64 w p e f = absurd (cc)
  val_by I32 F32 w p e f = absurd (cc)
  val_by I32 F64 w p e f = absurd (cc)
  val_by I32 V128 w p e f = absurd (cc)
  val_by I64 (Ref s) w p e f = absurd (cc)
  val_by I64 I32 w p e f = absurd (cc)
  val_by I64 I64 w p e f = refl
  val_by I64 F32 w p e f = absurd (cc)
  val_by I64 F64 w p e f = absurd (cc)
  val_by I64 V128 w p e f = absurd (cc)
  val_by F32 (Ref s) w p e f = absurd (cc)
  val_by F32 I32 w p e f = absurd (cc)
  val_by F32 I64 w p e f = absurd (cc)
  val_by F32 F32 w p e f = refl
  val_by F32 F64 w p e f = absurd (cc)
  val_by F32 V128 w p e f = absurd (cc)
  val_by F64 (Ref s) w p e f = absurd (cc)
  val_by F64 I32 w p e f = absurd (cc)
  val_by F64 I64 w p e f = absurd (cc)
  val_by F64 F32 w p e f = absurd (cc)
  val_by F64 F64 w p e f = refl
  val_by F64 V128 w p e f = absurd (cc)
  val_by V128 (Ref s) w p e f = absurd (cc)
  val_by V128 I32 w p e f = absurd (cc)
  val_by V128 I64 w p e f = absurd (cc)
  val_by V128 F32 w p e f = absurd (cc)
  val_by V128 F64 w p e f = absurd (cc)
  val_by V128 V128 w p e f = refl

  val_one : (v u w : ValType ℕ) → named_val names v ≡ Some w → named_val names u ≡ Some w → v ≡ u
  val_one v u w e f = val_by v u w (rank_kept v w e ∙ sym (rank_kept u w f)) e f

  -- ---- declarations, of groups that are looked up

  abbrev Declaration : Type 0
  Declaration = ℕ × RawVal

  abbrev IsOf : Declaration → Group → Type 0
  IsOf d g = spelled_as d ≡ looked_up names g

  count_same : (d : Declaration) (g : Group) → IsOf d g → d.0 ≡ g.0
  count_same d g e = ap (λ z. z.0) e

  type_same : (d : Declaration) (g : Group) → IsOf d g → named_val names g.1 ≡ Some (val_of d.1)
  type_same d g e = sym (ap (λ z. z.1) e)

  each_of : (P : Declaration → Type 0) (Q : Group → Type 0) → ((d : Declaration) (g : Group) → IsOf d g → Q g → P d) → (ds : List Declaration) (gs : List Group) → map spelled_as ds ≡ map (looked_up names) gs → AllByRecursion Q gs → AllByRecursion P ds
  each_of P Q law [] gs e h = tt
  each_of P Q law (d ∷ ds) [] e h = absurd cc
  each_of P Q law (d ∷ ds) (g ∷ gs) e h =
      let p = heads (spelled_as d) (looked_up names g) (map spelled_as ds) (map (looked_up names) gs) e in
      (law d g p.0 h.0, each_of P Q law ds gs p.1 h.1)

  pairs_kept : (R : Declaration → Declaration → Type 0) (S : Group → Group → Type 0) → ((d b : Declaration) (g h : Group) → IsOf d g → IsOf b h → S g h → R d b)
      → (ds : List Declaration) (gs : List Group) → map spelled_as ds ≡ map (looked_up names) gs → Sorted S gs → Sorted R ds
  pairs_kept R S law [] gs e h = tt
  pairs_kept R S law (d ∷ ds) [] e h = absurd cc
  pairs_kept R S law (d ∷ ds) (g ∷ gs) e h =
      let p = heads (spelled_as d) (looked_up names g) (map spelled_as ds) (map (looked_up names) gs) e in
      (each_of (R d) (S g) (λ b k same s. law d b g k p.0 same s) ds gs p.1 h.0, pairs_kept R S law ds gs p.1 h.1)

  abbrev Apart : Declaration → Declaration → Type 0
  Apart d b = d.1 ≢ b.1

  abbrev LowDeclarations : Declaration → Declaration → Type 0
  LowDeclarations d b = rank (val_of d.1) ≤ rank (val_of b.1)

  apart_by : (d b : Declaration) (g h : Group) → IsOf d g → IsOf b h → g.1 ≢ h.1 → Apart d b
  apart_by d b g h p q differ same = differ (val_one g.1 h.1 (val_of d.1) (type_same d g p) (type_same b h q ∙ ap (λ (v : RawVal). Some (val_of v)) (sym same)))

  low_by_groups : (d b : Declaration) (g h : Group) → IsOf d g → IsOf b h → LowGroups g h → LowDeclarations d b
  low_by_groups d b g h p q low =
      let first : rank g.1 ≡ rank (val_of d.1) = rank_kept g.1 (val_of d.1) (type_same d g p) in
      let second : rank h.1 ≡ rank (val_of b.1) = rank_kept h.1 (val_of b.1) (type_same b h q) in
      omega (arith, first, second, low)

  filled_by : (d : Declaration) (g : Group) → IsOf d g → Filled g → 0 < d.0
  filled_by d g p some = let count : d.0 ≡ g.0 = count_same d g p in omega (arith, count, some)

-- ---- what declarations read as stands

row_stands : (bytes : List ℕ) (ds : List (ℕ × RawVal)) → IsRow (Is (U32 then value_type)) bytes ds → AllByRecursion (λ (d : ℕ × RawVal). ValueStands d.1) ds
row_stands bytes [] h = tt
row_stands bytes (d ∷ ds) h =
    let one = h.1.1.1 in
    let read = value_type_read one.1.0 d.1 one.1.1.2 in
    (value_made d.1 read.0 read.1, row_stands h.1.0 ds h.1.1.2)

declarations_stand : (bytes : List ℕ) (ds : List (ℕ × RawVal)) → Is declarations bytes ds → AllByRecursion (λ (d : ℕ × RawVal). ValueStands d.1) ds
unfolding declarations
declarations_stand bytes ds i = row_stands i.1.1.0 ds i.1.1.1.2.0

-- ---- a body

spread_types : (slots : List (Option (ValType ℕ))) (order : List ℕ) (gs : List Group) → AreGrouped slots order gs → map (item_at slots) order ≡ map Some (spread gs)
spread_types slots order gs g = sym g.spread

-- the text of a body that is written stands
pub body_stands : (s : Source) (bytes places : List ℕ) (numbers : ℕ → Option ℕ) (ids : List ℕ) (used : List Bool) (w : BodyWritten s bytes places numbers ids used) → ((u v j : ℕ) → s.names Types u ≡ Some j → s.names Types v ≡ Some j → u ≡ v)
    → BodyStands (record { declarations = w.declarations; operators = w.texts })
body_stands s bytes places numbers ids used w apart =
    let filled = recursion_from_All Filled w.groups w.grouped.filled in
    let sorted = sorted_of (GoesBefore s.slots (locals_of s.ops) s.parameters) w.order w.declared.sorted in
    let types = types_rise s.slots (locals_of s.ops) s.parameters w.order (spread w.groups) (spread_types s.slots w.order w.groups w.grouped) sorted in
    record {
      apart = pairs_of (Apart s.names apart) w.declarations (pairs_kept s.names apart (Apart s.names apart) (λ (g : Group) (h : Group). g.1 ≢ h.1) (apart_by s.names apart) w.declarations w.groups w.typed (sorted_of (λ (g : Group) (h : Group). g.1 ≢ h.1) w.groups w.grouped.apart));
      filled = All-from_recursion (λ (d : ℕ × RawVal). 0 < d.0) w.declarations (each_of s.names apart (λ (d : ℕ × RawVal). 0 < d.0) Filled (filled_by s.names apart) w.declarations w.groups w.typed filled);
      ranked = pairs_of (LowDeclarations s.names apart) w.declarations (pairs_kept s.names apart (LowDeclarations s.names apart) LowGroups (low_by_groups s.names apart) w.declarations w.groups w.typed (groups_rise w.groups filled types));
      types = All-from_recursion (λ (d : ℕ × RawVal). ValueStands d.1) w.declarations (declarations_stand _ w.declarations w.declares);
      operators = w.stand;
    }
