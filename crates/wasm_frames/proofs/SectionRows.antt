-- Each list of a module whose sections stand in order is what one section lists: a row of entries in fewer than 2 ^ 32 bytes.
use Rattle.std.proofs.Common.{◌≡◌, ℕ, zero, suc, ◌+◌, ◌<◌, ◌^◌, List, [], ◌∷◌, ◌++◌, length, get_or, refl, sym, ap, subst, ◌∙◌, arith, inl, inr, ◌⊎◌, length-append}
use Rattle.std.specs.Prelude.{Contains, AllPairs, Some, slice_get}
use Rattle.std.proofs.lemmas.List.{append-nil, append_assoc, get_or-append-add}
use Rattle.std.proofs.lemmas.List.Elements.{Contains-append_left, Contains-push}
use Rattle.wasm_forms.specs.Grammar.{Form, Is, IsRow, Vector}
use Rattle.wasm_forms.proofs.Bind.{some_same}
use Rattle.wasm_entries.specs.declared.record.RawLimits.{RawLimits}
use Rattle.wasm_entries.specs.Record.{Group, Import, Table, Global, Element, Segment}
use Rattle.wasm_entries.specs.TypeForms.{group_form, memory_type, tag_type}
use Rattle.wasm_entries.specs.Forms.{import_form, table_form, global_form, element_form, data_form}
use Rattle.wasm_frames.specs.Record.{Body, Module, no_sections}
use Rattle.wasm_frames.specs.Order.{StandsBefore, InOrder, standard_order}
use Rattle.wasm_frames.specs.Frames.{Section, CustomSection, Types, Imports, Tables, Memories, Globals, Elements, Code, DataSegments, Tags, id_of, AreBodies, IsSection, AreSections, with_section, gathered_onto, Frames}

-- ---- no section stands twice

-- the place of each id in the order, the ids being 1 to 13
ranks : List ℕ
ranks = 13 ∷ 0 ∷ 1 ∷ 2 ∷ 3 ∷ 4 ∷ 6 ∷ 7 ∷ 8 ∷ 9 ∷ 11 ∷ 12 ∷ 10 ∷ 5 ∷ []

rank_is : (i a : ℕ) → slice_get standard_order i ≡ Some a → slice_get ranks a ≡ Some i
unfolding ranks
rank_is zero a e = let f : 1 ≡ a = cc in subst (λ (n : ℕ). slice_get ranks n ≡ Some 0) f refl
rank_is (suc zero) a e = let f : 2 ≡ a = cc in subst (λ (n : ℕ). slice_get ranks n ≡ Some 1) f refl
rank_is (suc (suc zero)) a e = let f : 3 ≡ a = cc in subst (λ (n : ℕ). slice_get ranks n ≡ Some 2) f refl
rank_is (suc (suc (suc zero))) a e = let f : 4 ≡ a = cc in subst (λ (n : ℕ). slice_get ranks n ≡ Some 3) f refl
rank_is (suc (suc (suc (suc zero)))) a e = let f : 5 ≡ a = cc in subst (λ (n : ℕ). slice_get ranks n ≡ Some 4) f refl
rank_is (suc (suc (suc (suc (suc zero))))) a e = let f : 13 ≡ a = cc in subst (λ (n : ℕ). slice_get ranks n ≡ Some 5) f refl
rank_is (suc (suc (suc (suc (suc (suc zero)))))) a e = let f : 6 ≡ a = cc in subst (λ (n : ℕ). slice_get ranks n ≡ Some 6) f refl
rank_is (suc (suc (suc (suc (suc (suc (suc zero))))))) a e = let f : 7 ≡ a = cc in subst (λ (n : ℕ). slice_get ranks n ≡ Some 7) f refl
rank_is (suc (suc (suc (suc (suc (suc (suc (suc zero)))))))) a e = let f : 8 ≡ a = cc in subst (λ (n : ℕ). slice_get ranks n ≡ Some 8) f refl
rank_is (suc (suc (suc (suc (suc (suc (suc (suc (suc zero))))))))) a e = let f : 9 ≡ a = cc in subst (λ (n : ℕ). slice_get ranks n ≡ Some 9) f refl
rank_is (suc (suc (suc (suc (suc (suc (suc (suc (suc (suc zero)))))))))) a e = let f : 12 ≡ a = cc in subst (λ (n : ℕ). slice_get ranks n ≡ Some 10) f refl
rank_is (suc (suc (suc (suc (suc (suc (suc (suc (suc (suc (suc zero))))))))))) a e = let f : 10 ≡ a = cc in subst (λ (n : ℕ). slice_get ranks n ≡ Some 11) f refl
rank_is (suc (suc (suc (suc (suc (suc (suc (suc (suc (suc (suc (suc zero)))))))))))) a e = let f : 11 ≡ a = cc in subst (λ (n : ℕ). slice_get ranks n ≡ Some 12) f refl
rank_is (suc (suc (suc (suc (suc (suc (suc (suc (suc (suc (suc (suc (suc i))))))))))))) a e = absurd cc

not_itself : (a : ℕ) → StandsBefore a a → ⊥
not_itself a h =
    let same : h.place_of_a ≡ h.place_of_b = some_same _ _ (sym (rank_is h.place_of_a a h.a_stands) ∙ rank_is h.place_of_b a h.b_stands) in
    omega (arith, same, h.earlier)

-- what a section adds to the order
abbrev pub ids_in : Section → List ℕ
ids_in (CustomSection c) = []
ids_in s = id_of s ∷ []

one_ordered : (m : Module) (s : Section) → (with_section m s).order ≡ m.order ++ ids_in s
one_ordered m (CustomSection c) = sym (append-nil m.order)
one_ordered m s = refl

abbrev pub all_ids : List Section → List ℕ
all_ids [] = []
all_ids (s ∷ ss) = ids_in s ++ all_ids ss

pub all_ordered : (m : Module) (ss : List Section) → (gathered_onto m ss).order ≡ m.order ++ all_ids ss
all_ordered m [] = sym (append-nil m.order)
all_ordered m (s ∷ ss) = all_ordered (with_section m s) ss ∙ ap (λ l. l ++ all_ids ss) (one_ordered m s) ∙ append_assoc m.order (ids_in s) (all_ids ss)

get_left : (xs ys : List ℕ) (k d : ℕ) → k < length xs → get_or (xs ++ ys) k d ≡ get_or xs k d
get_left [] ys k d lt = absurd (omega arith)
get_left (x ∷ xs) ys zero d lt = refl
get_left (x ∷ xs) ys (suc k) d lt = get_left xs ys k d (omega arith)

twice : (xs more : List ℕ) (a : ℕ) → Contains xs a → AllPairs StandsBefore (xs ++ (a ∷ more)) → ⊥
twice xs more a c h =
    let stands : StandsBefore (get_or (xs ++ (a ∷ more)) c.0 a) (get_or (xs ++ (a ∷ more)) (length xs + 0) a) = h c.0 (length xs + 0) a (omega (arith, c.1)) (omega (arith, length-append xs (a ∷ more))) in
    let first : get_or (xs ++ (a ∷ more)) c.0 a ≡ a = get_left xs (a ∷ more) c.0 a c.1 ∙ c.2 in
    let second : get_or (xs ++ (a ∷ more)) (length xs + 0) a ≡ a = get_or-append-add xs (a ∷ more) 0 a in
    not_itself a (subst (λ (x : ℕ). StandsBefore a x) second (subst (λ (x : ℕ). StandsBefore x (get_or (xs ++ (a ∷ more)) (length xs + 0) a)) first stands))

no_second : (m : Module) (s : Section) (ss : List Section) (id : ℕ) → ids_in s ≡ id ∷ [] → Contains m.order id → InOrder (gathered_onto m (s ∷ ss)).order → ⊥
no_second m s ss id is c h =
    twice m.order (all_ids ss) id c (subst (λ (l : List ℕ). InOrder l) (all_ordered m (s ∷ ss) ∙ ap (λ (l : List ℕ). m.order ++ (l ++ all_ids ss)) is) h)

-- ---- one list, whose entries stand in the section of one id: it has what P says of each such section

module _ {X : Type 0} (list : Module → List X) (id : ℕ) (entries : Section → List X) (P : List X → Type 0)
    (added : (m : Module) (s : Section) → list (with_section m s) ≡ list m ++ entries s)
    (stand : (place : ℕ) (bytes : List ℕ) (s : Section) → IsSection place bytes s → (entries s ≡ []) ⊎ ((ids_in s ≡ id ∷ []) × P (entries s))) where
  abbrev Fine : Module → Type 0
  Fine m = P (list m) × ((list m ≡ []) ⊎ Contains m.order id)

  none_more : (m : Module) (s : Section) → entries s ≡ [] → list (with_section m s) ≡ list m
  none_more m s none = added m s ∙ ap (λ l. list m ++ l) none ∙ append-nil (list m)

  still : (m : Module) (s : Section) → entries s ≡ [] → (list m ≡ []) ⊎ Contains m.order id → (list (with_section m s) ≡ []) ⊎ Contains (with_section m s).order id
  still m s none (inl e) = inl (none_more m s none ∙ e)
  still m s none (inr c) = inr (subst (λ (l : List ℕ). Contains l id) (sym (one_ordered m s)) (Contains-append_left m.order (ids_in s) id c))

  step : (m : Module) (s : Section) (ss : List Section) → P (list m) → (list m ≡ []) ⊎ Contains m.order id → InOrder (gathered_onto m (s ∷ ss)).order
      → (entries s ≡ []) ⊎ ((ids_in s ≡ id ∷ []) × P (entries s)) → Fine (with_section m s)
  step m s ss p e h (inl none) = (subst P (sym (none_more m s none)) p, still m s none e)
  step m s ss p (inl e) h (inr q) = (
    subst P (sym (added m s ∙ ap (λ l. l ++ entries s) e)) q.1,
    inr (subst (λ (l : List ℕ). Contains l id) (sym (one_ordered m s ∙ ap (λ l. m.order ++ l) q.0)) (Contains-push m.order id)),
  )
  step m s ss p (inr c) h (inr q) = absurd (no_second m s ss id q.0 c h)

  onto : (place : ℕ) (bytes : List ℕ) (m : Module) (ss : List Section) → AreSections place bytes ss → Fine m → InOrder (gathered_onto m ss).order → P (list (gathered_onto m ss))
  onto place bytes m [] f p h = p.0
  onto place bytes m (s ∷ ss) f p h =
      onto (place + length f.0) f.1.0 (with_section m s) ss f.1.1.2 (step m s ss p.0 p.1 h (stand place f.0 s f.1.1.1)) h

  one_section : (bytes : List ℕ) (m : Module) → list no_sections ≡ [] → P [] → Frames bytes m → InOrder m.order → P (list m)
  one_section bytes m none p f h =
      subst (λ x. P (list x)) (sym f.holds)
      (onto 8 f.rest no_sections f.parts f.framed (subst P (sym none) p, inl none) (subst (λ (x : Module). InOrder x.order) f.holds h))

-- ---- rows

-- fewer than 2 ^ 32 bytes, which are these entries one behind another
abbrev pub RowOf : {A : Type 0} → Form A → List A → Type 0
RowOf f xs = (bytes : List ℕ) × ((length bytes < 2 ^ 32) × IsRow (Is f) bytes xs)

abbrev pub CodeOf : List Body → Type 0
CodeOf bs = (place : ℕ) × ((bytes : List ℕ) × ((length bytes < 2 ^ 32) × AreBodies place bytes bs))

positive : 0 < 2 ^ 32
positive = omega arith

no_row : {A : Type 0} (f : Form A) → RowOf f []
no_row f = ([], (positive, refl))

below : (long front back : List ℕ) (top : ℕ) → long ≡ front ++ back → length long < top → length back < top
below long front back top e lt = omega (arith, ap length e, length-append front back)

row_in : {A : Type 0} (f : Form A) (content : List ℕ) (xs : List A) → length content < 2 ^ 32 → Is (Vector f) content xs → RowOf f xs
row_in f content xs lt i = (i.1.1.0, (below content i.1.0 i.1.1.0 (2 ^ 32) i.1.1.1.0 lt, i.1.1.1.2.0))

abbrev types_in : Section → List Group
types_in (Types gs) = gs
types_in s = []

types_added : (m : Module) (s : Section) → (with_section m s).types ≡ m.types ++ types_in s
types_added m (Types gs) = refl
types_added m s = sym (append-nil m.types)

types_stand : (place : ℕ) (bytes : List ℕ) (s : Section) → IsSection place bytes s → (types_in s ≡ []) ⊎ ((ids_in s ≡ 1 ∷ []) × RowOf group_form (types_in s))
types_stand place bytes (Types gs) h = inr (refl, row_in group_form h.content gs h.sized.small h.used)
types_stand place bytes s h = inl refl

abbrev imports_in : Section → List Import
imports_in (Imports xs) = xs
imports_in s = []

imports_added : (m : Module) (s : Section) → (with_section m s).imports ≡ m.imports ++ imports_in s
imports_added m (Imports xs) = refl
imports_added m s = sym (append-nil m.imports)

imports_stand : (place : ℕ) (bytes : List ℕ) (s : Section) → IsSection place bytes s → (imports_in s ≡ []) ⊎ ((ids_in s ≡ 2 ∷ []) × RowOf import_form (imports_in s))
imports_stand place bytes (Imports xs) h = inr (refl, row_in import_form h.content xs h.sized.small h.used)
imports_stand place bytes s h = inl refl

abbrev tables_in : Section → List Table
tables_in (Tables xs) = xs
tables_in s = []

tables_added : (m : Module) (s : Section) → (with_section m s).tables ≡ m.tables ++ tables_in s
tables_added m (Tables xs) = refl
tables_added m s = sym (append-nil m.tables)

tables_stand : (place : ℕ) (bytes : List ℕ) (s : Section) → IsSection place bytes s → (tables_in s ≡ []) ⊎ ((ids_in s ≡ 4 ∷ []) × RowOf table_form (tables_in s))
tables_stand place bytes (Tables xs) h = inr (refl, row_in table_form h.content xs h.sized.small h.used)
tables_stand place bytes s h = inl refl

abbrev memories_in : Section → List RawLimits
memories_in (Memories xs) = xs
memories_in s = []

memories_added : (m : Module) (s : Section) → (with_section m s).memories ≡ m.memories ++ memories_in s
memories_added m (Memories xs) = refl
memories_added m s = sym (append-nil m.memories)

memories_stand : (place : ℕ) (bytes : List ℕ) (s : Section) → IsSection place bytes s → (memories_in s ≡ []) ⊎ ((ids_in s ≡ 5 ∷ []) × RowOf memory_type (memories_in s))
memories_stand place bytes (Memories xs) h = inr (refl, row_in memory_type h.content xs h.sized.small h.used)
memories_stand place bytes s h = inl refl

abbrev tags_in : Section → List ℕ
tags_in (Tags xs) = xs
tags_in s = []

tags_added : (m : Module) (s : Section) → (with_section m s).tags ≡ m.tags ++ tags_in s
tags_added m (Tags xs) = refl
tags_added m s = sym (append-nil m.tags)

tags_stand : (place : ℕ) (bytes : List ℕ) (s : Section) → IsSection place bytes s → (tags_in s ≡ []) ⊎ ((ids_in s ≡ 13 ∷ []) × RowOf tag_type (tags_in s))
tags_stand place bytes (Tags xs) h = inr (refl, row_in tag_type h.content xs h.sized.small h.used)
tags_stand place bytes s h = inl refl

abbrev globals_in : Section → List Global
globals_in (Globals xs) = xs
globals_in s = []

globals_added : (m : Module) (s : Section) → (with_section m s).globals ≡ m.globals ++ globals_in s
globals_added m (Globals xs) = refl
globals_added m s = sym (append-nil m.globals)

globals_stand : (place : ℕ) (bytes : List ℕ) (s : Section) → IsSection place bytes s → (globals_in s ≡ []) ⊎ ((ids_in s ≡ 6 ∷ []) × RowOf global_form (globals_in s))
globals_stand place bytes (Globals xs) h = inr (refl, row_in global_form h.content xs h.sized.small h.used)
globals_stand place bytes s h = inl refl

abbrev elements_in : Section → List Element
elements_in (Elements xs) = xs
elements_in s = []

elements_added : (m : Module) (s : Section) → (with_section m s).elements ≡ m.elements ++ elements_in s
elements_added m (Elements xs) = refl
elements_added m s = sym (append-nil m.elements)

elements_stand : (place : ℕ) (bytes : List ℕ) (s : Section) → IsSection place bytes s → (elements_in s ≡ []) ⊎ ((ids_in s ≡ 9 ∷ []) × RowOf element_form (elements_in s))
elements_stand place bytes (Elements xs) h = inr (refl, row_in element_form h.content xs h.sized.small h.used)
elements_stand place bytes s h = inl refl

abbrev data_in : Section → List Segment
data_in (DataSegments xs) = xs
data_in s = []

data_added : (m : Module) (s : Section) → (with_section m s).data_segments ≡ m.data_segments ++ data_in s
data_added m (DataSegments xs) = refl
data_added m s = sym (append-nil m.data_segments)

data_stand : (place : ℕ) (bytes : List ℕ) (s : Section) → IsSection place bytes s → (data_in s ≡ []) ⊎ ((ids_in s ≡ 11 ∷ []) × RowOf data_form (data_in s))
data_stand place bytes (DataSegments xs) h = inr (refl, row_in data_form h.content xs h.sized.small h.used)
data_stand place bytes s h = inl refl

abbrev bodies_in : Section → List Body
bodies_in (Code xs) = xs
bodies_in s = []

bodies_added : (m : Module) (s : Section) → (with_section m s).bodies ≡ m.bodies ++ bodies_in s
bodies_added m (Code xs) = refl
bodies_added m s = sym (append-nil m.bodies)

bodies_stand : (place : ℕ) (bytes : List ℕ) (s : Section) → IsSection place bytes s → (bodies_in s ≡ []) ⊎ ((ids_in s ≡ 10 ∷ []) × CodeOf (bodies_in s))
bodies_stand place bytes (Code xs) h =
    let u = h.used in
    inr (refl, (place + 1 + length h.size + length u.count, (u.row, (below h.content u.count u.row (2 ^ 32) u.spelled h.sized.small, u.bodies))))
bodies_stand place bytes s h = inl refl

-- each list of a module
pub record Rows (m : Module) : Type 0 where
  pub types : RowOf group_form m.types
  pub imports : RowOf import_form m.imports
  pub tables : RowOf table_form m.tables
  pub memories : RowOf memory_type m.memories
  pub tags : RowOf tag_type m.tags
  pub globals : RowOf global_form m.globals
  pub elements : RowOf element_form m.elements
  pub data_segments : RowOf data_form m.data_segments
  pub bodies : CodeOf m.bodies

pub rows : (bytes : List ℕ) (m : Module) → Frames bytes m → InOrder m.order → Rows m
rows bytes m f h = record {
  types = one_section (λ x. x.types) 1 types_in (RowOf group_form) types_added types_stand bytes m refl (no_row group_form) f h;
  imports = one_section (λ x. x.imports) 2 imports_in (RowOf import_form) imports_added imports_stand bytes m refl (no_row import_form) f h;
  tables = one_section (λ x. x.tables) 4 tables_in (RowOf table_form) tables_added tables_stand bytes m refl (no_row table_form) f h;
  memories = one_section (λ x. x.memories) 5 memories_in (RowOf memory_type) memories_added memories_stand bytes m refl (no_row memory_type) f h;
  tags = one_section (λ x. x.tags) 13 tags_in (RowOf tag_type) tags_added tags_stand bytes m refl (no_row tag_type) f h;
  globals = one_section (λ x. x.globals) 6 globals_in (RowOf global_form) globals_added globals_stand bytes m refl (no_row global_form) f h;
  elements = one_section (λ x. x.elements) 9 elements_in (RowOf element_form) elements_added elements_stand bytes m refl (no_row element_form) f h;
  data_segments = one_section (λ x. x.data_segments) 11 data_in (RowOf data_form) data_added data_stand bytes m refl (no_row data_form) f h;
  bodies = one_section (λ x. x.bodies) 10 bodies_in CodeOf bodies_added bodies_stand bytes m refl (0, ([], (positive, refl))) f h;
}
