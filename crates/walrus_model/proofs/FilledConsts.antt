-- Each constant expression that is framed has an operator.
use Rattle.std.proofs.Common.{◌≡◌, ℕ, ◌+◌, Bool, true, false, List, [], ◌∷◌, length, sym, subst, inl, inr, ◌⊎◌}
use Rattle.std.specs.Prelude.{Option, Some, None, nat_eq}
use Rattle.std.specs.List.{AllByRecursion}
use Rattle.wasm_forms.specs.Grammar.{Form, Is, IsRow, Gives, Made, choose, ◌then◌, U32}
use Rattle.wasm_entries.specs.Record as entries
use Rattle.wasm_entries.specs.Record.{Expression}
use Rattle.wasm_entries.specs.Forms.{is_some_there, expression_form, table_from, table_form, global_form, functions_form, kinded, typed, of_functions, in_first, in_table, segment_of, element_from, element_form, data_with, data_from, data_form}
use Rattle.wasm_frames.specs.Frames.{Section, Tables, Globals, Elements, DataSegments, IsContent, AreSections, with_section, gathered_onto, Frames}
use Rattle.wasm_frames.specs.Record.{Module, no_sections}
use Rattle.walrus_functions.proofs.LawNamed.{each_append as all_append}

chosen : {A : Type 0} (t : Bool) (f g : Form A) (bytes : List ℕ) (a : A) → Is (choose t f g) bytes a → Is f bytes a ⊎ Is g bytes a
chosen true f g bytes a h = inl h
chosen false f g bytes a h = inr h

each_of : {A : Type 0} (P : A → Type 0) (f : Form A) → ((bytes : List ℕ) (x : A) → Is f bytes x → P x) → (xs : List A) (bytes : List ℕ) → IsRow (Is f) bytes xs → AllByRecursion P xs
each_of P f law [] bytes row = tt
each_of P f law (x ∷ xs) bytes row = (law row.0 x row.1.1.1, each_of P f law xs row.1.0 row.1.1.2)

abbrev pub Filled : Expression → Type 0
Filled e = is_some_there e ≡ true

expression_filled : (bytes : List ℕ) (e : Expression) → Is expression_form bytes e → Filled e
unfolding expression_form
expression_filled bytes e i = i.1

-- ---- tables and globals

abbrev FilledOption : Option Expression → Type 0
FilledOption None = Unit {0}
FilledOption (Some e) = Filled e

abbrev pub TableFilled : entries.Table → Type 0
TableFilled t = FilledOption t.initial

table_filled : (bytes : List ℕ) (t : entries.Table) → Is table_form bytes t → TableFilled t
unfolding table_form table_from
table_filled bytes t i =
    elim (chosen (nat_eq i.0 0x40) _ _ i.1.1.0 t i.1.1.1.2) as (λ _. TableFilled t) [
      | inl c ↦ let q = c.1.1.1.2 in subst TableFilled (sym q.1.0) (expression_filled q.1.1.1.0 q.0.1 q.1.1.1.1.2)
      | inr c ↦ subst TableFilled (sym c.1.0) tt
    ]

abbrev pub GlobalFilled : entries.Global → Type 0
GlobalFilled g = Filled g.initial

global_filled : (bytes : List ℕ) (g : entries.Global) → Is global_form bytes g → GlobalFilled g
unfolding global_form
global_filled bytes g i = subst GlobalFilled (sym i.1.0) (expression_filled i.1.1.1.0 i.0.1 i.1.1.1.1.2)

-- ---- element segments

abbrev ModeFilled : entries.ElementMode → Type 0
ModeFilled (entries.ActiveElements table offset) = Filled offset
ModeFilled entries.PassiveElements = Unit {0}
ModeFilled entries.DeclaredElements = Unit {0}

abbrev ItemsFilled : entries.Items → Type 0
ItemsFilled (entries.Functions fs) = Unit {0}
ItemsFilled (entries.Expressions ty es) = AllByRecursion Filled es

abbrev pub ElementFilled : entries.Element → Type 0
ElementFilled e = ModeFilled e.mode × ItemsFilled e.items

functions_filled : (bytes : List ℕ) (x : entries.Items) → Is functions_form bytes x → ItemsFilled x
unfolding functions_form
functions_filled bytes x i = subst ItemsFilled (sym i.1.0) tt

kinded_filled : (bytes : List ℕ) (x : entries.Items) → Is kinded bytes x → ItemsFilled x
unfolding kinded
kinded_filled bytes x i = functions_filled i.1.1.0 x i.1.1.1.2

typed_filled : (bytes : List ℕ) (x : entries.Items) → Is typed bytes x → ItemsFilled x
unfolding typed
typed_filled bytes x i =
    let v = i.1.1.1.1.2 in
    subst ItemsFilled (sym i.1.0) (each_of Filled expression_form expression_filled i.0.1 v.1.1.0 v.1.1.1.2.0)

of_functions_filled : (bytes : List ℕ) (x : entries.Items) → Is of_functions bytes x → ItemsFilled x
unfolding of_functions
of_functions_filled bytes x i =
    let v = i.1.1 in
    subst ItemsFilled (sym i.1.0) (each_of Filled expression_form expression_filled i.0 v.1.1.0 v.1.1.1.2.0)

first_filled : (bytes : List ℕ) (x : entries.ElementMode) → Is in_first bytes x → ModeFilled x
unfolding in_first
first_filled bytes x i = subst ModeFilled (sym i.1.0) (expression_filled bytes i.0 i.1.1)

in_table_filled : (bytes : List ℕ) (x : entries.ElementMode) → Is in_table bytes x → ModeFilled x
unfolding in_table
in_table_filled bytes x i = subst ModeFilled (sym i.1.0) (expression_filled i.1.1.1.0 i.0.1 i.1.1.1.1.2)

passive_filled : (bytes : List ℕ) (x : entries.ElementMode) → Is (Gives entries.PassiveElements) bytes x → ModeFilled x
passive_filled bytes x i = subst ModeFilled (sym i.1) tt

declared_filled : (bytes : List ℕ) (x : entries.ElementMode) → Is (Gives entries.DeclaredElements) bytes x → ModeFilled x
declared_filled bytes x i = subst ModeFilled (sym i.1) tt

segment_filled : (m : Form entries.ElementMode) (k : Form entries.Items) → ((bytes : List ℕ) (x : entries.ElementMode) → Is m bytes x → ModeFilled x) → ((bytes : List ℕ) (x : entries.Items) → Is k bytes x → ItemsFilled x) → (bytes : List ℕ) (e : entries.Element) → Is (segment_of m k) bytes e → ElementFilled e
unfolding segment_of
segment_filled m k hm hk bytes e i =
    let both = i.1.1 in
    subst ElementFilled (sym i.1.0) (hm both.0 i.0.0 both.1.1.1, hk both.1.0 i.0.1 both.1.1.2)

element_from_filled : (flags : ℕ) (bytes : List ℕ) (e : entries.Element) → Is (element_from flags) bytes e → ElementFilled e
unfolding element_from
element_from_filled flags bytes e i =
    elim (chosen (nat_eq flags 0) _ _ bytes e i) as (λ _. ElementFilled e) [
      | inl c ↦ segment_filled in_first functions_form first_filled functions_filled bytes e c
      | inr c ↦ elim (chosen (nat_eq flags 1) _ _ bytes e c) as (λ _. ElementFilled e) [
        | inl c ↦ segment_filled (Gives entries.PassiveElements) kinded passive_filled kinded_filled bytes e c
        | inr c ↦ elim (chosen (nat_eq flags 2) _ _ bytes e c) as (λ _. ElementFilled e) [
          | inl c ↦ segment_filled in_table kinded in_table_filled kinded_filled bytes e c
          | inr c ↦ elim (chosen (nat_eq flags 3) _ _ bytes e c) as (λ _. ElementFilled e) [
            | inl c ↦ segment_filled (Gives entries.DeclaredElements) kinded declared_filled kinded_filled bytes e c
            | inr c ↦ elim (chosen (nat_eq flags 4) _ _ bytes e c) as (λ _. ElementFilled e) [
              | inl c ↦ segment_filled in_first of_functions first_filled of_functions_filled bytes e c
              | inr c ↦ elim (chosen (nat_eq flags 5) _ _ bytes e c) as (λ _. ElementFilled e) [
                | inl c ↦ segment_filled (Gives entries.PassiveElements) typed passive_filled typed_filled bytes e c
                | inr c ↦ elim (chosen (nat_eq flags 6) _ _ bytes e c) as (λ _. ElementFilled e) [
                  | inl c ↦ segment_filled in_table typed in_table_filled typed_filled bytes e c
                  | inr c ↦ elim (chosen (nat_eq flags 7) _ _ bytes e c) as (λ _. ElementFilled e) [
                    | inl c ↦ segment_filled (Gives entries.DeclaredElements) typed declared_filled typed_filled bytes e c
                    | inr c ↦ absurd c
                  ]
                ]
              ]
            ]
          ]
        ]
      ]
    ]

element_filled : (bytes : List ℕ) (e : entries.Element) → Is element_form bytes e → ElementFilled e
unfolding element_form
element_filled bytes e i = element_from_filled i.0 i.1.1.0 e i.1.1.1.2

-- ---- data segments

abbrev DataFilled : entries.DataMode → Type 0
DataFilled (entries.ActiveData memory offset) = Filled offset
DataFilled entries.PassiveData = Unit {0}

abbrev pub SegmentFilled : entries.Segment → Type 0
SegmentFilled d = DataFilled d.mode

with_filled : (m : Form entries.DataMode) → ((bytes : List ℕ) (x : entries.DataMode) → Is m bytes x → DataFilled x) → (bytes : List ℕ) (d : entries.Segment) → Is (data_with m) bytes d → SegmentFilled d
unfolding data_with
with_filled m hm bytes d i = let both = i.1.1 in subst SegmentFilled (sym i.1.0) (hm both.0 i.0.0 both.1.1.1)

data_from_filled : (flags : ℕ) (bytes : List ℕ) (d : entries.Segment) → Is (data_from flags) bytes d → SegmentFilled d
unfolding data_from
data_from_filled flags bytes d i =
    elim (chosen (nat_eq flags 0) _ _ bytes d i) as (λ _. SegmentFilled d) [
      | inl c ↦ with_filled (Made (entries.ActiveData 0) expression_form) (λ bytes x j. subst DataFilled (sym j.1.0) (expression_filled bytes j.0 j.1.1)) bytes d c
      | inr c ↦ elim (chosen (nat_eq flags 1) _ _ bytes d c) as (λ _. SegmentFilled d) [
        | inl c ↦ with_filled (Gives entries.PassiveData) (λ bytes x j. subst DataFilled (sym j.1) tt) bytes d c
        | inr c ↦ elim (chosen (nat_eq flags 2) _ _ bytes d c) as (λ _. SegmentFilled d) [
          | inl c ↦ with_filled (Made (λ x. entries.ActiveData x.0 x.1) (U32 then expression_form)) (λ bytes x j. subst DataFilled (sym j.1.0) (expression_filled j.1.1.1.0 j.0.1 j.1.1.1.1.2)) bytes d c
          | inr c ↦ absurd c
        ]
      ]
    ]

data_filled : (bytes : List ℕ) (d : entries.Segment) → Is data_form bytes d → SegmentFilled d
unfolding data_form
data_filled bytes d i = data_from_filled i.0 i.1.1.0 d i.1.1.1.2

-- ---- sections

pub record AllFilled (m : Module) : Type 0 where
  pub tables : AllByRecursion TableFilled m.tables
  pub globals : AllByRecursion GlobalFilled m.globals
  pub elements : AllByRecursion ElementFilled m.elements
  pub data_segments : AllByRecursion SegmentFilled m.data_segments

section_filled : (m : Module) (place : ℕ) (bytes : List ℕ) (s : Section) → IsContent place bytes s → AllFilled m → AllFilled (with_section m s)
section_filled m place bytes (Tables ts) i h = record { tables = all_append TableFilled m.tables ts h.tables (each_of TableFilled table_form table_filled ts i.1.1.0 i.1.1.1.2.0); globals = h.globals; elements = h.elements; data_segments = h.data_segments }
section_filled m place bytes (Globals gs) i h = record { tables = h.tables; globals = all_append GlobalFilled m.globals gs h.globals (each_of GlobalFilled global_form global_filled gs i.1.1.0 i.1.1.1.2.0); elements = h.elements; data_segments = h.data_segments }
section_filled m place bytes (Elements es) i h = record { tables = h.tables; globals = h.globals; elements = all_append ElementFilled m.elements es h.elements (each_of ElementFilled element_form element_filled es i.1.1.0 i.1.1.1.2.0); data_segments = h.data_segments }
section_filled m place bytes (DataSegments ds) i h = record { tables = h.tables; globals = h.globals; elements = h.elements; data_segments = all_append SegmentFilled m.data_segments ds h.data_segments (each_of SegmentFilled data_form data_filled ds i.1.1.0 i.1.1.1.2.0) }
section_filled m place bytes s i h = record { tables = h.tables; globals = h.globals; elements = h.elements; data_segments = h.data_segments }

sections_filled : (ss : List Section) (m : Module) (place : ℕ) (bytes : List ℕ) → AreSections place bytes ss → AllFilled m → AllFilled (gathered_onto m ss)
sections_filled [] m place bytes are h = h
sections_filled (s ∷ ss) m place bytes are h =
    let one = are.1.1.1 in
    sections_filled ss (with_section m s) (place + length are.0) are.1.0 are.1.1.2 (section_filled m (place + 1 + length one.size) one.content s one.used h)

pub all_filled : (bytes : List ℕ) (m : Module) → Frames bytes m → AllFilled m
all_filled bytes m f = subst AllFilled (sym f.holds) (sections_filled f.parts no_sections 8 f.rest f.framed (record { tables = tt; globals = tt; elements = tt; data_segments = tt }))
