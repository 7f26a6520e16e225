-- What is answered where an element segment is written as a record ("Binary Format > Modules > Element Section").
use Rattle.std.specs.Prelude.{◌≡◌, ⊤, ℕ, List, true, All, Some, None, Result, Ok, Err, Contains, Option, ◌⊎◌}
use Rattle.std.specs.Global.{Vec}
use Rattle.wasm_entries.specs.Record as entries
use Rattle.wasm_entries.specs.Record.{element_entry, element_mode, items_of}
use Rattle.wasm_entries.specs.Spelling.{ElementStands, ExpressionStands, IsIndex}
use Rattle.wasm_entries.specs.declared.record.RawElement.{RawElement}
use Rattle.wasm_entries.specs.declared.record.RawElementMode.{RawElementMode}
use Rattle.wasm_entries.specs.declared.record.RawItems.{RawItems}
use Rattle.wasm_forms.specs.Types.{HeapStands}
use Rattle.walrus_base.specs.Types.{RefType}
use Rattle.walrus_base.specs.Operators.{Functions, Tables, Op}
use Rattle.walrus_code.specs.Names.{Lookup}
use Rattle.walrus_code.specs.Results.{heap_is_exact}
use Rattle.walrus_code.specs.declared.error.IrError.{IrError}
use Rattle.walrus_code.specs.declared.error.IrError.TheVariants.{Malformed, Memory, NoIndex, NotWritable, TooLarge}
use Rattle.walrus_items.specs.Elements.{ElementValue}
use Rattle.walrus_contents.specs.View as seen
use Rattle.walrus_items.specs.declared.error.Error.{Error}
use Rattle.walrus_items.specs.declared.error.Error.TheVariants as errors
use Rattle.walrus_model.specs.Abstract.{ElementKind, ActiveElements, ElementItems, Expressions, Element, Table}
use Rattle.walrus_model.specs.Sections.{element_kind, element_items, element_of}
use Rattle.walrus_groups.specs.Named.{each}
use Rattle.walrus_constants.specs.Segments.{named_element, named_element_items, named_element_kind}
use Rattle.walrus_constants.specs.Written.{IsUnspelled}
use Rattle.walrus_theorem.specs.Spelling.{ArePlain, IsNarrow}

-- ---- what no bytes spell

-- how it is used: it is active, and no bytes spell its offset
pub data KindIsUnspelled (k : ElementKind) : Type 0 where
  UnspelledOffset : (table : ℕ) (offset : List Op) → k ≡ ActiveElements table offset → IsUnspelled offset → KindIsUnspelled k

-- what it holds: an exact heap type is that of its expressions, or no bytes spell one of these
pub data ItemsAreUnspelled (x : ElementItems) : Type 0 where
  ExactItems : (ty : RefType ℕ) (es : List (List Op)) → x ≡ Expressions ty es → heap_is_exact ty.heap ≡ true → ItemsAreUnspelled x
  UnspelledItem : (ty : RefType ℕ) (es : List (List Op)) (ops : List Op) → x ≡ Expressions ty es → Contains es ops → IsUnspelled ops → ItemsAreUnspelled x

-- the segment
abbrev pub ElementIsUnspelled : Element → Type 0
ElementIsUnspelled e = KindIsUnspelled e.kind ⊎ ItemsAreUnspelled e.items

-- ---- the flag, which says whether the table is left out: it is where the table has index 0 and is 32-bit, and the segment lists functions, or
-- expressions of the type of all functions

-- the table, of this index, may be left out
abbrev pub MayLeaveOut : Option Table → (index : ℕ) → entries.Items → Type 0
MayLeaveOut table index items = (index ≡ 0) × IsNarrow table × ArePlain items

-- the record leaves a table out exactly where it may
abbrev pub ChoosesTable : Lookup → (ℕ → Option Table) → entries.ElementMode → entries.Items → Type 0
ChoosesTable names tables (entries.ActiveElements None offset) items = (t : ℕ) × (names Tables t ≡ Some 0) × MayLeaveOut (tables t) 0 items
ChoosesTable names tables (entries.ActiveElements (Some index) offset) items = (t : ℕ) × (names Tables t ≡ Some index) × (MayLeaveOut (tables t) index items → ⊥)
ChoosesTable names tables entries.PassiveElements items = ⊤
ChoosesTable names tables entries.DeclaredElements items = ⊤

abbrev pub ChoosesFlag : Lookup → (ℕ → Option Table) → entries.Element → Type 0
ChoosesFlag names tables e = ChoosesTable names tables e.mode e.items

-- ---- the record is that of the segment under the look-up; refused only with a cause, and never Ok with one

-- bytes can spell how it is used
abbrev pub ModeStands : entries.ElementMode → Type 0
ModeStands (entries.ActiveElements None offset) = ExpressionStands offset
ModeStands (entries.ActiveElements (Some index) offset) = IsIndex index × ExpressionStands offset
ModeStands entries.PassiveElements = ⊤
ModeStands entries.DeclaredElements = ⊤

-- and what it holds
abbrev pub ItemsStand : entries.Items → Type 0
ItemsStand (entries.Functions fs) = All IsIndex fs
ItemsStand (entries.Expressions ty es) = HeapStands ty.heap × All ExpressionStands es

-- functions
abbrev pub IndexesFunctions : Lookup → List ℕ → Result (Vec ℕ) IrError → Type 0
IndexesFunctions names fs (Ok raw) = (each (names Functions) fs ≡ Some raw.items) × All IsIndex raw.items
IndexesFunctions names fs (Err NoIndex) = each (names Functions) fs ≡ None
IndexesFunctions names fs (Err NotWritable) = ⊥
IndexesFunctions names fs (Err (Memory e)) = ⊤
IndexesFunctions names fs (Err Malformed) = ⊥
IndexesFunctions names fs (Err TooLarge) = ⊥

-- what a segment holds
abbrev pub IndexesItems : Lookup → ElementItems → Result RawItems IrError → Type 0
IndexesItems names x (Ok raw) = (named_element_items names x ≡ Some (element_items (items_of raw))) × ItemsStand (items_of raw) × (ItemsAreUnspelled x → ⊥)
IndexesItems names x (Err NoIndex) = named_element_items names x ≡ None
IndexesItems names x (Err NotWritable) = ItemsAreUnspelled x
IndexesItems names x (Err (Memory e)) = ⊤
IndexesItems names x (Err Malformed) = ⊥
IndexesItems names x (Err TooLarge) = ⊥

-- how one that holds these is used
abbrev pub IndexesMode : Lookup → (ℕ → Option Table) → entries.Items → ElementKind → Result RawElementMode IrError → Type 0
IndexesMode names tables items k (Ok raw) = (named_element_kind names k ≡ Some (element_kind (element_mode raw))) × ModeStands (element_mode raw) × ChoosesTable names tables (element_mode raw) items × (KindIsUnspelled k → ⊥)
IndexesMode names tables items k (Err NoIndex) = named_element_kind names k ≡ None
IndexesMode names tables items k (Err NotWritable) = KindIsUnspelled k
IndexesMode names tables items k (Err (Memory e)) = ⊤
IndexesMode names tables items k (Err Malformed) = ⊥
IndexesMode names tables items k (Err TooLarge) = ⊥

-- the segment, whose table is one of these
abbrev pub IndexesElement : Lookup → (ℕ → Option Table) → Element → Result RawElement IrError → Type 0
IndexesElement names tables e (Ok raw) = (named_element names e ≡ Some (element_of (element_entry raw))) × ElementStands (element_entry raw) × ChoosesFlag names tables (element_entry raw) × (ElementIsUnspelled e → ⊥)
IndexesElement names tables e (Err NoIndex) = named_element names e ≡ None
IndexesElement names tables e (Err NotWritable) = ElementIsUnspelled e
IndexesElement names tables e (Err (Memory m)) = ⊤
IndexesElement names tables e (Err Malformed) = ⊥
IndexesElement names tables e (Err TooLarge) = ⊥

-- the element segments of a module are written: no bytes spell one of them
abbrev pub RefusesElements : List ElementValue → Error → Type 0
RefusesElements all (errors.Memory e) = ⊤
RefusesElements all errors.NotWritable = (e : ElementValue) × Contains all e × ElementIsUnspelled (seen.element_of e)
RefusesElements all _ = ⊥

-- bytes spell it
abbrev pub IsSpelledElement : ElementValue → Type 0
IsSpelledElement e = ElementIsUnspelled (seen.element_of e) → ⊥
