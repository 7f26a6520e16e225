-- The laws of constant expressions that are put through look-ups, of the items that they initialise, and of segments.
use Rattle.std.specs.Prelude.{◌≡◌, ◌↔◌, ℕ, List, map, Some, None, IsSome, Contains}
use Rattle.wasm_entries.specs.Record as entries
use Rattle.wasm_entries.specs.Spelling.{ExpressionStands}
use Rattle.walrus_base.specs.Operators.{Space, Item, Op, names_of}
use Rattle.walrus_code.specs.Names.{Lookup, LeadsBack}
use Rattle.walrus_model.specs.Abstract.{Defined, Table, Global, Element, DataSegment}
use Rattle.walrus_model.specs.Constants.{consts_of}
use Rattle.walrus_model.specs.Plan.{numbers_by}
use Rattle.walrus_model.specs.Refers.{element_names, data_names}
use Rattle.walrus_model.specs.Renaming.{Renaming, renamed, renamed_const, renamed_global, renamed_table, renamed_element, renamed_data}
use Rattle.walrus_model.specs.Sections.{global_of, table_of, element_of, data_of}
use Rattle.walrus_constants.specs.Named.{named_const, named_global, named_table}
use Rattle.walrus_constants.specs.Segments.{named_element, named_data}
use Rattle.walrus_constants.specs.Written.{LacksAnIndex}

-- each item is found under its own number, as parsing gives the item of each index the place of that number
abbrev pub IsInPlace : Lookup → Type 0
IsInPlace names = (space : Space) (number found : ℕ) → names space number ≡ Some found → found ≡ number

-- what is found is the number that the renaming gives
abbrev pub AgreesWith : Renaming → Lookup → Type 0
AgreesWith r names = (space : Space) (number found : ℕ) → names space number ≡ Some found → r.numbers space number ≡ found

-- ---- constant expressions

-- there and back is the same
abbrev pub ConstantsLeadBack : Type 0
ConstantsLeadBack = (there back : Lookup) → LeadsBack there back → (ops found : List Op) → named_const there ops ≡ Some found → named_const back found ≡ Some ops

-- nothing is found exactly where an item that is named has no number
abbrev pub ConstantsLack : Type 0
ConstantsLack = (names : Lookup) (ops : List Op) → named_const names ops ≡ None ↔ LacksAnIndex names ops

abbrev pub ConstantsInPlace : Type 0
ConstantsInPlace = (names : Lookup) → IsInPlace names → (ops found : List Op) → named_const names ops ≡ Some found → found ≡ ops

abbrev pub ConstantsRenamed : Type 0
ConstantsRenamed = (r : Renaming) (names : Lookup) → AgreesWith r names → (ops found : List Op) → named_const names ops ≡ Some found → renamed_const r ops ≡ found

-- what is found names the items that were named, renamed
abbrev pub ConstantNames : Type 0
ConstantNames = (r : Renaming) (names : Lookup) → AgreesWith r names → (ops found : List Op) → named_const names ops ≡ Some found → names_of found ≡ map (renamed r) (names_of ops)

-- no two records say the same operators
abbrev pub OneRecord : Type 0
OneRecord = (a b : entries.Expression) → ExpressionStands a → ExpressionStands b → consts_of a ≡ consts_of b → a ≡ b

-- a renaming by look-up agrees with it
abbrev pub LookUpsRename : Type 0
LookUpsRename = (r : Renaming) (names : Lookup) → r.numbers ≡ numbers_by names → AgreesWith r names

-- ---- globals and tables

-- what is read of a record, each item at its index's own number, is what the record says
abbrev pub GlobalsRead : Type 0
GlobalsRead = (names : Lookup) → IsInPlace names → (g : entries.Global) (x : Global) → named_global names (global_of g) ≡ Some x → x ≡ global_of g

abbrev pub TablesRead : Type 0
TablesRead = (names : Lookup) → IsInPlace names → (t : entries.Table) (x : Table) → named_table names (table_of t) ≡ Some x → x ≡ table_of t

-- an item of the module itself, renamed, is what its record says
abbrev pub GlobalsWritten : Type 0
GlobalsWritten = (r : Renaming) (names : Lookup) → AgreesWith r names → (x : Global) (g : entries.Global) → x.origin ≡ Defined → named_global names x ≡ Some (global_of g) → renamed_global r x ≡ global_of g

abbrev pub TablesWritten : Type 0
TablesWritten = (r : Renaming) (names : Lookup) → AgreesWith r names → (x : Table) (t : entries.Table) → x.origin ≡ Defined → named_table names x ≡ Some (table_of t) → renamed_table r x ≡ table_of t

-- ---- segments

-- what is read of a record, each item at its index's own number, is what the record says

abbrev pub ElementsRead : Type 0
ElementsRead = (names : Lookup) → IsInPlace names → (e : entries.Element) (x : Element) → named_element names (element_of e) ≡ Some x → x ≡ element_of e

abbrev pub DataRead : Type 0
DataRead = (names : Lookup) → IsInPlace names → (d : entries.Segment) (x : DataSegment) → named_data names (data_of d) ≡ Some x → x ≡ data_of d

-- a segment, renamed, is what its record says

abbrev pub ElementsWritten : Type 0
ElementsWritten = (r : Renaming) (names : Lookup) → AgreesWith r names → (x : Element) (e : entries.Element) → named_element names x ≡ Some (element_of e) → renamed_element r x ≡ element_of e

abbrev pub DataWritten : Type 0
DataWritten = (r : Renaming) (names : Lookup) → AgreesWith r names → (x : DataSegment) (d : entries.Segment) → named_data names x ≡ Some (data_of d) → renamed_data r x ≡ data_of d

-- each of these items has a number
abbrev pub HaveNumbers : Lookup → List Item → Type 0
HaveNumbers names items = (x : Item) → Contains items x → IsSome (names x.0 x.1)

-- a segment is found exactly where each item that it names has a number

abbrev pub ElementsFound : Type 0
ElementsFound = (names : Lookup) (e : Element) → IsSome (named_element names e) ↔ HaveNumbers names (element_names e)

abbrev pub DataFound : Type 0
DataFound = (names : Lookup) (d : DataSegment) → IsSome (named_data names d) ↔ HaveNumbers names (data_names d)
