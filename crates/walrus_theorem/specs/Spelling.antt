-- The one spelling of a module of indices, and when it is too large.
use Rattle.std.specs.Prelude.{ℕ, Bool, true, false, not, ◌||◌, ◌+◌, List, [], ◌++◌, length, All, AllPairs, Contains, Option, Some, None, codes, bytes_eq, ◌≡◌, ◌≢◌, ◌<◌, ◌≤◌, ◌⊎◌}
use Rattle.std.specs.Str.{IsUtf8}
use Rattle.wasm_forms.specs.declared.types.RawVal.{RawVal}
use Rattle.wasm_forms.specs.Types.{ValueStands}
use Rattle.wasm_entries.specs.Forms.{any_function}
use Rattle.wasm_entries.specs.Record as entries
use Rattle.wasm_frames.specs.Record as wire
use Rattle.wasm_frames.specs.Frames.{header}
use Rattle.wasm_payloads.specs.declared.naming.NameSpace.{NameSpace}
use Rattle.wasm_payloads.specs.Names.{Named}
use Rattle.wasm_writer.specs.Spelling.{SectionStands, SectionFits, all_spelled}
use Rattle.walrus_base.specs.Operators.{DataSegments, names_of}
use Rattle.walrus_code.specs.FromRaw.{val_of}
use Rattle.walrus_bodies.specs.Emitting.{AllStand}
use Rattle.walrus_model.specs.DeclaredLocals.{rank}
use Rattle.walrus_model.specs.Abstract.{Abstract, Name, Body, Table, PassiveData, DataSegment, ProducerValue, ProducerField}
use Rattle.walrus_model.specs.Names.{body_of}
use Rattle.walrus_model.specs.Refers.{IsUsed}
use Rattle.walrus_theorem.specs.Namings.{naming_of, is_in_range}
use Rattle.walrus_model.specs.Sections.{is_apart}
use Rattle.walrus_theorem.specs.Text.{BodyText, NameMap, NameText, namings_of, Text, sections_of, said_by}

-- ---- bodies: one declaration a type, none for no local, types by their rank; and each operator stands in its one form

-- a body in its one form: its declarations have distinct types that can be spelled, by rising rank, and each declares some local; and each operator
-- stands in the one form that spells it
pub record BodyStands (t : BodyText) : Type 0 where
  pub apart : AllPairs (λ (d : ℕ × RawVal) (e : ℕ × RawVal). d.1 ≢ e.1) t.declarations
  pub filled : All (λ (d : ℕ × RawVal). 0 < d.0) t.declarations
  pub ranked : AllPairs (λ (d : ℕ × RawVal) (e : ℕ × RawVal). rank (val_of d.1) ≤ rank (val_of e.1)) t.declarations
  pub types : All (λ (d : ℕ × RawVal). ValueStands d.1) t.declarations
  pub operators : AllStand t.operators

-- each local that a body declares is used
abbrev pub UsesAll : Body → Type 0
UsesAll b = (x : ℕ) → length b.parameters ≤ x → x < length b.parameters + b.declared → IsUsed b x

-- ---- element segments: an active one names no table exactly where that is table 0, which is 32-bit, and it lists functions, or
-- expressions of the type of all functions (flags 0 and 4)

-- the table is there, and its addresses are 32-bit
abbrev pub IsNarrow : Option Table → Type 0
IsNarrow None = ⊥
IsNarrow (Some t) = t.ty.limits.wide ≡ false

-- the items are function indices, or expressions of the type (ref null func)
abbrev pub ArePlain : entries.Items → Type 0
ArePlain (entries.Functions fs) = Unit {0}
ArePlain (entries.Expressions ty es) = ty ≡ any_function

-- an active segment can do without a table index: its table is table 0, that is 32-bit, and its items are function indices or expressions of (ref null func)
abbrev pub IsShort : Abstract → (table : ℕ) → entries.Items → Type 0
IsShort n table items = (table ≡ 0) × IsNarrow (n.tables table) × ArePlain items

-- an active element segment leaves out its table index exactly where it can; passive and declared segments have no choice
abbrev pub IsChosen : Abstract → entries.ElementMode → entries.Items → Type 0
IsChosen n (entries.ActiveElements None offset) items = IsShort n 0 items
IsChosen n (entries.ActiveElements (Some table) offset) items = IsShort n table items → ⊥
IsChosen n entries.PassiveElements items = Unit {0}
IsChosen n entries.DeclaredElements items = Unit {0}

-- ---- data count: it is due where a segment is passive or a body names one, and counts them

-- the data segment is there, and passive
abbrev pub IsPassive : Option DataSegment → Type 0
IsPassive None = ⊥
IsPassive (Some d) = d.kind ≡ PassiveData

-- there is a body, and one of its operators names data segment d
abbrev pub NamesData : Option Body → ℕ → Type 0
NamesData None d = ⊥
NamesData (Some b) d = Contains (names_of b.operators) (DataSegments, d)

-- a data count is due: some data segment is passive, or some body names a data segment (Data Count Section)
abbrev pub NeedsCount : Abstract → Type 0
NeedsCount n = ((d : ℕ) × IsPassive (n.data_segments d)) ⊎ ((f : ℕ) × ((d : ℕ) × NamesData (body_of n f) d))

-- the data count is right: where it is due it is the number of data segments, and where not there is none
abbrev pub IsCount : Abstract → (segments : ℕ) → Option ℕ → Type 0
IsCount n segments None = NeedsCount n → ⊥
IsCount n segments (Some count) = NeedsCount n × (count ≡ segments)

-- ---- names: each map by rising index, so that it names no item twice; what is named is there; texts are UTF-8

-- a name map in strictly rising order of its indices, all of whose names are UTF-8 (Name Maps)
abbrev pub MapStands : NameMap → Type 0
MapStands names = AllPairs (λ (d : ℕ × Name) (e : ℕ × Name). d.0 < e.0) names × All (λ (e : ℕ × Name). IsUtf8 e.1) names

-- the name is UTF-8, or there is none
abbrev pub NameStands : Option Name → Type 0
NameStands None = Unit {0}
NameStands (Some name) = IsUtf8 name

-- what a name section says is in its one form: indices rise strictly, no function stands there without a named local, names are UTF-8, and what is named
-- is there in n
pub record NamesStand (n : Abstract) (t : NameText) : Type 0 where
  pub module_name : NameStands t.module_name
  pub items : (space : NameSpace) → MapStands (t.items space)
  pub functions : AllPairs (λ (f : ℕ × NameMap) (g : ℕ × NameMap). f.0 < g.0) t.locals
  pub locals : All (λ (f : ℕ × NameMap). (f.1 ≢ []) × MapStands f.1) t.locals
  pub are_there : All (λ (x : Named). is_in_range n (naming_of x).0 ≡ true) (namings_of t)

-- ---- producers: texts are UTF-8

-- a producers value's name and version are UTF-8
abbrev pub ValueIsText : ProducerValue → Type 0
ValueIsText v = IsUtf8 v.name × IsUtf8 v.version

-- a producers field's name is UTF-8, and so are the names and versions of its values
abbrev pub FieldIsText : ProducerField → Type 0
FieldIsText f = IsUtf8 f.name × All ValueIsText f.values

-- ---- other custom sections: those of dynamic linking, and the others, none of which is a name, producers or debug section

-- whether a custom section is one of dynamic linking: its name is dylink or dylink.0
abbrev pub is_dylink : wire.Custom → Bool
is_dylink c = bytes_eq c.name (codes "dylink") || bytes_eq c.name (codes "dylink.0")

-- whether a custom section is none of dynamic linking, and no name, producers or debug section
abbrev pub is_other : wire.Custom → Bool
is_other c = not (is_dylink c || is_apart c.name)

-- ---- all of it

-- The text says the module n, and it is the one that does so in the one spelling: no two texts are.
pub record IsSpelling (n : Abstract) (t : Text) : Type 0 where
  pub says : n ≡ said_by t
  pub stand : All SectionStands (sections_of t)
  pub filled : All (λ g. g ≢ []) t.types
  pub bodies : All BodyStands t.bodies
  pub used : (f : ℕ) (b : Body) → body_of n f ≡ Some b → UsesAll b
  pub as_many_bodies : length t.bodies ≡ length t.functions
  pub elements : All (λ (e : entries.Element). IsChosen n e.mode e.items) t.elements
  pub data_count : IsCount n (length t.data_segments) t.data_count
  pub names : NamesStand n t.names
  pub producers : All FieldIsText t.producers
  pub dylinks : All (λ c. is_dylink c ≡ true) t.dylinks
  pub others : All (λ c. is_other c ≡ true) t.others

-- the header, and the sections one after another
abbrev pub written_as : Text → List ℕ
written_as t = header ++ all_spelled (sections_of t)

-- the bytes are the one spelling of the module n
pub record IsSpelledAs (n : Abstract) (bytes : List ℕ) : Type 0 where
  pub text : Text
  pub spells : IsSpelling n text
  pub written : bytes ≡ written_as text

-- a module has one text, and so one spelling
abbrev pub SpelledOnce : Type 0
SpelledOnce = (n : Abstract) (s t : Text) → IsSpelling n s → IsSpelling n t → t ≡ s

-- ---- too large

-- its one spelling has sections that don't all fit: one has a count, a size or a limit past 32 bits
pub record HasUnfit (n : Abstract) : Type 0 where
  pub text : Text
  pub spells : IsSpelling n text
  pub unfit : All SectionFits (sections_of text) → ⊥
