-- Which custom sections are asked for their data when a module is written, and which refusals come of that ("Binary Format > Custom Section").
use Rattle.std.specs.Prelude.{ℕ, Bool, true, false, not, ◌||◌, List, ◌++◌, map, None, Contains, filter, ◌≡◌, ⊤}
use Rattle.std.specs.Str.{IsUtf8}
use Rattle.wasm_frames.specs.Record as wire
pub use Rattle.wasm_wire.specs.ModuleSpelling.{is_dylink as is_dylink_name}
use Rattle.walrus_code.specs.Names.{Lookup}
use Rattle.walrus_model.specs.Customs.{is_debug_name}
use Rattle.walrus_items.specs.declared.error.Error.{Error}
use Rattle.walrus_items.specs.declared.error.Error.TheVariants.{Memory, Caller}
use Rattle.walrus_module.specs.Meaning.{Meaning}
use Rattle.walrus_module.specs.declared.asked.AskedSection.{AskedSection}
use Rattle.walrus_module.specs.declared.asked.SectionData.{SectionData}
use Rattle.walrus_module.specs.declared.asked.SectionData.TheVariants.{Lent, Made}

-- ---- a section that was asked

abbrev pub bytes_seen : SectionData → List ℕ
bytes_seen (Lent bytes) = bytes.now
bytes_seen (Made bytes) = bytes.items

abbrev pub section_seen : AskedSection → wire.Custom
section_seen s = record { name = s.name.now; bytes = bytes_seen s.data }

-- its name is text
abbrev pub IsText : AskedSection → Type 0
IsText s = IsUtf8 s.name.now

-- what it says where items have these indices
abbrev pub section_under : Lookup → Meaning → wire.Custom
section_under names s = record { name = s.name; bytes = s.contents names }

-- ---- the turns in which they are asked: dynamic linking first, then all others but debug information

abbrev pub is_in_turn : (first : Bool) → List ℕ → Bool
is_in_turn true name = is_dylink_name name
is_in_turn false name = not (is_dylink_name name || is_debug_name name)

abbrev pub in_turn : (first : Bool) → List Meaning → List Meaning
in_turn first all = filter (λ (s : Meaning). is_in_turn first s.name) all

-- ---- all that is asked

-- nothing has an index
abbrev pub no_index : Lookup
no_index space number = None

-- what the sections of dynamic linking say, under no indices, and what the others say
abbrev pub asked_first : List Meaning → List wire.Custom
asked_first all = map (section_under no_index) (in_turn true all)

abbrev pub all_asked : Lookup → List Meaning → List wire.Custom
all_asked names all = asked_first all ++ map (section_under names) (in_turn false all)

-- ---- refusals

-- one of these sections may refuse
abbrev pub OneMayRefuse : List Meaning → Type 0
OneMayRefuse all = (s : Meaning) × Contains all s × (s.may_refuse ≡ true)

-- one that is asked for its data may refuse
abbrev pub OneAskedMayRefuse : List Meaning → Type 0
OneAskedMayRefuse all = (s : Meaning) × Contains all s × (is_debug_name s.name ≡ false) × (s.may_refuse ≡ true)

-- want of memory, or a caller's own refusal, which comes only where P holds
abbrev pub IsRefusedBy : Type 0 → Error → Type 0
IsRefusedBy P (Memory e) = ⊤
IsRefusedBy P (Caller text) = P
IsRefusedBy P _ = ⊥
