-- The custom sections that a module is written with ("Binary Format > Modules > Custom Section"): those of its own, the name section
-- ("Appendix > Custom Sections > Name Section"), and the producers section (tool-conventions, "Producers Section").
use Rattle.std.specs.Prelude.{ℕ, List, [], ◌∷◌, ◌++◌, All, map, Option, Some, None, Result, Ok, Err, codes, ◌≡◌, ⊤}
use Rattle.std.specs.Global.{Vec}
use Rattle.std.specs.Str.{IsUtf8}
use Rattle.wasm_forms.specs.Spelling.{vector_bytes}
use Rattle.wasm_frames.specs.Record as wire
use Rattle.wasm_payloads.specs.Lent.{NamesFit}
use Rattle.wasm_payloads.specs.Spelling.{NameText, ProducersFit, names_bytes}
use Rattle.walrus_contents.specs.View.{parts_view}
use Rattle.walrus_contents.specs.declared.parts.Parts.{Parts}
use Rattle.walrus_code.specs.Names.{Lookup}
use Rattle.walrus_model.specs.Abstract.{Abstract, Name, ProducerField}
use Rattle.walrus_model.specs.Customs.{written_customs}
use Rattle.walrus_model.specs.Sections.{custom_of}
use Rattle.walrus_model.specs.Producers.{if_written}
use Rattle.walrus_items.specs.declared.error.Error.{Error}
use Rattle.walrus_items.specs.declared.error.Error.TheVariants as errors
use Rattle.walrus_theorem.specs.Text.{field_bytes, raw_field}
use Rattle.walrus_writing.specs.declared.customs.Payloads.{Payloads}
use Rattle.walrus_writing.specs.declared.write.Choices.{Choices}

-- what is written of these parts: their producers, where these are chosen
abbrev pub chosen_producers : Parts → Choices → List ProducerField
chosen_producers p choices = if_written choices.producers (parts_view p).producers

-- ---- the producers section

-- its payload, and nothing where there are no fields
abbrev pub payload_of : List ProducerField → List ℕ
payload_of [] = []
payload_of (f ∷ fs) = vector_bytes field_bytes (f ∷ fs)

-- the payload of these fields; none exactly where a count or a size in it passes 32 bits
abbrev pub SpellsFields : (List ProducerField → List ℕ) → List ProducerField → Result (Option (Vec ℕ)) Error → Type 0
SpellsFields spell fields (Ok (Some bytes)) = bytes.items ≡ spell fields
SpellsFields spell fields (Ok None) = ProducersFit (map raw_field fields) → ⊥
SpellsFields spell fields (Err (errors.Memory e)) = ⊤
SpellsFields spell fields (Err _) = ⊥

-- ---- both sections

-- the section of this name with a payload, if there is one
abbrev pub section_if_any : Name → List ℕ → List wire.Custom
section_if_any name [] = []
section_if_any name (b ∷ bs) = record { name = name; bytes = b ∷ bs } ∷ []

-- the sections of these payloads
abbrev pub made_sections : (names producers : List ℕ) → List wire.Custom
made_sections names producers = section_if_any (codes "name") names ++ section_if_any (codes "producers") producers

-- the sections of what says these names and these producers
abbrev pub sections_made : NameText → List ProducerField → List wire.Custom
sections_made names fields = made_sections (names_bytes names) (payload_of fields)

-- their payloads; none where they don't both fit: a count or a size in one passes 32 bits
abbrev pub AreSpelled : NameText → List ProducerField → Option Payloads → Type 0
AreSpelled names fields (Some made) = (made.names.items ≡ names_bytes names) × (made.producers.items ≡ payload_of fields)
AreSpelled names fields None = NamesFit names → ProducersFit (map raw_field fields) → ⊥

-- so they are, and nothing but lack of memory is told
abbrev pub SpellsBoth : NameText → List ProducerField → Result (Option Payloads) Error → Type 0
SpellsBoth names fields (Ok made) = AreSpelled names fields made
SpellsBoth names fields (Err (errors.Memory e)) = ⊤
SpellsBoth names fields (Err _) = ⊥

-- the sections of the payloads that are there
abbrev pub sections_of : Option Payloads → List wire.Custom
sections_of None = []
sections_of (Some made) = made_sections made.names.items made.producers.items

-- ---- sections of its own

-- what is written, under what: the choices, the indices, and the custom sections that were asked for their data
pub record Task : Type 0 where
  pub choices : Choices
  pub names : Lookup
  pub sections : List wire.Custom

abbrev pub task : Choices → Lookup → List wire.Custom → Task
task choices names sections = record { choices = choices; names = names; sections = sections }

-- v is these parts with custom sections of its own, whatever roots these have; and they are, as they are written under these indices, these
-- sections
pub record IsAsked (p : Parts) (names : Lookup) (sections : List wire.Custom) (v : Abstract) : Type 0 where
  pub parts : v ≡ record (parts_view p) { customs = v.customs; section_roots = v.section_roots }
  pub asked : map custom_of sections ≡ written_customs (λ x. names x.0 x.1) v.customs
  pub texts : All (λ c. IsUtf8 c.name) sections
