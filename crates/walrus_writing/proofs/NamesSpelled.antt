-- The name section, and that of producers behind it: what fits in them where they fit, and the payloads that make them.
use Rattle.std.proofs.Common.{◌≡◌, ℕ, ◌≤◌, true, false, List, [], ◌∷◌, ◌++◌, length, map, refl, ap₂, arith}
use Rattle.std.specs.Prelude.{All, Option, Some, None, codes, is_some}
use Rattle.std.proofs.lemmas.List.Elements.{All-head}
use Rattle.wasm_forms.specs.Spelling.{block_bytes, number_bytes, row_bytes, vector_bytes}
use Rattle.wasm_forms.specs.Writing.{EachFits, FitsLength}
use Rattle.wasm_frames.specs.Record as wire
use Rattle.wasm_frames.specs.Frames.{CustomSection}
use Rattle.wasm_payloads.specs.declared.naming.NameSpace.{NameSpace}
use Rattle.wasm_payloads.specs.declared.naming.NameSpace.TheVariants as spaces
use Rattle.wasm_payloads.specs.Lent.{EntryFits, FunctionFits, ModuleNameFits, NamesFit, PartFits, SpaceFits}
use Rattle.wasm_payloads.specs.Spelling.{NameMap, NameText, ProducersFit, entry_bytes, function_bytes, further_spaces, map_bytes, module_name_bytes, names_bytes, part_bytes, space_bytes, subsection_of}
use Rattle.wasm_writer.specs.Spelling.{SectionFits}
use Rattle.walrus_model.specs.Abstract.{Name, ProducerField}
use Rattle.walrus_theorem.specs.Text.{raw_field}
use Rattle.walrus_groups.proofs.OneList.{All-back, All-front}
use Rattle.walrus_theorem.proofs.OneSections.{more}
use Rattle.walrus_writing.specs.Customs.{AreSpelled, section_if_any, sections_made, sections_of}
use Rattle.walrus_writing.specs.declared.customs.Payloads.{Payloads}
use Rattle.walrus_writing.proofs.ProducersSpelled.{before_fits, behind_filled, behind_fits, block_fits, fields_fit, producers_made, producers_more, vector_fits}

-- ---- what is spelled in fewer than 2 ^ 32 bytes has counts and sizes below

entry_fits : (e : ℕ × Name) → FitsLength (entry_bytes e) → EntryFits e
entry_fits e few = block_fits e.1 (behind_fits (number_bytes e.0) (block_bytes e.1) few)

entry_filled : (e : ℕ × Name) → 1 ≤ length (entry_bytes e)
entry_filled e = behind_filled e.0 (block_bytes e.1)

function_fits : (f : ℕ × NameMap) → FitsLength (function_bytes f) → FunctionFits f
function_fits f few = vector_fits entry_bytes entry_filled EntryFits entry_fits f.1 (behind_fits (number_bytes f.0) (map_bytes f.1) few)

function_filled : (f : ℕ × NameMap) → 1 ≤ length (function_bytes f)
function_filled f = behind_filled f.0 (map_bytes f.1)

module _ {X : Type 0} (id : ℕ) (spell : X → List ℕ) (filled : (x : X) → 1 ≤ length (spell x)) (Fits : X → Type 0) (fits : (x : X) → FitsLength (spell x) → Fits x) where
  part_fits : (xs : List X) → FitsLength (part_bytes id spell xs) → PartFits spell Fits xs
  part_fits [] few = tt
  part_fits (x ∷ xs) few =
      let content : FitsLength (vector_bytes spell (x ∷ xs)) = block_fits (vector_bytes spell (x ∷ xs)) (behind_fits (id ∷ []) (block_bytes (vector_bytes spell (x ∷ xs))) few) in
      (vector_fits spell filled Fits fits (x ∷ xs) content, content)

module_fits : (o : Option Name) → FitsLength (module_name_bytes o) → ModuleNameFits o
module_fits None few = tt
module_fits (Some name) few =
    let content : FitsLength (block_bytes name) = block_fits (block_bytes name) (behind_fits (0 ∷ []) (block_bytes (block_bytes name)) few) in
    (block_fits name content, content)

module _ (t : NameText) where
  space_fits : (s : NameSpace) → FitsLength (space_bytes t s) → SpaceFits t s
  space_fits s few = part_fits (subsection_of s) entry_bytes entry_filled EntryFits entry_fits (t.items s) few

  spaces_fit : (ss : List NameSpace) → FitsLength (row_bytes (space_bytes t) ss) → EachFits (SpaceFits t) ss
  spaces_fit [] few = tt
  spaces_fit (s ∷ ss) few = (space_fits s (before_fits (space_bytes t s) (row_bytes (space_bytes t) ss) few), spaces_fit ss (behind_fits (space_bytes t s) (row_bytes (space_bytes t) ss) few))

  abbrev title : List ℕ
  title = module_name_bytes t.module_name

  abbrev functions : List ℕ
  functions = space_bytes t spaces.Functions

  abbrev locals : List ℕ
  locals = part_bytes 2 function_bytes t.locals

  abbrev further : List ℕ
  further = row_bytes (space_bytes t) further_spaces

  names_fit : FitsLength (names_bytes t) → NamesFit t
  names_fit few =
      let three : FitsLength (title ++ functions ++ locals) = before_fits (title ++ functions ++ locals) further few in
      let two : FitsLength (title ++ functions) = before_fits (title ++ functions) locals three in
      record {
        module_name = module_fits t.module_name (before_fits title functions two);
        functions = space_fits spaces.Functions (behind_fits title functions two);
        locals = part_fits 2 function_bytes function_filled FunctionFits function_fits t.locals (behind_fits (title ++ functions) locals three);
        further = spaces_fit further_spaces (behind_fits (title ++ functions ++ locals) further few);
      }

-- ---- the section

abbrev pub named_by_bytes : List ℕ → List wire.Custom
named_by_bytes bytes = more (codes "name") (λ (l : List ℕ). l) bytes

-- the section of these names, if there are any
abbrev pub names_more : NameText → List wire.Custom
names_more names = named_by_bytes (names_bytes names)

abbrev Fits : wire.Custom → Type 0
Fits c = SectionFits (CustomSection c)

bytes_fit : (bytes : List ℕ) → All Fits (named_by_bytes bytes) → FitsLength bytes
bytes_fit [] all = omega arith
bytes_fit (b ∷ bs) all =
    let section : Fits (record { name = codes "name"; bytes = b ∷ bs }) = All-head Fits (record { name = codes "name"; bytes = b ∷ bs }) [] all in
    behind_fits (block_bytes (codes "name")) (b ∷ bs) section.1

-- ---- both sections

abbrev pub made_of : NameText → List ProducerField → List wire.Custom
made_of names fields = names_more names ++ producers_more fields

-- where they fit, so does what they say
pub made_fit : (names : NameText) (fields : List ProducerField) → All Fits (made_of names fields) → NamesFit names × ProducersFit (map raw_field fields)
made_fit names fields all =
    (names_fit names (bytes_fit (names_bytes names) (All-front Fits (names_more names) (producers_more fields) all)), fields_fit fields (All-back Fits (names_more names) (producers_more fields) all))

by_bytes : (bytes : List ℕ) → section_if_any (codes "name") bytes ≡ named_by_bytes bytes
by_bytes [] = refl
by_bytes (b ∷ bs) = refl

-- payloads make them
pub sections_same : (names : NameText) (fields : List ProducerField) → sections_made names fields ≡ made_of names fields
sections_same names fields = ap₂ ◌++◌ (by_bytes (names_bytes names)) (producers_made fields)

-- payloads that are there are those of what they spell, and where there are none, it doesn't fit
pub sections_given : (names : NameText) (fields : List ProducerField) (payloads : Option Payloads) → is_some payloads ≡ true → AreSpelled names fields payloads → sections_of payloads ≡ sections_made names fields
sections_given names fields None there spelled = absurd cc
sections_given names fields (Some made) there spelled = ap₂ (λ (a b : List ℕ). section_if_any (codes "name") a ++ section_if_any (codes "producers") b) spelled.0 spelled.1

pub sections_refused : (names : NameText) (fields : List ProducerField) (payloads : Option Payloads) → is_some payloads ≡ false → AreSpelled names fields payloads → NamesFit names → ProducersFit (map raw_field fields) → ⊥
sections_refused names fields None there spelled = spelled
sections_refused names fields (Some made) there spelled = absurd cc
