-- The producers section: its payload isn't empty, what fits in it where it fits, and its texts.
use Rattle.std.proofs.Common.{◌≡◌, ℕ, ◌≤◌, Bool, true, false, List, [], ◌∷◌, ◌++◌, length, map, refl, subst, arith}
use Rattle.std.specs.Prelude.{All, codes}
use Rattle.std.specs.List.{AllByRecursion}
use Rattle.std.proofs.lemmas.List.{length-append}
use Rattle.std.proofs.lemmas.List.Elements.{All-from_recursion, All-head}
use Rattle.std.proofs.lemmas.Str.{IsUtf8-string_bytes}
use Rattle.wasm_forms.specs.Spelling.{block_bytes, number_bytes, row_bytes, vector_bytes}
use Rattle.wasm_forms.specs.Writing.{EachFits, FitsLength, FitsVector}
use Rattle.wasm_forms.proofs.Adding.{vector_map}
use Rattle.wasm_frames.specs.Record as wire
use Rattle.wasm_frames.specs.Frames.{CustomSection}
use Rattle.wasm_payloads.specs.Producers.{Field}
use Rattle.wasm_payloads.specs.Spelling as spelled
use Rattle.wasm_payloads.specs.Spelling.{FieldFits, ProducersFit, ValueFits, producers_bytes, value_bytes}
use Rattle.wasm_writer.specs.Spelling.{SectionFits}
use Rattle.wasm_writer.proofs.Listed.{fits_none}
use Rattle.walrus_model.specs.Abstract.{ProducerField}
use Rattle.walrus_model.specs.Producers.{if_written}
use Rattle.walrus_producers.specs.Seen.{fields_seen, values_seen}
use Rattle.walrus_producers.specs.declared.producers.ProducerValue.{ProducerValue as HeldValue}
use Rattle.walrus_producers.specs.declared.producers.ProducerField.{ProducerField as HeldField}
use Rattle.walrus_theorem.specs.Spelling.{FieldIsText, ValueIsText}
use Rattle.walrus_theorem.specs.Text.{field_bytes, raw_field}
use Rattle.walrus_theorem.proofs.OneSections.{more}
use Rattle.walrus_writing.specs.Customs.{payload_of, section_if_any}
use Rattle.walrus_theorem.proofs.SpelledFits.{number_long as number_filled}

-- ---- a number has a byte or more, and so has a vector

pub behind_filled : (n : ℕ) (rest : List ℕ) → 1 ≤ length (number_bytes n ++ rest)
behind_filled n rest = omega (arith, number_filled n, length-append (number_bytes n) rest)

-- ---- what is spelled in fewer than 2 ^ 32 bytes has counts and sizes below

pub behind_fits : (front rest : List ℕ) → FitsLength (front ++ rest) → FitsLength rest
behind_fits front rest few = omega (arith, few, length-append front rest)

pub before_fits : (front rest : List ℕ) → FitsLength (front ++ rest) → FitsLength front
before_fits front rest few = omega (arith, few, length-append front rest)

module _ {X : Type 0} (spell : X → List ℕ) (filled : (x : X) → 1 ≤ length (spell x)) where
  row_long : (xs : List X) → length xs ≤ length (row_bytes spell xs)
  row_long [] = omega arith
  row_long (x ∷ xs) = omega (arith, filled x, row_long xs, length-append (spell x) (row_bytes spell xs))

  module _ (Fits : X → Type 0) (fits : (x : X) → FitsLength (spell x) → Fits x) where
    each_fits : (xs : List X) → FitsLength (row_bytes spell xs) → EachFits Fits xs
    each_fits [] few = tt
    each_fits (x ∷ xs) few = (fits x (before_fits (spell x) (row_bytes spell xs) few), each_fits xs (behind_fits (spell x) (row_bytes spell xs) few))

    pub vector_fits : (xs : List X) → FitsLength (vector_bytes spell xs) → FitsVector Fits xs
    vector_fits xs few =
        let row : FitsLength (row_bytes spell xs) = behind_fits (number_bytes (length xs)) (row_bytes spell xs) few in
        (omega (arith, row, row_long xs), each_fits xs row)

pub block_fits : (text : List ℕ) → FitsLength (block_bytes text) → FitsLength text
block_fits text few = behind_fits (number_bytes (length text)) text few

value_fits : (v : List ℕ × List ℕ) → FitsLength (value_bytes v) → ValueFits v
value_fits v few = (block_fits v.0 (before_fits (block_bytes v.0) (block_bytes v.1) few), block_fits v.1 (behind_fits (block_bytes v.0) (block_bytes v.1) few))

value_filled : (v : List ℕ × List ℕ) → 1 ≤ length (value_bytes v)
value_filled v = omega (arith, behind_filled (length v.0) v.0, length-append (block_bytes v.0) (block_bytes v.1))

field_fits : (f : Field) → FitsLength (spelled.field_bytes f) → FieldFits f
field_fits f few = (
  block_fits f.0 (before_fits (block_bytes f.0) (vector_bytes value_bytes f.1) few),
  vector_fits value_bytes value_filled ValueFits value_fits f.1 (behind_fits (block_bytes f.0) (vector_bytes value_bytes f.1) few),
)

field_filled : (f : Field) → 1 ≤ length (spelled.field_bytes f)
field_filled f = omega (arith, behind_filled (length f.0) f.0, length-append (block_bytes f.0) (vector_bytes value_bytes f.1))

producers_fit : (fields : List Field) → FitsLength (producers_bytes fields) → ProducersFit fields
producers_fit fields few = vector_fits spelled.field_bytes field_filled FieldFits field_fits fields few

-- ---- the section

abbrev name : List ℕ
name = codes "producers"

-- the section of these fields, if there are any
abbrev pub producers_more : List ProducerField → List wire.Custom
producers_more fields = more name (vector_bytes field_bytes) fields

-- where it fits, so do its fields
pub fields_fit : (fields : List ProducerField) → All (λ (c : wire.Custom). SectionFits (CustomSection c)) (producers_more fields) → ProducersFit (map raw_field fields)
fields_fit [] all = (fits_none FieldFits spelled.field_bytes).0
fields_fit (f ∷ fs) all =
    let bytes : List ℕ = vector_bytes field_bytes (f ∷ fs) in
    let section : SectionFits (CustomSection (record { name = name; bytes = bytes })) = All-head (λ (c : wire.Custom). SectionFits (CustomSection c)) (record { name = name; bytes = bytes }) [] all in
    producers_fit (map raw_field (f ∷ fs)) (subst (λ (l : List ℕ). FitsLength l) (vector_map raw_field spelled.field_bytes (f ∷ fs)) (behind_fits (block_bytes name) bytes section.1))

payload_section : (bytes : List ℕ) → 1 ≤ length bytes → section_if_any name bytes ≡ record { name = name; bytes = bytes } ∷ []
payload_section [] long = absurd (omega (arith, long))
payload_section (b ∷ bs) long = refl

-- a payload makes it
pub producers_made : (fields : List ProducerField) → section_if_any name (payload_of fields) ≡ producers_more fields
producers_made [] = refl
producers_made (f ∷ fs) = payload_section (vector_bytes field_bytes (f ∷ fs)) (behind_filled (length (f ∷ fs)) (row_bytes field_bytes (f ∷ fs)))

-- ---- what is chosen of the producers of these parts

values_text : (values : List HeldValue) → AllByRecursion ValueIsText (values_seen values)
values_text [] = tt
values_text (v ∷ vs) = ((IsUtf8-string_bytes v.name, IsUtf8-string_bytes v.version), values_text vs)

fields_text : (fields : List HeldField) → AllByRecursion FieldIsText (fields_seen fields)
fields_text [] = tt
fields_text (f ∷ fs) = ((IsUtf8-string_bytes f.name, All-from_recursion ValueIsText (values_seen f.values) (values_text f.values)), fields_text fs)

pub chosen_text : (chosen : Bool) (fields : List HeldField) → All FieldIsText (if_written chosen (fields_seen fields))
chosen_text true fields = All-from_recursion FieldIsText (fields_seen fields) (fields_text fields)
chosen_text false fields = All-from_recursion FieldIsText [] tt
