-- The payload of the producers section (tool-conventions, ProducersSection).
use Rattle.std.specs.Prelude.{◌≡◌, ℕ, List, [], ◌∷◌, map, Option, Result, Ok, Err}
use Rattle.std.specs.Borrow.{Bor}
use Rattle.wasm_forms.specs.declared.error.WireError.{WireError}
use Rattle.wasm_forms.specs.declared.error.WireError.TheVariants.{Malformed, Memory, TooLarge}
use Rattle.wasm_forms.specs.Grammar.{Form, Vector, name, ◌then◌}
use Rattle.wasm_payloads.specs.declared.producers.RawField.{RawField}
use Rattle.wasm_payloads.specs.Fault.{Tells, Behind, Counted}

-- a value: a name and a version
abbrev pub value : Form (List ℕ × List ℕ)
value = name then name

-- a field: its name, and its values
abbrev pub Field : Type 0
Field = List ℕ × List (List ℕ × List ℕ)

-- how a field is spelled: its name, the count of its values, and these; each name and version is UTF-8
abbrev pub field : Form Field
field = name then Vector value

-- a value and a field without where they lie in memory
abbrev pub value_record : Bor (List ℕ) × Bor (List ℕ) → List ℕ × List ℕ
value_record v = (v.0.now, v.1.now)

abbrev pub field_record : RawField → Field
field_record f = (f.name.now, map value_record f.values.items)

-- the bytes of a payload hold these fields before the first fault: a count, and that many; what stands behind them is passed over
abbrev pub Fields : List ℕ → List Field → Type 0
Fields bytes fields = (end : Option (List ℕ)) × Counted (Behind field (λ x. Tells (x ∷ []))) bytes fields end

-- no payload has two lists of fields
abbrev pub FieldsOnce : Type 0
FieldsOnce = (bytes : List ℕ) (fields others : List Field) → Fields bytes fields → Fields bytes others → fields ≡ others

-- what a reader of fields returned: those of the bytes, unless memory ran out
abbrev pub GivesFields : {X : Type 0} → (X → List Field) → Result X WireError → List ℕ → Type 0
GivesFields view (Ok x) bytes = Fields bytes (view x)
GivesFields view (Err Malformed) bytes = ⊥
GivesFields view (Err (Memory e)) bytes = Unit {0}
GivesFields view (Err TooLarge) bytes = ⊥
