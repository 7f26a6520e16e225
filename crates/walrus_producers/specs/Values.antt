-- The values of a field, as contracts see them, and by their names.
use Rattle.std.specs.Prelude.{◌≡◌, ℕ, Bool, List, Option, bytes_eq, map, position, string_bytes}
use Rattle.std.specs.Borrow.{Bor}
use Rattle.std.specs.declared.string.String.{String}
use Rattle.std.specs.BTreeMap.{BTreeMap, get_by_text}
use Rattle.walrus_producers.specs.Producers.{ProducerValue}
use Rattle.walrus_producers.specs.declared.producers.ProducerValue.{ProducerValue as HeldValue}

abbrev pub value_seen : HeldValue → ProducerValue
value_seen v = record { name = string_bytes v.name; version = string_bytes v.version }

abbrev pub values_seen : List HeldValue → List ProducerValue
values_seen vs = map value_seen vs

-- the same of a name and a version
abbrev pub pair_value : Bor (List ℕ) × Bor (List ℕ) → ProducerValue
pair_value v = record { name = v.0.now; version = v.1.now }

abbrev pub value_name : ProducerValue → List ℕ
value_name value = value.name

-- whether a value has this name
abbrev pub is_named : (name : List ℕ) → ProducerValue → Bool
is_named name value = bytes_eq (value_name value) name

-- the place of the first of these that has a name
abbrev pub first_of : {Z : Type 0} → (name_of : Z → List ℕ) → (name : List ℕ) → List Z → Option ℕ
first_of name_of name all = position (λ z. bytes_eq (name_of z) name) all

-- of each name the place of the first one that has it
abbrev pub IsIndex : {Y Z : Type 0} → (name_of : Z → List ℕ) → BTreeMap (String Y) ℕ → List Z → Type 0
IsIndex name_of places all = (name : List ℕ) → get_by_text places name ≡ first_of name_of name all
