-- The producers section (tool-conventions, "Producers Section"): fields, and what putting a value into one makes of them.
use Rattle.std.specs.Prelude.{ℕ, List, [], ◌∷◌, if◌then◌else◌, bytes_eq}

-- a value: a name and a version, each as the bytes of its text
pub record ProducerValue : Type 0 where
  pub name : List ℕ
  pub version : List ℕ

-- a field of the section, such as `language` or `processed-by`: its name, as the bytes of its text, and its values in order
pub record ProducerField : Type 0 where
  pub name : List ℕ
  pub values : List ProducerValue

-- the first value of this name is replaced; where there is none, the value goes last
abbrev pub with_value : ProducerValue → List ProducerValue → List ProducerValue
with_value new [] = new ∷ []
with_value new (value ∷ values) = if bytes_eq value.name new.name then new ∷ values else value ∷ with_value new values

-- the value set in the first field of this name, which is made at the end if there is none
abbrev pub with_field : (name : List ℕ) → ProducerValue → List ProducerField → List ProducerField
with_field name new [] = record { name = name; values = new ∷ [] } ∷ []
with_field name new (field ∷ fields) =
    if bytes_eq field.name name then record { name = field.name; values = with_value new field.values } ∷ fields else field ∷ with_field name new fields
