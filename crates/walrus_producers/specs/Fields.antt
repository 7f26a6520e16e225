-- The fields of a section, as contracts see them, and by their names.
use Rattle.std.specs.Prelude.{ℕ, List, map, string_bytes}
use Rattle.walrus_producers.specs.Producers.{ProducerField}
use Rattle.walrus_producers.specs.Values.{values_seen}
use Rattle.walrus_producers.specs.declared.producers.ProducerField.{ProducerField as HeldField}

abbrev pub field_seen : HeldField → ProducerField
field_seen f = record { name = string_bytes f.name; values = values_seen f.values }

abbrev pub fields_seen : List HeldField → List ProducerField
fields_seen fs = map field_seen fs

abbrev pub field_name : ProducerField → List ℕ
field_name field = field.name
