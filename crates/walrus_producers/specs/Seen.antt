-- What a contract sees of the producers of a module in memory.
use Rattle.std.specs.Prelude.{ℕ, List, Result, MatchResult, ◌≡◌}
use Rattle.walrus_producers.specs.Producers.{ProducerField, with_field}
pub use Rattle.walrus_producers.specs.Fields.{field_seen, fields_seen}
pub use Rattle.walrus_producers.specs.Values.{value_seen, values_seen, pair_value}
use Rattle.walrus_producers.specs.declared.producers.ModuleProducers.{ModuleProducers}

-- the fields of a module, in order
abbrev pub producers : ModuleProducers → List ProducerField
producers all = fields_seen all.fields

-- A value of this name and version is put into the field of this name. Where that was refused, nothing changed.
abbrev pub Adds : {E : Type 0} → (field name version : List ℕ) → Result Unit E → (old new : ModuleProducers) → Type 0
Adds field name version result old new = MatchResult result
    (λ _. producers new ≡ with_field field (record { name = name; version = version }) (producers old))
    (λ _. producers new ≡ producers old)
