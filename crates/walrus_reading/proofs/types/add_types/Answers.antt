use Rattle.walrus_base.specs.ModuleTypes.{type_slots}
use Rattle.walrus_base.specs.Operators.{Types}
use Rattle.walrus_reading.proofs.Numbered.{none_in_place}
use Rattle.walrus_reading.proofs.types.add_types.Goals as goal

pub read_types-requires : goal.read_types-requires
read_types-requires c = record { in_place = none_in_place c.args.indices.now (type_slots c.args.types.now) (c.requires.no_indices Types) c.requires.none }
