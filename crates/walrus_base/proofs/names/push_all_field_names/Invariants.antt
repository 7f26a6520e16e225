use Rattle.std.proofs.Common.{◌≡◌, ◌++◌, drop}
use Rattle.walrus_base.specs.Types.{field_heaps}
use Rattle.walrus_base.specs.Names.{places_in}
use Rattle.walrus_base.specs.Composite.{field_type}
use Rattle.walrus_base.proofs.RowNames.{row_names}
use Rattle.walrus_base.proofs.names.push_all_field_names.Given as goal

abbrev pub invariant-loop-field : goal.invariant-loop-field
invariant-loop-field l = places_in l.to ++ row_names field_type field_heaps (drop l.field-index l.fields) ≡ places_in l.fn.to ++ row_names field_type field_heaps l.fields
