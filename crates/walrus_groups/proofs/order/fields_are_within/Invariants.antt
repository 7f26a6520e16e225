use Rattle.std.proofs.Common.{◌≡◌, map, drop}
use Rattle.walrus_base.specs.Composite.{field_type}
use Rattle.walrus_groups.specs.Ordered.{fields_within}
use Rattle.walrus_groups.proofs.order.fields_are_within.Given as goal

abbrev pub invariant-loop-field : goal.invariant-loop-field
invariant-loop-field l = fields_within l.last (map field_type l.fields) ≡ fields_within l.last (map field_type (drop l.field-index l.fields))
