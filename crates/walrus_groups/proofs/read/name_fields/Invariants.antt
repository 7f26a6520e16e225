use Rattle.std.proofs.Common.{◌≡◌, map, drop}
use Rattle.walrus_base.specs.Composite.{field_type}
use Rattle.walrus_code.specs.Indices.{ids_at}
use Rattle.walrus_groups.specs.Groups.{field_of}
use Rattle.walrus_groups.specs.Named.{named_fields}
use Rattle.walrus_groups.proofs.Each.{behind}
use Rattle.walrus_groups.proofs.read.name_fields.Given as goal

-- what was found so far and what is left are what is found for all
abbrev pub invariant-loop-field : goal.invariant-loop-field
invariant-loop-field l = behind (map field_type l.fields.items) (named_fields (ids_at l.indices) (map field_of (drop l.field-index l.raw))) ≡ named_fields (ids_at l.indices) (map field_of l.raw)
