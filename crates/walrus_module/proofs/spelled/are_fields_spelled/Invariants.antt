use Rattle.std.specs.Prelude.{◌≡◌, drop, map}
use Rattle.std.specs.List.{list_all}
use Rattle.walrus_module.specs.Tested.{field_is_spelled}
use Rattle.walrus_base.specs.Composite.{field_type}
use Rattle.walrus_module.proofs.spelled.are_fields_spelled.Given as goal

-- bytes spell each so far: whether they spell all shows in those that are still to come
abbrev pub invariant-loop-field : goal.invariant-loop-field
invariant-loop-field l = list_all field_is_spelled (map field_type l.fields) ≡ list_all field_is_spelled (map field_type (drop l.field-index l.fields))
