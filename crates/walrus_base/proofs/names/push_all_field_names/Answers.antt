use Rattle.std.proofs.Common.{◌++◌}
use Rattle.walrus_base.specs.Types.{field_heaps}
use Rattle.walrus_base.specs.Composite.{field_type}
use Rattle.walrus_base.specs.Names.{places_in}
use Rattle.walrus_base.proofs.RowNames.{row_names, row_step}
use Rattle.walrus_base.proofs.names.push_all_field_names.Goals as goal

pub loop-field-preserved : goal.loop-field-preserved
loop-field-preserved c =
    row_step field_type field_heaps c.args.fields.now c.loop-field.field-index _ (places_in c.loop-field.to) (places_in c.push_field_names.new.to) (places_in c.args.to.now ++ row_names field_type field_heaps c.args.fields.now)
    c.loop-field-test.true c.loop-field.invariant c.in_ok-push_field_names.ensures
