use Rattle.wasm_entries.specs.TypeSpelling.{FieldStands}
use Rattle.walrus_base.specs.Composite.{field_type}
use Rattle.walrus_groups.specs.Groups.{field_of}
use Rattle.walrus_code.specs.Indices.{index_of}
use Rattle.walrus_groups.specs.Named.{named_field}
use Rattle.walrus_groups.specs.Written.{field_is_exact}
use Rattle.walrus_groups.proofs.WrittenEach.{each-next}
use Rattle.walrus_groups.proofs.write.index_fields.Goals as goal

pub loop-field-preserved : goal.loop-field-preserved
loop-field-preserved c = each-next (named_field (index_of c.args.indices.now)) field_is_exact FieldStands field_type field_of c.args.fields.now c.loop-field.field-index _ c.loop-field.raw.items c.push.new.self.items _ c.loop-field-test.true c.in_ok-push.ensures.items c.in_ok-index_field.ensures.indexed c.in_ok-index_field.ensures.spelled c.loop-field.invariant
