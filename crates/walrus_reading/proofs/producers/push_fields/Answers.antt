use Rattle.walrus_producers.specs.Seen.{producers}
use Rattle.walrus_reading.proofs.ProducersHeld.{one_more_field}
use Rattle.walrus_reading.proofs.producers.push_fields.Goals as goal

pub fields-preserved : goal.fields-preserved
fields-preserved c =
    one_more_field c.args.fields.now c.fields.field-index _ c.field-item.result c.deref.result.now (producers c.args.made.now) (producers c.fields.made) (producers c.push_field.new.self) c.fields-test.true c.field-item.is c.deref.ensures.value
    c.fields.invariant c.in_ok-push_field.ensures
