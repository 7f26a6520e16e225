use Rattle.std.proofs.Common.{refl, string_bytes}
use Rattle.std.proofs.lemmas.Bool.{iff_false}
use Rattle.walrus_base.specs.Id.{place}
use Rattle.walrus_items.specs.Data.{data_segments, data_value}
use Rattle.walrus_reading.specs.Shown.{mend_data}
use Rattle.walrus_reading.proofs.Put.{none_put, put_back}
use Rattle.walrus_reading.proofs.renaming.name_data.Goals as goal

pub returns-then-contains : goal.returns-then-contains
returns-then-contains c =
    put_back mend_data (λ x. refl) data_value c.args.all.now.arena.places.items (place c.at-id.result) c.args.place (string_bytes c.args.name) _ (data_value c.get_mut.result.now) c.at-id.ensures c.get_mut.ensures.value refl

pub returns-else-contains : goal.returns-else-contains
returns-else-contains c = none_put mend_data (λ x. refl) (data_segments c.args.all.now) (place c.at-id.result) c.args.place (string_bytes c.args.name) c.at-id.ensures (iff_false c.contains.ensures c.if-contains.false)
