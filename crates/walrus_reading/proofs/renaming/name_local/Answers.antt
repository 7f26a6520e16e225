use Rattle.std.proofs.Common.{refl, string_bytes, map, ap, ◌∙◌}
use Rattle.std.proofs.lemmas.Bool.{iff_false}
use Rattle.std.specs.Prelude.{option_map}
use Rattle.walrus_base.proofs.FullSlots.{full_set}
use Rattle.walrus_base.specs.Id.{place}
use Rattle.walrus_base.specs.Locals.{locals}
use Rattle.walrus_reading.specs.Shown.{local_value, local_values, mend_local}
use Rattle.walrus_reading.proofs.Put.{none_put, put_back, seen_there}
use Rattle.walrus_reading.proofs.renaming.name_local.Goals as goal
use Rattle.walrus_base.proofs.SlotLemmas.{live_seen as live_under}

pub returns-then-contains : goal.returns-then-contains
returns-then-contains c =
    ap (map (option_map local_value)) (full_set c.args.all.now.places.items (place c.at-id.result) _)
    ∙ put_back mend_local (λ x. refl) local_value (locals c.args.all.now) (place c.at-id.result) c.args.place (string_bytes c.args.name) _ (local_value c.get_mut.result.now) c.at-id.ensures
    (seen_there local_value (locals c.args.all.now) (place c.at-id.result) c.get_mut.result.now c.get_mut.ensures.value) refl

pub returns-else-contains : goal.returns-else-contains
returns-else-contains c =
    none_put mend_local (λ x. refl) (local_values c.args.all.now) (place c.at-id.result) c.args.place (string_bytes c.args.name) c.at-id.ensures
    (λ live. iff_false c.contains.ensures c.if-contains.false (live_under local_value (locals c.args.all.now) (place c.at-id.result) live))
