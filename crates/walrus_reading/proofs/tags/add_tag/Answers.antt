use Rattle.std.proofs.Common.{◌≡◌, ap, refl, ◌∙◌}
use Rattle.walrus_base.specs.Id.{place}
use Rattle.walrus_items.specs.Tags.{tags}
use Rattle.walrus_model.specs.Sections.{tag_of}
use Rattle.walrus_base.proofs.Taking.{some_same}
use Rattle.walrus_reading.specs.Held.{HoldsTag}
use Rattle.walrus_reading.proofs.Rows.{adds_one}
use Rattle.walrus_reading.proofs.tags.add_tag.Goals as goal

pub returns-clause-added : goal.returns-clause-added
returns-clause-added c =
    let own : place c.in-Some.id ≡ c.args.ty = some_same _ _ (c.in-Some.ensures ∙ c.requires.stays) in
    adds_one HoldsTag _ _ (tags c.args.all.now) (tags c.add.new.self) c.in_ok-add.ensures.1
    (record { value = _; is = refl; own_id = c.in_ok-add.ensures.0; read = ap tag_of own; unnamed = refl })
