use Rattle.std.proofs.Common.{ap₂, refl}
use Rattle.walrus_items.specs.Elements.{elements}
use Rattle.walrus_model.specs.Abstract.{Element}
use Rattle.walrus_reading.specs.Held.{HoldsElement}
use Rattle.walrus_reading.proofs.Rows.{adds_one}
use Rattle.walrus_reading.proofs.elements.add_segment.Goals as goal

pub returns-clause-added : goal.returns-clause-added
returns-clause-added c =
    adds_one HoldsElement _ _ (elements c.args.all.now) (elements c.add.new.self) c.in_ok-add.ensures.1
    (record {
      value = _;
      is = refl;
      own_id = c.in_ok-add.ensures.0;
      read = ap₂ (λ kind items. let made : Element = record { kind = kind; items = items } in made) c.in_ok-kind.ensures.value c.in_ok-held.ensures.value;
      short = c.in_ok-kind.ensures.short;
      short_items = c.in_ok-held.ensures.short;
      unnamed = refl;
    })
