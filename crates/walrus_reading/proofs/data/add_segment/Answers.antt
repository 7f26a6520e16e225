use Rattle.std.proofs.Common.{ap₂, refl}
use Rattle.walrus_items.specs.Data.{data_segments}
use Rattle.walrus_model.specs.Abstract.{DataSegment}
use Rattle.walrus_reading.specs.Held.{HoldsData}
use Rattle.walrus_reading.proofs.Rows.{adds_one}
use Rattle.walrus_reading.proofs.data.add_segment.Goals as goal

pub returns-clause-added : goal.returns-clause-added
returns-clause-added c =
    adds_one HoldsData _ _ (data_segments c.args.all.now) (data_segments c.add.new.self) c.in_ok-add.ensures.1
    (record {
      value = _;
      is = refl;
      own_id = c.in_ok-add.ensures.0;
      read = ap₂ (λ kind bytes. let made : DataSegment = record { kind = kind; value = bytes } in made) c.in_ok-kind.ensures.value (c.in_ok-value.ensures.items_if_clones_equal (λ x y same. same));
      short = c.in_ok-kind.ensures.short;
      unnamed = refl;
    })
