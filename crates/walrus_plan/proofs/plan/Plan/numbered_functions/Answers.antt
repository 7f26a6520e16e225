use Rattle.std.proofs.Common.{length, map, subst, sym, ◌∙◌, ap, arith}
use Rattle.std.specs.Prelude.{nat_eq}
use Rattle.std.specs.List.{IsDistinct}
use Rattle.std.proofs.lemmas.List.{length-map}
use Rattle.walrus_base.specs.Id.{place}
use Rattle.walrus_code.specs.Indices.{NumbersAlong}
use Rattle.walrus_plan.proofs.plan.Plan.numbered_functions.Goals as goal

pub along-requires : goal.along-requires
along-requires c =
    let same = ap (map place) c.as_slice.ensures.value ∙ c.in_ok-ids.ensures.value in
    record {
      distinct = subst (IsDistinct nat_eq) (sym same) c.requires.distinct;
      room = omega (arith, c.requires.few, ap length same, length-map c.as_slice.result.now place);
    }

pub returns-clause-value : goal.returns-clause-value
returns-clause-value c =
    subst (NumbersAlong c.in_ok-numbers.numbers) (ap (map place) c.as_slice.ensures.value ∙ c.in_ok-ids.ensures.value) c.in_ok-numbers.ensures
