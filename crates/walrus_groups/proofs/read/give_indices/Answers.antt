use Rattle.std.proofs.Common.{length, sym, ap, ◌∙◌, arith}
use Rattle.std.specs.List.{range_with_len}
use Rattle.std.proofs.lemmas.Result.{err_from_is_err_and}
use Rattle.walrus_base.specs.Operators.{Types}
use Rattle.walrus_code.specs.Indices.{places_in}
use Rattle.walrus_base.proofs.Ranges.{place-in-range}
use Rattle.walrus_groups.proofs.GroupLemmas.{counted, known, refused-sooner}
use Rattle.walrus_groups.proofs.read.give_indices.Goals as goal

pub give_index-requires-clause-in_place : goal.give_index-requires-clause-in_place
give_index-requires-clause-in_place c = counted _ _ c.loop-id.invariant.in_place

pub give_index-requires-clause-behind : goal.give_index-requires-clause-behind
give_index-requires-clause-behind c =
    let n = length (places_in c.args.indices.now Types) in
    place-in-range c.args.ids.now n c.loop-id.id-index _ c.requires.behind c.loop-id-test.true ∙ sym (known _ _ c.loop-id.invariant.in_place)

pub loop-id-preserved : goal.loop-id-preserved
loop-id-preserved c =
    let long = known _ _ c.loop-id.invariant.in_place in
    record {
      in_place = c.in_ok-give_index.ensures.in_place ∙ ap (λ n. range_with_len 0 n) (omega (arith, long));
      only_types = λ other differs. c.in_ok-give_index.ensures.only_types other differs ∙ c.loop-id.invariant.only_types other differs;
    }

pub returns-in_err-give_index-clause-refused : goal.returns-in_err-give_index-clause-refused
returns-in_err-give_index-clause-refused c =
    let p = err_from_is_err_and c.from_residual.result c.from_residual.ensures.1 in
    let long = known _ _ c.loop-id.invariant.in_place in
    rw (p.1, p.2) (refused-sooner c.in_err-give_index.field-0.0 _ _ (λ many. omega (arith, many, long, c.loop-id-test.true)) c.in_err-give_index.ensures.refused)
