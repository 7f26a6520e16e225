use Rattle.std.proofs.Common.{◌≡◌, ◌+◌, map, take, length, sym, ap, ◌∙◌, arith, length-take-le}
use Rattle.std.proofs.lemmas.List.{length-map}
use Rattle.walrus_base.specs.Id.{place}
use Rattle.walrus_code.proofs.Placing.{new_at}
use Rattle.walrus_base.proofs.Turns.{map_more}
use Rattle.walrus_functions.proofs.NumberedLemmas.{numbered-more}
use Rattle.walrus_functions.proofs.groups.number_locals.Goals as goal

pub push-requires-clause-is_new : goal.push-requires-clause-is_new
push-requires-clause-is_new c = c.loop-id.invariant.are _ ∙ new_at c.args.ids.now c.loop-id.id-index _ c.loop-id-test.true c.requires.distinct

pub loop-id-preserved : goal.loop-id-preserved
loop-id-preserved c =
    let i = c.loop-id.id-index in
    let done = map place (take i c.args.ids.now) in
    let none = new_at c.args.ids.now i _ c.loop-id-test.true c.requires.distinct in
    let long : length done ≡ i = length-map (take i c.args.ids.now) place ∙ length-take-le i c.args.ids.now (omega (arith, c.loop-id-test.true)) in
    record {
      count = c.in_ok-push.ensures.counted ∙ ap (λ n. n + 1) c.loop-id.invariant.count;
      are = numbered-more c.loop-id.numbers c.push.new.self done (map place (take (i + 1) c.args.ids.now)) _ (map_more place c.args.ids.now i _ c.loop-id-test.true) c.loop-id.invariant.are (c.loop-id.invariant.count ∙ sym long) none c.in_ok-push.ensures;
    }
