use Rattle.std.proofs.Common.{length, ap, sym, ◌∙◌, arith}
use Rattle.walrus_base.specs.Arena.{kept_by}
use Rattle.walrus_base.specs.Marks.{is_marked}
use Rattle.walrus_base.proofs.Kept.{kept_turn, kept_all}
use Rattle.walrus_base.proofs.arena.keep_marked.Goals as goal

pub loop-place-preserved : goal.loop-place-preserved
loop-place-preserved g c =
    let keeps = is_marked c.args.marks.now in
    let old = c.args.places.now.items in
    kept_turn keeps c.loop-place.place c.is_marked.result c.loop-place.places.items c.empty_unless.new.places.items (kept_by keeps old) (length old)
    (c.is_marked.ensures ∙ ap keeps c.at.ensures) c.empty_unless.ensures c.loop-place.invariant

pub returns : goal.returns
returns g c =
    sym (kept_all (is_marked c.args.marks.now) c.loop-place.place c.loop-place.places.items (omega (arith, c.loop-place-test.false, c.loop-place.auto.place-end, c.len-place-end.ensures, c.args.places.now.ok.0, c.loop-place.invariant.0))) ∙ c.loop-place.invariant.1
