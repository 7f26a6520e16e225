use Rattle.walrus_sections.specs.Choice.{choices_seen}
use Rattle.walrus_sections.proofs.StripLemmas.{left_all, left_more, left_none}
use Rattle.walrus_sections.proofs.tool.strip.what_is_left.Goals as goal

pub loop-piece-init : goal.loop-piece-init
loop-piece-init c = left_none (choices_seen c.args.choices.now) c.new-output.result.items _ c.new-output.ensures.items c.in_ok-extend_from_slice.ensures.items

pub loop-piece-preserved : goal.loop-piece-preserved
loop-piece-preserved c =
    left_more (choices_seen c.args.choices.now) c.args.pieces.now c.loop-piece.piece-index _ c.loop-piece-test.true _ _ _ c.loop-piece.invariant c.left_of.ensures c.in_ok-extend_from_slice-2.ensures.items

pub returns : goal.returns
returns c = left_all (choices_seen c.args.choices.now) c.args.pieces.now c.loop-piece.piece-index _ c.loop-piece-test.false c.loop-piece.invariant
