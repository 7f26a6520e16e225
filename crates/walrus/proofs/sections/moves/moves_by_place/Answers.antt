use Rattle.std.proofs.Common.{nat_eq, refl}
use Rattle.std.specs.HashMap.{get}
use Rattle.walrus.proofs.MoveLemmas.{turn}
use Rattle.walrus.proofs.sections.moves.moves_by_place.Goals as goal

pub moves-preserved : goal.moves-preserved
moves-preserved c = turn c.args.moves.now c.moves.entry-index _ _ (get nat_eq c.moves.places) (get nat_eq c.note_move.new.places) c.moves-test.true refl c.moves.invariant c.in_ok-note_move.ensures.value
