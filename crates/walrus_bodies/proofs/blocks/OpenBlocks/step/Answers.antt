use Rattle.std.proofs.Common.{map, sym, ◌∙◌, ap}
use Rattle.walrus_code.specs.Code.{arg_of}
use Rattle.walrus_bodies.specs.OpenBlocks.{opened}
use Rattle.walrus_bodies.specs.Blocks.{labels_below}
use Rattle.walrus_bodies.proofs.BlockLemmas.{after_closed, after_far, after_near}
use Rattle.walrus_bodies.proofs.blocks.OpenBlocks.step.Goals as goal
use Rattle.walrus_bodies.proofs.blocks.OpenBlocks.step.Goals.{then-is_closed-via-then-is_closed, then-is_closed-via-else-is_closed+then-not-labels_below}

pub returns-then-is_closed : goal.returns-then-is_closed
returns-then-is_closed c =
    elim c.then-is_closed.branch [
      | then-is_closed-via-then-is_closed w ↦ after_closed c.args.op (map arg_of c.args.args.now) (opened c.args.self.now) (cc)
      | then-is_closed-via-else-is_closed+then-not-labels_below w ↦
          after_far c.args.op (map arg_of c.args.args.now) (opened c.args.self.now) (cc)
          (ap (λ n. labels_below n (map arg_of c.args.args.now)) (sym w.meant.ensures) ∙ (cc))
    ]

pub returns : goal.returns
returns c =
    rw (after_near c.args.op (map arg_of c.args.args.now) (opened c.args.self.now) (cc)
    (ap (λ n. labels_below n (map arg_of c.args.args.now)) (sym c.meant.ensures) ∙ (cc)))
    c.turn.ensures
