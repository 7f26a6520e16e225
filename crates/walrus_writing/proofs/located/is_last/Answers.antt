use Rattle.std.proofs.Common.{◌∙◌, ◌+◌, length, sym}
use Rattle.std.proofs.lemmas.Bool.{eq-eqb}
use Rattle.walrus_writing.proofs.LocatedLoops.{last_at_end}
use Rattle.walrus_writing.proofs.located.is_last.Goals as goal

pub returns-then-next-sorted : goal.returns-then-next-sorted
returns-then-next-sorted c =
    eq-eqb (c.args.index + 1) (length c.args.sorted.now) c.if-next-sorted.true
    ∙ sym (last_at_end c.args.sorted.now c.args.index c.requires.within c.if-next-sorted.true)
