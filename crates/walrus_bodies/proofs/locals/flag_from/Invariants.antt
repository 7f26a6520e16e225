use Rattle.std.proofs.Common.{◌≡◌, ◌≤◌, length}
use Rattle.walrus_bodies.proofs.FlagLemmas.{FlagsTo}
use Rattle.walrus_bodies.proofs.locals.flag_from.Given as goal

abbrev pub invariant-flags : goal.invariant-flags
invariant-flags l = FlagsTo l.fn.first l.index l.fn.flags.items l.flags.items × (length l.flags.items ≡ length l.fn.flags.items) × (l.fn.first ≤ l.index)
