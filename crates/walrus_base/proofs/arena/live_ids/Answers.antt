use Rattle.std.proofs.Common.{rules}
use Rattle.walrus_base.proofs.Entries.{all_live}
use Rattle.walrus_base.proofs.arena.live_ids.Goals as goal

pub returns-clause-live : goal.returns-clause-live
returns-clause-live g c = all_live c.args.places.now _ (search rules)
