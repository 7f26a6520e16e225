use Rattle.std.proofs.Common.{ap}
use Rattle.walrus_base.specs.Id.{place}
use Rattle.walrus_contents.specs.View.{data_kind_of}
use Rattle.walrus_items.specs.Memories.{memories}
use Rattle.walrus_reading.proofs.KeptSegments.{passive_kept}
use Rattle.walrus_reading.proofs.data.keep_active.Goals as goal

pub returns-in-Passive-clause-kept : goal.returns-in-Passive-clause-kept
returns-in-Passive-clause-kept c = passive_kept (data_kind_of c.args.kind.now) (place c.args.segment) 0 (memories c.args.all.now) (ap data_kind_of c.in-Passive.is)
