use Rattle.std.proofs.Common.{refl}
use Rattle.walrus_items.specs.Memories.{memories}
use Rattle.walrus_reading.specs.Held.{HoldsMemory, none_kept}
use Rattle.walrus_reading.proofs.Rows.{adds_one}
use Rattle.walrus_reading.proofs.memories.add_memory.Goals as goal

pub returns-clause-added : goal.returns-clause-added
returns-clause-added c =
    adds_one (HoldsMemory none_kept) _ _ (memories c.args.all.now) (memories c.add_local.new.self) c.in_ok-add_local.ensures.1
    (record { value = _; is = refl; own_id = c.in_ok-add_local.ensures.0; read = refl; segments = λ d. refl; unnamed = refl })
