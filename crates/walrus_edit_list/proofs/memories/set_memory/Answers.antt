use Rattle.std.proofs.Common.{refl, rules}
use Rattle.walrus_base.specs.Arena.{IsLive}
use Rattle.walrus_base.specs.Id.{place}
use Rattle.walrus_items.specs.Memories.{memories}
use Rattle.walrus_edit_list.specs.Memories.{of_size}
use Rattle.walrus_edit_list.proofs.SegmentSets.{set_so, stood}
use Rattle.walrus_edit_list.proofs.memories.set_memory.Goals as goal

pub returns : goal.returns
returns g c =
    let old = memories c.args.module.now.memories in
    let live : IsLive old (place c.at-id.result) = search rules in
    let was = stood old (place c.at-id.result) c.args.number c.at-id.ensures live in
    record {
      was = was.0;
      there = was.1;
      set = set_so (of_size c.args.size) old (memories c.resize.new.all) (place c.at-id.result) c.args.number was.0 c.at-id.ensures was.1 c.resize.ensures;
      only = refl;
    }
