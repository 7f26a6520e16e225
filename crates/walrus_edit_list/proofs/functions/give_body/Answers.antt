use Rattle.std.proofs.Common.{refl}
use Rattle.walrus_base.specs.Id.{place}
use Rattle.walrus_items.specs.Functions.{function_value}
use Rattle.walrus_module.specs.Replaced.{with_body}
use Rattle.walrus_module.proofs.ReplacedLemmas.{put_seen}
use Rattle.walrus_edit_list.proofs.functions.give_body.Goals as goal

pub returns : goal.returns
returns c =
    put_seen function_value (with_body c.args.made) c.args.all.now.arena.places.items (place c.args.id) _ (function_value c.get_mut.result.now) c.get_mut.ensures.value refl
