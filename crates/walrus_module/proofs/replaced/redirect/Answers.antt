use Rattle.std.proofs.Common.{refl}
use Rattle.walrus_base.specs.Id.{place}
use Rattle.walrus_items.specs.Exports.{export_value}
use Rattle.walrus_module.specs.Replaced.{naming}
use Rattle.walrus_module.proofs.ReplacedLemmas.{put_seen}
use Rattle.walrus_module.proofs.replaced.redirect.Goals as goal

pub returns : goal.returns
returns c =
    put_seen export_value (naming c.args.id) c.args.all.now.arena.places.items (place c.args.at) _ (export_value c.get_mut.result.now) c.get_mut.ensures.value refl
