use Rattle.std.proofs.Common.{refl}
use Rattle.std.specs.String.{string_bytes}
use Rattle.walrus_base.specs.Id.{place}
use Rattle.walrus_items.specs.Exports.{export_value}
use Rattle.walrus_edit_list.proofs.Places.{changed}
use Rattle.walrus_edit_list.proofs.exports.write_export.Goals as goal

pub returns : goal.returns
returns c =
    changed export_value (λ was. record was { name = string_bytes c.args.name; item = c.args.item }) c.args.all.now.arena.places.items
    (place c.args.id) (place c.args.id) _ (export_value c.get_mut-export.result.now) refl c.get_mut-export.ensures.value refl
