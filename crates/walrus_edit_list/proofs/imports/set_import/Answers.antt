use Rattle.std.proofs.Common.{List, ap₂}
use Rattle.std.specs.Prelude.{ℕ}
use Rattle.walrus_base.specs.Id.{place}
use Rattle.walrus_items.specs.Imports.{import_value}
use Rattle.walrus_edit_list.proofs.Places.{changed}
use Rattle.walrus_edit_list.proofs.imports.set_import.Goals as goal

pub returns : goal.returns
returns c =
    changed import_value (λ was. record was { module_name = c.args.from.now; name = c.args.name.now }) c.args.all.now.arena.places.items
    (place c.at-id.result) c.args.number _ (import_value c.get_mut-import.result.now) c.at-id.ensures c.get_mut-import.ensures.value
    (ap₂ (λ (m n : List ℕ). record (import_value c.get_mut-import.result.now) { module_name = m; name = n }) c.in_ok-from.ensures.ok c.in_ok-name.ensures.ok)
