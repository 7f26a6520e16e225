use Rattle.std.proofs.Common.{ℕ, refl}
use Rattle.walrus_items.specs.Exports.{ExportValue, exports, is_named}
use Rattle.walrus_base.proofs.SearchFound.{is_found}
use Rattle.walrus_items.proofs.exports.«Items+ExportKey+Export».remove.Goals as goal

pub delete-requires : goal.delete-requires
delete-requires c =
    let found = is_found (λ (e : ℕ × ExportValue). is_named c.args.name.now e.1) (exports c.args.self.now) _ c.in-Some.ensures in
    rw found.item refl
