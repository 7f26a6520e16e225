use Rattle.std.proofs.Common.{ℕ, refl}
use Rattle.walrus_items.specs.Imports.{ImportValue, imports, is_import_of}
use Rattle.walrus_base.proofs.SearchFound.{is_found}
use Rattle.walrus_items.proofs.imports.«Items+ImportKey+Import».remove.Goals as goal

pub delete-requires : goal.delete-requires
delete-requires c =
    let found = is_found (λ (e : ℕ × ImportValue). is_import_of c.args.«module».now c.args.name.now e.1) (imports c.args.self.now) _ c.in-Some.ensures in
    rw found.item refl
