use Rattle.walrus_module.proofs.NamesApart.{named_apart}
use Rattle.walrus_module.proofs.exported.are_exports_apart.Goals as goal

pub returns : goal.returns
returns c = named_apart _ _ c.are_apart.result c.in_ok-names.ensures c.are_apart.ensures
