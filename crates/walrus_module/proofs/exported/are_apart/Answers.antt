use Rattle.walrus_module.proofs.NamesApart.{apart}
use Rattle.walrus_module.proofs.exported.are_apart.Goals as goal

pub returns : goal.returns
returns c =
    apart _ _ _ c.has_neighbours_alike.result c.sort_unstable.ensures.permutation c.sort_unstable.ensures.sorted
    c.as_slice.ensures.value c.has_neighbours_alike.ensures
