use Rattle.std.proofs.lemmas.Bool.{false≢true}
use Rattle.walrus_module.proofs.RawLemmas.{raw-live, raw-named, raw-found}
use Rattle.walrus_module.proofs.customs.ModuleCustomSections.remove_raw.Goals as goal

pub delete-requires : goal.delete-requires
delete-requires g c = raw-live _ _ _ c.in_ok-id.ensures

pub unreachable-requires : goal.unreachable-requires
unreachable-requires g c =
    let named = raw-named _ _ _ c.in_ok-id.ensures _ c.delete.ensures.item in
    false≢true (rw c.in-Boxed.is at named)

pub returns-clause-value : goal.returns-clause-value
returns-clause-value g c = raw-found _ _ _ c.in_ok-id.ensures _ (rw c.in-Raw.is at c.delete.ensures.item)
