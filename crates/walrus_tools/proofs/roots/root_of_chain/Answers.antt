use Rattle.std.proofs.Common.{List, Option, ap, subst, sym, ◌∙◌}
use Rattle.std.specs.Global.{Vec}
use Rattle.std.specs.Prelude.{option_map, slice_get}
use Rattle.walrus.specs.Code.ItemId.{ItemId}
use Rattle.walrus.specs.Contents.Named.{items_in}
use Rattle.walrus.specs.Contents.View.{parts_view}
use Rattle.walrus_tools.specs.RootSteps.{FindsChainRoot}
use Rattle.walrus_tools.proofs.RootLemmas.{chain_found}
use Rattle.walrus_tools.proofs.roots.root_of_chain.Goals as goal

pub returns : goal.returns
returns c =
    let v = parts_view c.args.parts in
    subst (λ (o : Option (Vec ItemId)). FindsChainRoot v (option_map items_in o) c.root_of.result) (sym c.in-Some.is)
    (chain_found v c.in-Some.items.items c.in_ok-first.field-0.now c.root_of.result (c.in_ok-first.ensures.value ∙ ap (λ (ids : List ItemId). slice_get ids 0) c.deref.ensures.value) c.root_of.ensures)
