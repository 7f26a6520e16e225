use Rattle.std.proofs.Common.{◌≡◌, List, Some, None, sym, ap, ◌∙◌, subst}
use Rattle.std.specs.Prelude.{position}
use Rattle.walrus_base.specs.Operators.{Item}
use Rattle.walrus_code.specs.Code.{item_of}
use Rattle.walrus_code.specs.declared.items.ItemId.{ItemId}
use Rattle.walrus_contents.specs.Named.{items_in}
use Rattle.walrus.specs.Asked.{searched_view}
use Rattle.walrus.specs.Why.{IsChain}
use Rattle.walrus.proofs.ChainsBack.{is_x, stands_nowhere, stands_there}
use Rattle.walrus.proofs.passes.why.chain_in.Goals as goal

pub returns-in-Some : goal.returns-in-Some
returns-in-Some c =
    let x = item_of c.args.item in
    let traced = c.in_ok-traced.traced in
    let ids = traced.list.entered.items in
    let found : position (is_x x) ids ≡ Some c.in-Some.place = ap (λ (ys : List ItemId). position (is_x x) ys) (sym c.as_slice.ensures.value) ∙ sym c.place_of.ensures ∙ c.in-Some.is in
    subst (λ (y : Item). IsChain (searched_view c.args.searched) (items_in c.in_ok-chain_back-in-Some.field-0) y) (stands_there x ids c.in-Some.place c.args.item found).1
    (c.in_ok-chain_back-in-Some.ensures (searched_view c.args.searched) c.in_ok-traced.ensures.traces)

pub returns : goal.returns
returns c =
    let x = item_of c.args.item in
    let ids = c.in_ok-traced.traced.list.entered.items in
    let none : position (is_x x) ids ≡ None = ap (λ (ys : List ItemId). position (is_x x) ys) (sym c.as_slice.ensures.value) ∙ sym c.place_of.ensures ∙ c.in-None.is in
    λ reached. stands_nowhere x ids none (c.in_ok-traced.ensures.reached x reached)
