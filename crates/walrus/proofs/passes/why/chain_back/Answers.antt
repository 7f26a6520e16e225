use Rattle.std.proofs.Common.{rules, ◌≡◌, ◌<◌, ◌≤◌, List, [], ◌∷◌, ◌++◌, map, reverse, sym, ap, ◌∙◌, arith}
use Rattle.std.specs.Prelude.{◌≢◌, vec_len}
use Rattle.std.proofs.lemmas.List.{map-append}
use Rattle.walrus_base.specs.Operators.{Item}
use Rattle.walrus_code.specs.Code.{item_of}
use Rattle.walrus_code.specs.declared.items.ItemId.{ItemId}
use Rattle.walrus_contents.specs.Named.{items_in}
use Rattle.walrus.specs.Traced.{item_in, place_in}
use Rattle.walrus.specs.Worklist.{entered_items}
use Rattle.walrus.proofs.ChainsBack.{back_begins, back_ends, back_goes, many_are, map-reverse, read_item, read_place}
use Rattle.walrus.proofs.passes.why.chain_back.Goals as goal

pub back-init : goal.back-init
back-init c =
    let list = c.args.traced.now.list in
    let there : c.args.place < vec_len list.entered = c.requires.there in
    let read : items_in c.push.new.self ≡ item_in (entered_items list) c.args.place ∷ [] =
    ap (λ (ids : List ItemId). map item_of ids) (c.in_ok-push.ensures.items ∙ ap (λ (ids : List ItemId). ids ++ c.index.result.now ∷ []) c.new-chain.ensures.items)
    ∙ ap (λ (y : Item). y ∷ []) (read_item list c.args.place there c.index.result.now c.index.ensures) in
    (there, λ v t. back_begins v (entered_items list) c.args.place (omega (arith, there, many_are list)) (items_in c.push.new.self) read)

pub back-preserved : goal.back-preserved
back-preserved c =
    let list = c.args.traced.now.list in
    let namers = c.args.traced.now.namers in
    let at = c.back.at in
    let p = c.index-at.result.now in
    let within : at < vec_len list.entered = c.back.invariant.0 in
    let counted : vec_len namers ≡ vec_len list.entered = c.requires.counted in
    let named : p ≡ place_in namers.items at = read_place namers at (omega (arith, within, counted)) p c.index-at.ensures in
    let tested : c.index-in-back.result.now ≡ place_in namers.items at = read_place namers at (omega (arith, within, counted)) c.index-in-back.result.now c.index-in-back.ensures in
    let moves : c.index-in-back.result.now ≢ at = search rules in
    let other : p ≢ at = λ e. moves (tested ∙ sym named ∙ e) in
    let back : place_in namers.items at ≤ at = c.requires.points at (omega (arith, within, counted, namers.ok.0)) in
    let there : p < vec_len list.entered = omega (arith, named, back, within) in
    let more : items_in c.push-in-back.new.self ≡ items_in c.back.chain ++ item_in (entered_items list) p ∷ [] =
    ap (λ (ids : List ItemId). map item_of ids) c.in_ok-push-2.ensures.items
    ∙ map-append item_of c.back.chain.items (c.index-in-back-2.result.now ∷ [])
    ∙ ap (λ (y : Item). items_in c.back.chain ++ y ∷ []) (read_item list p there c.index-in-back-2.result.now c.index-in-back-2.ensures) in (
      there,
      λ v t. back_goes v (entered_items list) namers.items t list.once (items_in c.back.chain) at (omega (arith, within, many_are list)) (item_in (entered_items list) c.args.place) (c.back.invariant.1 v t)
          p named other (items_in c.push-in-back.new.self) more,
    )

pub returns : goal.returns
returns c =
    let list = c.args.traced.now.list in
    let namers = c.args.traced.now.namers in
    let at = c.back.at in
    let within : at < vec_len list.entered = c.back.invariant.0 in
    let counted : vec_len namers ≡ vec_len list.entered = c.requires.counted in
    let tested : c.index-in-back.result.now ≡ place_in namers.items at = read_place namers at (omega (arith, within, counted)) c.index-in-back.result.now c.index-in-back.ensures in
    let stays : c.index-in-back.result.now ≡ at = search rules in
    let read : items_in c.reverse.new.self ≡ reverse (items_in c.back.chain) = ap (λ (ids : List ItemId). map item_of ids) c.reverse.ensures.items ∙ map-reverse item_of c.back.chain.items in
    λ v t. back_ends v (entered_items list) namers.items t list.once (items_in c.back.chain) at (omega (arith, within, many_are list)) (item_in (entered_items list) c.args.place) (c.back.invariant.1 v t)
    (sym tested ∙ stays) (items_in c.reverse.new.self) read
