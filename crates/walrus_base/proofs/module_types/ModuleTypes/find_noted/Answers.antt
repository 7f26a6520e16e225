use Rattle.std.proofs.Common.{◌≢◌, Some, arith}
use Rattle.std.proofs.lemmas.Option.{slice_get-get_or}
use Rattle.walrus_base.specs.Arena.{item_at}
use Rattle.walrus_base.specs.Id.{place}
use Rattle.walrus_base.specs.declared.id.Id.{Id}
use Rattle.walrus_base.specs.declared.keys.TypeKey.{TypeKey}
use Rattle.walrus_base.specs.Alone.{alone}
use Rattle.walrus_base.specs.Composite.{function_type}
use Rattle.walrus_base.specs.ModuleTypes.{type_slots}
use Rattle.walrus_base.proofs.Indexed.{not_found, found_first, seen_more}
use Rattle.walrus_base.proofs.module_types.ModuleTypes.find_noted.Goals as goal

pub loop-id-preserved : goal.loop-id-preserved
loop-id-preserved c =
    let types = c.args.self.now in
    let f = function_type c.args.function.now in
    seen_more (λ (id : Id TypeKey). item_at (type_slots types) (place id) ≢ Some (alone (place id) f)) c.at-id-items.result.now c.loop-id.id-index _ c.loop-id.invariant
    (λ is. let there = c.is_alone_as.ensures.1 is in let not = c.if-is_alone_as.false in absurd cc)

pub returns-then-is_alone_as : goal.returns-then-is_alone_as
returns-then-is_alone_as c =
    let types = c.args.self.now in
    found_first types.index types.places.items c.at-id-items.result.now c.args.function.now c.loop-id.id-index types.noted _
    types.indexed types.in_order types.not_named c.at-id-items.ensures c.loop-id.invariant
    (slice_get-get_or c.at-id-items.result.now c.loop-id.id-index _ c.loop-id-test.true)
    (c.is_alone_as.ensures.0 c.if-is_alone_as.true)

pub returns : goal.returns
returns c =
    not_found c.args.self.now.index c.args.self.now.noted c.args.self.now.places.items c.at-id-items.result.now c.args.function.now c.args.self.now.indexed c.at-id-items.ensures
    (λ k id lt at. c.loop-id.invariant k id (let h = c.loop-id-test.false in omega (arith, h)) at)
