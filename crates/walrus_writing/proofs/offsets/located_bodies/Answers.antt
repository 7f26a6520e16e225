use Rattle.std.proofs.Common.{◌+◌, map, subst, sym, take}
use Rattle.std.specs.List.{AllZip}
use Rattle.walrus_base.specs.Id.{place}
use Rattle.walrus_base.specs.declared.id.Id.{Id}
use Rattle.walrus_base.specs.declared.keys.FunctionKey.{FunctionKey}
use Rattle.walrus_code.specs.Indices.{index_of}
use Rattle.walrus_items.specs.Transform.{location_of}
use Rattle.walrus_writing.specs.Located.{AreOffsets}
use Rattle.walrus_writing.specs.Parts.{HasBytes}
use Rattle.walrus_writing.specs.declared.offsets.LocatedBody.{LocatedBody}
use Rattle.walrus_base.proofs.ZipTurns.{zip_turn}
use Rattle.walrus_writing.proofs.offsets.located_bodies.Goals as goal

pub order-preserved : goal.order-preserved
order-preserved c =
    let held = c.args.under.parts in
    let Written = λ (id : Id FunctionKey) (body : LocatedBody). HasBytes held (index_of c.args.under.indices.now) c.args.under.features.now (place id) body.bytes.items in
    let Located = λ (id : Id FunctionKey) (body : LocatedBody). AreOffsets held (place id) body.bytes.items (map location_of body.places.items) in
    let done = take (c.order.id-index + 1) c.args.order.now in
    record {
      written = subst (λ bs. AllZip Written done bs) (sym c.in_ok-push.ensures.items)
          (zip_turn Written c.args.order.now c.order.id-index _ c.order.bodies.items _ c.order-test.true c.order.invariant.written c.in_ok-one.ensures.value);
      located = subst (λ bs. AllZip Located done bs) (sym c.in_ok-push.ensures.items)
          (zip_turn Located c.args.order.now c.order.id-index _ c.order.bodies.items _ c.order-test.true c.order.invariant.located c.in_ok-one.ensures.located);
    }

pub one_body-requires : goal.one_body-requires
one_body-requires c = record { indexed = c.requires.indexed c.order.id-index _ c.order-test.true }
