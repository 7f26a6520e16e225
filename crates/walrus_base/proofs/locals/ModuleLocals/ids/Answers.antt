use Rattle.std.proofs.Common.{◌≡◌, ◌++◌, map, length, ap, arith}
use Rattle.walrus_base.specs.Id.{place}
use Rattle.walrus_base.specs.Locals.{locals}
use Rattle.walrus_base.specs.TypeDef.{places_between}
use Rattle.walrus_base.proofs.Entries.{all_live}
use Rattle.walrus_base.proofs.FullSlots.{full_ids}
use Rattle.walrus_base.proofs.Places.{next_id_step}
use Rattle.walrus_base.proofs.locals.ModuleLocals.ids.Goals as goal

pub loop-place-init : goal.loop-place-init
loop-place-init c = ap (λ xs. map (λ x. place x) xs ++ places_between 0 c.len-place-end.result) c.in_ok-ids.ensures.items

pub loop-place-preserved : goal.loop-place-preserved
loop-place-preserved c =
    next_id_step c.loop-place.ids.items c.push.new.self.items c.at.result c.loop-place.place c.len-place-end.result (places_between 0 c.len-place-end.result) c.loop-place-test.true c.at.ensures c.in_ok-push.ensures.items c.loop-place.invariant

pub returns-clause-value : goal.returns-clause-value
returns-clause-value c =
    let all : c.len-place-end.result ≡ length c.args.self.now.places.items = omega (arith, c.len-place-end.ensures, c.args.self.now.places.ok.0) in
    full_ids c.loop-place.ids.items c.args.self.now.places.items c.loop-place.place c.len-place-end.result c.loop-place-test.false all c.loop-place.invariant

pub returns-clause-live : goal.returns-clause-live
returns-clause-live c =
    let all : c.len-place-end.result ≡ length c.args.self.now.places.items = omega (arith, c.len-place-end.ensures, c.args.self.now.places.ok.0) in
    all_live (locals c.args.self.now) c.loop-place.ids.items
    (full_ids c.loop-place.ids.items c.args.self.now.places.items c.loop-place.place c.len-place-end.result c.loop-place-test.false all c.loop-place.invariant)
