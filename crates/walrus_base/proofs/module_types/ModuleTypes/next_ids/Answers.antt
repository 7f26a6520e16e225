use Rattle.std.proofs.Common.{◌≡◌, ◌+◌, ◌++◌, map, length, ap, arith}
use Rattle.std.proofs.lemmas.List.{length-map}
use Rattle.walrus_base.specs.Id.{place}
use Rattle.walrus_base.specs.ModuleTypes.{type_slots}
use Rattle.walrus_base.specs.TypeDef.{places_between}
use Rattle.walrus_base.proofs.Places.{next_id_step, next_ids_done}
use Rattle.walrus_base.proofs.module_types.ModuleTypes.next_ids.Goals as goal

pub loop-place-init : goal.loop-place-init
loop-place-init c = ap (λ xs. map (λ x. place x) xs ++ places_between c.len-first.result c.in-Some.end) c.in_ok-ids.ensures.items

pub loop-place-preserved : goal.loop-place-preserved
loop-place-preserved c =
    next_id_step c.loop-place.ids.items c.push.new.self.items c.at.result c.loop-place.place c.in-Some.end (places_between c.len-first.result c.in-Some.end) c.loop-place-test.true c.at.ensures c.in_ok-push.ensures.items c.loop-place.invariant

pub returns : goal.returns
returns c =
    let end : c.in-Some.end ≡ c.len-first.result + c.args.count = omega (arith, c.in-Some.ensures) in
    let all : c.len-first.result ≡ length (type_slots c.args.self.now) = rw length-map (omega (arith, c.len-first.ensures, c.args.self.now.places.ok.0)) in
    next_ids_done c.loop-place.ids.items c.len-first.result c.loop-place.place c.in-Some.end c.args.count (length (type_slots c.args.self.now)) c.loop-place-test.false end all c.loop-place.invariant
