use Rattle.std.proofs.Common.{map, ap, arith}
use Rattle.std.proofs.lemmas.List.{drop_all, drop_more}
use Rattle.walrus_base.specs.Id.{place}
use Rattle.walrus_code.specs.Indices.{index_of}
use Rattle.walrus_writing.proofs.ElementRecords.{functions_all, functions_begin, functions_lack, functions_next}
use Rattle.walrus_writing.proofs.elements.function_indices.Goals as goal

pub loop-id-init : goal.loop-id-init
loop-id-init c = functions_begin (index_of c.args.indices.now) (map place c.args.ids.now) _ c.in_ok-raw.ensures.items

pub loop-id-preserved : goal.loop-id-preserved
loop-id-preserved c =
    functions_next (index_of c.args.indices.now) (map place c.args.ids.now) _ _ _ (ap (map place) (drop_more c.args.ids.now c.loop-id.id-index _ c.loop-id-test.true)) c.loop-id.raw.items _ _ c.in-Some.ensures.same c.in-Some.ensures.stands c.in_ok-push.ensures.items c.loop-id.invariant

pub returns-in_default : goal.returns-in_default
returns-in_default c =
    functions_lack (index_of c.args.indices.now) (map place c.args.ids.now) _ _ _ (ap (map place) (drop_more c.args.ids.now c.loop-id.id-index _ c.loop-id-test.true)) c.loop-id.raw.items c.in_default.ensures.same c.loop-id.invariant

pub returns : goal.returns
returns c =
    functions_all (index_of c.args.indices.now) (map place c.args.ids.now) _ c.loop-id.raw.items (ap (map place) (drop_all c.loop-id.id-index c.args.ids.now (omega (arith, c.loop-id-test.false)))) c.loop-id.invariant
