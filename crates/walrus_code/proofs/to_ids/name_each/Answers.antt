use Rattle.std.proofs.Common.{map, sym}
use Rattle.walrus_code.specs.Code.{arg_of}
use Rattle.walrus_code.specs.FromRaw as from_raw
use Rattle.walrus_code.specs.Indices.{ids_at}
use Rattle.walrus_code.specs.Results.{locals_at}
use Rattle.walrus_code.proofs.Arguments.{begun, advanced, missing, ended}
use Rattle.walrus_code.proofs.to_ids.name_each.Goals as goal

pub loop-arg-init : goal.loop-arg-init
loop-arg-init c = begun arg_of c.in_ok-found.found.items _ c.in_ok-found.ensures.items

pub returns-in_default : goal.returns-in_default
returns-in_default c = missing (ids_at c.args.indices.now) (locals_at c.args.locals.now) from_raw.arg_of arg_of c.args.args.now c.loop-arg.arg-index _ (map arg_of c.loop-arg.found.items) _ c.loop-arg-test.true (sym c.in_default.ensures) c.loop-arg.invariant

pub loop-arg-preserved : goal.loop-arg-preserved
loop-arg-preserved c = advanced (ids_at c.args.indices.now) (locals_at c.args.locals.now) from_raw.arg_of arg_of c.args.args.now c.loop-arg.arg-index _ c.loop-arg.found.items c.push.new.self.items c.in-Some.named _ c.loop-arg-test.true c.in_ok-push.ensures.items (sym c.in-Some.ensures) c.loop-arg.invariant

pub returns : goal.returns
returns c = ended (ids_at c.args.indices.now) (locals_at c.args.locals.now) from_raw.arg_of arg_of c.args.args.now c.loop-arg.arg-index (map arg_of c.loop-arg.found.items) _ c.loop-arg-test.false c.loop-arg.invariant
