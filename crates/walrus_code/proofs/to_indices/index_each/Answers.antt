use Rattle.std.proofs.lemmas.List.Elements.{All-push}
use Rattle.walrus_code.specs.Code.{arg_of}
use Rattle.walrus_code.specs.FromRaw as from_raw
use Rattle.walrus_code.specs.Indices.{index_of, local_index}
use Rattle.walrus_code.specs.Stands.{ArgStands}
use Rattle.walrus_code.proofs.Arguments.{advanced, exact_behind}
use Rattle.walrus_code.proofs.to_indices.index_each.Goals as goal

pub loop-arg-preserved : goal.loop-arg-preserved
loop-arg-preserved c = (
  advanced (index_of c.args.indices.now) (local_index c.args.locals.now) arg_of from_raw.arg_of c.args.args.now c.loop-arg.arg-index _ c.loop-arg.raw.items c.push.new.self.items c.in_ok-index_arg.field-0 _ c.loop-arg-test.true c.in_ok-push.ensures.items c.in_ok-index_arg.ensures.indexed.0 c.loop-arg.invariant.0,
  exact_behind arg_of c.args.args.now c.loop-arg.arg-index _ _ c.loop-arg-test.true c.in_ok-index_arg.ensures.indexed.1 c.loop-arg.invariant.1,
  rw c.in_ok-push.ensures.items (All-push ArgStands c.loop-arg.raw.items c.in_ok-index_arg.field-0 c.loop-arg.invariant.2 c.in_ok-index_arg.ensures.spelled),
)
