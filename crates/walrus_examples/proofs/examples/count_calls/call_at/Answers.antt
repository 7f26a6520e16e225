use Rattle.walrus.specs.Base.Id.{place}
use Rattle.walrus_examples.proofs.CountTurn.{call_put}
use Rattle.walrus_examples.proofs.examples.count_calls.call_at.Goals as goal

pub returns : goal.returns
returns c = call_put (place c.args.called) c.args.all.now.arena.places.items (place c.args.at) c.get_mut.result.now c.call_first.new.kind c.get_mut.ensures.value c.in_ok-call_first.ensures
