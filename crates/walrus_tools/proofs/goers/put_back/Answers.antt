use Rattle.walrus.specs.Base.Id.{place}
use Rattle.walrus_tools.proofs.TradeLemmas.{body_put}
use Rattle.walrus_tools.proofs.goers.put_back.Goals as goal

pub returns : goal.returns
returns g c = body_put c.args.module.now (place c.args.id) c.get_mut.result.now c.args.body c.get_mut.ensures.value
