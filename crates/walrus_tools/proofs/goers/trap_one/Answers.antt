use Rattle.walrus.specs.Base.Id.{place}
use Rattle.walrus_tools.proofs.TradeLemmas.{trade_told}
use Rattle.walrus_tools.proofs.goers.trap_one.Goals as goal

pub returns : goal.returns
returns g c = trade_told c.args.module.now (place c.args.id) c.get_mut.result.now c.trade_body.new.kind c.get_mut.ensures.value c.trade_body.result c.trade_body.ensures
