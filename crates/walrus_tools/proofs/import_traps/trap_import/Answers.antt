use Rattle.std.proofs.Common.{rules}
use Rattle.walrus_tools.specs.StubAnswers.{PutsTrap}
use Rattle.walrus_tools.proofs.Closures.{import_in}
use Rattle.walrus_tools.proofs.import_traps.trap_import.Goals as goal

pub returns : goal.returns
returns g c = import_in _ PutsTrap c.args.at c.args.module.now _ c.replace_import.result c.replace_import.ensures (λ shown given answer left h. search rules)
