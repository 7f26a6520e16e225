use Rattle.std.proofs.Common.{rules}
use Rattle.walrus_tools.specs.StubAnswers.{PutsTrap}
use Rattle.walrus_tools.proofs.Closures.{exported_in}
use Rattle.walrus_examples.proofs.examples.snip_export.trap_export.Goals as goal

pub returns : goal.returns
returns g c = exported_in _ PutsTrap c.args.id c.args.module.now _ c.replace_exported_func.result c.replace_exported_func.ensures (λ shown given answer left h. search rules)
