use Rattle.walrus_module.specs.Flags.{flags}
use Rattle.walrus.proofs.WholeLemmas.{whole_answer}
use Rattle.walrus.proofs.law.written_as_parsed.Goals as goal

pub returns : goal.returns
returns g c =
    let read = c.in_ok-module in
    whole_answer _ (flags c.args.config.now) c.args.bytes.now read.module _ c.emit_wasm.result read.ensures.found read.ensures.configured read.ensures.kept c.emit_wasm.ensures
