use Rattle.std.proofs.Common.{subst}
use Rattle.walrus_module.specs.Flags.{Flags, flags}
use Rattle.walrus_module.specs.Located.{GivenBy, IsPlace}
use Rattle.walrus_module.specs.Parsing.{Parses}
use Rattle.walrus_module.proofs.module.Module.from_buffer.Goals as goal

pub returns : goal.returns
returns g c =
    let G = λ (i : g.dyn-1.0.I). (g.dyn-1.0.entry i).1 in
    subst (λ (f : Flags). Parses G f IsPlace c.args.bytes.now c.from_buffer_with_config.result) c.new.ensures.value
    (subst (λ hook. Parses G (flags c.new.result) (λ place loc. GivenBy hook place loc) c.args.bytes.now c.from_buffer_with_config.result) c.new.ensures.hook c.from_buffer_with_config.ensures)
