use Rattle.std.proofs.Common.{ℕ, subst}
use Rattle.std.specs.Global.{Vec}
use Rattle.walrus.specs.Modules.Flags.{Flags, config_of}
use Rattle.walrus.specs.Headline.{RunsOn}
use Rattle.walrus_tools.proofs.tool.gc.gc.Goals as goal

pub returns : goal.returns
returns c =
    subst (λ (f : Flags). RunsOn (config_of f) c.args.bytes.now (λ (output : Vec ℕ). output.items) c.smaller_of.result)
    c.of_choices-config.ensures.value c.smaller_of.ensures
