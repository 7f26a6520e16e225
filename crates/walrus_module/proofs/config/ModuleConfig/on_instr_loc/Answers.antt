use Rattle.std.proofs.Common.{refl}
use Rattle.walrus_module.proofs.config.ModuleConfig.on_instr_loc.Goals as goal

pub returns-clause-hook : goal.returns-clause-hook
returns-clause-hook g c = (_, (refl, refl))
