-- What a module is to be written with.
use Rattle.walrus_module.specs.Flags.{Flags, flags_of}
use Rattle.walrus_module.specs.declared.module.Module.{Module}

module _ {S : Type 0} where
  -- the flags of the configuration that it was made with
  abbrev pub settings : Module S → Flags
  settings m = flags_of m.switches
