-- What a caller asks of a module that is read and written, as the flags of a configuration.
use Rattle.walrus_model.specs.Config.{Config}
use Rattle.walrus_module.specs.Flags.{config_of, defaults, with_choices}
use Rattle.walrus.specs.declared.wanted.Wanted.{Wanted}

-- the configuration that the defaults with what is asked for come to
abbrev pub config_wanted : Wanted → Config
config_wanted w = config_of (with_choices w.names w.producers w.legacy defaults)
