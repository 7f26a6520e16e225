-- The flags of a configuration.
use Rattle.std.specs.Prelude.{Bool, true, false}
use Rattle.walrus_model.specs.Config.{Config}
use Rattle.walrus_theorem.specs.Features.{features_of}
use Rattle.walrus_writing.specs.declared.write.Choices.{Choices}
use Rattle.walrus_module.specs.declared.config.ModuleConfig.{ModuleConfig}
use Rattle.walrus_module.specs.declared.switches.Switches.{Switches}

pub record Flags : Type 0 where
  pub generate_dwarf : Bool
  pub generate_name_section : Bool
  pub generate_synthetic_names : Bool
  pub strict_validate : Bool
  pub generate_producers_section : Bool
  pub only_stable_features : Bool
  pub legacy_exceptions : Bool
  pub preserve_code_transform : Bool

abbrev pub flags_of : Switches → Flags
flags_of s = record {
  generate_dwarf = s.generate_dwarf;
  generate_name_section = s.generate_name_section;
  generate_synthetic_names = s.generate_synthetic_names;
  strict_validate = s.strict_validate;
  generate_producers_section = s.generate_producers_section;
  only_stable_features = s.only_stable_features;
  legacy_exceptions = s.legacy_exceptions;
  preserve_code_transform = s.preserve_code_transform;
}

-- what a configuration is set to
module _ {V : Type 0} {O : V → Type 0} {calls : _} where
  abbrev pub flags : ModuleConfig V O calls → Flags
  flags c = flags_of c.switches

-- names, producers, strict validation and legacy exceptions; nothing else
abbrev pub defaults : Flags
defaults = record {
  generate_dwarf = false;
  generate_name_section = true;
  generate_synthetic_names = false;
  strict_validate = true;
  generate_producers_section = true;
  only_stable_features = false;
  legacy_exceptions = true;
  preserve_code_transform = false;
}

-- these flags, with three that are chosen
abbrev pub with_choices : (names producers legacy : Bool) → Flags → Flags
with_choices names producers legacy f = record f { generate_name_section = names; generate_producers_section = producers; legacy_exceptions = legacy }

-- asking for debug information asks for the code transform too; asking for none leaves that flag
abbrev pub with_dwarf : Bool → Flags → Flags
with_dwarf true f = record f { generate_dwarf = true; preserve_code_transform = true }
with_dwarf false f = record f { generate_dwarf = false }

-- what the flags come to for reading and writing
abbrev pub config_of : Flags → Config
config_of f = record {
  writes_names = f.generate_name_section;
  synthetic_names = f.generate_synthetic_names;
  writes_producers = f.generate_producers_section;
  legacy_exceptions = f.legacy_exceptions;
  only_stable_features = f.only_stable_features;
}

-- what a module is written under by a configuration
abbrev pub choices_of : Config → Choices
choices_of c = record { features = features_of c; names = c.writes_names; producers = c.writes_producers }
