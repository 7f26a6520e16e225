use Rattle.std.proofs.Common.{◌≡◌, refl, subst, ⊎_elim}
use Rattle.walrus_code.specs.Location.{location, location_at}
use Rattle.walrus_module.specs.Flags.{config_of, flags}
use Rattle.walrus_module.specs.Located.{Gives, MayAnswer}
use Rattle.walrus_reading.proofs.LocatedOtherwise.{if_located_by}
use Rattle.walrus_module.proofs.config.ModuleConfig.read.Goals as goal

pub returns-in-Some-clause-found : goal.returns-in-Some-clause-found
returns-in-Some-clause-found g c = c.read.ensures.found (config_of (flags c.args.self.now)) (record { features_are = c.features-features.ensures; synthetic_are = refl })

pub returns-in-Some-clause-refused : goal.returns-in-Some-clause-refused
returns-in-Some-clause-refused g c = c.read.ensures.refused (config_of (flags c.args.self.now)) (record { features_are = c.features-features.ensures; synthetic_are = refl })

pub returns-in-Some-clause-located : goal.returns-in-Some-clause-located
returns-in-Some-clause-located g c =
    if_located_by (Gives c.args.self.now) c.args.bytes.now c.read.result c.read.ensures.located (λ place loc h. rw (c.in-Some.is) (subst (λ p. MayAnswer c.in-Some.hook p loc) h.shows h.says.met))

pub returns-in-None-clause-found : goal.returns-in-None-clause-found
returns-in-None-clause-found g c = c.read-in-None.ensures.found (config_of (flags c.args.self.now)) (record { features_are = c.features-features.ensures; synthetic_are = refl })

pub returns-in-None-clause-refused : goal.returns-in-None-clause-refused
returns-in-None-clause-refused g c = c.read-in-None.ensures.refused (config_of (flags c.args.self.now)) (record { features_are = c.features-features.ensures; synthetic_are = refl })

pub returns-in-None-clause-located : goal.returns-in-None-clause-located
returns-in-None-clause-located g c =
    if_located_by (Gives c.args.self.now) c.args.bytes.now c.read-in-None.result c.read-in-None.ensures.located
    (λ place loc h. rw (c.in-None.is) (⊎_elim (λ r. subst (λ p. location loc ≡ location_at p) r.shows r.says.met) (λ own. own) h))
