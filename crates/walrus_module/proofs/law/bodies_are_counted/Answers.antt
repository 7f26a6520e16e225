use Rattle.walrus_module.specs.View.{contents_of}
use Rattle.walrus_module.proofs.CountedBodies.{absent_uncounted, held_counted}
use Rattle.walrus_module.proofs.law.bodies_are_counted.Goals as goal

pub returns-clause-counted : goal.returns-clause-counted
returns-clause-counted g c = λ typed. held_counted (contents_of c.args.module.now) typed

pub returns-clause-held : goal.returns-clause-held
returns-clause-held g c = held_counted

pub returns-clause-needed : goal.returns-clause-needed
returns-clause-needed g c = absent_uncounted
