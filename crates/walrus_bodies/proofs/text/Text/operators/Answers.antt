use Rattle.walrus_bodies.specs.Text.{texts_of, first_local_of, locations_in}
use Rattle.walrus_bodies.proofs.HeldLemmas.{whole}
use Rattle.walrus_bodies.proofs.text.Text.operators.Goals as goal

pub list_operators-requires : goal.list_operators-requires
list_operators-requires c = rw (c.entry-entry.ensures, c.bytes.ensures) (whole c.args.self.now)

pub returns-clause-body : goal.returns-clause-body
unfolding texts_of first_local_of
returns-clause-body c = rw (c.entry-entry.ensures, c.bytes.ensures) at c.list_operators.ensures.body

pub returns-clause-locations : goal.returns-clause-locations
unfolding locations_in
returns-clause-locations c = rw (c.entry-entry.ensures, c.bytes.ensures, c.start.ensures) at c.list_operators.ensures.locations
