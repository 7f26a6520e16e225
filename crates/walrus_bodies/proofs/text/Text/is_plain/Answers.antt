use Rattle.walrus_bodies.specs.Text.{texts_of, first_local_of, local_count_of}
use Rattle.walrus_bodies.proofs.HeldLemmas.{plain}
use Rattle.walrus_bodies.proofs.text.Text.is_plain.Goals as goal

pub returns : goal.returns
unfolding texts_of first_local_of local_count_of
returns c = plain c.args.self.now
