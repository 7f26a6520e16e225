use Rattle.walrus.proofs.StateLemmas.{becomes_by_state, writes_by_state}
use Rattle.walrus.proofs.law.places_are_said_by_their_state.Goals as goal

pub returns-clause-writes : goal.returns-clause-writes
returns-clause-writes c = writes_by_state

pub returns-clause-becomes : goal.returns-clause-becomes
returns-clause-becomes c = becomes_by_state
