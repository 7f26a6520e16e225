use Rattle.walrus_reading.proofs.FirstUnread.{one_answer}
use Rattle.walrus_reading.proofs.law.one_unread.Goals as goal

pub returns : goal.returns
returns c = one_answer
