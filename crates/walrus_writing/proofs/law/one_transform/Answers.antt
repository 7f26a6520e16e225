use Rattle.walrus_writing.proofs.OneTransform as all
use Rattle.walrus_writing.proofs.law.one_transform.Goals as goal

pub returns : goal.returns
returns c = all.one_transform
