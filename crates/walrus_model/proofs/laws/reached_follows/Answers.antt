use Rattle.walrus_model.specs.Live.{IsLive}
use Rattle.walrus_model.proofs.Reach.{reached_follows_lem}
use Rattle.walrus_model.proofs.KeptFollow.{kept_follows_lem}
use Rattle.walrus_model.proofs.laws.reached_follows.Goals as goal

pub returns-clause-reached : goal.returns-clause-reached
returns-clause-reached g = λ r a b p wide sets. reached_follows_lem (IsLive a) r a b p wide sets

pub returns-clause-kept : goal.returns-clause-kept
returns-clause-kept g = λ r a b p wide sets rise. kept_follows_lem r a b p (reached_follows_lem (IsLive a) r a b p wide sets) rise
