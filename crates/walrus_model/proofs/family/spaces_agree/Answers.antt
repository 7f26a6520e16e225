use Rattle.walrus_model.specs.Live.{IsLive}
use Rattle.walrus_model.proofs.Spaces.{written_in_look, live_to, live_from, carried_items, collected_items}
use Rattle.walrus_model.proofs.family.spaces_agree.Goals as goal

pub returns-clause-names : goal.returns-clause-names
returns-clause-names g = written_in_look

pub returns-clause-live : goal.returns-clause-live
returns-clause-live g = λ m s i. (live_to m s i, live_from m s i)

pub returns-clause-carried : goal.returns-clause-carried
returns-clause-carried g = λ m n r c s. carried_items (IsLive m) (λ x. ⊥) r m n c s

pub returns-clause-collected : goal.returns-clause-collected
returns-clause-collected g = collected_items
