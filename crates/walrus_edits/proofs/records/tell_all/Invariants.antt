use Rattle.std.proofs.Common.{[], ◌∷◌, flat_map, take}
use Rattle.walrus_edits.proofs.TellSteps.{HasTold}
use Rattle.walrus_edits.proofs.records.tell_all.Given as goal

-- the items so far are told
abbrev pub invariant-items : goal.invariant-items
invariant-items g l = HasTold l.fn.to.items l.to.items (flat_map (λ x. g.T.Tells.told x ∷ []) (take l.item-index l.all))
