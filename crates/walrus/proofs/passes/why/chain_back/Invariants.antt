use Rattle.std.proofs.Common.{◌<◌}
use Rattle.std.specs.Prelude.{vec_len}
use Rattle.walrus_model.specs.Abstract.{Abstract}
use Rattle.walrus_model.specs.Roots.{IsRoot}
use Rattle.walrus_contents.specs.Named.{items_in}
use Rattle.walrus.specs.Traced.{Traces, item_in}
use Rattle.walrus.specs.Worklist.{entered_items}
use Rattle.walrus.proofs.ChainsBack.{Back}
use Rattle.walrus.proofs.passes.why.chain_back.Given as goal

-- what was read so far leads from this place
abbrev pub invariant-back : goal.invariant-back
invariant-back l =
    (l.at < vec_len l.traced.list.entered)
    × ((v : Abstract) → Traces (IsRoot v) v (entered_items l.traced.list) l.traced.namers.items
    → Back v (entered_items l.traced.list) (items_in l.chain) l.at (item_in (entered_items l.traced.list) l.place))

-- the places fall
abbrev pub decreases-back : goal.decreases-back
decreases-back l = l.at
