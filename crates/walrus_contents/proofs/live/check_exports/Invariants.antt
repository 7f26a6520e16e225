use Rattle.std.proofs.Common.{map}
use Rattle.walrus_items.specs.Kinds.{exported}
use Rattle.walrus_items.specs.Exports.{exports_left}
use Rattle.walrus_contents.specs.Named.{export_names}
use Rattle.walrus_contents.specs.View.{parts_view}
use Rattle.walrus_contents.proofs.LiveLemmas.{Decide}
use Rattle.walrus_contents.proofs.live.check_exports.Given as goal

-- what the exports to come name decides
abbrev pub invariant-loop-export : goal.invariant-loop-export
invariant-loop-export l =
    (goal.iterator-loop-export).can_next l.export-iterator
    × (goal.iterator-loop-export).is_finite l.export-iterator
    × Decide (parts_view l.parts) (map (λ e. exported e.item) (exports_left l.export-iterator)) (export_names l.parts.exports.now)
