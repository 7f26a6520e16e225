use Rattle.walrus_items.specs.Imports.{imports, import_entries_left}
use Rattle.walrus_contents.specs.View.{parts_view}
use Rattle.walrus_model.proofs.Walked.{Walked}
use Rattle.walrus_plan.proofs.Matching.{MatchedAt}
use Rattle.walrus_plan.proofs.matched.check_imports.Given as goal

-- what the imports that aren't left name says to be brought by them
abbrev pub invariant-loop-id : goal.invariant-loop-id
invariant-loop-id l =
    goal.iterator-loop-id.can_next l.id-iterator
    × goal.iterator-loop-id.is_finite l.id-iterator
    × Walked (MatchedAt (parts_view l.parts) (imports l.parts.imports.now)) (imports l.parts.imports.now) (import_entries_left l.id-iterator)
