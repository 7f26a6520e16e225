use Rattle.walrus_items.specs.Imports.{imports, import_entries_left}
use Rattle.walrus_contents.specs.View.{parts_view}
use Rattle.walrus_contents.proofs.LiveLemmas.{BringsLive}
use Rattle.walrus_model.proofs.Walked.{Walked}
use Rattle.walrus_contents.proofs.live.check_imports.Given as goal

-- what the imports bring that aren't left is there
abbrev pub invariant-loop-import : goal.invariant-loop-import
invariant-loop-import l =
    (goal.iterator-loop-import).can_next l.import-iterator
    × (goal.iterator-loop-import).is_finite l.import-iterator
    × Walked (BringsLive (parts_view l.parts) (imports l.parts.imports.now)) (imports l.parts.imports.now) (import_entries_left l.import-iterator)
