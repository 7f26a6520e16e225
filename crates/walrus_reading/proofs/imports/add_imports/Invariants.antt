use Rattle.walrus_reading.proofs.Brought.{ImportedSoFar}
use Rattle.walrus_reading.proofs.imports.add_imports.Given as goal

abbrev pub invariant-loop-entry : goal.invariant-loop-entry
invariant-loop-entry l = ImportedSoFar l.raw l.entry-index l.fn.contents l.contents
