use Rattle.std.proofs.Common.{◌≡◌, ◌+◌, drop}
use Rattle.walrus_bodies.specs.Declarations.{declarations_of}
use Rattle.walrus_functions.specs.Plain.{total}
use Rattle.walrus_functions.proofs.plain.count_locals.Given as goal

-- those so far and those that are left are all of them
abbrev pub invariant-declarations : goal.invariant-declarations
invariant-declarations l = l.count + total (declarations_of (drop l.declaration-index l.declarations)) ≡ l.params + total (declarations_of l.declarations)
