use Rattle.std.proofs.Common.{◌≡◌, ◌+◌, drop}
use Rattle.walrus_bodies.specs.Declarations.{declarations_of}
use Rattle.walrus_functions.specs.Plain.{total}
use Rattle.walrus_edit_list.proofs.functions.are_few.Given as goal

-- what the declarations so far took of the most locals is what is no longer left
abbrev pub invariant-declarations : goal.invariant-declarations
invariant-declarations l = total (declarations_of l.declarations) + l.left ≡ total (declarations_of (drop l.declaration-index l.declarations)) + 50_000
