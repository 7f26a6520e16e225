use Rattle.std.proofs.Common.{◌≡◌, map, take}
use Rattle.walrus_tools.specs.FunctionMeaning.{texts}
use Rattle.mulkavesh_c.proofs.TextLemmas.{name_at}
use Rattle.mulkavesh_c.proofs.names.texts_of.Given as goal

-- the names before, as texts
abbrev pub invariant-choices : goal.invariant-choices
invariant-choices l = texts l.meant.items ≡ map name_at (take l.choice-index l.choices)
