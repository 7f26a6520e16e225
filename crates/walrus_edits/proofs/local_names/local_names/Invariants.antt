use Rattle.std.proofs.Common.{◌≡◌, map, take}
use Rattle.walrus_edits.specs.LocalNames.{are_known, local_told}
use Rattle.walrus_edits.proofs.LocalSteps.{AreHanded}
use Rattle.walrus_edits.proofs.local_names.local_names.Given as goal

-- the sections so far are read, and the functions that are known stay
abbrev pub invariant-sections : goal.invariant-sections
invariant-sections l = (are_known l.sink.functions ≡ are_known l.fn.functions) × AreHanded (are_known l.fn.functions) (take l.section-index l.section-items) (map local_told l.sink.names.items)
