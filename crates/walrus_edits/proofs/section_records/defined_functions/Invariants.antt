use Rattle.std.proofs.Common.{◌≡◌, map, take}
use Rattle.std.specs.Prelude.{zip}
use Rattle.walrus.specs.Frames.Record.{body_record}
use Rattle.walrus_edits.specs.ItemSteps.{defined_told}
use Rattle.walrus_edits.specs.ItemValues.{functions_in}
use Rattle.walrus_edits.proofs.section_records.defined_functions.Given as goal

-- the functions so far
abbrev pub invariant-functions : goal.invariant-functions
invariant-functions l = map defined_told l.all.items ≡ functions_in (take l.index (zip (map body_record l.bodies) l.types))
