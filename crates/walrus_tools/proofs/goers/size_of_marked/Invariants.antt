use Rattle.std.proofs.Common.{◌≡◌, map, take}
use Rattle.std.specs.List.{sum_by}
use Rattle.walrus.specs.Base.Marks.{is_marked}
use Rattle.walrus.specs.Items.Transform.{range_of}
use Rattle.walrus_tools.specs.AloneSteps.{size_if}
use Rattle.walrus_tools.proofs.goers.size_of_marked.Given as goal

-- the bytes of those before
abbrev pub invariant-loop-body : goal.invariant-loop-body
invariant-loop-body l = l.sum ≡ sum_by (size_if (is_marked l.marks)) (map range_of (take l.body-index l.bodies))
