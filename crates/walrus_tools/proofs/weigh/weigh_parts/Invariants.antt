-- so many bytes have the parts before
use Rattle.std.proofs.Common.{◌≡◌, take}
use Rattle.walrus.specs.Items.Functions.{functions}
use Rattle.walrus_tools.specs.Weigh.{is_debug, is_dropped}
use Rattle.walrus_tools.specs.WeighSteps.{is_left, sizes}
use Rattle.walrus_tools.proofs.weigh.weigh_parts.Given as goal

abbrev pub invariant-each : goal.invariant-each
invariant-each l =
    (l.bodies ≡ sizes (is_dropped (is_left (functions l.all))) (take l.part-index l.parts)) × (l.debug ≡ sizes is_debug (take l.part-index l.parts))
