use Rattle.std.proofs.Common.{◌≡◌, ◌≤◌, ◌-◌}
use Rattle.walrus_reading.specs.Renamed.{renamed_from}
use Rattle.walrus_reading.specs.Shown.{local_values, mend_local}
use Rattle.walrus_reading.specs.Synthetic.{filled_row}
use Rattle.walrus_reading.proofs.synthetic.fill_row.Given as goal

-- the locals so far have names
abbrev pub invariant-row : goal.invariant-row
invariant-row l =
    (l.local ≤ l.end - l.first)
    × (local_values l.all ≡ renamed_from mend_local (filled_row l.first l.local l.parameters) 0 (local_values l.fn.all))
