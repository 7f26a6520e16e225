use Rattle.std.proofs.Common.{◌≡◌, ◌++◌, flat_map, take}
use Rattle.mulkavesh.proofs.rows.add_lines.Given as goal

-- the lines of the rows before
abbrev pub invariant-rows : goal.invariant-rows
invariant-rows g l = l.to.items ≡ l.fn.to.items ++ flat_map g.T.Row.line (take l.row-index l.rows)
