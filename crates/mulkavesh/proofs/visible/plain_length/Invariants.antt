use Rattle.std.proofs.Common.{length, ◌-◌, ◌≡◌, ◌<◌, ◌≤◌, ◌++◌, take, drop}
use Rattle.mulkavesh.specs.Visible.{shown}
use Rattle.mulkavesh.proofs.visible.plain_length.Given as goal

-- the first bytes are shown as they are
abbrev pub invariant-bytes : goal.invariant-bytes
invariant-bytes l = record {
  begun : 0 < l.at;
  bound : l.at ≤ length l.text;
  told : shown l.text ≡ take l.at l.text ++ shown (drop l.at l.text);
}

abbrev pub decreases-bytes : goal.decreases-bytes
decreases-bytes l = length l.text - l.at
