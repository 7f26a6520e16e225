use Rattle.std.proofs.Common.{◌≡◌}
use Rattle.std.specs.List.{range_with_len}
use Rattle.walrus_reading.specs.Shown.{shown}
use Rattle.walrus_reading.specs.Synthetic.{all_filled}
use Rattle.walrus_reading.proofs.synthetic.fill_names.Given as goal

-- the functions so far have names
abbrev pub invariant-functions : goal.invariant-functions
invariant-functions l = shown l.contents ≡ all_filled l.starts (shown l.fn.contents) (range_with_len 0 l.function)
