-- A section's place in the standard's order, as it is counted.
use Rattle.std.specs.Prelude.{ℕ, if◌then◌else◌, ◌==◌}

-- from 1 on, or 0 where the order has no such section
abbrev pub rank_of : ℕ → ℕ
rank_of id = if id == 1 then 1 else (if id == 2 then 2 else (if id == 3 then 3 else (if id == 4 then 4 else
    (if id == 5 then 5 else (if id == 13 then 6 else (if id == 6 then 7 else (if id == 7 then 8 else
    (if id == 8 then 9 else (if id == 9 then 10 else (if id == 12 then 11 else (if id == 10 then 12 else
    (if id == 11 then 13 else 0))))))))))))
