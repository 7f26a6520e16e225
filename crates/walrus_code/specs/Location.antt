-- What a contract sees of a location.
use Rattle.std.specs.Prelude.{ℕ, ◌-◌, ◌^◌, nat_lt, if◌then◌else◌}
use Rattle.walrus_code.specs.declared.location.InstrLocId.{InstrLocId}

abbrev pub location : InstrLocId → ℕ
location loc = loc.value

-- the location of the operator that begins at a place of the input: from 2^32 - 1 on the default
abbrev pub location_at : ℕ → ℕ
location_at place = if nat_lt place (2 ^ 32 - 1) then place else 2 ^ 32 - 1
