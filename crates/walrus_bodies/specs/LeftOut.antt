-- Which marks of a body are left out, as one number.
use Rattle.std.specs.Prelude.{ℕ, ◌/◌, ◌%◌, nat_eq}
use Rattle.walrus_bodies.specs.declared.plain_code.LeftOut.{LeftOut}

-- twice the first local without marks, and one more if accesses have none
abbrev pub unpacked : ℕ → LeftOut
unpacked number = record { first = number / 2; accessed = nat_eq (number % 2) 1 }
