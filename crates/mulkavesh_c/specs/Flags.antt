-- What the flags of a call ask for.
use Rattle.std.specs.Prelude.{◌≡◌, ℕ, Bool, true, bit_and, nat_eq, nat_lt, not}
use Rattle.walrus_tools.specs.WantedValue.{Wanted}

-- each flag has a bit of its own: 1 turns names off, 2 producers, 4 legacy exceptions; there are no others
abbrev pub is_known : (flags : ℕ) → Bool
is_known flags = nat_lt flags 8

abbrev pub IsKnown : (flags : ℕ) → Type 0
IsKnown flags = is_known flags ≡ true

abbrev pub lacks : (flags bit : ℕ) → Bool
lacks flags bit = nat_eq (bit_and flags bit) 0

abbrev pub wanted : (flags : ℕ) → Wanted
wanted flags = record { names = lacks flags 1; producers = lacks flags 2; legacy = lacks flags 4 }

-- a list of edits has one flag more, 8, which asks for gc
abbrev pub is_known_of_edits : (flags : ℕ) → Bool
is_known_of_edits flags = nat_lt flags 16

abbrev pub IsKnownOfEdits : (flags : ℕ) → Type 0
IsKnownOfEdits flags = is_known_of_edits flags ≡ true

abbrev pub collects : (flags : ℕ) → Bool
collects flags = not (lacks flags 8)
