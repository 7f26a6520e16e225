-- Devices that bytes are read from and written to.
use Rattle.std.specs.Prelude.{◌≡◌, ℕ, ◌+◌, ◌-◌, ◌<◌, ◌^◌, List, ◌++◌, length, min, Option, Result, Ok, Err}
use Rattle.std.specs.Io.KnownBytes.{Appends}

-- a failure is counted, up to 2 ^ 64 - 1; a call that succeeds counts nothing
abbrev pub Counts : {A E : Type 0} → ℕ → ℕ → Result A E → Type 0
Counts old new (Ok x) = new ≡ old
Counts old new (Err e) = new ≡ min (old + 1) (2 ^ 64 - 1)

-- of some bytes at least one is taken
abbrev pub TakesSome : {E : Type 0} → Result ℕ E → List ℕ → Type 0
TakesSome (Ok n) bytes = 0 < length bytes → 0 < n
TakesSome (Err e) bytes = Unit {0}

-- known bytes grow by a beginning of these
abbrev pub WroteFront : Option (List ℕ) → Option (List ℕ) → List ℕ → Type 0
WroteFront old new bytes = (front : List ℕ) × (back : List ℕ) × (bytes ≡ front ++ back) × Appends old new front
