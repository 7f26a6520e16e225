-- Flags of locals.
use Rattle.std.specs.Prelude.{◌≡◌, ◌≤◌, ◌<◌, ◌-◌, ◌↔◌, ◌⊎◌, ℕ, Bool, true, false, List, Contains, length, slice_index_or}
use Rattle.wasm_text.specs.RawArg.{RawArg}
use Rattle.walrus_base.specs.Operators.{arg_locals}
use Rattle.walrus_code.specs.FromRaw.{arg_of}

-- the marked places, in a window that begins at one of them, are those of a list
abbrev pub AreMarked : ℕ → List Bool → List ℕ → Type 0
AreMarked first marks places = (x : ℕ) → Contains places x ↔ ((first ≤ x) × (slice_index_or marks (x - first) false ≡ true))

-- ---- for the functions inside

-- the indices of the locals that an argument over indices names
abbrev pub indices_named : RawArg → List ℕ
indices_named arg = arg_locals (arg_of arg)

-- flagged are these, as far as they have flags, beside those that were
abbrev pub Flags : (old new : List Bool) → List ℕ → Type 0
Flags old new indices = (x : ℕ) → (slice_index_or new x false ≡ true) ↔ ((slice_index_or old x false ≡ true) ⊎ (Contains indices x × (x < length old)))
