-- What the functions promise that keep what a section lists: which functions bytes list.
use Rattle.std.specs.Prelude.{ℕ, List, ◌++◌, Option, Result, Ok, Err, ◌≡◌, ◌<◌, ◌^◌, ⊤}
use Rattle.std.specs.Borrow.{Bor}
use Rattle.std.specs.Global.{Vec}
use Rattle.walrus.specs.Base.Arena.{IsLive}
use Rattle.walrus.specs.Base.Id.{place}
use Rattle.walrus.specs.Base.IdValue.{Id}
use Rattle.walrus.specs.Base.FunctionKey.{FunctionKey}
use Rattle.walrus.specs.Items.Roots.{places}
use Rattle.walrus.specs.Items.Error.{Error}
use Rattle.walrus.specs.Items.Error.TheVariants.{Memory, NotFound}
use Rattle.walrus.specs.Items.Functions.{FunctionValue}
use Rattle.walrus.specs.Listed.{index_bytes}
use Rattle.walrus_examples.specs.ListSection.{Lists}

module _ (functions : List (Option FunctionValue)) where
  -- such a function is there
  abbrev pub IsThere : ℕ → Type 0
  IsThere i = IsLive functions i

  -- the index of a function stands first in the bytes, and these are behind it
  pub record BeginsWith (bytes : List ℕ) (i : ℕ) (rest : List ℕ) : Type 0 where
    pub are : bytes ≡ index_bytes i ++ rest
    pub small : i < 2 ^ 32
    pub there : IsThere i

  -- the function whose index stands first, with the bytes behind it; or none does
  abbrev pub FindsFirst : (bytes : List ℕ) → Result (Id FunctionKey × Bor (List ℕ)) Error → Type 0
  FindsFirst bytes (Ok r) = BeginsWith bytes (place r.0) r.1.now
  FindsFirst bytes (Err e) = (e ≡ NotFound) × ((i : ℕ) (rest : List ℕ) → BeginsWith bytes i rest → ⊥)

  -- the functions that the bytes list; or they list none; or memory ran out
  abbrev pub FindsListed : (bytes : List ℕ) → Result (Vec (Id FunctionKey)) Error → Type 0
  FindsListed bytes (Ok ids) = Lists IsThere bytes (places ids.items)
  FindsListed bytes (Err (Memory e)) = ⊤
  FindsListed bytes (Err NotFound) = (indices : List ℕ) → Lists IsThere bytes indices → ⊥
  FindsListed bytes (Err _) = ⊥
