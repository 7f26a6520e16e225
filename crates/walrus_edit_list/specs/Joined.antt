-- Operators in front of a body that stands as in the input.
use Rattle.std.specs.Prelude.{ℕ, Bool, ◌+◌, ◌-◌, true, false, List, [], ◌∷◌, ◌++◌, Option, Some, None, slice_get, ◌≡◌, if◌then◌else◌, nat_le}
use Rattle.std.specs.List.{range_with_len}
use Rattle.walrus_base.specs.Operators.{Space, Op}
use Rattle.walrus_bodies.specs.Body.{OperatorsRead, context}
use Rattle.walrus_bodies.specs.Function.{KeepsOthers, args_of, body_of}
use Rattle.walrus_bodies.specs.Text.{first_local_of, ops_in}
use Rattle.walrus_bodies.specs.declared.features.Features.{Features}
use Rattle.walrus_bodies.specs.declared.function.LocalFunction.{LocalFunction}
use Rattle.walrus_bodies.specs.declared.text.Text.{Text}
use Rattle.walrus_code.specs.Names.{Lookup}
use Rattle.walrus_edit_list.specs.Fronts.{but_last}
use Rattle.walrus_edit_list.specs.declared.front.TheConstants.{END}

-- what is found is what was looked for
abbrev pub IsPlaceItself : (ℕ → Option ℕ) → Type 0
IsPlaceItself names = (n found : ℕ) → names n ≡ Some found → found ≡ n

abbrev pub LeadsToItself : Lookup → Type 0
LeadsToItself names = (space : Space) → IsPlaceItself (names space)

-- each number is that of the item itself
abbrev pub itself : Lookup
itself space n = Some n

-- the locals of a function lie from a place on
abbrev pub local_from : ℕ → ℕ → Option ℕ
local_from first index = Some (first + index)

-- their indices by their places
abbrev pub index_from : ℕ → ℕ → Option ℕ
index_from first place = if nat_le first place then Some (place - first) else None

-- the bytes are the operators of the text, where each index is the place of its item and locals lie from a place on
pub record IsTextOf (bytes : List ℕ) (first : ℕ) (text : Text) : Type 0 where
  pub begins : first_local_of text ≡ first
  pub reads : (f : Features) → OperatorsRead (context itself (λ t. true) f) (local_from first) bytes (ops_in text)

-- In front of a body, whose locals lie from a place on, stand the operators that the bytes are with an `end` behind them, without that.
abbrev pub AreInFront : (bytes : List ℕ) (first : ℕ) (own made : List Op) → Type 0
AreInFront bytes first own made = (names : Lookup) (p : ℕ → Bool) (f : Features) (count : ℕ) (read : List Op) → LeadsToItself names
    → OperatorsRead (context names p (record f { legacy_exceptions = false })) (slice_get (range_with_len first count)) (bytes ++ END ∷ []) read
    → made ≡ but_last read ++ own

-- the same of a function, whose others stay
pub record Fronts (bytes : List ℕ) (old new : LocalFunction) : Type 0 where
  pub operators : (names : Lookup) (p : ℕ → Bool) (f : Features) (read : List Op) → LeadsToItself names
      → OperatorsRead (context names p (record f { legacy_exceptions = false })) (slice_get (args_of old)) (bytes ++ END ∷ []) read
      → body_of new ≡ but_last read ++ body_of old
  pub others : KeepsOthers old new
