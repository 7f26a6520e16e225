-- Locations of operators: given ones, and places of the input.
use Rattle.std.proofs.Common.{◌≡◌, ℕ, ◌+◌, ◌-◌, ◌^◌, inl, inr, List, [], ◌∷◌, length, min, Option, Some, None, Result, Ok, Err, IfOk, OnOk}
use Rattle.walrus_code.specs.declared.error.IrError.{IrError}
use Rattle.walrus_code.specs.declared.location.InstrLocId.{InstrLocId}
use Rattle.walrus_bodies.specs.Function.{locations_of}
use Rattle.walrus_bodies.specs.declared.function.LocalFunction.{LocalFunction}
use Rattle.walrus_bodies.specs.Body.{Located}
use Rattle.walrus_bodies.specs.BodyRead.{BodyLocated}
use Rattle.walrus_bodies.specs.Scanned.{IsPlace}
use Rattle.walrus_functions.specs.ReadFunction.{Given}

-- what holds of each place and its location may be said in a weaker way
module _ (P Q : ℕ → InstrLocId → Type 0) (weaker : (place : ℕ) (loc : InstrLocId) → P place loc → Q place loc) where
  located_so : (place : ℕ) (bytes : List ℕ) (locs : List InstrLocId) → Located P place bytes locs → Located Q place bytes locs
  located_so place bytes [] located = located
  located_so place bytes (loc ∷ locs) (text, (front, (back, (parts, is, given, rest)))) =
      (text, (front, (back, (parts, is, weaker (min place (2 ^ 64 - 1)) loc given, located_so (place + length front) back locs rest))))

  pub result_located : (start : ℕ) (bytes : List ℕ) (result : Result LocalFunction IrError) → IfOk result (λ f. BodyLocated P start bytes (locations_of f)) → IfOk result (λ f. BodyLocated Q start bytes (locations_of f))
  result_located start bytes (Ok f) (front, (back, (declared, (parts, declares, located)))) =
      (front, (back, (declared, (parts, declares, located_so (start + length front) back (locations_of f) located))))
  result_located start bytes (Err e) none = none

-- what is given is so
pub given : {X : Type 0} (texts : Option X) (P : ℕ → InstrLocId → Type 0) (place : ℕ) (loc : InstrLocId) → P place loc → Given texts P place loc
given None P place loc is = is
given (Some x) P place loc is = inl is

-- and a place is, where bodies may be kept as they stand
pub given_place : {X : Type 0} (texts : Option X) (x : X) → texts ≡ Some x → (P : ℕ → InstrLocId → Type 0) (place : ℕ) (loc : InstrLocId) → IsPlace place loc → Given texts P place loc
given_place texts x some P place loc is = rw some (inr is)

-- what holds anyway holds where nothing was refused
pub on_any : {X E : Type 0} (result : Result X E) (P : Type 0) → P → OnOk result P
on_any (Ok x) P is = is
on_any (Err e) P is = tt
