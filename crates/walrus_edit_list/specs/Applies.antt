-- What a list of edits makes of what is held, each in its turn, and why it is refused.
use Rattle.std.specs.Prelude.{ℕ, List, [], ◌∷◌, ◌++◌, length, Option, Some, None, Result, Ok, Err, ◌≡◌, ◌≢◌, ◌⊎◌, ⊤}
use Rattle.std.specs.Borrow.{Bor}
use Rattle.walrus_bodies.specs.declared.features.Features.{Features}
use Rattle.walrus_items.specs.Errors.{out_of_memory}
use Rattle.walrus_items.specs.declared.error.Error.{Error}
use Rattle.walrus_items.specs.declared.error.Error.TheVariants.{Memory}
use Rattle.walrus_model.specs.Config.{Config}
use Rattle.walrus_theorem.specs.Features.{features_of}
use Rattle.walrus_edit_list.specs.Edits.{AreEdits, Said, edit_at}
use Rattle.walrus_edit_list.specs.Fine.{IsFine}
use Rattle.walrus_edit_list.specs.Held.{Held}
use Rattle.walrus_edit_list.specs.Makes.{IsMalformed, Makes, RefusesMake}
use Rattle.walrus_edit_list.specs.declared.list.Refusal.{Refusal}

module _ (f : Features) where
  -- each of these edits makes its own of what the one before left
  abbrev pub EditsBy : List Said → (old new : Held) → Type 0
  EditsBy [] old new = new ≡ old
  EditsBy (e ∷ es) old new = (middle : Held) × Makes f e old middle × EditsBy es middle new

  -- why the edit in front of bytes is refused: none stands there, or it can't be made
  abbrev pub RefusesSaid : Option (Said × List ℕ) → Held → Error → Type 0
  RefusesSaid None old e = IsMalformed e
  RefusesSaid (Some x) old e = RefusesMake f x.0 old e

  abbrev pub RefusesFirst : List ℕ → Held → Error → Type 0
  RefusesFirst bytes old (Memory e) = ⊤
  RefusesFirst bytes old e = RefusesSaid (edit_at bytes) old e

  -- the edit in front was applied, and these bytes stand behind it; or it is refused
  abbrev pub AppliesFirst : List ℕ → (old new : Held) → Result (Bor (List ℕ)) Error → Type 0
  AppliesFirst bytes old new (Ok behind) = (e : Said) × (edit_at bytes ≡ Some (e, behind.now)) × Makes f e old new
  AppliesFirst bytes old new (Err e) = RefusesFirst bytes old e

  -- the bytes are so many edits, which were applied in their turn
  pub record AppliesEach (bytes : List ℕ) (n : ℕ) (old new : Held) : Type 0 where
    pub all : List Said
    pub are : AreEdits bytes all
    pub count : length all ≡ n
    pub edits : EditsBy all old new

  -- so many edits stand in front, and make this; memory ran out, or bytes are left, whose first edit is refused on that
  pub record RefusesNext (bytes : List ℕ) (n : ℕ) (old : Held) (e : Error) : Type 0 where
    pub front : List ℕ
    pub rest : List ℕ
    pub parts : bytes ≡ front ++ rest
    pub made : Held
    pub each : AppliesEach front n old made
    pub refuses : (e ≡ out_of_memory) ⊎ ((rest ≢ []) × RefusesFirst rest made e)

  -- so many edits were applied, which the bytes are, or the next one is refused
  abbrev pub AppliesAll : List ℕ → (old new : Held) → Result ℕ Refusal → Type 0
  AppliesAll bytes old new (Ok n) = AppliesEach bytes n old new
  AppliesAll bytes old new (Err r) = RefusesNext bytes r.applied old r.error

-- from edit to edit bodies stay well formed, and the names of custom sections free
abbrev pub EditsKeepFine : Type 0
EditsKeepFine = (c : Config) (es : List Said) (old new : Held) → EditsBy (features_of c) es old new → IsFine c old → IsFine c new
