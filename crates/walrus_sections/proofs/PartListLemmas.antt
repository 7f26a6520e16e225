-- Parts as bytes: what of them is too long to be told, and what is answered.
use Rattle.std.proofs.Common.{◌≡◌, ◌<◌, ◌≤◌, ◌^◌, inl, inr, ℕ, List, length, arith}
use Rattle.std.specs.Prelude.{Result, Ok, Err, IfErr, IfOk, OnOk}
use Rattle.std.specs.Global.{Vec}
use Rattle.walrus_items.specs.declared.error.Error.{Error}
use Rattle.walrus_items.specs.declared.error.Error.TheVariants as error
use Rattle.walrus_sections.specs.Numbers.{RefusesIf}
use Rattle.walrus_sections.specs.PartList.{AnswersPartList, AreLong, HasLongPart, HasParts, Part, parts_bytes}
use Rattle.walrus_sections.proofs.Among.{because}

-- ---- the list

pub parts_fit : (place : ℕ) (parts : List Part) → place < 2 ^ 32 → (HasLongPart parts → ⊥) → AreLong place parts → ⊥
parts_fit place parts short none (inl h) = omega (arith, short, h)
parts_fit place parts short none (inr h) = none h

pub long_end : (place : ℕ) (parts : List Part) (e : Error) → RefusesIf (2 ^ 32 ≤ place) e → RefusesIf (AreLong place parts) e
long_end place parts = because (2 ^ 32 ≤ place) (AreLong place parts) (λ h. inl h)

pub long_parts : (place : ℕ) (parts : List Part) (e : Error) → RefusesIf (HasLongPart parts) e → RefusesIf (AreLong place parts) e
long_parts place parts = because (HasLongPart parts) (AreLong place parts) (λ h. inr h)

-- ---- the answer

pub answers_list : (bytes : List ℕ) (parts : List Part) (has : HasParts bytes parts) (r : Result (Vec ℕ) Error) → IfOk r (λ list. list.items ≡ parts_bytes (length bytes) parts)
    → OnOk r (AreLong (length bytes) parts → ⊥) → IfErr r (RefusesIf (AreLong (length bytes) parts)) → AnswersPartList bytes r
answers_list bytes parts has (Ok list) value fits refused = record { parts = parts; has = has; is = value; fits = fits }
answers_list bytes parts has (Err (error.Memory m)) value fits refused = tt
answers_list bytes parts has (Err (error.InvalidWasm kind)) value fits refused = absurd refused
answers_list bytes parts has (Err error.TooLarge) value fits refused = record { parts = parts; has = has; long = refused }
answers_list bytes parts has (Err _) value fits refused = absurd refused
