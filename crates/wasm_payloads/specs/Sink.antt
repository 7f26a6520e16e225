-- What was handed to a sink of namings.
use Rattle.std.specs.Prelude.{◌≡◌, List, [], ◌∷◌, ◌++◌, Result, Ok, Err}
use Rattle.wasm_forms.specs.declared.error.WireError.{WireError}
use Rattle.wasm_payloads.specs.Names.{Named}

-- what is shown once these were taken, one after the other
abbrev pub after_all : {Seen : Type 0} → (Seen → Named → Seen) → Seen → List Named → Seen
after_all after shown [] = shown
after_all after shown (x ∷ xs) = after_all after (after shown x) xs

-- some of the namings were taken, from the first one on, and the next one was refused with this error
pub record IsRefused {Self Seen : Type 0} (seen : Self → Seen) (after : Seen → Named → Seen) (refuses : Self → Named → WireError → Type 0) (old new : Self) (names : List Named) (e : WireError) : Type 0 where
  pub taken : List Named
  pub next : Named
  pub others : List Named
  pub in_order : names ≡ taken ++ next ∷ others
  pub shown : seen new ≡ after_all after (seen old) taken
  pub refused : refuses new next e

-- all of the namings were taken, or it is answered that the sink refused one
abbrev pub Handed : {Self Seen X : Type 0} → (Self → Seen) → (Seen → Named → Seen) → (Self → Named → WireError → Type 0) → Self → Self → List Named → Result X WireError → Type 0
Handed seen after refuses old new names (Ok x) = seen new ≡ after_all after (seen old) names
Handed seen after refuses old new names (Err e) = IsRefused seen after refuses old new names e
