-- What is known of a function's body that was found plain.
use Rattle.std.specs.Prelude.{◌≡◌, ℕ, ◌+◌, ◌-◌, ◌^◌, Bool, true, List, [], ◌∷◌, ◌++◌, length, min, Option, Some}
use Rattle.wasm_forms.specs.Grammar.{Is}
use Rattle.wasm_forms.specs.declared.types.RawVal.{RawVal}
use Rattle.walrus_bodies.specs.Limits.{Limits}
use Rattle.walrus_bodies.specs.Blocks.{blocks_hold}
use Rattle.walrus_bodies.specs.Body.{declarations}
use Rattle.walrus_bodies.specs.Declarations.{declarations_of}
use Rattle.walrus_bodies.specs.Scanned.{IsScanned}
use Rattle.walrus_bodies.specs.Text.{ops_in}
use Rattle.walrus_functions.specs.declared.plain.PlainBody.{PlainBody}

-- how many locals are declared
abbrev pub total : List (ℕ × RawVal) → ℕ
total [] = 0
total (d ∷ ds) = d.0 + total ds

-- The bytes are declarations and then the operators of the text, where so many parameters and then the declared locals lie from a place on.
pub record IsPlainRead (limits : Limits) (is_function_type : ℕ → Bool) (first params start : ℕ) (bytes : List ℕ) (plain : PlainBody) : Type 0 where
  pub count : plain.params ≡ params
  pub front : List ℕ
  pub rest : List ℕ
  pub parts : bytes ≡ front ++ rest
  pub declares : Is declarations front (declarations_of plain.declarations.items)
  pub scanned : IsScanned (record limits { locals = params + total (declarations_of plain.declarations.items) }) first (min (start + length front) (2 ^ 64 - 1)) rest plain.text
  pub blocks : blocks_hold is_function_type (ops_in plain.text) ≡ true

-- there is a code of such bodies, and of it this holds
abbrev pub IfPlain : {X : Type 0} → Option X → (X → PlainBody → Type 0) → PlainBody → Type 0
IfPlain {X} texts P plain = (code : X) × ((texts ≡ Some code) × P code plain)
