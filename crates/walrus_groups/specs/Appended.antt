-- What was appended of groups, one after another, with no record of all of them.
use Rattle.std.specs.Prelude.{ℕ, ◌≡◌, ◌+◌, List, ◌++◌, length}
use Rattle.wasm_entries.specs.Record.{Group}
use Rattle.wasm_entries.specs.TypeSpelling.{GroupFits, group_bytes}
use Rattle.wasm_forms.specs.Spelling.{row_bytes}
use Rattle.wasm_forms.specs.Writing.{EachFits}

-- a group of which this is said stands behind what was there, fits, and is counted
pub record AppendsGroup (Said : Group → Type 0) (count more : ℕ) (old new : List ℕ) : Type 0 where
  pub one : Group
  pub said : Said one
  pub appends : new ≡ old ++ group_bytes one
  pub fits : GroupFits one
  pub counted : more ≡ count + 1

-- so many groups of which this is said stand behind what was there, and each fits
pub record AppendsGroups (Said : List Group → Type 0) (count : ℕ) (old new : List ℕ) : Type 0 where
  pub groups : List Group
  pub said : Said groups
  pub appends : new ≡ old ++ row_bytes group_bytes groups
  pub counted : count ≡ length groups
  pub fit : EachFits GroupFits groups
