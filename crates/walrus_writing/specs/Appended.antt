-- The entries of a section, appended one after another, with no record of all of them.
use Rattle.std.specs.Prelude.{ℕ, ◌≡◌, ◌+◌, ◌<◌, List, ◌++◌, length, map}
use Rattle.wasm_forms.specs.Spelling.{number_bytes, row_bytes}
use Rattle.wasm_forms.specs.Writing.{EachFits, FitsLength}
use Rattle.wasm_writer.specs.Spelling.{section_bytes}

module _ {W E : Type 0} (entry : W → E) (spell : E → List ℕ) (Fits : E → Type 0) where
  -- an entry of whose record this is said stands behind what was there, fits, and is counted
  pub record AppendsEntry (Said : W → Type 0) (count more : ℕ) (old new : List ℕ) : Type 0 where
    pub one : W
    pub said : Said one
    pub appends : new ≡ old ++ spell (entry one)
    pub fits : Fits (entry one)
    pub counted : more ≡ count + 1

  -- so many entries of whose records this is said stand behind what was there, and each fits
  pub record AppendsEntries (Said : List W → Type 0) (count : ℕ) (old new : List ℕ) : Type 0 where
    pub raw : List W
    pub said : Said raw
    pub appends : new ≡ old ++ row_bytes spell (map entry raw)
    pub counted : count ≡ length raw
    pub fit : EachFits Fits (map entry raw)

-- the section of this id that lists so many entries, whose bytes these are, stands behind what was there, and its size fits; nothing, where there
-- are none
abbrev pub ListsEntries : ℕ → ℕ → List ℕ → List ℕ → List ℕ → Type 0
ListsEntries id count row old new = (count ≡ 0 → new ≡ old) × (0 < count → (new ≡ old ++ section_bytes id (number_bytes count ++ row)) × FitsLength (number_bytes count ++ row))
