-- Lists in which a NAME or a text is looked up.
use Rattle.std.specs.Prelude.{◌≡◌, ◌⊎◌, ◌↔◌, ℕ, Bool, true, false, List, map, nat_eq, Contains, IsSorted}
use Rattle.std.specs.Borrow.{Bor}
use Rattle.std.specs.List.{list_any}
use Rattle.wasm_wire.specs.Names.{by_bytes}
use Rattle.walrus_sections.specs.Choice.{Choice, FitsOne}
use Rattle.walrus_sections.specs.ExportChoice.{NoneKept}
use Rattle.walrus_sections.specs.Fits.{Fits}
use Rattle.walrus_sections.specs.declared.chooser.Chooser.{Chooser}
use Rattle.walrus_sections.specs.declared.chooser.Names.{Names}

-- a star stands in the NAME
abbrev pub has_star : List ℕ → Bool
has_star name = list_any (λ x. nat_eq x 42) name

-- what these refer to
abbrev pub texts : List (Bor (List ℕ)) → List (List ℕ)
texts names = map (λ n. n.now) names

-- one of these NAMEs fits the text
abbrev pub FitsSome : (names : List (List ℕ)) → (text : List ℕ) → Type 0
FitsSome names text = (name : List ℕ) × Contains names name × Fits name text

-- the text is one of the first list, or one of the second fits it
abbrev pub FitsIn : (plain starred : List (Bor (List ℕ))) → (text : List ℕ) → Type 0
FitsIn plain starred text = Contains (texts plain) text ⊎ FitsSome (texts starred) text

-- one of these NAMEs fits the text
abbrev pub FitsNames : Names → (text : List ℕ) → Type 0
FitsNames names text = FitsIn names.plain.items names.starred.items text

-- the NAMEs without a star stand in order
abbrev pub AreInOrder : Names → Type 0
AreInOrder names = IsSorted by_bytes names.plain.items

-- the NAMEs of these choices that are of this kind, those without a star in order
pub record AreNames (choices : List Choice) (is_kept : Bool) (names : Names) : Type 0 where
  pub sorted : AreInOrder names
  pub fit : (text : List ℕ) → FitsNames names text ↔ FitsOne choices is_kept text

-- what is looked up of these choices
pub record IsChooser (choices : List Choice) (chooser : Chooser) : Type 0 where
  pub keeps_all : (chooser.keeps_all ≡ true) ↔ NoneKept choices
  pub kept : AreNames choices true chooser.kept
  pub dropped : AreNames choices false chooser.dropped

-- the same of both lists
abbrev pub IsInOrder : Chooser → Type 0
IsInOrder chooser = AreInOrder chooser.kept × AreInOrder chooser.dropped

-- by these lists the text is chosen
abbrev pub IsPicked : Chooser → (text : List ℕ) → Type 0
IsPicked chooser text = ((chooser.keeps_all ≡ true) ⊎ FitsNames chooser.kept text) × (FitsNames chooser.dropped text → ⊥)
