-- What a second run writes.
use Rattle.std.specs.Prelude.{ℕ, List, ◌≡◌}
use Rattle.walrus_model.specs.Config.{Config}
use Rattle.walrus_theorem.specs.Headline.{ComesTo, ComesOutTooLarge}

-- what a run wrote comes to itself
abbrev pub ComesToItself : Type 0
ComesToItself = (c : Config) (bytes output : List ℕ) → ComesTo c bytes output → ComesTo c output output

-- so a second run writes the same bytes
abbrev pub WritesAgain : Type 0
WritesAgain = (c : Config) (bytes output again : List ℕ) → ComesTo c bytes output → ComesTo c output again → again ≡ output

-- and never says that they come out too large
abbrev pub NeverTooLarge : Type 0
NeverTooLarge = (c : Config) (bytes output : List ℕ) → ComesTo c bytes output → ComesOutTooLarge c output → ⊥
