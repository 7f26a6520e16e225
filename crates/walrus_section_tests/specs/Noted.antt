-- The data of the section that the tests write.
use Rattle.std.specs.Prelude.{ℕ, List, [], ◌∷◌, Option, Some, None}

-- an index in one byte, and FF where there is none
abbrev pub index_byte : Option ℕ → List ℕ
index_byte None = 255 ∷ []
index_byte (Some n) = n ∷ []
