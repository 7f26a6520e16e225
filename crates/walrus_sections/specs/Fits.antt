-- Which texts a NAME fits: in it a star (byte 42) stands for any bytes, and a backslash (byte 92) takes that meaning from a star behind it.
use Rattle.std.specs.Prelude.{◌≡◌, ◌++◌, ◌&&◌, ℕ, List, [], ◌∷◌, nat_eq, if◌then◌else◌}

-- what a part of a NAME stands for: any bytes, also none, or the one byte
pub data Part : Type 0 where
  any : Part
  byte : ℕ → Part

-- a star stands for any bytes, a backslash and a star for a star, and each other byte for itself
abbrev pub parts : List ℕ → List Part
parts [] = []
parts (x ∷ []) = (if nat_eq x 42 then any else byte x) ∷ []
parts (x ∷ y ∷ name) = if nat_eq x 42 then any ∷ parts (y ∷ name) else if nat_eq x 92 && nat_eq y 42 then byte 42 ∷ parts name else byte x ∷ parts (y ∷ name)

-- the text is made of what the parts stand for, one after another
abbrev pub FitParts : List Part → List ℕ → Type 0
FitParts [] text = text ≡ []
FitParts (any ∷ behind) text = (taken : List ℕ) × (rest : List ℕ) × (text ≡ taken ++ rest) × FitParts behind rest
FitParts (byte x ∷ behind) text = (rest : List ℕ) × (text ≡ x ∷ rest) × FitParts behind rest

-- a NAME fits a text that is made of what its parts stand for
abbrev pub Fits : (name text : List ℕ) → Type 0
Fits name text = FitParts (parts name) text

-- a star and the NAME behind it fit the text
abbrev pub FitsBehind : (name text : List ℕ) → Type 0
FitsBehind name text = FitParts (any ∷ parts name) text
