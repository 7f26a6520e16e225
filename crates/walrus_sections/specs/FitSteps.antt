-- What the steps of comparing a NAME with a text answer.
use Rattle.std.specs.Prelude.{◌≡◌, ◌↔◌, ◌+◌, ◌<◌, ◌≤◌, ℕ, List, [], ◌∷◌, length, true, Option, MatchOption}
use Rattle.std.specs.Borrow.{Bor}
use Rattle.walrus_sections.specs.Fits.{Part, any, byte, parts, Fits, FitsBehind}
use Rattle.walrus_sections.specs.declared.tool.fits.Part.{Part as HeldPart}
use Rattle.walrus_sections.specs.declared.tool.fits.Part.TheVariants.{Any, Byte}
use Rattle.walrus_sections.specs.declared.tool.fits.Comparison.{Comparison}
use Rattle.walrus_sections.specs.declared.tool.fits.Comparison.TheVariants.{Same, Differs, RunsOut, Star}
use Rattle.walrus_sections.specs.declared.tool.fits.Answer.{Answer}
use Rattle.walrus_sections.specs.declared.tool.fits.Answer.TheVariants.{Known, On}

-- a part in memory
abbrev pub part_seen : HeldPart → Part
part_seen Any = any
part_seen (Byte x) = byte x

-- the NAME is this part and the rest
pub record BeginsWith (name : List ℕ) (part : HeldPart) (rest : List ℕ) : Type 0 where
  pub are : parts name ≡ part_seen part ∷ parts rest
  pub shorter : length rest < length name

-- the first part of the NAME and what is behind it, or none of an empty one
abbrev pub Begins : List ℕ → Option (HeldPart × Bor (List ℕ)) → Type 0
Begins name found = MatchOption found (name ≡ []) (λ p. BeginsWith name p.0 p.1.now)

-- the NAME fits the text where a star and this rest of the NAME fit this rest of the text, and a star before the NAME changes nothing of that
pub record AtStar (name text name_left text_left : List ℕ) : Type 0 where
  pub fits : Fits name text ↔ FitsBehind name_left text_left
  pub behind : FitsBehind name text ↔ FitsBehind name_left text_left
  pub shorter : length name_left < length name
  pub no_longer : length text_left ≤ length text

-- what was found of a NAME and a text; where the text ran out, no end of it fits the NAME either
abbrev pub Compared : (name text : List ℕ) → Comparison → Type 0
Compared name text Same = Fits name text
Compared name text Differs = Fits name text → ⊥
Compared name text RunsOut = FitsBehind name text → ⊥
Compared name text (Star rest left) = AtStar name text rest.now left.now

-- a star and the NAME fit the text where a star and this NAME fit this text, and these are fewer bytes
pub record Lessens (name text name_left text_left : List ℕ) : Type 0 where
  pub same : FitsBehind name text ↔ FitsBehind name_left text_left
  pub fewer : length name_left + length text_left < length name + length text

-- whether a star and the NAME fit the text, or a smaller question with that answer
abbrev pub Answered : (name text : List ℕ) → Answer → Type 0
Answered name text (Known answer) = (answer ≡ true) ↔ FitsBehind name text
Answered name text (On rest left) = Lessens name text rest.now left.now
