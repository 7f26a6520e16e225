-- The laws on refusals: which of them a well-made module meets, and that what may be written isn't too large.
use Rattle.std.specs.Prelude.{ℕ, List, All, Result, Ok, Err, ⊤}
use Rattle.wasm_writer.specs.Spelling.{SectionFits}
use Rattle.walrus_model.specs.Abstract.{Abstract}
use Rattle.walrus_model.specs.Config.{Config}
use Rattle.walrus_model.specs.WellMade.{ImportsMatch}
use Rattle.walrus_theorem.specs.Pinned.{IsWrittenAs}
use Rattle.walrus_theorem.specs.Refused.{HasDead, HasUnspelled, PassesLimits, HasNoCause, Refusal, Memory, DeadItem, NoIndex, TwoIndices, TooLarge, NotWritable, Caller, Another, RefusesToWrite}
use Rattle.walrus_theorem.specs.Spelling.{IsSpelling}
use Rattle.walrus_theorem.specs.Text.{Text, sections_of}
use Rattle.walrus_theorem.specs.WellMade.{IsWellMade}

-- written, or refused for lack of memory, for its size or by one of its own sections
abbrev pub IsFewOf : {X : Type 0} → Result X Refusal → Type 0
IsFewOf (Ok x) = ⊤
IsFewOf (Err Memory) = ⊤
IsFewOf (Err TooLarge) = ⊤
IsFewOf (Err Caller) = ⊤
IsFewOf (Err DeadItem) = ⊥
IsFewOf (Err NoIndex) = ⊥
IsFewOf (Err TwoIndices) = ⊥
IsFewOf (Err NotWritable) = ⊥
IsFewOf (Err Another) = ⊥

-- ⊤ is the weakest of all facts that may stand for `Asked`
abbrev pub FewRefusals : Type 0
FewRefusals = (c : Config) (u : Abstract) (result : Result (List ℕ) Refusal) → IsWellMade c u → RefusesToWrite ⊤ c u result → IsFewOf result

-- a well-made module that may be written isn't too large
abbrev pub OkOrTooLarge : Type 0
OkOrTooLarge = (c : Config) (u : Abstract) (bytes : List ℕ) → IsWellMade c u
    → RefusesToWrite ⊤ c u (Ok bytes) → RefusesToWrite {X = List ℕ} ⊤ c u (Err TooLarge) → ⊥

-- in what may be written imports and items name each other
abbrev pub OkMatches : Type 0
OkMatches = (c : Config) (v : Abstract) → HasNoCause c v → ImportsMatch v

-- of what may be written all sections fit
abbrev pub OkFits : Type 0
OkFits = (c : Config) (v n : Abstract) (t : Text) → HasNoCause c v → IsWrittenAs c v n → IsSpelling n t → All SectionFits (sections_of t)

-- What has a spelling whose sections fit passes no limit, where nothing in it is named and not there, and no form in it can't be spelled.
abbrev pub FitsNoLimit : Type 0
FitsNoLimit =
    (c : Config) (v n : Abstract) (t : Text) → (HasDead v → ⊥) → (HasUnspelled c v → ⊥)
    → IsWrittenAs c v n → IsSpelling n t → All SectionFits (sections_of t) → PassesLimits c v → ⊥
