-- What is spelled reads back.
use Rattle.std.specs.Prelude.{ℕ, true, List, All, Some, ◌≡◌}
use Rattle.wasm_writer.specs.Spelling.{SectionFits}
use Rattle.walrus_bodies.specs.Blocks.{are_nested}
use Rattle.walrus_bodies.specs.Features.{are_allowed}
use Rattle.walrus_model.specs.Abstract.{Abstract, Body, LocalFunction, Function}
use Rattle.walrus_model.specs.Config.{Config}
use Rattle.walrus_model.specs.Declared.{NothingUndeclared}
use Rattle.walrus_model.specs.Rules.{Holds}
use Rattle.walrus_theorem.specs.Features.{features_of}
use Rattle.walrus_theorem.specs.Headline.{ReadsModule}
use Rattle.walrus_theorem.specs.Pinned.{IsWrittenAs}
use Rattle.walrus_theorem.specs.Spelling.{IsSpelling, IsSpelledAs}
use Rattle.walrus_theorem.specs.Text.{Text, sections_of}
use Rattle.walrus_theorem.specs.WellMade.{IsWellFormed, IsWellMade}

-- each body is well formed under the configuration's flags
abbrev pub HasBodies : Config → Abstract → Type 0
HasBodies c n = (f : ℕ) (g : Function) (b : Body) → n.functions f ≡ Some g → g.kind ≡ LocalFunction b → IsWellFormed c n g.ty b

-- in each body blocks nest, and the operators are those that the configuration allows
abbrev pub BodiesNest : Config → Abstract → Type 0
BodiesNest c n = (f : ℕ) (g : Function) (b : Body) → n.functions f ≡ Some g → g.kind ≡ LocalFunction b → (are_nested b.operators ≡ true) × (are_allowed (features_of c) b.operators ≡ true)

-- The one spelling of a module reads as the module, where its sections fit, its bodies are well formed and it keeps the rules.
abbrev pub SpelledReads : Type 0
SpelledReads = (c : Config) (n : Abstract) (bytes : List ℕ) (spelled : IsSpelledAs n bytes) → All SectionFits (sections_of spelled.text) → HasBodies c n → Holds n → ReadsModule c bytes n

-- what a well-made module is written with are well-formed bodies, where nothing is undeclared
abbrev pub WrittenBodies : Type 0
WrittenBodies = (c : Config) (u n : Abstract) (t : Text) → IsWellMade c u → NothingUndeclared u → IsWrittenAs c u n → IsSpelling n t → HasBodies c n

-- What a well-made module is written as reads back, where nothing is undeclared and its sections fit.
abbrev pub WrittenReads : Type 0
WrittenReads =
    (c : Config) (u n : Abstract) (bytes : List ℕ) → IsWellMade c u → NothingUndeclared u → IsWrittenAs c u n
    → (spelled : IsSpelledAs n bytes) → All SectionFits (sections_of spelled.text) → ReadsModule c bytes n × Holds n
