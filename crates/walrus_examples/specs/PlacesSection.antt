-- A module with a custom section of places, which follows the code ("Binary Format > Custom Section").
use Rattle.std.specs.Prelude.{ℕ, List, map, true, Contains, Result, ◌≡◌, ◌||◌}
use Rattle.std.specs.Global.{Vec}
use Rattle.walrus.specs.Code.Transform.{Transform}
use Rattle.walrus.specs.Model.Config.{Config}
use Rattle.walrus.specs.Model.Sections.{is_apart}
use Rattle.walrus.specs.Items.Functions.{ModuleFunctions, functions}
use Rattle.walrus.specs.Modules.Parts.{local_in}
use Rattle.walrus.specs.Modules.Transform.{IsTransformOf, locations_in}
use Rattle.walrus.specs.Items.Error.{Error}
use Rattle.walrus.specs.Modules.Asked.{is_dylink_name}
use Rattle.walrus.specs.Modules.Located.{IsPlace}
use Rattle.walrus.specs.Modules.Parsed.{AreLocated}
use Rattle.walrus.specs.Places.{last_place, moved_by, new_pair, written_pairs}
use Rattle.walrus.specs.declared.sections.places.PlacedPair.{PlacedPair}
use Rattle.walrus.specs.Ends.{Answers, IfCaller, LeavesLarge, LeavesWritten}
use Rattle.walrus_examples.specs.Metadata.{GainsSection, section_of}

-- pairs as a section of places is given them
abbrev pub given : List (ℕ × ℕ) → List PlacedPair
given pairs = map (λ (p : ℕ × ℕ). new_pair p.0 p.1) pairs

-- the pairs whose operators have new places by this transform, with these, eight bytes each
abbrev pub carried : Transform → List (ℕ × ℕ) → List ℕ
carried x pairs = written_pairs (map (moved_by (last_place x.instruction_map)) (given pairs))

-- The bytes were parsed, and each operator of a function that is held has the place at which it began for its location. Emission leaves of that, with one section
-- more behind its others, what is written: the output is the one spelling of one module of indices, reads as it, and it keeps the rules. The section
-- stands in it, and says the pairs by the places that the one true transform of the output tells.
pub record IsWithPlaces (c : Config) (bytes name : List ℕ) (pairs : List (ℕ × ℕ)) (output : List ℕ) : Type 0 where
  pub funcs : ModuleFunctions
  pub located : AreLocated IsPlace bytes funcs
  pub transform : Transform
  pub gains : LeavesWritten (GainsSection c bytes name (carried transform pairs)) c output
  pub told : IsTransformOf c true (λ number. locations_in (local_in (functions funcs) number)) gains.module_left output transform
  pub stands : Contains gains.written.module_written.customs (section_of name (carried transform pairs))

-- the section is there, or a refusal with its cause: what is too large has such a section, of whatever data
abbrev pub CarriesPlaces : Config → (bytes name : List ℕ) → (pairs : List (ℕ × ℕ)) → Result (Vec ℕ) Error → Type 0
CarriesPlaces c bytes name pairs result =
    Answers c bytes (λ (output : Vec ℕ). IsWithPlaces c bytes name pairs output.items) ((payload : List ℕ) × LeavesLarge (GainsSection c bytes name payload) c)
    (IfCaller ((is_apart name || is_dylink_name name) ≡ true)) result
