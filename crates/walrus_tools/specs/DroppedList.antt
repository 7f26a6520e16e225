-- Which functions with a body go where what nothing reaches does, how large each is, and under which names; and the same as bytes ("Structure >
-- Modules > Indices", "Binary Format > Code Section").
use Rattle.std.specs.Prelude.{ℕ, Bool, List, [], ◌∷◌, Result, map, ◌≡◌, if◌then◌else◌}
use Rattle.std.specs.Global.{Vec}
use Rattle.walrus.specs.Base.Operators.{function_item}
use Rattle.walrus.specs.Model.Abstract.{Name}
use Rattle.walrus.specs.Model.Config.{Config}
use Rattle.walrus.specs.Model.Kept.{Kept}
use Rattle.walrus.specs.Items.Error.{Error}
use Rattle.walrus_sections.specs.Choice.{Choice}
use Rattle.walrus_tools.specs.ChosenModule.{KeepsChosen, RefusesChosen}
use Rattle.walrus.specs.Edited.{Edited, edited_view}
use Rattle.walrus.specs.Edits.{RefusesEdit}
use Rattle.walrus.specs.Ends.{Answers}
use Rattle.walrus_tools.specs.FunctionList.{IsLong, ListedFunction, function_names, listed_bytes, listed_seen}
use Rattle.walrus_sections.specs.Parts.{Part, SectionPart, FunctionPart, SegmentPart, HasParts}
use Rattle.walrus_tools.specs.Spelled.{AreLong, AreSpelled}
use Rattle.walrus_tools.specs.Those.{AreThose}
use Rattle.walrus_sections.specs.declared.parts.Item.{Item}
use Rattle.walrus_tools.specs.declared.tool.list.Listed.{Listed}

-- the functions among these parts, in their order
abbrev pub functions_among : List Part → List Item
functions_among [] = []
functions_among (SectionPart p ∷ parts) = functions_among parts
functions_among (FunctionPart f ∷ parts) = f ∷ functions_among parts
functions_among (SegmentPart d ∷ parts) = functions_among parts

-- a function that stands so in the bytes, by the names that functions have
abbrev pub listed_part : (names : ℕ → List Name) → Item → ListedFunction
listed_part names f = record { index = f.index; size = f.size; name = names f.index }

-- ---- from bytes to the list

-- of the chosen exports: each function with a body that isn't kept, by rising index, with what its body has in the bytes and its name
pub record IsDropped (c : Config) (bytes : List ℕ) (choices : List Choice) (functions : List ListedFunction) : Type 0 where
  pub edited : Edited (KeepsChosen choices) c bytes
  pub parts : List Part
  pub has : HasParts bytes parts
  pub gone : List Item
  pub are : AreThose (λ f. Kept (edited_view edited) (function_item f.index) → ⊥) (functions_among parts) gone
  pub is : functions ≡ map (listed_part (function_names (edited_view edited))) gone

-- the list, or a refusal with its cause
abbrev pub AnswersDropped : Config → (bytes : List ℕ) → List Choice → Result (Vec Listed) Error → Type 0
AnswersDropped c bytes choices result = Answers c bytes (λ (list : Vec Listed). IsDropped c bytes choices (map listed_seen list.items)) ⊥ (RefusesEdit (RefusesChosen choices) c bytes) result

-- the bytes of the list, or a refusal with its cause
abbrev pub AnswersDroppedList : Config → (bytes : List ℕ) → List Choice → Result (Vec ℕ) Error → Type 0
AnswersDroppedList c bytes choices result =
    Answers c bytes (λ (list : Vec ℕ). AreSpelled IsLong (IsDropped c bytes choices) listed_bytes list.items) (AreLong IsLong (IsDropped c bytes choices)) (RefusesEdit (RefusesChosen choices) c bytes) result

-- ---- part by part

-- what is listed of a part, where it is told which functions stay
abbrev pub dropped_of : (stays : ℕ → Bool) → (names : ℕ → List Name) → Part → List ListedFunction
dropped_of stays names (SectionPart p) = []
dropped_of stays names (FunctionPart f) = if stays f.index then [] else listed_part names f ∷ []
dropped_of stays names (SegmentPart d) = []
