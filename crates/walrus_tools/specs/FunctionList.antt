-- Which functions of a module stay, what each costs, and under which names; and the same as bytes ("Structure > Modules > Indices", "Binary Format >
-- Code Section").
use Rattle.std.specs.Prelude.{ℕ, ◌-◌, ◌^◌, ◌≤◌, ◌⊎◌, List, ◌++◌, Option, Result, map, ◌≡◌}
use Rattle.std.specs.Global.{Vec}
use Rattle.std.specs.Option.{option_to_list}
use Rattle.walrus.specs.Base.Arena.{item_at}
use Rattle.walrus.specs.Base.Operators.{function_item}
use Rattle.walrus.specs.Code.Transform.{Transform}
use Rattle.walrus.specs.Model.Abstract.{Abstract, AnItem, Name}
use Rattle.walrus.specs.Model.Config.{Config}
use Rattle.walrus.specs.Contents.View.{name_at}
use Rattle.walrus.specs.Items.Functions.{FunctionValue}
use Rattle.walrus.specs.Items.Seen.{text_of}
use Rattle.walrus.specs.Items.Error.{Error}
use Rattle.walrus_sections.specs.Choice.{Choice}
use Rattle.walrus_tools.specs.ChosenModule.{KeepsChosen, RefusesChosen}
pub use Rattle.walrus_sections.specs.Numbers.{IsLongName, RefusesIf, name_bytes, no_name, number_bytes}
use Rattle.walrus.specs.Edits.{EditsTo, RefusesEdit}
use Rattle.walrus.specs.Ends.{Answers, LeavesLarge}
use Rattle.walrus_tools.specs.Measures.{IsMeasured}
use Rattle.walrus_tools.specs.Spelled.{AreLong, AreSpelled}
use Rattle.walrus_tools.specs.declared.tool.list.Listed.{Listed}

-- a function: its index, how many bytes its body has, and its name, if it has one
pub record ListedFunction : Type 0 where
  pub index : ℕ
  pub size : ℕ
  pub name : List Name

-- that of an answer
abbrev pub listed_seen : Listed → ListedFunction
listed_seen f = record { index = f.index; size = f.size; name = option_to_list (text_of f.name) }

-- that of a function with the start and the end of its body, by the names that functions have
abbrev pub listed_of : (names : ℕ → List Name) → ℕ × (ℕ × ℕ) → ListedFunction
listed_of names f = record { index = f.0; size = f.1.1 - f.1.0; name = names f.0 }

-- the name of the function at a place, or none
abbrev pub names_in : List (Option FunctionValue) → ℕ → List Name
names_in slots f = name_at (λ (v : FunctionValue). v.name) (item_at slots f)

-- the names of the functions of a module
abbrev pub function_names : Abstract → ℕ → List Name
function_names m f = m.named (AnItem (function_item f))

-- ---- from bytes to the list

-- of the chosen exports: each function with a body that is left, by rising index, with what its body has there and its name
pub record IsListed (c : Config) (bytes : List ℕ) (choices : List Choice) (functions : List ListedFunction) : Type 0 where
  pub module_left : Abstract
  pub transform : Transform
  pub measured : IsMeasured (KeepsChosen choices) c bytes module_left transform
  pub is : functions ≡ map (listed_of (function_names module_left)) transform.function_ranges

-- the list, or a refusal with its cause
abbrev pub AnswersListed : Config → (bytes : List ℕ) → List Choice → Result (Vec Listed) Error → Type 0
AnswersListed c bytes choices result =
    Answers c bytes (λ (list : Vec Listed). IsListed c bytes choices (map listed_seen list.items)) (LeavesLarge (EditsTo (KeepsChosen choices) c bytes) c) (RefusesEdit (RefusesChosen choices) c bytes) result

-- ---- the list as bytes

abbrev pub listed_bytes : ListedFunction → List ℕ
listed_bytes f = number_bytes f.index ++ number_bytes f.size ++ name_bytes f.name

-- one of the numbers has more than 32 bits, or the name is too long
abbrev pub IsLong : ListedFunction → Type 0
IsLong f = (2 ^ 32 ≤ f.index) ⊎ ((2 ^ 32 ≤ f.size) ⊎ IsLongName f.name)

-- the bytes of the list, or a refusal with its cause
abbrev pub AnswersFunctions : Config → (bytes : List ℕ) → List Choice → Result (Vec ℕ) Error → Type 0
AnswersFunctions c bytes choices result =
    Answers c bytes (λ (list : Vec ℕ). AreSpelled IsLong (IsListed c bytes choices) listed_bytes list.items)
    (LeavesLarge (EditsTo (KeepsChosen choices) c bytes) c ⊎ AreLong IsLong (IsListed c bytes choices)) (RefusesEdit (RefusesChosen choices) c bytes) result
