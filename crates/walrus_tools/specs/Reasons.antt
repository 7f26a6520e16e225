-- Why a function of a module stays, and what each function costs that does, as a text ("Structure > Modules > Indices", "Binary Format > Code
-- Section").
use Rattle.std.specs.Prelude.{ℕ, ◌-◌, List, ◌++◌, Option, Some, None, IsSome, Result, Ok, Err, String, codes, decimal, flat_map, option_map, string_bytes, ◌≡◌}
use Rattle.std.specs.declared.alloc.Global.{Global}
use Rattle.walrus.specs.Base.Arena.{item_at}
use Rattle.walrus.specs.Base.Id.{place}
use Rattle.walrus.specs.Base.IdValue.{Id}
use Rattle.walrus.specs.Base.FunctionKey.{FunctionKey}
use Rattle.walrus.specs.Base.Operators.{Space, Types, Functions, Tables, Memories, Tags, Globals, Elements, DataSegments, Item, function_item}
use Rattle.walrus.specs.Code.Transform.{Transform}
use Rattle.walrus.specs.Model.Abstract.{Abstract}
use Rattle.walrus.specs.Model.Config.{Config}
use Rattle.walrus.specs.Items.Error.{Error}
use Rattle.walrus.specs.Items.Error.TheVariants.{NotFound}
use Rattle.walrus.specs.Items.Functions.{FunctionValue, functions}
use Rattle.walrus.specs.Contents.Named.{items_in}
use Rattle.walrus.specs.Contents.Contents.{Contents}
use Rattle.walrus.specs.Why.{Explains}
use Rattle.walrus.specs.Edits.{AnswersEdited, with_customs}
use Rattle.walrus.specs.Ends.{IfNotFound}
use Rattle.walrus_tools.specs.Measures.{IsMeasured, IsSame}
use Rattle.walrus_tools.specs.declared.lines.Chain.{Chain}

-- ---- the text

abbrev pub word_of : Space → List ℕ
word_of Types = codes "type"
word_of Functions = codes "function"
word_of Tables = codes "table"
word_of Memories = codes "memory"
word_of Tags = codes "tag"
word_of Globals = codes "global"
word_of Elements = codes "element"
word_of DataSegments = codes "data"

-- an item, as `function 3`
abbrev pub item_text : Item → List ℕ
item_text x = word_of x.0 ++ codes " " ++ decimal x.1

abbrev pub item_line : Item → List ℕ
item_line x = item_text x ++ codes "\n"

-- a line for each item of the chain, or one that there is none
abbrev pub chain_text : Item → Option (List Item) → List ℕ
chain_text x None = item_text x ++ codes " isn't reached\n"
chain_text x (Some chain) = flat_map item_line chain

-- a function whose body has so many bytes
abbrev pub size_text : (index bytes : ℕ) → List ℕ
size_text index bytes = item_text (function_item index) ++ codes ": " ++ decimal bytes ++ codes " bytes\n"

-- a function, with the start and the end of its body
abbrev pub size_line : ℕ × (ℕ × ℕ) → List ℕ
size_line f = size_text f.0 (f.1.1 - f.1.0)

-- the chain to an item, and then what each function costs
abbrev pub report_text : Item → Option (List Item) → Transform → List ℕ
report_text x chain transform = chain_text x chain ++ flat_map size_line transform.function_ranges

-- ---- from bytes to the text

-- The bytes are those of a module with this function, to which this chain leads, or none; of what gc left of it, bytes were written, whose places
-- the transform tells; and the text says so.
pub record IsReason (c : Config) (bytes : List ℕ) (function : ℕ) (text : List ℕ) : Type 0 where
  pub module_left : Abstract
  pub transform : Transform
  pub measured : IsMeasured IsSame c bytes module_left transform
  pub there : IsSome (item_at (functions measured.comes.module_parsed.funcs) function)
  pub chain : Option (List Item)
  pub explains : Explains (with_customs measured.comes.customs measured.comes.module_parsed) (function_item function) chain
  pub is : text ≡ report_text (function_item function) chain transform

-- there is no function of this index
abbrev pub LacksFunction : ℕ → Contents → Error → Type 0
LacksFunction function m e = IfNotFound (item_at (functions m.funcs) function ≡ None) e

-- the text, or a refusal with its cause: as that of a module that is parsed, not edited, rid of what nothing reaches and written; or there is
-- no such function
abbrev pub AnswersReason : Config → (bytes : List ℕ) → (function : ℕ) → Result (String Global) Error → Type 0
AnswersReason c bytes function (Ok text) = IsReason c bytes function (string_bytes text)
AnswersReason c bytes function (Err e) = AnswersEdited IsSame (LacksFunction function) c bytes (Err e)

-- ---- of what a module holds

-- what an answer holds: a chain, or none
abbrev pub chain_seen : Chain → Option (List Item)
chain_seen answer = option_map items_in answer.links

-- the function of this index, or that there is none
abbrev pub FindsFunction : List (Option FunctionValue) → ℕ → Result (Id FunctionKey) Error → Type 0
FindsFunction slots function (Ok id) = (place id ≡ function) × IsSome (item_at slots function)
FindsFunction slots function (Err NotFound) = item_at slots function ≡ None
FindsFunction slots function (Err _) = ⊥
