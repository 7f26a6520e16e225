-- What is wrong with bytes that aren't accepted, and how that is told in eight bytes.
use Rattle.std.specs.Prelude.{ℕ, ◌<◌, ◌^◌, ◌≤◌, List, ◌++◌, Option, Some, None, Result, Ok, Err, codes, decimal, ◌≡◌, ⊤}
use Rattle.std.specs.Global.{Vec}
use Rattle.walrus.specs.Items.Error.{Error}
use Rattle.walrus.specs.Items.Error.TheVariants.{Memory, TooLarge}
use Rattle.walrus.specs.Model.Config.{Config}
use Rattle.walrus.specs.Modules.Faults.{IsFault}
use Rattle.walrus.specs.Modules.Fault.{Fault}
use Rattle.walrus.specs.Modules.Fault.TheVariants.{Body, Header, Rule, Section}
use Rattle.walrus.specs.Theorem.Features.{features_of}
use Rattle.walrus.specs.Theorem.Headline.{Accepts}
use Rattle.walrus_sections.specs.Beginnings.{BeginsAs, beginning_number, beginning_text}
use Rattle.walrus_tools.specs.FunctionList.{number_bytes}
use Rattle.walrus_sections.specs.declared.beginnings.Beginning.{Beginning}
use Rattle.wasm_wire.specs.declared.rules.broken.BrokenRule.{BrokenRule}
use Rattle.wasm_wire.specs.declared.rules.broken.BrokenRule.TheVariants as rules

-- nothing exactly where the bytes are accepted, and otherwise something that is wrong with them
abbrev pub Finds : Config → List ℕ → Option Fault → Type 0
Finds c bytes None = Accepts c bytes
Finds c bytes (Some fault) = IsFault (features_of c) bytes fault × (Accepts c bytes → ⊥)

-- what was found, or memory ran out
abbrev pub Diagnoses : Config → List ℕ → Result (Option Fault) Error → Type 0
Diagnoses c bytes (Ok found) = Finds c bytes found
Diagnoses c bytes (Err (Memory e)) = ⊤
Diagnoses c bytes (Err _) = ⊥

-- ---- in eight bytes

-- the number of a rule
abbrev pub rule_number : BrokenRule → ℕ
rule_number rules.Order = 1
rule_number rules.Types = 2
rule_number rules.Indices = 3
rule_number rules.FunctionTypes = 4
rule_number rules.Limits = 5
rule_number rules.Counts = 6
rule_number rules.ExportNames = 7
rule_number rules.Start = 8
rule_number rules.Offsets = 9
rule_number rules.Locals = 10

-- the kind of what was found, and its number: what the bytes begin as, the place of a section, the number of a rule, the index of a function
abbrev pub numbers_of : Beginning → Option Fault → ℕ × ℕ
numbers_of begins None = (0, 0)
numbers_of begins (Some Header) = (1, beginning_number begins)
numbers_of begins (Some (Section place)) = (2, place)
numbers_of begins (Some (Rule rule)) = (3, rule_number rule)
numbers_of begins (Some (Body index)) = (4, index)

-- two numbers of 32 bits, the lowest byte first
abbrev pub pair_bytes : ℕ × ℕ → List ℕ
pair_bytes numbers = number_bytes numbers.0 ++ number_bytes numbers.1

-- the two numbers of what was found
abbrev pub FindsNumbers : Config → (bytes : List ℕ) → ℕ × ℕ → Type 0
FindsNumbers c bytes numbers =
    (found : Option Fault) × (begins : Beginning) × Finds c bytes found × BeginsAs bytes begins × (numbers ≡ numbers_of begins found)

-- what was found, in eight bytes; too large exactly where its number passes 32 bits
abbrev pub AnswersFault : Config → (bytes : List ℕ) → Result (Vec ℕ) Error → Type 0
AnswersFault c bytes (Ok told) = (numbers : ℕ × ℕ) × FindsNumbers c bytes numbers × (numbers.1 < 2 ^ 32) × (told.items ≡ pair_bytes numbers)
AnswersFault c bytes (Err (Memory e)) = ⊤
AnswersFault c bytes (Err TooLarge) = (numbers : ℕ × ℕ) × FindsNumbers c bytes numbers × (2 ^ 32 ≤ numbers.1)
AnswersFault c bytes (Err _) = ⊥

-- ---- in words

abbrev pub rule_text : BrokenRule → List ℕ
rule_text rules.Order = codes "the sections stand out of order, or one stands twice"
rule_text rules.Types = codes "a type names one that isn't declared by the end of its group, or has a supertype that isn't before it, or more than one"
rule_text rules.Indices = codes "an index names something that isn't declared, or isn't yet"
rule_text rules.FunctionTypes = codes "a function or a tag has a type that is no function type"
rule_text rules.Limits = codes "the limits of a table or a memory aren't allowed"
rule_text rules.Counts = codes "the number of bodies or of data segments isn't the one that is declared"
rule_text rules.ExportNames = codes "two exports have the same name"
rule_text rules.Start = codes "the start function has parameters or results"
rule_text rules.Offsets = codes "the offset of a segment isn't of the type of addresses"
rule_text rules.Locals = codes "a body declares more than 50,000 locals"

abbrev pub fault_text : Beginning → Fault → List ℕ
fault_text begins Header = beginning_text begins
fault_text begins (Section place) = codes "no well-formed section stands at byte " ++ decimal place
fault_text begins (Rule rule) = rule_text rule
fault_text begins (Body index) =
    codes "the body of function " ++ decimal index ++ codes " isn't made of allowed instructions, well nested, with declared indices"

-- the words for what is wrong with these bytes
abbrev pub WordsFault : (bytes : List ℕ) → Fault → (text : List ℕ) → Type 0
WordsFault bytes fault text = (begins : Beginning) × BeginsAs bytes begins × (text ≡ fault_text begins fault)
