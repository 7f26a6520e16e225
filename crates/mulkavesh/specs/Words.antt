-- What the arguments of the command line say, as the usage has it: a subcommand; behind it options and plain arguments in any order; and behind `--`
-- plain ones alone. Of the plain ones the first is what the subcommand is about, if it is about anything, and the next one is IN.
use Rattle.std.specs.Prelude.{◌≡◌, ◌≢◌, ◌⊎◌, ◌↔◌, ℕ, Bool, true, false, List, [], ◌∷◌, ◌++◌, Option, Some, None, All, Contains, is_some, flat_map, map, codes, string_bytes, String, ⊤}
use Rattle.std.specs.List.{last_or}
use Rattle.std.specs.declared.alloc.Global.{Global}
use Rattle.walrus_tools.specs.FunctionMeaning.{SaysIndex}
use Rattle.mulkavesh.specs.declared.order.Work.{Work}
use Rattle.mulkavesh.specs.declared.order.Flag.{Flag}
use Rattle.mulkavesh.specs.declared.order.Flag.TheVariants.{Quiet}
use Rattle.mulkavesh.specs.declared.order.Named.{Named}
use Rattle.mulkavesh.specs.declared.order.Naming.{Naming}
use Rattle.mulkavesh.specs.declared.order.Naming.TheVariants as naming
use Rattle.mulkavesh.specs.declared.order.Order.{Order}
use Rattle.mulkavesh.specs.declared.order.Value.{Value}
use Rattle.mulkavesh.specs.declared.order.Asked.{Asked}
use Rattle.mulkavesh.specs.declared.order.Asked.TheVariants.{Help, HelpOf, Version, Run}
use Rattle.mulkavesh.specs.Order.{Said, are_apart, asks_gone, flag_word, has_flag, has_naming, has_operand, is_set, is_strip, joined_front, names_some, naming_word, needs, said, sign, value_bytes, work_word}

-- one argument
abbrev pub Word : Type 0
Word = List ℕ

-- an option and its value
abbrev pub Valued : Type 0
Valued = Naming × Word

-- ---- pieces

-- what stands behind a subcommand: an option without a value, by its whole name or as `-q`; an option and its value, in two arguments or in one; or a
-- plain argument
pub data Piece : Type 0 where
  flag : Flag → Piece
  quiet : Piece
  valued : Naming → Word → Piece
  joined : Naming → Word → Piece
  plain : Word → Piece

abbrev pub piece_words : Piece → List Word
piece_words (flag f) = flag_word f ∷ []
piece_words quiet = codes "-q" ∷ []
piece_words (valued n w) = naming_word n ∷ w ∷ []
piece_words (joined n w) = (joined_front (Some n) ++ w) ∷ []
piece_words (plain w) = w ∷ []

abbrev pub flag_in : Piece → List Flag
flag_in (flag f) = f ∷ []
flag_in quiet = Quiet ∷ []
flag_in _ = []

abbrev pub valued_in : Piece → List Valued
valued_in (valued n w) = (n, w) ∷ []
valued_in (joined n w) = (n, w) ∷ []
valued_in _ = []

abbrev pub plain_in : Piece → List Word
plain_in (plain w) = w ∷ []
plain_in _ = []

-- the argument is a dash alone, or begins with none
abbrev pub IsPlain : Word → Type 0
IsPlain w = (w ≡ codes "-") ⊎ ((rest : Word) → w ≢ codes "-" ++ rest)

-- a plain argument is no option; in one argument with `-o` or `-n` a value has a byte or more
abbrev pub IsPiece : Piece → Type 0
IsPiece (plain w) = IsPlain w
IsPiece (joined n w) = sign n ≡ [] → w ≢ []
IsPiece _ = ⊤

-- the arguments behind `--`, if that stands there
abbrev pub ending_words : Option (List Word) → List Word
ending_words None = []
ending_words (Some words) = codes "--" ∷ words

abbrev pub behind_words : Option (List Word) → List Word
behind_words None = []
behind_words (Some words) = words

-- ---- values

-- the value, where the option names the file that is written
abbrev pub out_of : Valued → List Word
out_of (naming.Short, w) = w ∷ []
out_of (naming.Long, w) = w ∷ []
out_of _ = []

-- where it says how lines are ordered
abbrev pub by_of : Valued → List Word
by_of (naming.By, w) = w ∷ []
by_of _ = []

-- where it says how many lines there are
abbrev pub count_of : Valued → List Word
count_of (naming.Count, w) = w ∷ []
count_of _ = []

-- the option and its value, where several such may stand there: all others
abbrev pub named_of : Valued → List Valued
named_of (naming.Short, w) = []
named_of (naming.Long, w) = []
named_of (naming.By, w) = []
named_of (naming.Count, w) = []
named_of v = v ∷ []

-- the word says that the largest stands first, or that they stand by index
abbrev pub SaysBy : Word → (by_size : Bool) → Type 0
SaysBy w true = w ≡ codes "size"
SaysBy w false = w ≡ codes "index"

-- the option can have this value
abbrev pub IsGood : Valued → Type 0
IsGood (naming.By, w) = (by_size : Bool) × SaysBy w by_size
IsGood (naming.Count, w) = (count : ℕ) × SaysIndex w count
IsGood v = ⊤

-- as the last such word says; and by index where there is none
abbrev pub IsBy : Option Word → (by_size : Bool) → Type 0
IsBy (Some w) by_size = SaysBy w by_size
IsBy None by_size = by_size ≡ false

-- as the last such word says, if there is one
abbrev pub IsCount : Option Word → (count : Option ℕ) → Type 0
IsCount (Some w) (Some count) = SaysIndex w count
IsCount (Some w) None = ⊥
IsCount None count = count ≡ None

-- the option and its value, as they are held
abbrev pub held_value : Named → Valued
held_value v = (v.naming, value_bytes v.value)

-- ---- an order

abbrev pub one_word : Option (String Global) → List Word
one_word None = []
one_word (Some w) = string_bytes w ∷ []

abbrev pub one_value : Option Value → List Word
one_value None = []
one_value (Some v) = value_bytes v ∷ []

-- of the plain words the first is what the subcommand is about
pub record IsFilled (o : Said) : Type 0 where
  pub none : has_operand o.work ≡ false → o.operand ≡ None
  pub first : has_operand o.work ≡ true → o.operand ≡ None → o.input ≡ None

-- the arguments say this, word by word; something may be missing
pub record Reads (words : List Word) (o : Said) : Type 0 where
  pub pieces : List Piece
  pub behind : Option (List Word)
  pub are : words ≡ work_word o.work ∷ flat_map piece_words pieces ++ ending_words behind
  pub made : All IsPiece pieces
  pub known : All (λ (f : Flag). has_flag o.work f ≡ true) (flat_map flag_in pieces)
  pub known_values : All (λ (v : Valued). (has_naming o.work v.0 ≡ true) × IsGood v) (flat_map valued_in pieces)
  pub flags : (f : Flag) → (is_set o f ≡ true) ↔ Contains (flat_map flag_in pieces) f
  pub values : map held_value o.values ≡ flat_map named_of (flat_map valued_in pieces)
  pub output : one_value o.output ≡ flat_map out_of (flat_map valued_in pieces)
  pub by : IsBy (last_or None (flat_map by_of (flat_map valued_in pieces))) o.listing.by_size
  pub count : IsCount (last_or None (flat_map count_of (flat_map valued_in pieces))) o.listing.count
  pub plain : one_word o.operand ++ one_word o.input ≡ flat_map plain_in pieces ++ behind_words behind
  pub filled : IsFilled o

-- all is said that the subcommand has to be told, and what it is told goes together
pub record IsWhole (o : Said) : Type 0 where
  pub about : has_operand o.work ≡ true → is_some o.operand ≡ true
  pub gone : is_strip o.work ≡ true → asks_gone o ≡ true
  pub meant : needs o.work ≡ true → names_some o ≡ true
  pub together : are_apart o.listing ≡ false

-- the arguments say this order
pub record SaysOrder (words : List Word) (o : Said) : Type 0 where
  pub reads : Reads words o
  pub whole : IsWhole o

-- ---- help

-- what can stand in front of an argument that asks for help: an option with the argument behind it, which is its value; or an argument alone
pub data Front : Type 0 where
  pair : Naming → Word → Front
  single : Word → Front

abbrev pub front_words : Front → List Word
front_words (pair n w) = naming_word n ∷ w ∷ []
front_words (single w) = w ∷ []

-- the argument is `-h` or `--help`
abbrev pub IsHelp : Word → Type 0
IsHelp w = (w ≡ codes "-h") ⊎ (w ≡ codes "--help")

-- what stands alone is not `--`, doesn't ask for help itself, and is no option that has a value behind it
abbrev pub IsFront : Front → Type 0
IsFront (pair n w) = ⊤
IsFront (single w) = (w ≢ codes "--") × (IsHelp w → ⊥) × ((n : Naming) → w ≢ naming_word n)

-- `-h` or `--help` stands there, behind no `--`, and not as the value of an option
pub record AsksHelp (words : List Word) : Type 0 where
  pub front : List Front
  pub asking : Word
  pub rest : List Word
  pub are : words ≡ flat_map front_words front ++ asking ∷ rest
  pub front_is : All IsFront front
  pub asks : IsHelp asking

-- no argument asks for help
abbrev pub IsUnhelped : List Word → Type 0
IsUnhelped words = AsksHelp words → ⊥

-- the word is no subcommand
abbrev pub IsNoWork : Word → Type 0
IsNoWork word = (w : Work) → word ≡ work_word w → ⊥

-- the first argument is this subcommand
abbrev pub BeginsWith : Work → List Word → Type 0
BeginsWith w words = (rest : List Word) × (words ≡ work_word w ∷ rest)

-- ---- what they say

-- the arguments ask for this
pub data Says (words : List Word) : Asked → Type 0 where
  help : AsksHelp words → ((w : Work) → BeginsWith w words → ⊥) → Says words Help
  help_alone : words ≡ codes "help" ∷ [] → Says words Help
  help_of : (w : Work) → BeginsWith w words → AsksHelp words → Says words (HelpOf w)
  help_named : (w : Work) → words ≡ codes "help" ∷ work_word w ∷ [] → Says words (HelpOf w)
  version : (words ≡ codes "-V" ∷ []) ⊎ (words ≡ codes "--version" ∷ []) → Says words Version
  order : (o : Order) → SaysOrder words (said o) → Says words (Run o)
