-- What is wrong with arguments that say nothing: each mistake is there, of its kind and with its argument.
use Rattle.std.specs.Prelude.{◌≡◌, ◌≢◌, ◌⊎◌, ℕ, Bool, true, false, List, [], ◌∷◌, ◌++◌, Option, Some, None, Result, Ok, Err, All, flat_map, length, codes, string_bytes, if◌then◌else◌}
use Rattle.mulkavesh.specs.declared.order.Work.{Work}
use Rattle.mulkavesh.specs.declared.order.Flag.{Flag}
use Rattle.mulkavesh.specs.declared.order.Naming.{Naming}
use Rattle.mulkavesh.specs.declared.order.Order.{Order}
use Rattle.mulkavesh.specs.declared.order.Asked.{Asked}
use Rattle.mulkavesh.specs.declared.order.Asked.TheVariants.{Version}
use Rattle.mulkavesh.specs.declared.mistakes.Wrong.{Wrong}
use Rattle.mulkavesh.specs.declared.mistakes.Wrong.TheVariants.{UnknownOption, NotTaken, TakesNoValue, NoValue, BadValue, SecondOutput, SecondInput, OperandMissing, NoSection, NothingMeant, Apart, OutOfMemory}
use Rattle.mulkavesh.specs.declared.mistakes.Mistake.{Mistake}
use Rattle.mulkavesh.specs.declared.mistakes.Mistake.TheVariants.{NoArguments, UnknownSubcommand, Extra, Behind}
use Rattle.mulkavesh.specs.Order.{Said, are_apart, asks_gone, has_flag, has_naming, has_operand, is_strip, joined_front, names_some, naming_word, needs, said, value_bytes, work_word}
use Rattle.mulkavesh.specs.Words.{IsGood, IsNoWork, IsPiece, IsPlain, Piece, Reads, Says, SaysOrder, Word, behind_words, ending_words, flag_in, out_of, piece_words, plain_in, valued_in}

-- ---- behind a subcommand

-- these are pieces, and then these arguments
pub record Stands (words : List Word) (pieces : List Piece) (more : List Word) : Type 0 where
  pub are : words ≡ flat_map piece_words pieces ++ more
  pub made : All IsPiece pieces

-- how many plain arguments there can be: what the subcommand is about, and IN
abbrev pub room_if : (has_operand : Bool) → ℕ
room_if true = 2
room_if false = 1

abbrev pub room : Work → ℕ
room w = room_if (has_operand w)

-- an option begins with a dash, isn't a dash alone or `--`, and no piece begins with it that isn't plain
pub record IsUnknown (word : Word) : Type 0 where
  pub dashed : (rest : Word) × (word ≡ codes "-" ++ rest)
  pub no_dash : word ≢ codes "-"
  pub no_ending : word ≢ codes "--"
  pub none : (p : Piece) (more : List Word) → plain_in p ≡ [] → piece_words p ≡ word ∷ more → ⊥

-- the argument is this option without a value
abbrev pub IsFlag : Flag → Word → Type 0
IsFlag f word = (p : Piece) × (piece_words p ≡ word ∷ []) × (flag_in p ≡ f ∷ [])

-- the argument is this option, which has a value, or begins with it and a value
abbrev pub IsNamed : Naming → Word → Type 0
IsNamed n word = (word ≡ naming_word n) ⊎ ((value : Word) × (word ≡ joined_front (Some n) ++ value))

-- the argument is an option that the subcommand doesn't have: without a value, or one that has one
abbrev pub IsNotTaken : Work → Word → Type 0
IsNotTaken w word = ((f : Flag) × IsFlag f word × (has_flag w f ≡ false)) ⊎ ((n : Naming) × IsNamed n word × (has_naming w n ≡ false))

-- the argument is an option that takes no value, and a value
abbrev pub HasValue : Word → Type 0
HasValue word = (f : Flag) × (front : Word) × (value : Word) × IsFlag f front × (word ≡ front ++ (codes "=" ++ value))

-- where arguments stand behind pieces that name these files to be written and have these plain arguments: the first of them is wrong so
module _ (w : Work) (outs plains more : List Word) where
  abbrev pub WrongAt : Wrong → Type 0
  WrongAt (UnknownOption a) = (rest : List Word) × (more ≡ string_bytes a ∷ rest) × IsUnknown (string_bytes a)
  WrongAt (NotTaken a) = (rest : List Word) × (more ≡ string_bytes a ∷ rest) × IsNotTaken w (string_bytes a)
  WrongAt (TakesNoValue a) = (rest : List Word) × (more ≡ string_bytes a ∷ rest) × HasValue (string_bytes a)
  WrongAt (NoValue n) = (more ≡ naming_word n ∷ []) × (has_naming w n ≡ true)
  WrongAt (BadValue n v) = (p : Piece) × (rest : List Word) × IsPiece p × (more ≡ piece_words p ++ rest) × (valued_in p ≡ (n, value_bytes v) ∷ []) × (has_naming w n ≡ true) × (IsGood (n, value_bytes v) → ⊥)
  WrongAt (SecondOutput v) = (p : Piece) × (rest : List Word) × IsPiece p × (more ≡ piece_words p ++ rest) × (flat_map out_of (valued_in p) ≡ value_bytes v ∷ []) × (outs ≢ [])
  WrongAt (SecondInput a) = (behind : Option (List Word)) × (rest : List Word) × (more ≡ ending_words behind ++ string_bytes a ∷ rest) × (behind ≡ None → IsPlain (string_bytes a)) × (length (plains ++ behind_words behind) ≡ room w)
  WrongAt _ = ⊥

-- this is missing of what the arguments say, or doesn't go together in it
abbrev pub IsMissing : Said → Wrong → Type 0
IsMissing o OperandMissing = (has_operand o.work ≡ true) × (o.operand ≡ None)
IsMissing o NoSection = (is_strip o.work ≡ true) × (asks_gone o ≡ false)
IsMissing o NothingMeant = (needs o.work ≡ true) × (names_some o ≡ false)
IsMissing o Apart = are_apart o.listing ≡ true
IsMissing o _ = ⊥

-- this is wrong behind the subcommand
abbrev pub IsWrong : (w : Work) (words : List Word) → Wrong → Type 0
IsWrong w words wrong =
    ((pieces : List Piece) × (more : List Word) × Stands words pieces more × WrongAt w (flat_map out_of (flat_map valued_in pieces)) (flat_map plain_in pieces) more wrong)
    ⊎ ((o : Said) × Reads (work_word w ∷ words) o × IsMissing o wrong)

-- memory ran out
abbrev pub is_memory_wrong : Wrong → Bool
is_memory_wrong OutOfMemory = true
is_memory_wrong _ = false

-- the order that they say; or what is wrong, and they say none; or memory ran out
abbrev pub IsOrdered : (w : Work) (words : List Word) → Result Order Wrong → Type 0
IsOrdered w words (Ok o) = SaysOrder (work_word w ∷ words) (said o)
IsOrdered w words (Err wrong) = (is_memory_wrong wrong ≡ true) ⊎ (IsWrong w words wrong × ((o : Said) → SaysOrder (work_word w ∷ words) o → ⊥))

-- ---- all of them

-- it is no subcommand, and nothing else that can stand first
pub record IsNoSubcommand (word : Word) : Type 0 where
  pub no_work : IsNoWork word
  pub no_help : word ≢ codes "help"
  pub no_version : word ≢ codes "-V"
  pub no_long_version : word ≢ codes "--version"

-- they ask for the version, or by its name for the help of a subcommand, and nothing can stand behind them
pub data IsFull (words : List Word) : Type 0 where
  at_version : Says words Version → IsFull words
  at_help : (w : Work) → words ≡ codes "help" ∷ work_word w ∷ [] → IsFull words

-- this is wrong with the arguments
abbrev pub IsMistake : (words : List Word) → Mistake → Type 0
IsMistake words NoArguments = words ≡ []
IsMistake words (UnknownSubcommand a) = ((rest : List Word) × (words ≡ string_bytes a ∷ rest) × IsNoSubcommand (string_bytes a)) ⊎ ((rest : List Word) × (words ≡ codes "help" ∷ string_bytes a ∷ rest) × IsNoWork (string_bytes a))
IsMistake words (Extra a) = (front : List Word) × (rest : List Word) × (words ≡ front ++ string_bytes a ∷ rest) × IsFull front
IsMistake words (Behind w wrong) = (rest : List Word) × (words ≡ work_word w ∷ rest) × IsWrong w rest wrong

abbrev pub is_memory : Mistake → Bool
is_memory (Behind w wrong) = is_memory_wrong wrong
is_memory _ = false

-- the status of a run that tells it
abbrev pub mistake_status : Mistake → ℕ
mistake_status mistake = if is_memory mistake then 1 else 2

-- what the arguments ask for; or what is wrong with them, and they ask for nothing; or memory ran out
abbrev pub IsTold : List Word → Result Asked Mistake → Type 0
IsTold words (Ok asked) = Says words asked
IsTold words (Err mistake) = (is_memory mistake ≡ true) ⊎ (IsMistake words mistake × ((asked : Asked) → Says words asked → ⊥))
