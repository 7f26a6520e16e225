-- Where each argument behind the subcommand goes, as the program puts it there.
use Rattle.std.specs.Prelude.{◌≡◌, ◌⊎◌, ◌==◌, ℕ, ◌^◌, Bool, true, false, not, ◌&&◌, ◌||◌, List, [], ◌∷◌, ◌++◌, Option, Some, None, Result, Ok, Err, bytes_eq, is_some, codes, length, ltb, map, string_bytes, String, if◌then◌else◌}
use Rattle.std.specs.Char.{digit_value}
use Rattle.std.specs.List.{before_first, list_all, position_or_len}
use Rattle.std.specs.Str.Parse.{digits_value, without_leading_plus}
use Rattle.std.specs.declared.alloc.Global.{Global}
use Rattle.std.specs.declared.vec.IntoIter.{IntoIter}
use Rattle.std.specs.Vec.Iter.{into_iter_items}
use Rattle.mulkavesh.specs.declared.order.Flag.{Flag}
use Rattle.mulkavesh.specs.declared.order.Flag.TheVariants as option
use Rattle.mulkavesh.specs.declared.order.Naming.{Naming}
use Rattle.mulkavesh.specs.declared.order.Naming.TheVariants as naming
use Rattle.mulkavesh.specs.declared.order.Order.{Order}
use Rattle.mulkavesh.specs.declared.order.Value.{Value}
use Rattle.mulkavesh.specs.declared.mistakes.Wrong.{Wrong}
use Rattle.mulkavesh.specs.declared.mistakes.Wrong.TheVariants.{UnknownOption, NotTaken, TakesNoValue, NoValue, BadValue, SecondOutput, SecondInput, OperandMissing, NoSection, NothingMeant, Apart, OutOfMemory}
use Rattle.mulkavesh.specs.declared.mistakes.Mistake.{Mistake}
use Rattle.mulkavesh.specs.declared.mistakes.Mistake.TheVariants.{Extra}
use Rattle.mulkavesh.specs.declared.order.Asked.{Asked}
use Rattle.mulkavesh.specs.declared.words.Place.{Place}
use Rattle.mulkavesh.specs.declared.words.Place.TheVariants as place
use Rattle.mulkavesh.specs.declared.words.Seen.{Seen}
use Rattle.mulkavesh.specs.declared.words.Seen.TheVariants as seen
use Rattle.mulkavesh.specs.declared.words.Spelling.{Spelling}
use Rattle.mulkavesh.specs.declared.words.Spelling.TheVariants as kind
use Rattle.mulkavesh.specs.Order.{Said, are_apart, asks_gone, begins, flag_named, has_flag, has_naming, has_operand, is_strip, naming_named, names_some, needs, said, value_bytes}

-- ---- help

-- what an argument is, where any may stand
abbrev pub look_at : List ℕ → Seen
look_at word =
    if bytes_eq word (codes "-h") || bytes_eq word (codes "--help") then seen.Help
    else (if bytes_eq word (codes "--") then seen.Ending
    else (if is_some (naming_named word) then seen.Option else seen.Nothing))

-- what is seen with one argument more
abbrev pub look : Seen → List ℕ → Seen
look seen.Nothing word = look_at word
look seen.Option word = seen.Nothing
look seen.Help word = seen.Help
look seen.Ending word = seen.Ending

abbrev pub looks : Seen → List (List ℕ) → Seen
looks s [] = s
looks s (word ∷ words) = looks (look s word) words

abbrev pub is_help : Seen → Bool
is_help seen.Help = true
is_help _ = false

abbrev pub asks_help : List (List ℕ) → Bool
asks_help words = is_help (looks seen.Nothing words)

-- ---- one argument

-- a file that is written, where none was named
abbrev pub with_output : Said → Value → Result Said Wrong
with_output o v = if is_some o.output then Err (SecondOutput v) else Ok (record o { output = Some v })

-- one value more of an option that may stand several times
abbrev pub with_named : Said → Naming → Value → Result Said Wrong
with_named o n v = Ok (record o { values = o.values ++ record { naming = n; value = v } ∷ [] })

-- whether the largest stands first, if the word says that or the contrary
abbrev pub by_said : List ℕ → Option Bool
by_said word = if bytes_eq word (codes "size") then Some true else (if bytes_eq word (codes "index") then Some false else None)

-- lines stand as is said, where something is
abbrev pub set_by : Said → Value → Option Bool → Result Said Wrong
set_by o v (Some b) = Ok (record o { listing = record (o.listing) { by_size = b } })
set_by o v None = Err (BadValue naming.By v)

-- as the value of `--by` says
abbrev pub with_by : Said → Value → Result Said Wrong
with_by o v = set_by o v (by_said (value_bytes v))

-- the number of so many bits that digits say in decimal
abbrev pub digits_said : (bits : ℕ) → List ℕ → Option ℕ
digits_said bits digits =
    if ltb 0 (length digits) && list_all (λ c. ltb (digit_value c) 10) digits && ltb (digits_value 10 digits) (2 ^ bits) then Some (digits_value 10 digits) else None

-- the number of 32 bits that the word says, before which a plus may stand
abbrev pub number_said : List ℕ → Option ℕ
number_said word = digits_said 32 (without_leading_plus word)

-- so many lines, where a number is said
abbrev pub set_count : Said → Value → Option ℕ → Result Said Wrong
set_count o v (Some n) = Ok (record o { listing = record (o.listing) { count = Some n } })
set_count o v None = Err (BadValue naming.Count v)

-- as the value of `-n` says
abbrev pub with_count : Said → Value → Result Said Wrong
with_count o v = set_count o v (number_said (value_bytes v))

-- the value of an option
abbrev pub with_value : Said → Naming → Value → Result Said Wrong
with_value o naming.Short v = with_output o v
with_value o naming.Long v = with_output o v
with_value o naming.By v = with_by o v
with_value o naming.Count v = with_count o v
with_value o n v = with_named o n v

-- as what the subcommand is about, and else as IN
abbrev pub with_plain : Said → String Global → Result Said Wrong
with_plain o w =
    if has_operand o.work && not (is_some o.operand) then Ok (record o { operand = Some w })
    else (if is_some o.input then Err (SecondInput w) else Ok (record o { input = Some w }))

abbrev pub set : Said → Flag → Said
set o option.NoNames = record o { wanted = record (o.wanted) { names = false } }
set o option.NoProducers = record o { wanted = record (o.wanted) { producers = false } }
set o option.NoLegacy = record o { wanted = record (o.wanted) { legacy = false } }
set o option.Quiet = record o { is_quiet = true }
set o option.Json = record o { is_json = true }
set o option.Names = record o { gone = record (o.gone) { names = true } }
set o option.Producers = record o { gone = record (o.gone) { producers = true } }
set o option.Debug = record o { gone = record (o.gone) { debug = true } }
set o option.All = record o { is_all = true }
set o option.Exports = record o { listing = record (o.listing) { exports = true } }
set o option.Imports = record o { listing = record (o.listing) { imports = true } }
set o option.Dropped = record o { listing = record (o.listing) { dropped = true } }
set o option.Callers = record o { listing = record (o.listing) { callers = true } }

abbrev pub with_flag : Said → Flag → String Global → Result Said Wrong
with_flag o f w = if has_flag o.work f then Ok (set o f) else Err (NotTaken w)

-- what is left of an order, and where the next argument stands; or what is wrong
abbrev pub Put : Type 0
Put = Result (Said × Place) Wrong

abbrev pub then_at : Place → Result Said Wrong → Put
then_at p (Ok n) = Ok (n, p)
then_at p (Err wrong) = Err wrong

-- the value of an option, in an argument of its own or behind the option
abbrev pub put_value : Said → Naming → String Global → (joined : Option Naming) → Put
put_value o n w joined = then_at place.Anywhere (with_value o n (record { argument = w; joined = joined }))

-- the next argument is the value of the option, where the subcommand has that
abbrev pub waiting : Said → Naming → String Global → Put
waiting o n w = if has_naming o.work n then Ok (o, place.Value n) else Err (NotTaken w)

abbrev pub put_joined : Said → Naming → String Global → Put
put_joined o n w = if has_naming o.work n then put_value o n w (Some n) else Err (NotTaken w)

-- what stands in front of the first sign of equality is an option: one that has a value, or one that takes none
abbrev pub equals_by : Option Naming → Option Flag → Option Spelling
equals_by (Some n) f = Some (kind.Joined n)
equals_by None (Some f) = Some kind.Valued
equals_by None None = None

-- it is the sign of equality
abbrev pub is_equals : ℕ → Bool
is_equals byte = byte == 61

-- an option, a sign of equality and a value
abbrev pub equals_in : List ℕ → Option Spelling
equals_in word =
    if ltb (position_or_len is_equals word) (length word) then equals_by (naming_named (before_first is_equals word)) (flag_named (before_first is_equals word))
    else None

-- an option that isn't known, or none
abbrev pub spelled_plain : List ℕ → Spelling
spelled_plain word = if begins (codes "-") word then kind.Unknown else kind.Plain

abbrev pub or_plain : Option Spelling → List ℕ → Spelling
or_plain (Some s) word = s
or_plain None word = spelled_plain word

-- what it is, if it isn't spelled as an option alone
abbrev pub spelled_otherwise : List ℕ → Spelling
spelled_otherwise word =
    if begins (codes "-o") word then kind.Joined naming.Short
    else (if begins (codes "-n") word then kind.Joined naming.Count
    else or_plain (equals_in word) word)

abbrev pub spelled_as : Option Flag → List ℕ → Spelling
spelled_as (Some f) word = kind.Flag f
spelled_as None word = spelled_otherwise word

abbrev pub spelled_by : Option Naming → List ℕ → Spelling
spelled_by (Some n) word = kind.Naming n
spelled_by None word = spelled_as (flag_named word) word

-- what an argument is by its spelling, where any may stand
abbrev pub spelling_of : List ℕ → Spelling
spelling_of word =
    if bytes_eq word (codes "-") then kind.Plain
    else (if bytes_eq word (codes "--") then kind.Ending
    else spelled_by (naming_named word) word)

abbrev pub put_spelled : Said → Spelling → String Global → Put
put_spelled o (kind.Flag f) w = then_at place.Anywhere (with_flag o f w)
put_spelled o kind.Valued w = Err (TakesNoValue w)
put_spelled o (kind.Naming n) w = waiting o n w
put_spelled o (kind.Joined n) w = put_joined o n w
put_spelled o kind.Ending w = Ok (o, place.Behind)
put_spelled o kind.Unknown w = Err (UnknownOption w)
put_spelled o kind.Plain w = then_at place.Anywhere (with_plain o w)

abbrev pub put_word : Said → Place → String Global → Put
put_word o place.Anywhere w = put_spelled o (spelling_of (string_bytes w)) w
put_word o (place.Value n) w = put_value o n w None
put_word o place.Behind w = then_at place.Behind (with_plain o w)

-- ---- all of them

-- the others go where the next one stands
abbrev pub then_put : (Said → Place → Put) → Put → Put
then_put f (Ok s) = f s.0 s.1
then_put f (Err wrong) = Err wrong

abbrev pub put_words : Said → Place → List (String Global) → Put
put_words o p [] = Ok (o, p)
put_words o p (w ∷ words) = then_put (λ (m : Said) (q : Place). put_words m q words) (put_word o p w)

-- what is missing of an order: what it is about, what goes, or what is changed; or what doesn't go together
abbrev pub missing : Said → Option Wrong
missing o =
    if has_operand o.work && not (is_some o.operand) then Some OperandMissing
    else (if is_strip o.work && not (asks_gone o) then Some NoSection
    else (if needs o.work && not (names_some o) then Some NothingMeant
    else (if are_apart o.listing then Some Apart else None)))

-- what is missing behind the last argument
abbrev pub lacking : Said → Place → Option Wrong
lacking o (place.Value n) = Some (NoValue n)
lacking o place.Anywhere = missing o
lacking o place.Behind = missing o

-- what a function leaves of an order, and where it says that the next argument stands, or what it says is wrong
abbrev pub IsPut : Put → Order → Result Place Wrong → Type 0
IsPut (Err wrong) o result = result ≡ Err wrong
IsPut (Ok s) o result = (said o ≡ s.0) × (result ≡ Ok s.1)

-- the same, or memory ran out
abbrev pub IsPutOrMemory : Put → Order → Result Place Wrong → Type 0
IsPutOrMemory put o result = IsPut put o result ⊎ (result ≡ Err OutOfMemory)

-- what a function makes of all of them, in memory
abbrev pub AreSo : Put → Result (Order × Place) Wrong → Type 0
AreSo put (Ok s) = put ≡ Ok (said s.0, s.1)
AreSo put (Err wrong) = put ≡ Err wrong

-- the same, or memory ran out
abbrev pub ArePut : Put → Result (Order × Place) Wrong → Type 0
ArePut put result = AreSo put result ⊎ (result ≡ Err OutOfMemory)

-- nothing stands behind what asks for this; or this does, for which there is no place
abbrev pub IsAlone : Asked → List (List ℕ) → Result Asked Mistake → Type 0
IsAlone asked words (Ok answer) = (answer ≡ asked) × (words ≡ [])
IsAlone asked words (Err mistake) = (a : String Global) × (rest : List (List ℕ)) × (mistake ≡ Extra a) × (words ≡ string_bytes a ∷ rest)

-- the first argument and the others; or there is none
abbrev pub IsFirst : List (List ℕ) → Option (String Global × IntoIter (String Global) Global) → Type 0
IsFirst words None = words ≡ []
IsFirst words (Some r) = words ≡ string_bytes r.0 ∷ map string_bytes (into_iter_items r.1)
