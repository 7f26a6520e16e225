-- What can be asked for on the command line, and how it is spelled.
use Rattle.std.specs.Prelude.{◌≡◌, ℕ, Bool, true, false, not, ◌&&◌, ◌||◌, List, [], ◌++◌, Option, Some, None, String, bytes_eq, codes, drop, eqb, length, string_bytes, if◌then◌else◌}
use Rattle.std.specs.List.{list_any, starts_with}
use Rattle.std.specs.declared.alloc.Global.{Global}
use Rattle.walrus_tools.specs.WantedValue.{Wanted}
use Rattle.mulkavesh.specs.declared.order.Work.{Work}
use Rattle.mulkavesh.specs.declared.order.Work.TheVariants as work
use Rattle.mulkavesh.specs.declared.order.Flag.{Flag}
use Rattle.mulkavesh.specs.declared.order.Flag.TheVariants as option
use Rattle.mulkavesh.specs.declared.order.Gone.{Gone}
use Rattle.mulkavesh.specs.declared.order.Listing.{Listing}
use Rattle.mulkavesh.specs.declared.order.Naming.{Naming}
use Rattle.mulkavesh.specs.declared.order.Naming.TheVariants as naming
use Rattle.mulkavesh.specs.declared.order.Named.{Named}
use Rattle.mulkavesh.specs.declared.order.Value.{Value}
use Rattle.mulkavesh.specs.declared.order.Order.{Order}

abbrev pub work_word : Work → List ℕ
work_word work.Gc = codes "gc"
work_word work.Report = codes "report"
work_word work.List = codes "list"
work_word work.Check = codes "check"
work_word work.Sections = codes "sections"
work_word work.Strip = codes "strip"
work_word work.Snip = codes "snip"
work_word work.Stub = codes "stub"
work_word work.Why = codes "why"

abbrev pub flag_word : Flag → List ℕ
flag_word option.NoNames = codes "--no-names"
flag_word option.NoProducers = codes "--no-producers"
flag_word option.NoLegacy = codes "--no-legacy"
flag_word option.Quiet = codes "--quiet"
flag_word option.Json = codes "--json"
flag_word option.Names = codes "--names"
flag_word option.Producers = codes "--producers"
flag_word option.Debug = codes "--debug"
flag_word option.All = codes "--all"
flag_word option.Exports = codes "--exports"
flag_word option.Imports = codes "--imports"
flag_word option.Dropped = codes "--dropped"
flag_word option.Callers = codes "--callers"

abbrev pub naming_word : Naming → List ℕ
naming_word naming.Short = codes "-o"
naming_word naming.Long = codes "--output"
naming_word naming.Section = codes "--section"
naming_word naming.Keep = codes "--keep"
naming_word naming.Drop = codes "--drop"
naming_word naming.Function = codes "--function"
naming_word naming.Module = codes "--module"
naming_word naming.Import = codes "--import"
naming_word naming.By = codes "--by"
naming_word naming.Count = codes "-n"

-- what stands between the option and a value in one argument: nothing behind a dash and a letter, and else an equals sign
abbrev pub sign : Naming → List ℕ
sign naming.Short = []
sign naming.Count = []
sign _ = codes "="

-- what stands in front of a value in one argument with it
abbrev pub joined_front : Option Naming → List ℕ
joined_front None = []
joined_front (Some n) = naming_word n ++ sign n

-- the word begins so
abbrev pub begins : (front word : List ℕ) → Bool
begins front word = starts_with eqb word front

-- the word without this in front, where that stands there
abbrev pub without : (front word : List ℕ) → List ℕ
without front word = if begins front word then drop (length front) word else word

abbrev pub value_bytes : Value → List ℕ
value_bytes v = without (joined_front v.joined) (string_bytes v.argument)

-- ---- an order

-- the order with its values as a list: all that it says
pub record Said : Type 0 where
  pub work : Work
  pub wanted : Wanted
  pub gone : Gone
  pub is_quiet : Bool
  pub is_json : Bool
  pub is_all : Bool
  pub listing : Listing
  pub values : List Named
  pub operand : Option (String Global)
  pub input : Option (String Global)
  pub output : Option Value

abbrev pub said : Order → Said
said o = record {
  work = o.work;
  wanted = o.wanted;
  gone = o.gone;
  is_quiet = o.is_quiet;
  is_json = o.is_json;
  is_all = o.is_all;
  listing = o.listing;
  values = o.values.items;
  operand = o.operand;
  input = o.input;
  output = o.output;
}

-- ---- what a subcommand has

abbrev pub is_list : Work → Bool
is_list work.List = true
is_list _ = false

abbrev pub is_strip : Work → Bool
is_strip work.Strip = true
is_strip _ = false

abbrev pub is_snip : Work → Bool
is_snip work.Snip = true
is_snip _ = false

abbrev pub is_stub : Work → Bool
is_stub work.Stub = true
is_stub _ = false

abbrev pub is_why : Work → Bool
is_why work.Why = true
is_why _ = false

-- the subcommand is about a function or an export
abbrev pub has_operand : Work → Bool
has_operand w = is_why w

-- it reads a module as it is asked of names, producers and legacy exceptions
abbrev pub has_wanted : Work → Bool
has_wanted work.Strip = false
has_wanted work.Sections = false
has_wanted _ = true

-- it works on what chosen exports lead to
abbrev pub has_roots : Work → Bool
has_roots work.Gc = true
has_roots work.Report = true
has_roots work.List = true
has_roots work.Why = true
has_roots _ = false

-- it says on standard error what was dropped
abbrev pub has_note : Work → Bool
has_note work.Gc = true
has_note work.Snip = true
has_note work.Stub = true
has_note _ = false

-- its answer can be for programs
abbrev pub has_json : Work → Bool
has_json work.Report = true
has_json work.List = true
has_json work.Check = true
has_json work.Sections = true
has_json work.Why = true
has_json _ = false

-- all of something can be meant
abbrev pub has_all : Work → Bool
has_all work.Strip = true
has_all work.Sections = true
has_all _ = false

-- what it writes is a module
abbrev pub makes_module : Work → Bool
makes_module work.Gc = true
makes_module work.Strip = true
makes_module work.Snip = true
makes_module work.Stub = true
makes_module _ = false

-- the subcommand has the option
abbrev pub has_flag : Work → Flag → Bool
has_flag w option.Quiet = has_note w
has_flag w option.Json = has_json w
has_flag w option.Names = is_strip w
has_flag w option.Producers = is_strip w
has_flag w option.Debug = is_strip w
has_flag w option.All = has_all w
has_flag w option.Exports = is_list w
has_flag w option.Imports = is_list w
has_flag w option.Dropped = is_list w
has_flag w option.Callers = is_why w
has_flag w _ = has_wanted w

-- the subcommand has the option, which has a value
abbrev pub has_naming : Work → Naming → Bool
has_naming w naming.Section = is_strip w
has_naming w naming.Keep = has_roots w
has_naming w naming.Drop = has_roots w
has_naming w naming.Function = is_snip w
has_naming w naming.Module = is_stub w
has_naming w naming.Import = is_stub w
has_naming w naming.By = is_list w
has_naming w naming.Count = is_list w
has_naming w _ = true

-- the order asks for what the option says
abbrev pub is_set : Said → Flag → Bool
is_set o option.NoNames = not o.wanted.names
is_set o option.NoProducers = not o.wanted.producers
is_set o option.NoLegacy = not o.wanted.legacy
is_set o option.Quiet = o.is_quiet
is_set o option.Json = o.is_json
is_set o option.Names = o.gone.names
is_set o option.Producers = o.gone.producers
is_set o option.Debug = o.gone.debug
is_set o option.All = o.is_all
is_set o option.Exports = o.listing.exports
is_set o option.Imports = o.listing.imports
is_set o option.Dropped = o.listing.dropped
is_set o option.Callers = o.listing.callers

-- ---- what has to be said

-- the option names what the subcommand takes away or changes: sections, functions, or modules that functions are imported from
abbrev pub takes_names : Work → Naming → Bool
takes_names w naming.Section = is_strip w
takes_names w naming.Function = is_snip w
takes_names w naming.Module = is_stub w
takes_names w _ = false

-- such an option has to stand there
abbrev pub needs : Work → Bool
needs work.Snip = true
needs work.Stub = true
needs _ = false

-- such an option does stand there
abbrev pub names_some : Said → Bool
names_some o = list_any (λ (v : Named). takes_names o.work v.naming) o.values

-- the order says of some sections that they go
abbrev pub asks_gone : Said → Bool
asks_gone o = names_some o || o.gone.names || o.gone.producers || o.gone.debug || o.is_all

-- of exports or imports it is asked for both, for those that go, or for an order by size: these have no such list, and there can be one list
abbrev pub are_apart : Listing → Bool
are_apart l = (l.exports && l.imports) || ((l.exports || l.imports) && (l.dropped || l.by_size))

-- ---- words

-- the subcommand of a word, or that it is that of none
abbrev pub IsWorkOf : List ℕ → Option Work → Type 0
IsWorkOf word (Some w) = word ≡ work_word w
IsWorkOf word None = (w : Work) → word ≡ work_word w → ⊥

-- the option without a value that is spelled so
abbrev pub flag_named : List ℕ → Option Flag
flag_named word =
    if bytes_eq word (codes "--no-names") then Some option.NoNames
    else (if bytes_eq word (codes "--no-producers") then Some option.NoProducers
    else (if bytes_eq word (codes "--no-legacy") then Some option.NoLegacy
    else (if bytes_eq word (codes "--quiet") || bytes_eq word (codes "-q") then Some option.Quiet
    else (if bytes_eq word (codes "--json") then Some option.Json
    else (if bytes_eq word (codes "--names") then Some option.Names
    else (if bytes_eq word (codes "--producers") then Some option.Producers
    else (if bytes_eq word (codes "--debug") then Some option.Debug
    else (if bytes_eq word (codes "--all") then Some option.All
    else (if bytes_eq word (codes "--exports") then Some option.Exports
    else (if bytes_eq word (codes "--imports") then Some option.Imports
    else (if bytes_eq word (codes "--dropped") then Some option.Dropped
    else (if bytes_eq word (codes "--callers") then Some option.Callers else None))))))))))))

-- the option with a value that is spelled so
abbrev pub naming_named : List ℕ → Option Naming
naming_named word =
    if bytes_eq word (codes "-o") then Some naming.Short
    else (if bytes_eq word (codes "--output") then Some naming.Long
    else (if bytes_eq word (codes "--section") then Some naming.Section
    else (if bytes_eq word (codes "--keep") then Some naming.Keep
    else (if bytes_eq word (codes "--drop") then Some naming.Drop
    else (if bytes_eq word (codes "--function") then Some naming.Function
    else (if bytes_eq word (codes "--module") then Some naming.Module
    else (if bytes_eq word (codes "--import") then Some naming.Import
    else (if bytes_eq word (codes "--by") then Some naming.By
    else (if bytes_eq word (codes "-n") then Some naming.Count else None)))))))))

-- ---- a subcommand to which nothing is said

abbrev pub new_wanted : Wanted
new_wanted = record { names = true; producers = true; legacy = true }

abbrev pub new_listing : Listing
new_listing = record { exports = false; imports = false; dropped = false; callers = false; by_size = false; count = None }

abbrev pub new_said : Work → Said
new_said w = record {
  work = w;
  wanted = new_wanted;
  gone = record { names = false; producers = false; debug = false };
  is_quiet = false;
  is_json = false;
  is_all = false;
  listing = new_listing;
  values = [];
  operand = None;
  input = None;
  output = None;
}
