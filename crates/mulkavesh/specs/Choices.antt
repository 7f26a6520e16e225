-- What an order says of names: of custom sections, of exports, of functions, and of modules and names that functions are imported from.
use Rattle.std.specs.Prelude.{ℕ, Bool, true, false, List, [], ◌∷◌, ◌++◌, codes, flat_map}
use Rattle.walrus_sections.specs.Choice.{Choice}
use Rattle.mulkavesh.specs.declared.choices.About.{About}
use Rattle.mulkavesh.specs.declared.choices.About.TheVariants as about
use Rattle.mulkavesh.specs.declared.order.Named.{Named}
use Rattle.mulkavesh.specs.declared.order.Naming.{Naming}
use Rattle.mulkavesh.specs.declared.order.Naming.TheVariants as naming
use Rattle.mulkavesh.specs.declared.order.Order.{Order}
use Rattle.mulkavesh.specs.Order.{value_bytes}

-- ---- choices

-- what has such a name goes
abbrev pub going : (name : List ℕ) → Choice
going name = record { is_kept = false; name = name }

-- it stays
abbrev pub staying : (name : List ℕ) → Choice
staying name = record { is_kept = true; name = name }

-- what a NAME behind this option says, if it is about these
abbrev pub choice_behind : About → Naming → (name : List ℕ) → List Choice
choice_behind about.Sections naming.Section name = going name ∷ []
choice_behind about.Roots naming.Keep name = staying name ∷ []
choice_behind about.Roots naming.Drop name = going name ∷ []
choice_behind about.Modules naming.Module name = going name ∷ []
choice_behind about.Imports naming.Import name = going name ∷ []
choice_behind _ _ name = []

-- what an option with its value says
abbrev pub choice_by : About → Named → List Choice
choice_by a n = choice_behind a n.naming (value_bytes n.value)

-- what all NAMEs say that are about these, in their order
abbrev pub choices_about : About → List Named → List Choice
choices_about a values = flat_map (choice_by a) values

-- ---- of each subcommand

-- which exports stay roots
abbrev pub roots_of : Order → List Choice
roots_of o = choices_about about.Roots o.values.items

-- from which modules functions are imported that trap
abbrev pub modules_of : Order → List Choice
modules_of o = choices_about about.Modules o.values.items

-- under which names
abbrev pub imports_of : Order → List Choice
imports_of o = choices_about about.Imports o.values.items

-- the text of a function, where the option stands in front of one
abbrev pub text_behind : Naming → (text : List ℕ) → List (List ℕ)
text_behind naming.Function text = text ∷ []
text_behind _ text = []

-- those of all options
abbrev pub texts_said : List Named → List (List ℕ)
texts_said values = flat_map (λ (n : Named). text_behind n.naming (value_bytes n.value)) values

-- which functions trap
abbrev pub functions_of : Order → List (List ℕ)
functions_of o = texts_said o.values.items

-- ---- of strip

-- these choices, where the order says so
abbrev pub where_said : Bool → List Choice → List Choice
where_said true choices = choices
where_said false choices = []

-- all go but those that say how a module is linked, and what it needs of an engine
abbrev pub all_choices : List Choice
all_choices = going (codes "*") ∷ staying (codes "dylink") ∷ staying (codes "dylink.0") ∷ staying (codes "target_features") ∷ []

-- which sections go
abbrev pub sections_of : Order → List Choice
sections_of o =
    choices_about about.Sections o.values.items ++ where_said o.gone.names (going (codes "name") ∷ []) ++ where_said o.gone.producers (going (codes "producers") ∷ [])
    ++ where_said o.gone.debug (going (codes ".debug*") ∷ []) ++ where_said o.is_all all_choices
