-- The operators of a body that is written, as they are held.
use Rattle.std.specs.Prelude.{◌≡◌, Bool, true, false, List, length}
use Rattle.walrus_base.specs.Operators.{Op, locals_of}
use Rattle.walrus_code.specs.declared.location.InstrLocId.{InstrLocId}
use Rattle.walrus_bodies.specs.Locals.{AreMarked}
use Rattle.walrus_bodies.specs.Text.{first_local_of, local_count_of, locations_in, ops_in}
use Rattle.walrus_bodies.specs.Function.{listed_in, located_in}
use Rattle.walrus_bodies.specs.declared.text.Text.{Text}
use Rattle.walrus_functions.specs.declared.code.Code.{Code}
use Rattle.walrus_functions.specs.declared.code.Code.TheVariants as codes

abbrev pub ops_of_code : Code → List Op
ops_of_code (codes.Text text used) = ops_in text.now
ops_of_code (codes.List operators) = listed_in operators

abbrev pub locations_of_code : Code → List InstrLocId
locations_of_code (codes.Text text used) = locations_in text.now
locations_of_code (codes.List operators) = located_in operators

abbrev pub is_listed : Code → Bool
is_listed (codes.Text text used) = false
is_listed (codes.List operators) = true

-- these are the flags of all locals of a function, by its body: whether its operators name them
pub record AreFlags (text : Text) (flags : List Bool) : Type 0 where
  pub marked : AreMarked (first_local_of text) flags (locals_of (ops_in text))
  pub as_many : length flags ≡ local_count_of text

abbrev pub IsFlagged : Code → Type 0
IsFlagged (codes.Text text used) = AreFlags text.now used.items
IsFlagged (codes.List operators) = Unit {0}
