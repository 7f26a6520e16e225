-- What stands at marks, and what it names.
use Rattle.std.specs.Prelude.{◌≡◌, ◌↔◌, ℕ, Bool, true, false, List, [], ◌∷◌, ◌++◌, Contains, map}
use Rattle.wasm_text.specs.RawArg.{RawArg}
use Rattle.wasm_text.specs.Marks.{form_of, kind_of, place_of}
use Rattle.wasm_text.specs.Places.{Stands}
use Rattle.walrus_base.specs.Operators.{Item, Memories, arg_names}
use Rattle.walrus_code.specs.Code.{item_of}
use Rattle.walrus_code.specs.FromRaw.{arg_of}
use Rattle.walrus_code.specs.declared.items.ItemId.{ItemId}

-- whatever argument stands at a mark, this holds of it
abbrev pub OfArgument : List ℕ → (mark : ℕ) → (RawArg → Type 0) → Type 0
OfArgument bytes mark P = (arg : RawArg) (behind : ℕ) → Stands (form_of (kind_of mark)) bytes (place_of mark) behind arg → P arg

-- the items that an argument over indices names, where indices are places
abbrev pub items_named : RawArg → List Item
items_named arg = arg_names (arg_of arg)

-- what the argument at a mark names is put behind others
abbrev pub PutsAt : List ℕ → (mark : ℕ) → (old new : List ItemId) → Type 0
PutsAt bytes mark old new = OfArgument bytes mark (λ arg. map item_of new ≡ map item_of old ++ items_named arg)

-- behind the items that were there stand just these, in any order, each once or more often
pub record PutsThese (old new : List ItemId) (names : List Item) : Type 0 where
  pub added : List Item
  pub behind : map item_of new ≡ map item_of old ++ added
  pub are : (x : Item) → Contains added x ↔ Contains names x

-- memory 0, or nothing
abbrev pub memory_if : Bool → List Item
memory_if true = (Memories, 0) ∷ []
memory_if false = []
