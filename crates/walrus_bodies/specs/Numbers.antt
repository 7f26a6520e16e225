-- The new numbers of what a body names.
use Rattle.std.specs.Prelude.{ℕ, ◌+◌, ◌-◌, List, Option, Some, None, slice_index_or, nat_eq, if◌then◌else◌}
use Rattle.wasm_text.specs.Filling.{Numbering}
use Rattle.wasm_text.specs.declared.mark.TheConstants.{MARK_LOCAL, MARK_FUNCTION, MARK_GLOBAL, MARK_TYPE, MARK_TABLE, MARK_MEMORY}
use Rattle.walrus_base.specs.Operators.{Types, Functions, Tables, Memories, Globals}
use Rattle.walrus_code.specs.Names.{Lookup}
use Rattle.walrus_code.specs.Indices.{index_of}
use Rattle.walrus_bodies.specs.declared.write.BodyNumbers.{BodyNumbers}
use Rattle.walrus_bodies.specs.declared.write.KeptNumbers.{KeptNumbers}

-- by the kind of a mark: the look-up of the items, none for other kinds
abbrev pub item_number : Lookup → Numbering
item_number names kind index =
    if nat_eq kind MARK_FUNCTION then names Functions index
    else if nat_eq kind MARK_GLOBAL then names Globals index
    else if nat_eq kind MARK_TYPE then names Types index
    else if nat_eq kind MARK_TABLE then names Tables index
    else if nat_eq kind MARK_MEMORY then names Memories index
    else None

-- by the kind of a mark: the look-up of the items, or of the locals, which lie from a place on
abbrev pub numbering : Lookup → (ℕ → Option ℕ) → (first : ℕ) → Numbering
numbering names locals first kind index = if nat_eq kind MARK_LOCAL then locals (first + index) else item_number names kind index

-- the number of a local in a table of those from a place on
abbrev pub table_index : ℕ → List (Option ℕ) → ℕ → Option ℕ
table_index first table place = slice_index_or table (place - first) None

-- those of a body
abbrev pub numbers_in : BodyNumbers → Numbering
numbers_in numbers = numbering (index_of numbers.indices.now) (table_index numbers.first_local numbers.table.now) numbers.first_local

-- the index of a local that lies behind the first one
abbrev pub kept_index : ℕ → ℕ → Option ℕ
kept_index first place = Some (place - first)

-- those of a body whose locals keep their indices
abbrev pub kept_numbers_in : KeptNumbers → Numbering
kept_numbers_in numbers = numbering (index_of numbers.indices.now) (kept_index numbers.first_local) numbers.first_local
