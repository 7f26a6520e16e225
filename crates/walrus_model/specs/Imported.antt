-- What imports bring to each space.
use Rattle.std.specs.Prelude.{ℕ, ◌+◌, List, [], ◌∷◌, Option, Some, None, nat_eq, if◌then◌else◌, ◌≡◌}
use Rattle.wasm_entries.specs.declared.record.RawDesc.{RawDesc}
use Rattle.wasm_entries.specs.Record as entries
use Rattle.walrus_base.specs.Operators.{Space, Types, Functions, Tables, Memories, Tags, Globals, Elements, DataSegments, Item}
use Rattle.walrus_model.specs.Abstract.{Abstract, Import}
use Rattle.walrus_model.specs.Ordered.{StandsFor}
use Rattle.walrus_model.specs.Renaming.{Renaming}
use Rattle.walrus_model.specs.Sections.{imported, imported_function, imported_table, imported_memory, imported_tag, imported_global}
use Rattle.walrus_model.specs.Spaces.{Thing, look, SameThing}

-- the thing of this space that import k brings, if it brings one
abbrev pub brought_by : (s : Space) → ℕ → RawDesc → Option (Thing s)
brought_by Functions k d = imported_function k d
brought_by Tables k d = imported_table k d
brought_by Memories k d = imported_memory k d
brought_by Tags k d = imported_tag k d
brought_by Globals k d = imported_global k d
brought_by Types k d = None
brought_by Elements k d = None
brought_by DataSegments k d = None

-- all that imports bring to a space, in order
abbrev pub brought : (s : Space) → List entries.Import → List (Thing s)
brought s imports = imported (brought_by s) 0 imports

-- these imports with their numbers, the first of which is k
abbrev pub numbered_from : ℕ → List entries.Import → List (ℕ × entries.Import)
numbered_from k [] = []
numbered_from k (w ∷ ws) = (k, w) ∷ numbered_from (k + 1) ws

abbrev pub code : Space → ℕ
code Types = 0
code Functions = 1
code Tables = 2
code Memories = 3
code Tags = 4
code Globals = 5
code Elements = 6
code DataSegments = 7

-- the number of an item of this space
abbrev pub number_in : Space → Item → Option ℕ
number_in s x = if nat_eq (code x.0) (code s) then Some x.1 else None

abbrev pub import_number_by : Space → Option Import → Option ℕ
import_number_by s None = None
import_number_by s (Some x) = number_in s x.item

-- the number of what import p brings to this space
abbrev pub import_number : Abstract → Space → ℕ → Option ℕ
import_number v s p = import_number_by s (v.imports p)

-- w is written, at index k, for what import p names
pub record IsBrought (r : Renaming) (v : Abstract) (p k : ℕ) (w : entries.Import) : Type 0 where
  pub value : Import
  pub is : v.imports p ≡ Some value
  pub thing : Thing value.item.0
  pub brings : brought_by value.item.0 k w.desc ≡ Some thing
  pub stands : StandsFor (SameThing r value.item.0) (look v value.item.0) value.item.1 thing
