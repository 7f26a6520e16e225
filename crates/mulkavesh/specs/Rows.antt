-- A list as a text: a line each for people, and an array of objects for programs.
use Rattle.std.specs.Prelude.{ℕ, Bool, true, false, List, [], ◌++◌, Option, Some, None, String, codes, decimal, flat_map, map, string_bytes}
use Rattle.std.specs.declared.alloc.Global.{Global}
use Rattle.walrus_tools.specs.Facade.{Item}
use Rattle.walrus_tools.specs.Reasons.{word_of}
use Rattle.mulkavesh.specs.Json.{separated, string_json}
use Rattle.mulkavesh.specs.Visible.{shown}

-- a line for each, or an array of objects
abbrev pub rows_text : {A : Type 0} → (line object : A → List ℕ) → (is_json : Bool) → List A → List ℕ
rows_text line object false rows = flat_map line rows
rows_text line object true rows = codes "[" ++ separated (codes ",\n ") (map object rows) ++ codes "]\n"

-- ---- what stands in them

-- a name, if there is one, as people see it
abbrev pub name_text : Option (String Global) → List ℕ
name_text None = []
name_text (Some name) = codes " " ++ shown (string_bytes name)

-- the name, if there is one, as a string
abbrev pub name_json : Option (String Global) → List ℕ
name_json None = codes "null"
name_json (Some name) = string_json (string_bytes name)

-- the members that say what an item is, behind what begins an object
abbrev pub item_members : Item → List ℕ
item_members x = codes "{\"kind\":\"" ++ word_of x.0 ++ codes "\",\"index\":" ++ decimal x.1
