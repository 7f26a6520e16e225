-- The items of a chain, and those that refer to an item, as a text.
use Rattle.std.specs.Prelude.{ℕ, Bool, List, [], ◌∷◌, ◌++◌, Option, Some, None, codes, decimal, map, string_bytes}
use Rattle.walrus_tools.specs.Facade.{item_of}
use Rattle.walrus_tools.specs.Reasons.{item_text}
use Rattle.walrus_tools.specs.declared.links.Link.{Link}
use Rattle.mulkavesh.specs.Json.{separated, string_json}
use Rattle.mulkavesh.specs.Rows.{item_members, name_json, name_text, rows_text}
use Rattle.mulkavesh.specs.Visible.{shown}

-- how many bytes the body has of a function with one
abbrev pub size_text : Option ℕ → List ℕ
size_text None = []
size_text (Some size) = codes ", " ++ decimal size ++ codes " bytes"

-- a name between quotation marks, as people see it
abbrev pub quoted : (name : List ℕ) → List ℕ
quoted name = codes "\"" ++ shown name ++ codes "\""

-- the names under which it is exported, if there are any
abbrev pub exports_text : List (List ℕ) → List ℕ
exports_text [] = []
exports_text (name ∷ others) = codes ", exported as " ++ separated (codes ", ") (map quoted (name ∷ others))

-- those of an item
abbrev pub exports_of : Link → List (List ℕ)
exports_of l = map string_bytes l.exports.items

-- for people: what it is, its name, how many bytes its body has, and the names under which it is exported
abbrev pub link_text : Link → List ℕ
link_text l = item_text (item_of l.item) ++ name_text l.name ++ size_text l.size ++ exports_text (exports_of l)

abbrev pub link_line : Link → List ℕ
link_line l = link_text l ++ codes "\n"

-- the number, if there is one
abbrev pub size_json : Option ℕ → List ℕ
size_json None = codes "null"
size_json (Some size) = decimal size

-- what else is told of an item, behind what it is
abbrev pub link_members : Link → List ℕ
link_members l = codes ",\"name\":" ++ name_json l.name ++ codes ",\"exports\":[" ++ separated (codes ",") (map string_json (exports_of l)) ++ codes "],\"size\":" ++ size_json l.size

-- for programs: an object with these members
abbrev pub link_object : Link → List ℕ
link_object l = item_members (item_of l.item) ++ link_members l ++ codes "}"

-- what refers to an item
abbrev pub links_text : (is_json : Bool) → List Link → List ℕ
links_text is_json links = rows_text link_line link_object is_json links
