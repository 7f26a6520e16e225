-- The exports and the imports of a module, as a text.
use Rattle.std.specs.Prelude.{ℕ, Bool, List, ◌++◌, codes, string_bytes}
use Rattle.walrus_tools.specs.Facade.{item_of}
use Rattle.walrus_tools.specs.Reasons.{item_text}
use Rattle.walrus_tools.specs.declared.tool.exports.Exported.{Exported}
use Rattle.walrus_tools.specs.declared.tool.imports.Imported.{Imported}
use Rattle.mulkavesh.specs.Json.{string_json}
use Rattle.mulkavesh.specs.Rows.{item_members, rows_text}
use Rattle.mulkavesh.specs.Visible.{shown}

-- ---- exports

-- for people: what is exported, and its name, as people see it
abbrev pub export_line : Exported → List ℕ
export_line e = item_text (item_of e.item) ++ codes " " ++ shown (string_bytes e.name) ++ codes "\n"

-- for programs: an object with these members
abbrev pub export_object : Exported → List ℕ
export_object e = item_members (item_of e.item) ++ codes ",\"name\":" ++ string_json (string_bytes e.name) ++ codes "}"

abbrev pub exports_text : (is_json : Bool) → List Exported → List ℕ
exports_text is_json exports = rows_text export_line export_object is_json exports

-- ---- imports

-- for people: what is imported, from which module, and its name, as people see them
abbrev pub import_line : Imported → List ℕ
import_line i = item_text (item_of i.item) ++ codes " " ++ shown (string_bytes i.«module») ++ codes " " ++ shown (string_bytes i.name) ++ codes "\n"

-- for programs: an object with these members
abbrev pub import_object : Imported → List ℕ
import_object i =
    item_members (item_of i.item) ++ codes ",\"module\":" ++ string_json (string_bytes i.«module») ++ codes ",\"name\":" ++ string_json (string_bytes i.name)
    ++ codes "}"

abbrev pub imports_text : (is_json : Bool) → List Imported → List ℕ
imports_text is_json imports = rows_text import_line import_object is_json imports
