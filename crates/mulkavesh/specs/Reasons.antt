-- Why an item stays, as a text.
use Rattle.std.specs.Prelude.{ℕ, Bool, true, false, List, [], ◌∷◌, ◌++◌, Option, Some, None, codes, decimal, flat_map, map, option_map}
use Rattle.walrus_tools.specs.Facade.{Item, item_of}
use Rattle.walrus_tools.specs.Reasons.{item_text}
use Rattle.walrus_tools.specs.declared.links.Link.{Link}
use Rattle.walrus_tools.specs.declared.roots.Root.{Root}
use Rattle.walrus_tools.specs.declared.roots.Root.TheVariants.{Active, Declared, Exported, Start}
use Rattle.walrus_tools.specs.declared.goers.Alone.{Alone}
use Rattle.walrus_tools.specs.declared.reasons.Reason.{Reason}
use Rattle.mulkavesh.specs.Json.{separated}
use Rattle.mulkavesh.specs.Links.{link_line, link_object, link_text}

-- ---- for people

-- what makes the first item a root, where that isn't the name of an export, which is told already
abbrev pub root_text : Option Root → List ℕ
root_text None = []
root_text (Some Exported) = []
root_text (Some Start) = codes ", the start function"
root_text (Some Active) = codes ", an active segment"
root_text (Some Declared) = codes ", a declared segment"

-- a line for each item of a chain
abbrev pub chain_text : Option Root → List Link → List ℕ
chain_text root [] = []
chain_text root (first ∷ others) = link_text first ++ root_text root ++ codes "\n" ++ flat_map link_line others

-- the lines of the chain, or one that the item isn't reached
abbrev pub reach_text : Item → Option Root → Option (List Link) → List ℕ
reach_text x root None = item_text x ++ codes " isn't reached\n"
reach_text x root (Some chain) = chain_text root chain

-- what would go with it, where that is told
abbrev pub alone_text : Option Alone → List ℕ
alone_text None = []
alone_text (Some a) = codes "it and what it alone keeps: functions " ++ decimal a.functions ++ codes ", bytes " ++ decimal a.bytes ++ codes "\n"

-- the chain of an answer, or none
abbrev pub chain_of : Reason → Option (List Link)
chain_of r = option_map (λ links. links.items) r.links

abbrev pub reason_text : Reason → List ℕ
reason_text r = reach_text (item_of r.item) r.root (chain_of r) ++ alone_text r.alone

-- ---- for programs

-- whether a chain leads to it
abbrev pub reached_json : Option (List Link) → List ℕ
reached_json None = codes "{\"reached\":false"
reached_json (Some chain) = codes "{\"reached\":true"

abbrev pub root_json : Option Root → List ℕ
root_json None = codes "null"
root_json (Some Exported) = codes "\"exported\""
root_json (Some Start) = codes "\"start\""
root_json (Some Active) = codes "\"active\""
root_json (Some Declared) = codes "\"declared\""

abbrev pub chain_json : Option (List Link) → List ℕ
chain_json None = []
chain_json (Some chain) = separated (codes ",") (map link_object chain)

abbrev pub alone_json : Option Alone → List ℕ
alone_json None = codes "null"
alone_json (Some a) = codes "{\"functions\":" ++ decimal a.functions ++ codes ",\"bytes\":" ++ decimal a.bytes ++ codes "}"

-- an object: what makes the first item a root, the items of the chain, and what would go with the last
abbrev pub reason_json : Reason → List ℕ
reason_json r =
    reached_json (chain_of r) ++ codes ",\"root\":" ++ root_json r.root ++ codes ",\"chain\":[" ++ chain_json (chain_of r) ++ codes "],\"alone\":"
    ++ alone_json r.alone ++ codes "}\n"

-- ---- for both

abbrev pub reason_told : (is_json : Bool) → Reason → List ℕ
reason_told false r = reason_text r
reason_told true r = reason_json r
