-- The sections of a module, as a text for people.
use Rattle.std.specs.Prelude.{ℕ, Bool, true, false, List, [], ◌++◌, Option, Some, None, codes, decimal, length, nat_eq, if◌then◌else◌}
use Rattle.walrus_sections.specs.declared.parts.Item.{Item}
use Rattle.walrus_sections.specs.PartList.{FunctionPart, Part, SectionPart, SegmentPart}
use Rattle.walrus_sections.specs.Sections.{Piece}
use Rattle.mulkavesh.specs.Visible.{shown}

-- the standard's word for the section with this id, none where it gives the id no meaning
abbrev pub kind_word : ℕ → Option (List ℕ)
kind_word id =
    if nat_eq id 1 then Some (codes "type")
    else (if nat_eq id 2 then Some (codes "import")
    else (if nat_eq id 3 then Some (codes "function")
    else (if nat_eq id 4 then Some (codes "table")
    else (if nat_eq id 5 then Some (codes "memory")
    else (if nat_eq id 6 then Some (codes "global")
    else (if nat_eq id 7 then Some (codes "export")
    else (if nat_eq id 8 then Some (codes "start")
    else (if nat_eq id 9 then Some (codes "element")
    else (if nat_eq id 10 then Some (codes "code")
    else (if nat_eq id 11 then Some (codes "data")
    else (if nat_eq id 12 then Some (codes "data count")
    else (if nat_eq id 13 then Some (codes "tag") else None))))))))))))

-- the word, and where there is none the id
abbrev pub word_text : (id : ℕ) → Option (List ℕ) → List ℕ
word_text id (Some word) = word
word_text id None = codes "unknown " ++ decimal id

abbrev pub kind_text : ℕ → List ℕ
kind_text id = word_text id (kind_word id)

-- what a section is: a custom one by its name, as people see it, another by its id
abbrev pub what_text : (id : ℕ) → (name : Option (List ℕ)) → List ℕ
what_text id (Some name) = codes "custom " ++ shown name
what_text id None = kind_text id

-- the count of its entries, where one stands in it
abbrev pub count_text : Option ℕ → List ℕ
count_text (Some count) = codes " " ++ decimal count
count_text None = []

-- its place, how many bytes it has, and what it is
abbrev pub section_line : Piece → List ℕ
section_line p = decimal p.start ++ codes " " ++ decimal (length p.bytes) ++ codes " " ++ what_text p.id p.name ++ count_text p.entries ++ codes "\n"

-- a function or a data segment, by its word, behind the line of its section: its place, how many bytes it has, what it is, and its index
abbrev pub item_line : (word : List ℕ) → Item → List ℕ
item_line word i =
    codes "  " ++ decimal i.start ++ codes " " ++ decimal i.size ++ codes " " ++ word ++ codes " " ++ decimal i.index ++ codes "\n"

-- a section, a function or a data segment
abbrev pub part_line : Part → List ℕ
part_line (SectionPart p) = section_line p
part_line (FunctionPart i) = item_line (codes "function") i
part_line (SegmentPart i) = item_line (codes "data") i

-- what is said where sections end before the bytes do
abbrev pub stop_text : (is_whole : Bool) → (place : ℕ) → List ℕ
stop_text true place = []
stop_text false place = codes "mulkavesh: no section stands at byte " ++ decimal place ++ codes "\n"
