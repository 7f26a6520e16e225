-- What is told in a line of a module that became smaller.
use Rattle.std.specs.Prelude.{ℕ, ◌-◌, ◌%◌, List, [], ◌∷◌, ◌++◌, ◌&&◌, codes, decimal, length, nat_eq, nat_lt, if◌then◌else◌}
use Rattle.std.specs.Global.{Vec}
use Rattle.walrus_tools.specs.WeighText.{rest_of}
use Rattle.walrus_tools.specs.declared.kinds.Kinds.{Kinds}
use Rattle.walrus_tools.specs.declared.weigh.Weighed.{Weighed}
use Rattle.mulkavesh.specs.Json.{separated}

-- ---- numbers

-- a comma, where so many digits behind it are threes
abbrev pub comma_before : (behind : ℕ) → List ℕ
comma_before behind = if nat_lt 0 behind && nat_eq (behind % 3) 0 then codes "," else []

-- digits with a comma between thousands
abbrev pub spaced : (digits : List ℕ) → List ℕ
spaced [] = []
spaced (digit ∷ rest) = (digit ∷ comma_before (length rest)) ++ spaced rest

abbrev pub grouped : ℕ → List ℕ
grouped number = spaced (decimal number)

-- ---- what was dropped

-- so many of the items of a kind
abbrev pub kind_text : (word : List ℕ) → (before dropped : ℕ) → List ℕ
kind_text word before dropped = grouped dropped ++ codes " of " ++ grouped before ++ codes " " ++ word

-- if there were some
abbrev pub kind_part : (word : List ℕ) → (before after : ℕ) → List (List ℕ)
kind_part word before after = if nat_eq (before - after) 0 then [] else kind_text word before (before - after) ∷ []

-- functions, with how many bytes the bodies of those have that were dropped
abbrev pub functions_word : (bodies : ℕ) → List ℕ
functions_word bodies = codes "functions (" ++ grouped bodies ++ codes " bytes)"

-- of items
abbrev pub item_parts : (bodies : ℕ) → (before after : Kinds) → List (List ℕ)
item_parts bodies before after =
    kind_part (functions_word bodies) before.functions after.functions
    ++ kind_part (codes "tables") before.tables after.tables
    ++ kind_part (codes "memories") before.memories after.memories
    ++ kind_part (codes "tags") before.tags after.tags
    ++ kind_part (codes "globals") before.globals after.globals
    ++ kind_part (codes "elements") before.elements after.elements
    ++ kind_part (codes "data") before.data_ after.data_

-- so much debug information
abbrev pub debug_text : ℕ → List ℕ
debug_text debug = grouped debug ++ codes " bytes of debug information"

-- if there was some
abbrev pub debug_part : ℕ → List (List ℕ)
debug_part debug = if nat_eq debug 0 then [] else debug_text debug ∷ []

-- the bytes of a text
abbrev pub vec_bytes : Vec ℕ → List ℕ
vec_bytes text = text.items

-- these, or that it was nothing
abbrev pub parts_text : List (List ℕ) → List ℕ
parts_text [] = codes "nothing"
parts_text (part ∷ others) = separated (codes ", ") (part ∷ others)

-- ---- the line

-- how many bytes become how many
abbrev pub sizes_text : (read written : ℕ) → List ℕ
sizes_text read written = codes "mulkavesh: " ++ grouped read ++ codes " bytes become " ++ grouped written ++ codes "; dropped: "

-- by how many bytes all else becomes more or less
abbrev pub change_text : (rest written : ℕ) → List ℕ
change_text rest written = if nat_lt rest written then grouped (written - rest) ++ codes " bytes more" else grouped (rest - written) ++ codes " bytes less"

abbrev pub rest_text : (rest written : ℕ) → List ℕ
rest_text rest written = codes "; rest: " ++ change_text rest written

-- why there are more bytes than there were, where it is so
abbrev pub longer_text : (read written : ℕ) → List ℕ
longer_text read written = if nat_lt read written then codes "; functions stand by falling size, so indices may take more bytes" else []

abbrev pub note_text : Weighed → List ℕ
note_text w =
    sizes_text w.read w.written ++ parts_text (item_parts w.bodies w.before w.after ++ debug_part w.debug) ++ rest_text (rest_of w) w.written
    ++ longer_text w.read w.written ++ codes "\n"
