-- The report on a module, for people and for programs.
use Rattle.std.specs.Prelude.{ℕ, ◌-◌, Bool, true, false, List, ◌++◌, codes, decimal}
use Rattle.walrus_tools.specs.WeighText.{weighed_text}
use Rattle.walrus_tools.specs.declared.kinds.Kinds.{Kinds}
use Rattle.walrus_tools.specs.declared.weigh.Weighed.{Weighed}

-- of a kind of items how many are kept, and how many are dropped, behind what begins so
abbrev pub kind_json : (begin : List ℕ) → (before after : ℕ) → List ℕ
kind_json begin before after = begin ++ codes "\":{\"kept\":" ++ decimal after ++ codes ",\"dropped\":" ++ decimal (before - after) ++ codes "}"

-- a member for each kind
abbrev pub kinds_json : (before after : Kinds) → List ℕ
kinds_json before after =
    kind_json (codes "{\"functions") before.functions after.functions
    ++ kind_json (codes ",\"tables") before.tables after.tables
    ++ kind_json (codes ",\"memories") before.memories after.memories
    ++ kind_json (codes ",\"tags") before.tags after.tags
    ++ kind_json (codes ",\"globals") before.globals after.globals
    ++ kind_json (codes ",\"elements") before.elements after.elements
    ++ kind_json (codes ",\"data") before.data_ after.data_

-- a number behind what begins so
abbrev pub number_json : (begin : List ℕ) → (number : ℕ) → List ℕ
number_json begin number = begin ++ decimal number

-- the member of bytes: those read and written, and in the input those of bodies of dropped functions and of debug information
abbrev pub bytes_json : Weighed → List ℕ
bytes_json w =
    number_json (codes ",\"bytes\":{\"read\":") w.read ++ number_json (codes ",\"written\":") w.written ++ number_json (codes ",\"dropped\":") w.bodies
    ++ number_json (codes ",\"debug\":") w.debug ++ codes "}"

-- an object of them
abbrev pub weighed_json : Weighed → List ℕ
weighed_json w = kinds_json w.before w.after ++ bytes_json w ++ codes "}\n"

abbrev pub weighed_told : (is_json : Bool) → Weighed → List ℕ
weighed_told false w = weighed_text w
weighed_told true w = weighed_json w
