-- What is told of a module that becomes smaller, as lines.
use Rattle.std.specs.Prelude.{ℕ, ◌-◌, List, [], ◌++◌, codes, decimal, nat_lt, if◌then◌else◌}
use Rattle.walrus.specs.Theorem.Report.{line}
use Rattle.walrus_tools.specs.declared.kinds.Kinds.{Kinds}
use Rattle.walrus_tools.specs.declared.weigh.Weighed.{Weighed}

-- ---- items

-- the line of a kind: how many items are kept, and how many are dropped
abbrev pub kind_line : (word : List ℕ) → (before after : ℕ) → List ℕ
kind_line word before after = line word after (before - after)

-- a line for each kind
abbrev pub kinds_text : (before after : Kinds) → List ℕ
kinds_text before after =
    kind_line (codes "functions") before.functions after.functions
    ++ kind_line (codes "tables") before.tables after.tables
    ++ kind_line (codes "memories") before.memories after.memories
    ++ kind_line (codes "tags") before.tags after.tags
    ++ kind_line (codes "globals") before.globals after.globals
    ++ kind_line (codes "elements") before.elements after.elements
    ++ kind_line (codes "data") before.data_ after.data_

-- ---- bytes

abbrev pub sizes_line : (word : List ℕ) → (read written : ℕ) → List ℕ
sizes_line word read written = word ++ codes " read " ++ decimal read ++ codes " written " ++ decimal written ++ codes "\n"

abbrev pub number_line : (word : List ℕ) → (number : ℕ) → List ℕ
number_line word number = codes "bytes of " ++ word ++ codes " " ++ decimal number ++ codes "\n"

-- so many bytes became so many others
abbrev pub rest_line : (rest written : ℕ) → List ℕ
rest_line rest written =
    if nat_lt rest written then codes "bytes of the rest " ++ decimal (written - rest) ++ codes " more\n"
    else codes "bytes of the rest " ++ decimal (rest - written) ++ codes " less\n"

-- why there is more than there was, where it is so
abbrev pub longer_line : (read written : ℕ) → List ℕ
longer_line read written = if nat_lt read written then codes "functions stand by falling size, so indices may take more bytes\n" else []

-- how many bytes of the input are neither bodies of functions that are dropped nor debug information
abbrev pub rest_of : Weighed → ℕ
rest_of w = w.read - w.bodies - w.debug

-- the lines of bytes
abbrev pub bytes_text : Weighed → List ℕ
bytes_text w =
    sizes_line (codes "bytes") w.read w.written
    ++ number_line (codes "dropped functions") w.bodies
    ++ number_line (codes "debug information") w.debug
    ++ rest_line (rest_of w) w.written
    ++ longer_line w.read w.written

-- ---- all lines

abbrev pub weighed_text : Weighed → List ℕ
weighed_text w = kinds_text w.before w.after ++ bytes_text w
