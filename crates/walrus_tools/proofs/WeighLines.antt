-- The lines of what is told of a module that becomes smaller, in which all stands in front of the rest.
use Rattle.std.proofs.Common.{◌≡◌, ℕ, List, ◌++◌, codes, decimal, append_assoc, sym, ap, ◌∙◌}
use Rattle.walrus_tools.specs.WeighText.{bytes_text, kind_line, kinds_text, longer_line, number_line, rest_line, rest_of, sizes_line}
use Rattle.walrus_tools.specs.declared.kinds.Kinds.{Kinds}
use Rattle.walrus_tools.specs.declared.weigh.Weighed.{Weighed}
pub use Rattle.walrus.proofs.ReportLemmas.{nested as kind_nested}

pub sizes_nested : (word text : List ℕ) (read written : ℕ) → text ≡ word ++ (codes " read " ++ (decimal read ++ (codes " written " ++ (decimal written ++ codes "\n")))) → text ≡ sizes_line word read written
sizes_nested word text read written is =
    is
    ∙ sym (append_assoc word (codes " read ") (decimal read ++ (codes " written " ++ (decimal written ++ codes "\n"))))
    ∙ sym (append_assoc (word ++ codes " read ") (decimal read) (codes " written " ++ (decimal written ++ codes "\n")))
    ∙ sym (append_assoc (word ++ codes " read " ++ decimal read) (codes " written ") (decimal written ++ codes "\n"))
    ∙ sym (append_assoc (word ++ codes " read " ++ decimal read ++ codes " written ") (decimal written) (codes "\n"))

pub number_nested : (text word : List ℕ) (number : ℕ) → text ≡ codes "bytes of " ++ (word ++ (codes " " ++ (decimal number ++ codes "\n"))) → text ≡ number_line word number
number_nested text word number is =
    is
    ∙ sym (append_assoc (codes "bytes of ") word (codes " " ++ (decimal number ++ codes "\n")))
    ∙ sym (append_assoc (codes "bytes of " ++ word) (codes " ") (decimal number ++ codes "\n"))
    ∙ sym (append_assoc (codes "bytes of " ++ word ++ codes " ") (decimal number) (codes "\n"))

pub rest_nested : (text front end : List ℕ) (number : ℕ) → text ≡ front ++ (decimal number ++ end) → text ≡ front ++ decimal number ++ end
rest_nested text front end number is = is ∙ sym (append_assoc front (decimal number) end)

-- behind what stood there and some lines stands the next one
next_line : (old lines line text more : List ℕ) → text ≡ old ++ lines → more ≡ text ++ line → more ≡ old ++ (lines ++ line)
next_line old lines line text more is next = next ∙ ap (λ (t : List ℕ). t ++ line) is ∙ append_assoc old lines line

-- the lines of items, one behind another
pub kinds_behind : (b a : Kinds) (old t u v w x y z : List ℕ) → t ≡ old ++ kind_line (codes "functions") b.functions a.functions → u ≡ t ++ kind_line (codes "tables") b.tables a.tables
    → v ≡ u ++ kind_line (codes "memories") b.memories a.memories → w ≡ v ++ kind_line (codes "tags") b.tags a.tags → x ≡ w ++ kind_line (codes "globals") b.globals a.globals
    → y ≡ x ++ kind_line (codes "elements") b.elements a.elements → z ≡ y ++ kind_line (codes "data") b.data_ a.data_ → z ≡ old ++ kinds_text b a
kinds_behind b a old t u v w x y z first second third fourth fifth sixth seventh =
    let k : List ℕ = kind_line (codes "functions") b.functions a.functions in
    let l : List ℕ = k ++ kind_line (codes "tables") b.tables a.tables in
    let m : List ℕ = l ++ kind_line (codes "memories") b.memories a.memories in
    let n : List ℕ = m ++ kind_line (codes "tags") b.tags a.tags in
    let o : List ℕ = n ++ kind_line (codes "globals") b.globals a.globals in
    let p : List ℕ = o ++ kind_line (codes "elements") b.elements a.elements in
    next_line old p (kind_line (codes "data") b.data_ a.data_) y z
    (next_line old o (kind_line (codes "elements") b.elements a.elements) x y
    (next_line old n (kind_line (codes "globals") b.globals a.globals) w x
    (next_line old m (kind_line (codes "tags") b.tags a.tags) v w
    (next_line old l (kind_line (codes "memories") b.memories a.memories) u v
    (next_line old k (kind_line (codes "tables") b.tables a.tables) t u first second) third) fourth) fifth) sixth) seventh

-- the lines of bytes, one behind another
pub bytes_behind : (told : Weighed) (rest : ℕ) (old t u v w x last : List ℕ) → t ≡ old ++ sizes_line (codes "bytes") told.read told.written → u ≡ t ++ number_line (codes "dropped functions") told.bodies
    → v ≡ u ++ number_line (codes "debug information") told.debug → rest ≡ rest_of told → w ≡ v ++ rest_line rest told.written → last ≡ longer_line told.read told.written → x ≡ w ++ last → x ≡ old ++ bytes_text told
bytes_behind told rest old t u v w x last first second third left fourth is fifth =
    let k : List ℕ = sizes_line (codes "bytes") told.read told.written in
    let l : List ℕ = k ++ number_line (codes "dropped functions") told.bodies in
    let m : List ℕ = l ++ number_line (codes "debug information") told.debug in
    let n : List ℕ = m ++ rest_line (rest_of told) told.written in
    next_line old n (longer_line told.read told.written) w x
    (next_line old m (rest_line (rest_of told) told.written) v w
    (next_line old l (number_line (codes "debug information") told.debug) u v
    (next_line old k (number_line (codes "dropped functions") told.bodies) t u first second) third) (fourth ∙ ap (λ (n : ℕ). v ++ rest_line n told.written) left)) (fifth ∙ ap (λ (l : List ℕ). w ++ l) is)
