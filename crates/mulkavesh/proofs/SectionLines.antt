-- The lines of a section, and of a function or a data segment, part by part.
use Rattle.std.proofs.Common.{◌≡◌, ℕ, List, ◌++◌, append_assoc, codes, decimal, length, ap, ◌∙◌}
use Rattle.walrus_sections.specs.declared.parts.Item.{Item}
use Rattle.walrus_sections.specs.Sections.{Piece}
use Rattle.mulkavesh.proofs.RowLists.{seven_joined}
use Rattle.mulkavesh.specs.Sections.{count_text, item_line, section_line, what_text}

pub line_joined : (p : Piece) (a b c d e f g h : List ℕ) → b ≡ a ++ decimal p.start → c ≡ b ++ codes " " → d ≡ c ++ decimal (length p.bytes) → e ≡ d ++ codes " " → f ≡ e ++ what_text p.id p.name
    → g ≡ f ++ count_text p.entries → h ≡ g ++ codes "\n" → h ≡ a ++ section_line p
line_joined p a b c d e f g h b_is c_is d_is e_is f_is g_is h_is =
    let s : List ℕ = codes " " in
    let size : List ℕ = decimal (length p.bytes) in
    let what : List ℕ = what_text p.id p.name in
    let count : List ℕ = count_text p.entries in
    h_is
    ∙ ap (λ (t : List ℕ). t ++ codes "\n") (g_is ∙ ap (λ (t : List ℕ). t ++ count) (f_is ∙ ap (λ (t : List ℕ). t ++ what) (e_is ∙ ap (λ (t : List ℕ). t ++ s) (d_is ∙ ap (λ (t : List ℕ). t ++ size) (c_is ∙ ap (λ (t : List ℕ). t ++ s) b_is)))))
    ∙ seven_joined a (decimal p.start) s size s what count (codes "\n")

-- nine rows of bytes, one behind another
item_rows : (a k l m n o p q r s : List ℕ) → ((((((((a ++ k) ++ l) ++ m) ++ n) ++ o) ++ p) ++ q) ++ r) ++ s ≡ a ++ (k ++ l ++ m ++ n ++ o ++ p ++ q ++ r ++ s)
item_rows a k l m n o p q r s =
    ap (λ (b : List ℕ). (b ++ r) ++ s) (seven_joined a k l m n o p q)
    ∙ ap (λ (b : List ℕ). b ++ s) (append_assoc a (k ++ l ++ m ++ n ++ o ++ p ++ q) r)
    ∙ append_assoc a (k ++ l ++ m ++ n ++ o ++ p ++ q ++ r) s

pub item_joined : (word : List ℕ) (i : Item) (a b c d e f g h j k : List ℕ) → b ≡ a ++ codes "  " → c ≡ b ++ decimal i.start → d ≡ c ++ codes " " → e ≡ d ++ decimal i.size → f ≡ e ++ codes " "
    → g ≡ f ++ word → h ≡ g ++ codes " " → j ≡ h ++ decimal i.index → k ≡ j ++ codes "\n" → k ≡ a ++ item_line word i
item_joined word i a b c d e f g h j k b_is c_is d_is e_is f_is g_is h_is j_is k_is =
    let s : List ℕ = codes " " in
    let start : List ℕ = decimal i.start in
    let size : List ℕ = decimal i.size in
    let index : List ℕ = decimal i.index in
    k_is
    ∙ ap (λ (t : List ℕ). t ++ codes "\n") (j_is ∙ ap (λ (t : List ℕ). t ++ index) (h_is ∙ ap (λ (t : List ℕ). t ++ s) (g_is ∙ ap (λ (t : List ℕ). t ++ word) (f_is ∙ ap (λ (t : List ℕ). t ++ s)
    (e_is ∙ ap (λ (t : List ℕ). t ++ size) (d_is ∙ ap (λ (t : List ℕ). t ++ s) (c_is ∙ ap (λ (t : List ℕ). t ++ start) b_is)))))))
    ∙ item_rows a (codes "  ") start s size s word s index (codes "\n")
