-- The lines of a report, in which all stands in front of the rest.
use Rattle.std.proofs.Common.{◌≡◌, ℕ, ◌+◌, List, [], ◌∷◌, ◌++◌, codes, decimal, flat_map, get_or, length, map, take, append_assoc, refl, sym, ap, ◌∙◌, ◌<◌}
use Rattle.std.proofs.lemmas.Grind.{flat_map-append}
use Rattle.std.proofs.lemmas.List.{append-nil, map_more}
use Rattle.walrus_tools.specs.Reasons.{size_text}

pub nested_line : (word text end : List ℕ) (number : ℕ) → text ≡ word ++ (codes " " ++ (decimal number ++ end)) → text ≡ word ++ codes " " ++ decimal number ++ end
nested_line word text end number is =
    is
    ∙ sym (append_assoc word (codes " ") (decimal number ++ end))
    ∙ sym (append_assoc (word ++ codes " ") (decimal number) end)

-- a function, and behind it the bytes of its body
pub size_joined : (text size : List ℕ) (index bytes : ℕ) → size ≡ codes ":" ++ codes " " ++ decimal bytes ++ codes " bytes\n" → text ≡ codes "function" ++ codes " " ++ decimal index ++ size → text ≡ size_text index bytes
size_joined text size index bytes size_is is =
    let front : List ℕ = codes "function" ++ codes " " ++ decimal index in
    is
    ∙ ap (λ (s : List ℕ). front ++ s) (size_is ∙ append_assoc (codes ":" ++ codes " ") (decimal bytes) (codes " bytes\n"))
    ∙ sym (append_assoc front (codes ": ") (decimal bytes ++ codes " bytes\n"))
    ∙ sym (append_assoc (front ++ codes ": ") (decimal bytes) (codes " bytes\n"))

-- behind the lines of those before stands the line of the next
pub line_more : {X Y Z : Type 0} (line : Y → List Z) (seen : X → Y) (xs : List X) (i : ℕ) (d : X) → i < length xs → (text : List Z) → text ≡ line (seen (get_or xs i d))
    → flat_map line (map seen (take i xs)) ++ text ≡ flat_map line (map seen (take (i + 1) xs))
line_more {Y = Y} {Z = Z} line seen xs i d lt text is =
    let more : map seen (take (i + 1) xs) ≡ map seen (take i xs) ++ seen (get_or xs i d) ∷ [] = map_more seen xs i d lt in
    let one : flat_map line (seen (get_or xs i d) ∷ []) ≡ line (seen (get_or xs i d)) = append-nil (line (seen (get_or xs i d))) in
    ap (λ (t : List Z). flat_map line (map seen (take i xs)) ++ t) (is ∙ sym one)
    ∙ sym (flat_map-append line (map seen (take i xs)) (seen (get_or xs i d) ∷ []))
    ∙ sym (ap (λ (ys : List Y). flat_map line ys) more)

-- behind a text that is the lines of those before the line of the next is put
pub lines_more : {X Y Z : Type 0} (line : Y → List Z) (seen : X → Y) (xs : List X) (i : ℕ) (d : X) → i < length xs → (before after : List Z) → before ≡ flat_map line (map seen (take i xs)) → after ≡ before ++ line (seen (get_or xs i d))
    → after ≡ flat_map line (map seen (take (i + 1) xs))
lines_more {Z = Z} line seen xs i d lt before after were next =
    next ∙ ap (λ (t : List Z). t ++ line (seen (get_or xs i d))) were ∙ line_more line seen xs i d lt (line (seen (get_or xs i d))) refl
