-- The names under which an item is exported, as a text.
use Rattle.std.proofs.Common.{◌≡◌, ℕ, Bool, false, List, [], ◌∷◌, ◌++◌, codes, length, map, sym, ap, ◌∙◌, append_assoc}
use Rattle.std.specs.Prelude.{◌==◌, String, string_bytes}
use Rattle.std.specs.declared.alloc.Global.{Global}
use Rattle.std.proofs.lemmas.Bool.{false≢true as untrue}
use Rattle.mulkavesh.specs.Json.{separated}
use Rattle.mulkavesh.specs.Links.{exports_text, quoted}

-- there are some, and their texts were put behind what tells that
pub told_exports : (names : List (String Global)) (is_empty : Bool) → is_empty ≡ (length names == 0) → is_empty ≡ false → (old begun all : List ℕ) → begun ≡ old ++ codes ", exported as "
    → all ≡ begun ++ separated (codes ", ") (map quoted (map string_bytes names)) → all ≡ old ++ exports_text (map string_bytes names)
told_exports [] is_empty is some old begun all begun_is all_is = absurd (untrue (sym some ∙ is))
told_exports (name ∷ others) is_empty is some old begun all begun_is all_is =
    let texts : List ℕ = separated (codes ", ") (map quoted (map string_bytes (name ∷ others))) in
    all_is ∙ ap (λ (t : List ℕ). t ++ texts) begun_is ∙ append_assoc old (codes ", exported as ") texts
