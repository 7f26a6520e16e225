-- Functions that are asked for, in order.
use Rattle.std.proofs.Common.{◌≡◌, ℕ, List, [], ◌∷◌, ◌++◌, map, sym, ap, ◌∙◌}
use Rattle.std.proofs.lemmas.List.{append-nil, append_assoc}
use Rattle.walrus_base.specs.Operators.{function_item}
use Rattle.walrus_items.specs.Roots.{RootLists, with_root, with_roots}

-- they stand behind the functions that were asked for before
pub roots_of : (r : RootLists) (places : List ℕ) → record r { funcs = r.funcs ++ places } ≡ with_roots r (map function_item places)
roots_of r [] = ap (λ (fs : List ℕ). record r { funcs = fs }) (append-nil r.funcs)
roots_of r (p ∷ places) =
    ap (λ (fs : List ℕ). record r { funcs = fs }) (sym (append_assoc r.funcs (p ∷ []) places))
    ∙ roots_of (with_root r (function_item p)) places
