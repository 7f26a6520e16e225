-- One more argument that is written, and an operator.
use Rattle.std.proofs.Common.{ℕ, ◌+◌, ◌<◌, ◌≤◌, length, get_or, take, List, subst}
use Rattle.wasm_forms.specs.Writing.{EachFits}
use Rattle.wasm_forms.proofs.Items.{each_push}
use Rattle.std.proofs.lemmas.List.{take_all}
use Rattle.wasm_forms.proofs.RowTurns.{default_any}

-- ---- one more argument of which something holds

pub each_at : {X : Type 0} (F : X → Type 0) (xs : List X) (i : ℕ) (d : X) → i < length xs → EachFits F (take i xs) → F (get_or xs i d) → EachFits F (take (i + 1) xs)
each_at F xs i d l h k = each_push F xs i (get_or xs i d) l (default_any xs i d (get_or xs i d) l) h k

pub each_whole : {X : Type 0} (F : X → Type 0) (xs : List X) (i : ℕ) → length xs ≤ i → EachFits F (take i xs) → EachFits F xs
each_whole F xs i l h = subst (EachFits F) (take_all i xs l) h
