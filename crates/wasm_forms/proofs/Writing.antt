-- Items that are written one after another, where a loop tells each by its place alone; and records in place of what they hold.
use Rattle.std.proofs.Common.{◌≡◌, ℕ, ◌+◌, ◌<◌, ◌≤◌, length, get_or, take, List, ◌++◌, ap, ◌∙◌, append_assoc, Vec, vec_capacity}
use Rattle.std.specs.Prelude.{Err}
use Rattle.wasm_forms.specs.declared.error.WireError.{WireError}
use Rattle.wasm_forms.specs.declared.error.WireError.TheVariants.{Malformed, Memory, TooLarge}
use Rattle.wasm_forms.specs.Spelling.{row_bytes}
use Rattle.wasm_forms.specs.Writing.{Adds, TakesRoom, EachFits}
use Rattle.wasm_forms.proofs.Items.{row_push, each_push, each_at}
use Rattle.wasm_forms.proofs.Room.{row_refused}
use Rattle.wasm_forms.proofs.RowTurns.{default_any}

module _ {X : Type 0} (spell : X → List ℕ) (F : X → Type 0) (xs : List X) (i : ℕ) (d : X) (below : i < length xs) where
  abbrev x : X
  x = get_or xs i d

  same : x ≡ get_or xs i x
  same = default_any xs i d x below

  pub written_at : (front now new : List ℕ) → now ≡ front ++ row_bytes spell (take i xs) → new ≡ now ++ spell x → new ≡ front ++ row_bytes spell (take (i + 1) xs)
  written_at front now new h k = k ∙ ap (λ y. y ++ spell x) h ∙ append_assoc front (row_bytes spell (take i xs)) (spell x) ∙ ap (λ y. front ++ y) (row_push spell xs i x below same)

  pub fits_at : EachFits F (take i xs) → F x → EachFits F (take (i + 1) xs)
  fits_at = each_push F xs i x below same

  pub room_at : {A : Type 0} (e : WireError) (old between new : Vec ℕ A) → between.items ≡ old.items ++ row_bytes spell (take i xs) → vec_capacity old ≤ vec_capacity between
      → TakesRoom {X = Unit {0}} (Err e) between new (spell x) → TakesRoom {X = Unit {0}} (Err e) old new (row_bytes spell xs)
  room_at e old between new h c w = row_refused spell xs i x e old between new below same h c w

  pub adds_at : (e : WireError) (old between new : List ℕ) → Adds {X = Unit {0}} (Err e) between new (spell x) (F x) → Adds {X = Unit {0}} (Err e) old new (row_bytes spell xs) (EachFits F xs)
  adds_at Malformed old between new w = w
  adds_at (Memory m) old between new w = tt
  adds_at TooLarge old between new w = λ each. w (each_at F xs i x below same each)
