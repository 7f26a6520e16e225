-- Room for what is written under another name, and behind what was written before.
use Rattle.std.proofs.Common.{◌≡◌, ℕ, ◌<◌, ◌≤◌, List, ◌++◌, length, get_or, take, Vec, vec_capacity, ap, subst, arith, length-append}
use Rattle.std.specs.Prelude.{Result, Ok, Err}
use Rattle.wasm_forms.specs.declared.error.WireError.{WireError}
use Rattle.wasm_forms.specs.declared.error.WireError.TheVariants.{Malformed, Memory, TooLarge}
use Rattle.wasm_forms.specs.Writing.{NeedsRoom, TakesRoom}
use Rattle.wasm_forms.specs.Spelling.{row_bytes}
use Rattle.wasm_forms.proofs.Items.{row_within}

-- the same bytes under another name
pub needs_as : {X E A : Type 0} (r : Result X E) (old new : Vec ℕ A) (spelled spelled' : List ℕ) → spelled ≡ spelled' → NeedsRoom r old new spelled → NeedsRoom r old new spelled'
needs_as r old new spelled spelled' e h = subst (λ l. NeedsRoom r old new l) e h

pub room_as : {X A : Type 0} (r : Result X WireError) (old new : Vec ℕ A) (spelled spelled' : List ℕ) → spelled ≡ spelled' → TakesRoom r old new spelled → TakesRoom r old new spelled'
room_as r old new spelled spelled' e h = subst (λ l. TakesRoom r old new l) e h

-- behind what was written before
pub room_behind : {X A : Type 0} (r : Result X WireError) (old between new : Vec ℕ A) (front back : List ℕ) → between.items ≡ old.items ++ front → vec_capacity old ≤ vec_capacity between → TakesRoom r between new back → TakesRoom r old new (front ++ back)
room_behind (Ok x) old between new front back e h w = omega arith
room_behind (Err Malformed) old between new front back e h w = tt
room_behind (Err (Memory m)) old between new front back e h w = omega (arith, old.ok.0, between.ok.0, ap length e, length-append old.items front, length-append front back)
room_behind (Err TooLarge) old between new front back e h w = omega arith

-- an item that is refused behind those before it
pub row_refused : {X A : Type 0} (spell : X → List ℕ) (xs : List X) (i : ℕ) (x : X) (e : WireError) (old between new : Vec ℕ A) → i < length xs → x ≡ get_or xs i x → between.items ≡ old.items ++ row_bytes spell (take i xs)
    → vec_capacity old ≤ vec_capacity between → TakesRoom {X = Unit {0}} (Err e) between new (spell x) → TakesRoom {X = Unit {0}} (Err e) old new (row_bytes spell xs)
row_refused spell xs i x Malformed old between new l k h c w = tt
row_refused spell xs i x (Memory m) old between new l k h c w = omega (arith, old.ok.0, between.ok.0, ap length h, length-append old.items (row_bytes spell (take i xs)), row_within spell xs i x l k)
row_refused spell xs i x TooLarge old between new l k h c w = omega arith
