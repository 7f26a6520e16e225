-- Content that is written behind its section's id and size, into the room that was made for it: nothing refuses it any more.
use Rattle.std.proofs.Common.{◌≡◌, ℕ, ◌+◌, ◌<◌, ◌≤◌, ◌^◌, List, ◌∷◌, ◌++◌, length, ap, ◌∙◌, arith, append_assoc, length-append}
use Rattle.std.specs.Prelude.{Result, Ok, Err, vec_capacity, ⊤}
use Rattle.wasm_forms.specs.declared.error.WireError.{WireError}
use Rattle.wasm_forms.specs.declared.error.WireError.TheVariants.{Malformed, Memory, TooLarge}
use Rattle.wasm_forms.specs.Writing.{Adds, TakesRoom, Wrote, FitsLength}
use Rattle.wasm_forms.specs.Spelling.{number_bytes}
use Rattle.wasm_writer.specs.declared.writer.Writer.{Writer}
use Rattle.wasm_writer.specs.Writing.{written, room, UsesRoom}
use Rattle.wasm_writer.specs.Spelling.{section_bytes}

-- the id and the size are written, and there is room for the content
pub record Opened (old between : Writer) (id size : ℕ) : Type 0 where
  pub bytes : written between ≡ written old ++ id ∷ number_bytes size
  pub ready : size ≤ room between
  pub kept : vec_capacity old.bytes ≤ vec_capacity between.bytes

open_same : (old : List ℕ) (id size : ℕ) (content : List ℕ) → size ≡ length content → (old ++ id ∷ number_bytes size) ++ content ≡ old ++ section_bytes id content
open_same old id size content e = append_assoc old (id ∷ number_bytes size) content ∙ ap (λ n. old ++ id ∷ (number_bytes n ++ content)) e

-- refused, there was no room for the id, the size and the content
open_long : (id size : ℕ) (content : List ℕ) → size ≡ length content → 1 + length (number_bytes size) + size ≡ length (section_bytes id content)
open_long id size content e = omega (arith, ap (λ n. length (number_bytes n)) e, e, length-append (number_bytes (length content)) content)

pub refused_room : (e : WireError) (old new : Writer) (id size : ℕ) (content : List ℕ) → size ≡ length content → Wrote {X = Unit {0}} (Err e) (written old) (written new) (id ∷ number_bytes size) ⊤ → room old < 1 + length (number_bytes size) + size → UsesRoom {X = Unit {0}} (Err e) old new (section_bytes id content)
refused_room Malformed old new id size content e o w = tt
refused_room (Memory m) old new id size content e o w = omega (arith, open_long id size content e)
refused_room TooLarge old new id size content e o w = absurd (o.1 tt)

no_room : (between : Writer) (content : List ℕ) (size : ℕ) → size ≡ length content → size ≤ room between → vec_capacity between.bytes < between.bytes.len + length content → ⊥
no_room between content size e l w = omega (arith, between.bytes.ok.0, between.bytes.ok.1)

pub content_wrote : {X : Type 0} (r : Result X WireError) (old between new : Writer) (id size : ℕ) (content : List ℕ) (fits : Type 0) → size ≡ length content → size < 2 ^ 32 → fits → Opened old between id size
    → Adds r (written between) (written new) content fits → TakesRoom r between.bytes new.bytes content → Wrote r (written old) (written new) (section_bytes id content) (fits × FitsLength content)
content_wrote (Ok x) old between new id size content fits e l f o w k = (w.0 ∙ ap (λ b. b ++ content) o.bytes ∙ open_same (written old) id size content e, (f, omega arith))
content_wrote (Err Malformed) old between new id size content fits e l f o w k = absurd w
content_wrote (Err (Memory m)) old between new id size content fits e l f o w k = absurd (no_room between content size e o.ready k)
content_wrote (Err TooLarge) old between new id size content fits e l f o w k = absurd (w f)

pub content_room : {X : Type 0} (r : Result X WireError) (old between new : Writer) (id size : ℕ) (content : List ℕ) (fits : Type 0) → size ≡ length content → size < 2 ^ 32 → fits → Opened old between id size
    → Adds r (written between) (written new) content fits → TakesRoom r between.bytes new.bytes content → UsesRoom r old new (section_bytes id content)
content_room (Ok x) old between new id size content fits e l f o w k =
    let all : written new ≡ written old ++ section_bytes id content = w.0 ∙ ap (λ b. b ++ content) o.bytes ∙ open_same (written old) id size content e in
    omega (arith, o.kept, ap length all, length-append (written old) (section_bytes id content))
content_room (Err Malformed) old between new id size content fits e l f o w k = tt
content_room (Err (Memory m)) old between new id size content fits e l f o w k = absurd (no_room between content size e o.ready k)
content_room (Err TooLarge) old between new id size content fits e l f o w k = absurd (w f)
