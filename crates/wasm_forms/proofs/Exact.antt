-- The law of forms: what is read in front is what is spelled, and every such front is read.
use Rattle.std.proofs.Common.{◌≡◌, ℕ, List, sym, ap, ◌∙◌}
use Rattle.std.specs.Prelude.{Some, Result, Ok, Err}
use Rattle.wasm_forms.specs.declared.error.WireError.{WireError}
use Rattle.wasm_forms.specs.declared.error.WireError.TheVariants.{Malformed, Memory, TooLarge}
use Rattle.wasm_forms.specs.Reading as reading
use Rattle.wasm_forms.specs.Grammar.{Form, Fails, Gives, Byte, Number, Integer, IndexFrom, Bytes, Block, ◌then◌, Led, Made, Where, Row, Until, Is, at, IsExact, HasOneReading, Reads}
use Rattle.wasm_forms.proofs.Bind.{some_same, some_not_none}
use Rattle.wasm_forms.proofs.Leb.{number_exact, integer_exact, index_exact}
use Rattle.wasm_forms.proofs.Parts.{fails_exact, gives_exact, byte_exact, bytes_exact, block_exact, then_exact, led_exact, made_exact, where_exact, row_exact, until_exact}

pub exact : {A : Type 0} (g : Form A) → IsExact (Is g) (at g)
exact Fails = fails_exact
exact (Gives x) = gives_exact x
exact Byte = byte_exact
exact (Number most top) = number_exact most top
exact (Integer most half) = integer_exact most half
exact (IndexFrom b) = index_exact b
exact (Bytes n) = bytes_exact n
exact Block = block_exact
exact (f then g) = then_exact (Is f) (at f) (Is g) (at g) (exact f) (exact g)
exact (Led f g) = led_exact (Is f) (at f) (λ b. Is (g b)) (λ b. at (g b)) (exact f) (λ b. exact (g b))
exact (Made make f) = made_exact make (Is f) (at f) (exact f)
exact (Where test f) = where_exact test (Is f) (at f) (exact f)
exact (Row f n) = row_exact (Is f) (at f) (exact f) n
exact (Until stop f) = until_exact (λ b. Is (f b)) (λ b. at (f b)) (λ b. exact (f b)) stop

-- equal bytes begin with one value of a form, and one rest
pub one_reading : {A : Type 0} (g : Form A) → HasOneReading (Is g)
one_reading {A} g = λ front rest front' rest' a b e h h'.
    let p : Some (a, rest) ≡ Some (b, rest') = sym ((exact g).again front rest a h) ∙ ap (at g) e ∙ (exact g).again front' rest' b h' in
    let q = some_same (a, rest) (b, rest') p in
    (ap (λ (x : A × List ℕ). x.0) q, ap (λ (x : A × List ℕ). x.1) q)

-- from what is read by the list function to what is said by the relation
pub reads : {X A : Type 0} (g : Form A) (view : X → A × List ℕ) (bytes : List ℕ) (result : Result X WireError) → reading.Gives view result (at g bytes) → Reads g view bytes result
reads g view bytes (Ok x) h = (exact g).takes bytes (view x) h
reads {X} {A} g view bytes (Err Malformed) h = λ front rest a e i.
    some_not_none (a, rest) (sym ((exact g).again front rest a i) ∙ ap (at g) (sym e) ∙ h)
reads g view bytes (Err (Memory e)) h = tt
reads g view bytes (Err TooLarge) h = h
