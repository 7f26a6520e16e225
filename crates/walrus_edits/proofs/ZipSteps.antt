-- One pair more of two lists.
use Rattle.std.proofs.Common.{◌≡◌, ℕ, zero, suc, ◌+◌, ◌<◌, ◌≤◌, List, [], ◌∷◌, ◌++◌, length, get_or, take, map, refl, sym, ap, ◌∙◌, arith}
use Rattle.std.specs.Prelude.{zip}
use Rattle.walrus.specs.Frames.Record.{body_record}
use Rattle.wasm_frames.specs.declared.record.RawBody.{RawBody}
use Rattle.walrus_edits.specs.ItemSteps.{defined_told}
use Rattle.walrus_edits.specs.ItemValues.{functions_in}
use Rattle.walrus_edits.specs.declared.section_records.DefinedFunction.{DefinedFunction}

one_more : (i : ℕ) → suc i + 1 ≡ suc (i + 1)
one_more i = omega arith

zip_more : {A B C : Type 0} (f : A → C) (xs : List A) (ys : List B) (i : ℕ) (d : A) (e : B) → i < length xs → i < length ys
    → take (i + 1) (zip (map f xs) ys) ≡ take i (zip (map f xs) ys) ++ (f (get_or xs i d), get_or ys i e) ∷ []
zip_more f [] ys i d e l m = absurd (omega (arith, l))
zip_more f (a ∷ xs) [] i d e l m = absurd (omega (arith, m))
zip_more f (a ∷ xs) (b ∷ ys) zero d e l m = refl
zip_more f (a ∷ xs) (b ∷ ys) (suc i) d e l m =
    ap (λ n. take n ((f a, b) ∷ zip (map f xs) ys)) (one_more i) ∙ ap (λ t. (f a, b) ∷ t) (zip_more f xs ys i d e (omega (arith, l)) (omega (arith, m)))

zip_whole : {A B C : Type 0} (f : A → C) (xs : List A) (ys : List B) (i : ℕ) → (i < length xs → length ys ≤ i) → take i (zip (map f xs) ys) ≡ zip (map f xs) ys
zip_whole f [] ys zero past = refl
zip_whole f [] ys (suc i) past = refl
zip_whole f (a ∷ xs) [] zero past = refl
zip_whole f (a ∷ xs) [] (suc i) past = refl
zip_whole f (a ∷ xs) (b ∷ ys) zero past = absurd (omega (arith, past (omega arith)))
zip_whole f (a ∷ xs) (b ∷ ys) (suc i) past = ap (λ t. (f a, b) ∷ t) (zip_whole f xs ys i (λ l. omega (arith, past (omega (arith, l)))))

map_append : {A B : Type 0} (f : A → B) (xs ys : List A) → map f (xs ++ ys) ≡ map f xs ++ map f ys
map_append f [] ys = refl
map_append f (x ∷ xs) ys = ap (λ l. f x ∷ l) (map_append f xs ys)

pub defined_turn : (bodies : List RawBody) (types : List ℕ) (i : ℕ) (d : RawBody) (e : ℕ) (all new : List DefinedFunction) → new ≡ all ++ record { ty = get_or types i e; body = get_or bodies i d } ∷ [] → i < length bodies → i < length types
    → map defined_told all ≡ functions_in (take i (zip (map body_record bodies) types)) → map defined_told new ≡ functions_in (take (i + 1) (zip (map body_record bodies) types))
defined_turn bodies types i d e all new put l m before =
    let row = zip (map body_record bodies) types in
    let one : DefinedFunction = record { ty = get_or types i e; body = get_or bodies i d } in
    ap (map defined_told) put ∙ map_append defined_told all (one ∷ []) ∙ ap (λ ts. ts ++ defined_told one ∷ []) before
    ∙ sym (ap functions_in (zip_more body_record bodies types i d e l m) ∙ map_append _ (take i row) ((body_record (get_or bodies i d), get_or types i e) ∷ []))

pub defined_all : (bodies : List RawBody) (types : List ℕ) (i : ℕ) (all : List DefinedFunction) → map defined_told all ≡ functions_in (take i (zip (map body_record bodies) types)) → (i < length bodies → length types ≤ i)
    → map defined_told all ≡ functions_in (zip (map body_record bodies) types)
defined_all bodies types i all h past = h ∙ ap functions_in (zip_whole body_record bodies types i past)
