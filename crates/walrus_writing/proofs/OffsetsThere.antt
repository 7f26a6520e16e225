-- Each operator of a body that is written has a location and a place, whether or not these are asked for.
use Rattle.std.proofs.Common.{◌≡◌, ℕ, zero, suc, ◌+◌, Bool, List, [], ◌∷◌, length, map, refl, sym, ap, ◌∙◌, subst, arith, None, Some}
use Rattle.std.specs.Prelude.{Option, option_and_then, option_map, zip}
use Rattle.std.specs.List.{AllZip}
use Rattle.std.proofs.lemmas.List.{append-nil, length-map}
use Rattle.std.proofs.Math.Logic.{∥∥₁_elim}
use Rattle.std.proofs.Props.{props}
use Rattle.wasm_forms.specs.Grammar.{Is, IsRow, Row, at}
use Rattle.wasm_forms.specs.Reading.{◌>>=◌}
use Rattle.wasm_forms.proofs.Exact.{exact}
use Rattle.wasm_operators.specs.Operators as operators
use Rattle.wasm_operators.specs.Forms.{operator}
use Rattle.wasm_operators.specs.Spelling.{op_bytes}
use Rattle.walrus_base.specs.Arena.{item_at}
use Rattle.walrus_base.specs.Id.{place}
use Rattle.walrus_base.specs.Operators.{Op}
use Rattle.walrus_base.proofs.Standing.{some_inj}
use Rattle.walrus_code.specs.FromRaw.{op_of}
use Rattle.walrus_code.specs.Names.{Lookup, named_op, named_ops}
use Rattle.walrus_code.specs.declared.location.InstrLocId.{InstrLocId}
use Rattle.walrus_bodies.specs.Emitting.{places_from}
use Rattle.walrus_bodies.specs.Function.{body_in, body_of, function_type, locations_of, places_in}
use Rattle.walrus_bodies.specs.Placed.{placed_op}
use Rattle.walrus_bodies.specs.Text.{at_place, bytes_of, entry_of, start_of, first_local_of, locations_in, ops_in, texts_of}
use Rattle.walrus_bodies.specs.Texts.{behind_first, places_at, texts_at, values}
use Rattle.walrus_bodies.specs.declared.features.Features.{Features}
use Rattle.walrus_bodies.specs.Listed.{operators_of}
use Rattle.walrus_bodies.specs.declared.function.Body.{Body}
use Rattle.walrus_bodies.specs.declared.function.Body.TheVariants as bodies
use Rattle.walrus_bodies.specs.declared.function.LocalFunction.{LocalFunction}
use Rattle.walrus_bodies.specs.declared.text.Text.{Text}
use Rattle.walrus_functions.specs.EmittedBody.{BodyWritten}
use Rattle.walrus_items.specs.FunctionKinds.{kind_type}
use Rattle.walrus_items.specs.Functions.{FunctionValue, functions, local_at}
use Rattle.walrus_items.specs.Transform.{location_of}
use Rattle.walrus_items.specs.declared.function_kind.FunctionKind.{FunctionKind}
use Rattle.walrus_items.specs.declared.function_kind.FunctionKind.TheVariants as kind
use Rattle.walrus_contents.specs.View.{body, function, kind_of, parts_view}
use Rattle.walrus_contents.specs.declared.parts.Parts.{Parts}
use Rattle.walrus_model.specs.Abstract as abstract
use Rattle.walrus_writing.specs.Located.{AreOffsets}
use Rattle.walrus_writing.specs.Parts.{HasBytes, function_seen, local_in, source, source_of}
use Rattle.walrus_writing.proofs.LocatedBodies.{offsets_written}
use Rattle.walrus_writing.proofs.Placing.{Pair, zip_firsts}
use Rattle.walrus_writing.proofs.TransformTold.{Offsets}

zip_seconds : {A B : Type 0} (xs : List A) (ys : List B) → length xs ≡ length ys → map (λ (e : A × B). e.1) (zip xs ys) ≡ ys
zip_seconds [] [] same = refl
zip_seconds [] (y ∷ ys) same = absurd (omega (arith, same))
zip_seconds (x ∷ xs) [] same = absurd (omega (arith, same))
zip_seconds {A} {B} (x ∷ xs) (y ∷ ys) same = ap (λ (l : List B). y ∷ l) (zip_seconds xs ys (omega (arith, same)))

-- ---- as many locations as operators

places_many : (end : ℕ) (bytes : List ℕ) (ops : List operators.Op) → IsRow (Is operator) bytes ops → length (places_at end (length ops) bytes) ≡ length ops
unfolding places_at
places_many end bytes [] row = refl
places_many end bytes (x ∷ xs) (front, (back, (parts, is, row))) =
    let read : at operator bytes ≡ Some (x, back) = ap (at operator) parts ∙ (exact operator).again front back x is in
    ap (λ (o : Option (operators.Op × List ℕ)). suc (length (behind_first (λ rest. places_at end (length xs) rest) o))) read ∙ ap suc (places_many end back xs row)

texts_many : (bytes : List ℕ) (ops : List operators.Op) → IsRow (Is operator) bytes ops → texts_at (length ops) bytes ≡ ops
texts_many bytes ops row =
    ap (λ (bs : List ℕ). texts_at (length ops) bs) (sym (append-nil bytes)) ∙ ap values ((exact (Row operator (length ops))).again bytes [] ops (row, refl))

plain_many : (end count : ℕ) (bytes : List ℕ) (ops : List operators.Op) → count ≡ length ops → IsRow (Is operator) bytes ops → length (places_at end count bytes) ≡ length (texts_at count bytes)
plain_many end count bytes ops counted row =
    ap (λ (n : ℕ). length (places_at end n bytes)) counted
    ∙ places_many end bytes ops row
    ∙ sym (ap (λ (n : ℕ). length (texts_at n bytes)) counted ∙ ap length (texts_many bytes ops row))

text_many : (t : Text) → length (locations_in t) ≡ length (ops_in t)
unfolding texts_of locations_in
text_many t =
    let count = (entry_of t).count in
    let end = start_of t + length (bytes_of t) in
    length-map (places_at end count (bytes_of t)) at_place
    ∙ ∥∥₁_elim t.body (hlevel props) (λ b. plain_many end count (bytes_of t) b.texts b.counted b.row)
    ∙ sym (length-map (texts_at count (bytes_of t)) (placed_op (first_local_of t)))

body_many : (b : Body) → length (places_in b) ≡ length (body_in b)
body_many (bodies.Text params t) = text_many t
body_many (bodies.List listed) = length-map (operators_of listed.value) _ ∙ sym (length-map (operators_of listed.value) _)

locations_many : (f : LocalFunction) → length (locations_of f) ≡ length (body_of f)
unfolding locations_of body_of
locations_many f = body_many f.body

-- as many operators over indices
named_tail : (found : Option Op) (rest : Option (List Op)) (all : List Op) → (found >>= λ o. rest >>= λ os. Some (o ∷ os)) ≡ Some all → (os : List Op) × ((rest ≡ Some os) × (length all ≡ suc (length os)))
named_tail None rest all e = absurd (cc)
named_tail (Some o) None all e = absurd (cc)
named_tail (Some o) (Some os) all e = (os, (refl, ap length (sym (some_inj (o ∷ os) all e))))

named_many : (names : Lookup) (locals : ℕ → Option ℕ) (ops found : List Op) → named_ops names locals ops ≡ Some found → length found ≡ length ops
named_many names locals [] found e = ap length (sym (some_inj [] found e))
named_many names locals (o ∷ ops) found e =
    let t = named_tail (named_op names locals o) (named_ops names locals ops) found e in
    t.1.1 ∙ ap suc (named_many names locals ops t.0 t.1.0)

from_many : (start : ℕ) (ops : List operators.Op) → length (places_from start ops) ≡ length ops
from_many start [] = refl
from_many start (o ∷ ops) = ap suc (from_many (start + length (op_bytes o)) ops)

-- ---- the function that is seen with a body

not_imported : (i : ℕ) (b : abstract.Body) → abstract.ImportedFunction i ≡ abstract.LocalFunction b → ⊥
not_imported i b e = cc

not_unmade : (b : abstract.Body) → abstract.Uninitialised ≡ abstract.LocalFunction b → ⊥
not_unmade b e = cc

module _ (p : Parts) (n : ℕ) (l : LocalFunction) where
  -- what is found is a function that is seen as this one
  abbrev IsThere : Option (ℕ × LocalFunction) → Type 0
  IsThere found = (f : LocalFunction) × (found ≡ Some (n, f)) × (function_seen p f ≡ function_seen p l)

  abbrev kind_seen : FunctionKind → abstract.Function
  kind_seen k = record { ty = place (kind_type k); kind = kind_of p.locals.now k }

  kind_there : (k : FunctionKind) → kind_seen k ≡ function_seen p l → IsThere (local_at n k)
  kind_there (kind.Local f) e = (f, refl, e)
  kind_there (kind.Import i) e = absurd (not_imported (place i.«import») (body p.locals.now l) (ap (λ (x : abstract.Function). x.kind) e))
  kind_there (kind.Uninitialized ty) e = absurd (not_unmade (body p.locals.now l) (ap (λ (x : abstract.Function). x.kind) e))

  value_there : (o : Option FunctionValue) → option_map (function p.locals.now) o ≡ Some (function_seen p l) → IsThere (option_and_then (λ (v : FunctionValue). local_at n v.kind) o)
  value_there None e = absurd (cc)
  value_there (Some v) e = kind_there v.kind (some_inj (function p.locals.now v) (function_seen p l) e)

  is_there : (parts_view p).functions n ≡ Some (function_seen p l) → IsThere (local_in (functions p.funcs.now) n)
  is_there e = value_there (item_at (functions p.funcs.now) n) e

-- ---- bodies

same_body : (a b : abstract.Body) → abstract.LocalFunction a ≡ abstract.LocalFunction b → a ≡ b
same_body a b e = cc

module _ (p : Parts) (names : Lookup) (features : Features) where
  -- what is written of one is so of each function that is seen as it
  written_of : (f g : LocalFunction) (bytes places : List ℕ) (numbers : ℕ → Option ℕ) (ids : List ℕ) (used : List Bool) → function_seen p f ≡ function_seen p g
      → BodyWritten (source p names features g) bytes places numbers ids used → BodyWritten (source p names features f) bytes places numbers ids used
  written_of f g bytes places numbers ids used e w =
      subst (λ (b : abstract.Body). BodyWritten (source_of p names features (place (function_type f)) b) bytes places numbers ids used) (sym (same_body (body p.locals.now f) (body p.locals.now g) (ap (λ (x : abstract.Function). x.kind) e)))
      (subst (λ (ty : ℕ). BodyWritten (source_of p names features ty (body p.locals.now g)) bytes places numbers ids used) (sym (ap (λ (x : abstract.Function). x.ty) e)) w)

  one_offsets : (n : ℕ) (bytes : List ℕ) → HasBytes p names features n bytes → (o : List Pair) × AreOffsets p n bytes o
  one_offsets n bytes b =
      let f = is_there p n b.local b.is in
      let w = written_of f.0 b.local bytes b.places b.numbers b.ids b.used f.2 b.written in
      let many : length (locations_of f.0) ≡ length b.places =
      locations_many f.0
      ∙ sym (named_many _ _ _ _ w.named)
      ∙ length-map w.texts op_of
      ∙ sym (from_many _ w.texts)
      ∙ ap length (sym w.placed) in
      let pairs : List (InstrLocId × ℕ) = zip (locations_of f.0) b.places in (
        map location_of pairs,
        offsets_written p names features n f.0 pairs bytes b.numbers b.ids b.used f.1 (zip_firsts (locations_of f.0) b.places many)
            (subst (λ (l : List ℕ). BodyWritten (source p names features f.0) bytes l b.numbers b.ids b.used) (sym (zip_seconds (locations_of f.0) b.places many)) w),
      )

  -- one body in front of others
  in_front : (n : ℕ) (order : List ℕ) (b : List ℕ) (bodies : List (List ℕ)) (o : List Pair) (rest : List (List Pair)) → AreOffsets p n b o → Offsets p order bodies rest → Offsets p (n ∷ order) (b ∷ bodies) (o ∷ rest)
  in_front n order b bodies o rest one more zero f c at to = (
    o,
    refl,
    subst (λ (m : ℕ). AreOffsets p m c o) (some_inj n f at) (subst (λ (l : List ℕ). AreOffsets p n l o) (some_inj b c to) one),
  )
  in_front n order b bodies o rest one more (suc k) f c at to = more k f c at to

  pub all_offsets : (order : List ℕ) (bodies : List (List ℕ)) → AllZip (HasBytes p names features) order bodies → (rest : List (List Pair)) × (length rest ≡ length order) × Offsets p order bodies rest
  all_offsets [] [] h = ([], refl, λ k f b at to. absurd (cc))
  all_offsets [] (b ∷ bodies) h = elim h [ ]
  all_offsets (n ∷ order) [] h = elim h [ ]
  all_offsets (n ∷ order) (b ∷ bodies) h =
      let one = one_offsets n b h.0 in
      let more = all_offsets order bodies h.1 in
      (one.0 ∷ more.0, ap suc more.1, in_front n order b bodies one.0 more.0 one.1 more.2)
