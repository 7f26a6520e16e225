-- Marks that show arguments, and operators with marks.
use Rattle.std.proofs.Common.{◌≡◌, ℕ, ◌-◌, ◌<◌, ◌≤◌, List, [], ◌∷◌, ◌++◌, length, take, map, refl, sym, ap, ap₂, subst, ◌∙◌, arith, append_assoc}
use Rattle.std.proofs.lemmas.List.{map-append, append-nil}
use Rattle.std.proofs.lemmas.List.Elements.{filter-append}
use Rattle.std.proofs.lemmas.Grind.{flat_map-append}
use Rattle.std.proofs.Math.Seq.{drop-length, take-length}
use Rattle.wasm_forms.specs.Grammar.{Is, IsRow}
use Rattle.wasm_forms.specs.Spelling.{row_bytes}
use Rattle.wasm_operators.specs.declared.operator.RawArg.{RawArg}
use Rattle.wasm_operators.specs.Operators.{Op}
use Rattle.wasm_operators.specs.Forms.{operator}
use Rattle.wasm_operators.specs.Spelling.{arg_bytes, op_bytes}
use Rattle.wasm_text.specs.Places.{between, Stands}
use Rattle.wasm_text.specs.Marks.{place_of, kind_of, shifted, form_of, argument, args_at, arg_names, naming, Leaves, Shows, Holds, HoldsOne, all_args, with}
use Rattle.wasm_text.proofs.Filling.{found_is, fill_next, fill_append, order_append, args_append}
use Rattle.wasm_forms.proofs.Items.{row_bytes-append as row_bytes_append}

abbrev Spell : Type 0
Spell = (RawArg → RawArg) → List ℕ

pub shows_append : (bytes marks more marks' : List ℕ) (args args' : List RawArg) (spell spell' : Spell) → Shows bytes marks args spell → Shows more marks' args' spell'
    → Shows (bytes ++ more) (marks ++ map (shifted (length bytes)) marks') (args ++ args') (λ f. spell f ++ spell' f)
shows_append bytes marks more marks' args args' spell spell' s t = record {
  ordered = order_append bytes more 0 marks marks' s.ordered t.ordered;
  becomes = λ f l. ap₂ (λ x y. x ++ y) (s.becomes f l) (t.becomes f l) ∙ sym (fill_append f bytes more marks marks' s.ordered t.ordered);
  named = filter-append arg_names args args' ∙ ap₂ (λ x y. x ++ y) s.named t.named ∙ sym (filter-append arg_names (args_at bytes marks) (args_at more marks')) ∙ sym (ap naming (args_append bytes more marks marks' s.ordered t.ordered));
}

-- the same arguments and spellings, written otherwise
pub shows_as : (bytes marks : List ℕ) (args args' : List RawArg) (spell spell' : Spell) → args' ≡ args → ((f : RawArg → RawArg) → spell' f ≡ spell f) → Shows bytes marks args spell → Shows bytes marks args' spell'
shows_as bytes marks args args' spell spell' e same s = record {
  ordered = s.ordered;
  becomes = λ f l. same f ∙ s.becomes f l;
  named = ap naming e ∙ s.named;
}

-- bytes without marks: the arguments in them name nothing, and are in their one spelling
pub shows_plain : (bytes : List ℕ) (args : List RawArg) (spell : Spell) → ((f : RawArg → RawArg) → Leaves f → spell f ≡ bytes) → naming args ≡ [] → Shows bytes [] args spell
shows_plain bytes args spell same none = record { ordered = omega arith; becomes = same; named = none }

-- bytes that are one argument, with its mark
pub shows_marked : (bytes : List ℕ) (kind : ℕ) (arg : RawArg) (args : List RawArg) (spell : Spell) → kind < 16 → 1 ≤ length bytes → Is (form_of kind) bytes arg
    → ((f : RawArg → RawArg) → Leaves f → spell f ≡ arg_bytes (f arg)) → naming args ≡ naming (arg ∷ []) → Shows bytes (kind ∷ []) args spell
shows_marked bytes kind arg args spell small some is same named = record {
  ordered = (omega arith, (arg, (length bytes, (stands, omega arith))));
  becomes = λ f l. same f l ∙ sym (fill_next f bytes 0 kind (length bytes) [] arg stands ∙ ap₂ (λ x y. x ++ arg_bytes (f arg) ++ y) (ap (λ k. between 0 k bytes) start) (drop-length bytes) ∙ append-nil (arg_bytes (f arg)));
  named = named ∙ sym (ap (λ o. naming (argument o ++ [])) (found_is bytes kind (length bytes) arg stands));
}
  where
    start : place_of kind ≡ 0
    start = omega arith

    kept : kind_of kind ≡ kind
    kept = omega arith

    whole : between 0 (length bytes) bytes ≡ bytes
    whole = let e : length bytes - 0 ≡ length bytes = omega arith in ap (λ k. take k bytes) e ∙ take-length bytes

    stands : Stands (form_of (kind_of kind)) bytes (place_of kind) (length bytes) arg
    stands =
        subst (λ (k : ℕ). Stands (form_of k) bytes (place_of kind) (length bytes) arg) (sym kept)
        (subst (λ (k : ℕ). Stands (form_of kind) bytes k (length bytes) arg) (sym start)
        (record { forward = some; within = omega arith; text = subst (λ (m : List ℕ). Is (form_of kind) m arg) (sym whole) is }))

-- ---- rows of operators

pub row_append : {A : Type 0} (R : List ℕ → A → Type 0) (bytes more : List ℕ) (xs ys : List A) → IsRow R bytes xs → IsRow R more ys → IsRow R (bytes ++ more) (xs ++ ys)
row_append R bytes more [] ys h k = subst (λ (m : List ℕ). IsRow R m ys) (sym (ap (λ m. m ++ more) h)) k
row_append R bytes more (x ∷ xs) ys (front, (back, (e, is, h))) k = (front, (back ++ more, (ap (λ m. m ++ more) e ∙ append_assoc front back more, is, row_append R back more xs ys h k)))

-- ---- the laws

pub holds_none : Holds [] [] []
holds_none = record { row = refl; shown = shows_plain [] [] (λ f. []) (λ f l. refl) refl }

pub holds_one : (bytes marks : List ℕ) (text : Op) → HoldsOne bytes marks text → Holds bytes marks (text ∷ [])
holds_one bytes marks text h = record {
  row = (bytes, ([], (sym (append-nil bytes), h.is, refl)));
  shown = shows_as bytes marks text.args (all_args (text ∷ [])) (λ f. op_bytes (with f text)) (λ f. row_bytes op_bytes (map (with f) (text ∷ []))) (append-nil text.args) (λ f. append-nil (op_bytes (with f text))) h.shown;
}

pub holds_append : (bytes marks more marks' : List ℕ) (texts texts' : List Op) → Holds bytes marks texts → Holds more marks' texts'
    → Holds (bytes ++ more) (marks ++ map (shifted (length bytes)) marks') (texts ++ texts')
holds_append bytes marks more marks' texts texts' h k = record {
  row = row_append (Is operator) bytes more texts texts' h.row k.row;
  shown = shows_as (bytes ++ more) (marks ++ map (shifted (length bytes)) marks') (all_args texts ++ all_args texts') (all_args (texts ++ texts'))
      (λ f. row_bytes op_bytes (map (with f) texts) ++ row_bytes op_bytes (map (with f) texts')) (λ f. row_bytes op_bytes (map (with f) (texts ++ texts')))
      (flat_map-append (λ (o : Op). o.args) texts texts')
      (λ f. ap (row_bytes op_bytes) (map-append (with f) texts texts') ∙ row_bytes_append op_bytes (map (with f) texts) (map (with f) texts'))
      (shows_append bytes marks more marks' (all_args texts) (all_args texts') (λ f. row_bytes op_bytes (map (with f) texts)) (λ f. row_bytes op_bytes (map (with f) texts')) h.shown k.shown);
}

pub holds_more : (bytes marks more marks' : List ℕ) (texts : List Op) (text : Op) → Holds bytes marks texts → HoldsOne more marks' text
    → Holds (bytes ++ more) (marks ++ map (shifted (length bytes)) marks') (texts ++ text ∷ [])
holds_more bytes marks more marks' texts text h k = holds_append bytes marks more marks' texts (text ∷ []) h (holds_one more marks' text k)
