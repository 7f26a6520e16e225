-- That arguments stand at marks in order is told by a test, so it is known of a body as data.
use Rattle.std.proofs.Common.{◌≡◌, ℕ, ◌+◌, ◌-◌, ◌<◌, Bool, true, false, List, [], ◌∷◌, length, take, drop, map, Option, Some, None, refl, sym, ap, subst, ◌∙◌, arith}
use Rattle.std.specs.Prelude.{◌≤◌, filter, nat_le, nat_lt, ◌&&◌}
use Rattle.std.proofs.Math.Logic.{∥∥₁_elim}
use Rattle.std.proofs.Props.{props}
use Rattle.std.proofs.lemmas.Bool.{le-leb, leb-true, lt-ltb, ltb-true, and_parts as parts, and_from as both}
use Rattle.std.proofs.lemmas.List.{length-append, length-drop, take_at}
use Rattle.wasm_forms.specs.Grammar.{Is}
use Rattle.wasm_forms.proofs.Exact.{exact}
use Rattle.wasm_text.specs.RawArg.{RawArg}
use Rattle.wasm_text.specs.Places.{Stands}
use Rattle.wasm_text.specs.Marks.{place_of, kind_of, form_of, found, AreInOrder, Leaves, arg_names, fill, with, all_args, args_at}
use Rattle.walrus_bodies.specs.Shown.{AreShown, NameLeftOut, StaysUnmarked, needs_mark}
use Rattle.walrus_bodies.specs.Texts.{texts_at}
use Rattle.wasm_text.specs.Unmarked.{is_access, is_local}
use Rattle.wasm_forms.specs.Writing.{EachFits}
use Rattle.std.specs.List.{list_any}
use Rattle.wasm_text.specs.Operators.{Op}
use Rattle.wasm_text.specs.Spelling.{op_bytes}
use Rattle.wasm_forms.specs.Spelling.{row_bytes}
use Rattle.wasm_text.proofs.Filling.{found_is}
use Rattle.walrus_bodies.specs.Text.{bytes_of, entry_of, left_out_of, marks_of}
use Rattle.walrus_bodies.specs.declared.text.Text.{Text}
use Rattle.walrus_bodies.proofs.HeldLemmas.{left_out_in_text, shown_in}

-- an argument ends behind its mark, and the next ones follow
abbrev goes_on : (ℕ → Bool) → List ℕ → ℕ → Option (RawArg × List ℕ) → Bool
goes_on next bytes place None = false
goes_on next bytes place (Some x) = nat_lt place (length bytes - length x.1) && next (length bytes - length x.1)

abbrev pub are_ordered : List ℕ → ℕ → List ℕ → Bool
are_ordered bytes from [] = nat_le from (length bytes)
are_ordered bytes from (mark ∷ marks) = nat_le from (place_of mark) && goes_on (λ behind. are_ordered bytes behind marks) bytes (place_of mark) (found bytes mark)

pub order_told : (bytes : List ℕ) (from : ℕ) (marks : List ℕ) → AreInOrder bytes from marks → are_ordered bytes from marks ≡ true
order_told bytes from [] h = le-leb from (length bytes) h
order_told bytes from (mark ∷ marks) (start, (arg, (behind, (s, rest)))) =
    let next = λ (k : ℕ). are_ordered bytes k marks in
    let end : length bytes - length (drop behind bytes) ≡ behind = omega (arith, length-drop behind bytes, s.within) in
    both (nat_le from (place_of mark)) (goes_on next bytes (place_of mark) (found bytes mark)) (le-leb from (place_of mark) start)
    (ap (goes_on next bytes (place_of mark)) (found_is bytes mark behind arg s) ∙ ap (λ k. nat_lt (place_of mark) k && next k) end
    ∙ both (nat_lt (place_of mark) behind) (next behind) (lt-ltb (place_of mark) behind s.forward) (order_told bytes behind marks rest))

-- what is found behind a mark's place stands there
pub stands_found : (bytes : List ℕ) (mark : ℕ) (arg : RawArg) (rest : List ℕ) → found bytes mark ≡ Some (arg, rest) → place_of mark < length bytes - length rest
    → Stands (form_of (kind_of mark)) bytes (place_of mark) (length bytes - length rest) arg
stands_found bytes mark arg rest here forward =
    let place = place_of mark in
    let behind = length bytes - length rest in
    let t = (exact (form_of (kind_of mark))).takes (drop place bytes) (arg, rest) here in
    let long : length bytes - place ≡ length t.0 + length rest = sym (length-drop place bytes) ∙ ap length t.1.0 ∙ length-append t.0 rest in
    let front : length t.0 ≡ behind - place = omega (arith, long, forward) in
    record {
      forward = forward;
      within = omega arith;
      text = subst (λ (m : List ℕ). Is (form_of (kind_of mark)) m arg) (sym (ap (take (behind - place)) t.1.0 ∙ take_at t.0 rest (behind - place) front)) t.1.1;
    }

stands_next : (bytes : List ℕ) (mark : ℕ) (marks : List ℕ) (o : Option (RawArg × List ℕ)) → found bytes mark ≡ o → ((k : ℕ) → are_ordered bytes k marks ≡ true → AreInOrder bytes k marks)
    → goes_on (λ behind. are_ordered bytes behind marks) bytes (place_of mark) o ≡ true
    → (arg : RawArg) × ((behind : ℕ) × (Stands (form_of (kind_of mark)) bytes (place_of mark) behind arg × AreInOrder bytes behind marks))
stands_next bytes mark marks None here next e = cc
stands_next bytes mark marks (Some x) here next e =
    let behind = length bytes - length x.1 in
    let p = parts (nat_lt (place_of mark) behind) (are_ordered bytes behind marks) e in
    (x.0, (behind, (stands_found bytes mark x.0 x.1 here (ltb-true (place_of mark) behind p.0), next behind p.1)))

pub order_of : (bytes : List ℕ) (from : ℕ) (marks : List ℕ) → are_ordered bytes from marks ≡ true → AreInOrder bytes from marks
order_of bytes from [] e = leb-true from (length bytes) e
order_of bytes from (mark ∷ marks) e =
    let p = parts (nat_le from (place_of mark)) (goes_on (λ behind. are_ordered bytes behind marks) bytes (place_of mark) (found bytes mark)) e in
    (leb-true from (place_of mark) p.0, stands_next bytes mark marks (found bytes mark) refl (λ k. order_of bytes k marks) p.1)

-- ---- of a body

pub in_order : (t : Text) → AreInOrder (bytes_of t) 0 (marks_of t)
in_order t = order_of (bytes_of t) 0 (marks_of t) (∥∥₁_elim t.body (hlevel props) (λ b. let s = shown_in t b in order_told (bytes_of t) 0 (marks_of t) s.ordered))

-- what the marks of a body show, as data
pub shown_of : (t : Text) → AreShown (left_out_of t) (bytes_of t) (marks_of t) (texts_at (entry_of t).count (bytes_of t))
shown_of t = record {
  ordered = in_order t;
  becomes = ∥∥₁_elim t.body becomes_prop (λ b. (shown_in t b).becomes);
  needed = ∥∥₁_elim t.body needed_prop (λ b. (shown_in t b).needed);
  among = ∥∥₁_elim t.body among_prop (λ b. (shown_in t b).among);
}
  where
    bytes : List ℕ
    bytes = (bytes_of t)

    texts : List Op
    texts = texts_at (entry_of t).count bytes

    becomes_prop : IsProp ((f : RawArg → RawArg) → Leaves f → EachFits (StaysUnmarked (left_out_of t) f) (all_args texts) → row_bytes op_bytes (map (with f) texts) ≡ fill f bytes 0 (marks_of t))
    becomes_prop = hlevel props

    needed_prop : IsProp (filter (needs_mark (left_out_of t)) (all_args texts) ≡ filter (needs_mark (left_out_of t)) (args_at bytes (marks_of t)))
    needed_prop = hlevel props

    among_prop : IsProp ((asks : RawArg → Bool) → ((arg : RawArg) → arg_names arg ≡ false → asks arg ≡ false) → list_any asks (args_at bytes (marks_of t)) ≡ true → list_any asks (all_args texts) ≡ true)
    among_prop = hlevel props

-- what a body names whose marks are left out, as data
pub left_out_named : (t : Text) → NameLeftOut (left_out_of t) (entry_of t).locals (texts_at (entry_of t).count (bytes_of t))
left_out_named t = record {
  each_local = ∥∥₁_elim t.body locals_prop (λ b. (left_out_in_text t b).each_local);
  memory = ∥∥₁_elim t.body memory_prop (λ b. (left_out_in_text t b).memory);
}
  where
    texts : List Op
    texts = texts_at (entry_of t).count (bytes_of t)

    locals_prop : IsProp ((n : ℕ) → (left_out_of t).first ≤ n → n < (entry_of t).locals → list_any (is_local n) (all_args texts) ≡ true)
    locals_prop = hlevel props

    memory_prop : IsProp ((left_out_of t).accessed ≡ true → list_any is_access (all_args texts) ≡ true)
    memory_prop = hlevel props
