-- Bytes with marks, one behind another.
use Rattle.std.proofs.Common.{◌≡◌, ℕ, ◌+◌, ◌-◌, ◌≤◌, List, [], ◌∷◌, ◌++◌, length, take, drop, map, Some, refl, sym, ap, ap₂, subst, ◌∙◌, arith, append_assoc}
use Rattle.std.proofs.lemmas.List.{length-append, take-append-le, drop-append-le, length-drop, append-nil}
use Rattle.std.proofs.lemmas.Grind.{flat_map-append}
use Rattle.std.proofs.Math.Seq.{drop-append-add, drop-length}
use Rattle.wasm_forms.specs.Grammar.{Form, Is, at}
use Rattle.wasm_forms.proofs.Exact.{exact}
use Rattle.wasm_operators.specs.declared.operator.RawArg.{RawArg}
use Rattle.wasm_operators.specs.Spelling.{arg_bytes}
use Rattle.wasm_text.specs.Places.{between, Stands}
use Rattle.wasm_text.specs.Marks.{place_of, kind_of, shifted, form_of, found, spelled, end_of, fill, AreInOrder, argument, args_at}
use Rattle.wasm_text.proofs.Between.{cut, join}

-- ---- what stands at a place

pub read_at : {A : Type 0} (form : Form A) (bytes : List ℕ) (from behind : ℕ) (value : A) → Stands form bytes from behind value → at form (drop from bytes) ≡ Some (value, drop behind bytes)
read_at form bytes from behind value s =
    ap (at form) (cut bytes from behind (omega (arith, s.forward))) ∙ (exact form).again (between from behind bytes) (drop behind bytes) value s.text

rest_long : (bytes : List ℕ) (behind : ℕ) → behind ≤ length bytes → length bytes - length (drop behind bytes) ≡ behind
rest_long bytes behind h = omega (arith, length-drop behind bytes)

pub found_is : (bytes : List ℕ) (mark behind : ℕ) (arg : RawArg) → Stands (form_of (kind_of mark)) bytes (place_of mark) behind arg → found bytes mark ≡ Some (arg, drop behind bytes)
found_is bytes mark behind arg s = read_at (form_of (kind_of mark)) bytes (place_of mark) behind arg s

pub fill_next : (f : RawArg → RawArg) (bytes : List ℕ) (from mark behind : ℕ) (marks : List ℕ) (arg : RawArg) → Stands (form_of (kind_of mark)) bytes (place_of mark) behind arg
    → fill f bytes from (mark ∷ marks) ≡ between from (place_of mark) bytes ++ arg_bytes (f arg) ++ fill f bytes behind marks
fill_next f bytes from mark behind marks arg s =
    ap (λ o. between from (place_of mark) bytes ++ spelled f o ++ fill f bytes (end_of bytes o) marks) (found_is bytes mark behind arg s)
    ∙ ap (λ k. between from (place_of mark) bytes ++ arg_bytes (f arg) ++ fill f bytes k marks) (rest_long bytes behind s.within)

-- ---- more bytes behind

pub between_front : (bytes more : List ℕ) (from behind : ℕ) → from ≤ behind → behind ≤ length bytes → between from behind (bytes ++ more) ≡ between from behind bytes
between_front bytes more from behind h w =
    ap (take (behind - from)) (drop-append-le from bytes more (omega arith)) ∙ take-append-le (behind - from) (drop from bytes) more (omega (arith, length-drop from bytes))

pub stands_front : {A : Type 0} (form : Form A) (bytes more : List ℕ) (from behind : ℕ) (value : A) → Stands form bytes from behind value → Stands form (bytes ++ more) from behind value
stands_front form bytes more from behind value s =
    record { forward = s.forward; within = omega (arith, s.within, length-append bytes more); text = subst (λ (m : List ℕ). Is form m value) (sym (between_front bytes more from behind (omega (arith, s.forward)) s.within)) s.text }

-- ---- bytes in front

pub between_behind : (bytes more : List ℕ) (from behind : ℕ) → between (length bytes + from) (length bytes + behind) (bytes ++ more) ≡ between from behind more
between_behind bytes more from behind =
    let e : length bytes + behind - (length bytes + from) ≡ behind - from = omega arith in
    ap (λ k. take k (drop (length bytes + from) (bytes ++ more))) e ∙ ap (take (behind - from)) (drop-append-add bytes more from)

pub stands_behind : {A : Type 0} (form : Form A) (bytes more : List ℕ) (from behind : ℕ) (value : A) → Stands form more from behind value → Stands form (bytes ++ more) (length bytes + from) (length bytes + behind) value
stands_behind form bytes more from behind value s =
    record { forward = omega (arith, s.forward); within = omega (arith, s.within, length-append bytes more); text = subst (λ (m : List ℕ). Is form m value) (sym (between_behind bytes more from behind)) s.text }

shifted_place : (by mark : ℕ) → place_of (shifted by mark) ≡ by + place_of mark
shifted_place by mark = omega arith

shifted_kind : (by mark : ℕ) → kind_of (shifted by mark) ≡ kind_of mark
shifted_kind by mark = omega arith

mark_behind : (bytes more : List ℕ) (mark behind : ℕ) (arg : RawArg) → Stands (form_of (kind_of mark)) more (place_of mark) behind arg
    → Stands (form_of (kind_of (shifted (length bytes) mark))) (bytes ++ more) (place_of (shifted (length bytes) mark)) (length bytes + behind) arg
mark_behind bytes more mark behind arg s =
    subst (λ (k : ℕ). Stands (form_of k) (bytes ++ more) (place_of (shifted (length bytes) mark)) (length bytes + behind) arg) (sym (shifted_kind (length bytes) mark))
    (subst (λ (k : ℕ). Stands (form_of (kind_of mark)) (bytes ++ more) k (length bytes + behind) arg) (sym (shifted_place (length bytes) mark))
    (stands_behind (form_of (kind_of mark)) bytes more (place_of mark) behind arg s))

pub order_behind : (bytes more : List ℕ) (from from' : ℕ) (marks : List ℕ) → from' ≤ length bytes + from → AreInOrder more from marks → AreInOrder (bytes ++ more) from' (map (shifted (length bytes)) marks)
order_behind bytes more from from' [] l h = omega (arith, l, h, length-append bytes more)
order_behind bytes more from from' (mark ∷ marks) l (start, (arg, (behind, (s, rest)))) =
    (omega (arith, l, start), (arg, (length bytes + behind, (mark_behind bytes more mark behind arg s, order_behind bytes more behind (length bytes + behind) marks (omega arith) rest))))

pub order_append : (bytes more : List ℕ) (from : ℕ) (marks marks' : List ℕ) → AreInOrder bytes from marks → AreInOrder more 0 marks' → AreInOrder (bytes ++ more) from (marks ++ map (shifted (length bytes)) marks')
order_append bytes more from [] marks' h k = order_behind bytes more 0 from marks' (omega (arith, h)) k
order_append bytes more from (mark ∷ marks) marks' (start, (arg, (behind, (s, rest)))) k =
    (start, (arg, (behind, (stands_front (form_of (kind_of mark)) bytes more (place_of mark) behind arg s, order_append bytes more behind marks marks' rest k))))

-- ---- what is filled in

-- what stands in front of the marks is copied
pub fill_run : (f : RawArg → RawArg) (bytes : List ℕ) (from start : ℕ) (marks : List ℕ) → from ≤ start → AreInOrder bytes start marks → between from start bytes ++ fill f bytes start marks ≡ fill f bytes from marks
fill_run f bytes from start [] l h = sym (cut bytes from start l)
fill_run f bytes from start (mark ∷ marks) l (h, (arg, (behind, (s, rest)))) =
    let rest' = spelled f (found bytes mark) in
    let more = fill f bytes (end_of bytes (found bytes mark)) marks in
    sym (append_assoc (between from start bytes) (between start (place_of mark) bytes ++ rest') more)
    ∙ ap (λ k. k ++ more) (sym (append_assoc (between from start bytes) (between start (place_of mark) bytes) rest') ∙ ap (λ k. k ++ rest') (join bytes from start (place_of mark) l h))

drop_front : (bytes more : List ℕ) (from : ℕ) → from ≤ length bytes → between from (length bytes) (bytes ++ more) ≡ drop from bytes
drop_front bytes more from h =
    between_front bytes more from (length bytes) h (omega arith) ∙ sym (cut bytes from (length bytes) h ∙ ap (λ k. between from (length bytes) bytes ++ k) (drop-length bytes) ∙ append-nil (between from (length bytes) bytes))

-- arguments that end within the bytes in front
pub fill_front : (f : RawArg → RawArg) (bytes more : List ℕ) (from : ℕ) (marks marks' : List ℕ) → AreInOrder bytes from marks → AreInOrder (bytes ++ more) (length bytes) marks'
    → fill f (bytes ++ more) from (marks ++ marks') ≡ fill f bytes from marks ++ fill f (bytes ++ more) (length bytes) marks'
fill_front f bytes more from [] marks' h k =
    sym (fill_run f (bytes ++ more) from (length bytes) marks' h k) ∙ ap (λ x. x ++ fill f (bytes ++ more) (length bytes) marks') (drop_front bytes more from h)
fill_front f bytes more from (mark ∷ marks) marks' (start, (arg, (behind, (s, rest)))) k =
    let run = between from (place_of mark) bytes in
    let end = fill f (bytes ++ more) (length bytes) marks' in
    fill_next f (bytes ++ more) from mark behind (marks ++ marks') arg (stands_front (form_of (kind_of mark)) bytes more (place_of mark) behind arg s)
    ∙ ap₂ (λ x y. x ++ arg_bytes (f arg) ++ y) (between_front bytes more from (place_of mark) start (omega (arith, s.forward, s.within))) (fill_front f bytes more behind marks marks' rest k)
    ∙ sym (append_assoc (run ++ arg_bytes (f arg)) (fill f bytes behind marks) end)
    ∙ ap (λ x. x ++ end) (sym (fill_next f bytes from mark behind marks arg s))

-- arguments that begin behind the bytes in front
pub fill_behind : (f : RawArg → RawArg) (bytes more : List ℕ) (from : ℕ) (marks : List ℕ) → AreInOrder more from marks → fill f (bytes ++ more) (length bytes + from) (map (shifted (length bytes)) marks) ≡ fill f more from marks
fill_behind f bytes more from [] h = drop-append-add bytes more from
fill_behind f bytes more from (mark ∷ marks) (start, (arg, (behind, (s, rest)))) =
    fill_next f (bytes ++ more) (length bytes + from) (shifted (length bytes) mark) (length bytes + behind) (map (shifted (length bytes)) marks) arg (mark_behind bytes more mark behind arg s)
    ∙ ap₂ (λ x y. x ++ arg_bytes (f arg) ++ y) (ap (λ k. between (length bytes + from) k (bytes ++ more)) (shifted_place (length bytes) mark) ∙ between_behind bytes more from (place_of mark)) (fill_behind f bytes more behind marks rest)
    ∙ sym (fill_next f more from mark behind marks arg s)

pub fill_append : (f : RawArg → RawArg) (bytes more : List ℕ) (marks marks' : List ℕ) → AreInOrder bytes 0 marks → AreInOrder more 0 marks' → fill f (bytes ++ more) 0 (marks ++ map (shifted (length bytes)) marks') ≡ fill f bytes 0 marks ++ fill f more 0 marks'
fill_append f bytes more marks marks' h k =
    let e : length bytes ≡ length bytes + 0 = omega arith in
    fill_front f bytes more 0 marks (map (shifted (length bytes)) marks') h (order_behind bytes more 0 (length bytes) marks' (omega arith) k)
    ∙ ap (λ x. fill f bytes 0 marks ++ x) (ap (λ n. fill f (bytes ++ more) n (map (shifted (length bytes)) marks')) e ∙ fill_behind f bytes more 0 marks' k)

-- ---- the arguments at marks

same_argument : (bytes bytes' : List ℕ) (mark mark' : ℕ) (arg : RawArg) (rest rest' : List ℕ) → found bytes mark ≡ Some (arg, rest) → found bytes' mark' ≡ Some (arg, rest') → argument (found bytes mark) ≡ argument (found bytes' mark')
same_argument bytes bytes' mark mark' arg rest rest' e e' = ap argument e ∙ sym (ap argument e')

args_front : (bytes more : List ℕ) (from : ℕ) (marks : List ℕ) → AreInOrder bytes from marks → args_at (bytes ++ more) marks ≡ args_at bytes marks
args_front bytes more from [] h = refl
args_front bytes more from (mark ∷ marks) (start, (arg, (behind, (s, rest)))) =
    ap₂ (λ x y. x ++ y) (same_argument (bytes ++ more) bytes mark mark arg (drop behind (bytes ++ more)) (drop behind bytes)
    (found_is (bytes ++ more) mark behind arg (stands_front (form_of (kind_of mark)) bytes more (place_of mark) behind arg s)) (found_is bytes mark behind arg s)) (args_front bytes more behind marks rest)

args_behind : (bytes more : List ℕ) (from : ℕ) (marks : List ℕ) → AreInOrder more from marks → args_at (bytes ++ more) (map (shifted (length bytes)) marks) ≡ args_at more marks
args_behind bytes more from [] h = refl
args_behind bytes more from (mark ∷ marks) (start, (arg, (behind, (s, rest)))) =
    ap₂ (λ x y. x ++ y) (same_argument (bytes ++ more) more (shifted (length bytes) mark) mark arg (drop (length bytes + behind) (bytes ++ more)) (drop behind more)
    (found_is (bytes ++ more) (shifted (length bytes) mark) (length bytes + behind) arg (mark_behind bytes more mark behind arg s)) (found_is more mark behind arg s)) (args_behind bytes more behind marks rest)

pub args_append : (bytes more : List ℕ) (marks marks' : List ℕ) → AreInOrder bytes 0 marks → AreInOrder more 0 marks' → args_at (bytes ++ more) (marks ++ map (shifted (length bytes)) marks') ≡ args_at bytes marks ++ args_at more marks'
args_append bytes more marks marks' h k =
    flat_map-append (λ mark. argument (found (bytes ++ more) mark)) marks (map (shifted (length bytes)) marks')
    ∙ ap₂ (λ x y. x ++ y) (args_front bytes more 0 marks h) (args_behind bytes more 0 marks' k)
