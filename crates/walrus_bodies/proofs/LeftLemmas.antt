-- What marks show of which some are left out.
use Rattle.std.proofs.Common.{◌≡◌, ℕ, Bool, true, false, List, [], ◌∷◌, ◌++◌, length, drop, refl, sym, ap, ap₂, subst, ◌∙◌, arith, inl, inr}
use Rattle.std.specs.Prelude.{filter, map, ◌&&◌, ◌||◌, not, if◌then◌else◌}
use Rattle.std.specs.List.{list_any}
use Rattle.std.proofs.lemmas.List.{length-drop}
use Rattle.wasm_forms.specs.Spelling.{row_bytes}
use Rattle.wasm_forms.specs.Writing.{EachFits}
use Rattle.wasm_forms.proofs.Bind.{some_same}
use Rattle.wasm_text.specs.RawArg.{RawArg}
use Rattle.wasm_text.specs.RawArg.TheVariants as args
use Rattle.wasm_text.specs.Operators.{Op}
use Rattle.wasm_text.specs.Spelling.{arg_bytes, op_bytes}
use Rattle.wasm_text.specs.Places.{between, Stands}
use Rattle.wasm_text.specs.Marks.{AreInOrder, Shows, all_args, arg_names, args_at, argument, fill, form_of, kind_of, place_of, with}
use Rattle.wasm_text.specs.Unmarked.{AreLeft, needs_none}
use Rattle.wasm_text.proofs.Between.{join}
use Rattle.wasm_text.proofs.Filling.{fill_next, fill_run, found_is}
use Rattle.wasm_text.proofs.Leaving.{left_in_order}
use Rattle.walrus_bodies.specs.Shown.{AreShown, StaysUnmarked, needs_mark}
use Rattle.walrus_bodies.specs.declared.plain_code.LeftOut.{LeftOut}

-- ---- lists in which some are passed over

-- what passes one test passes another
front_passes : {X : Type 0} (p q : X → Bool) (x : X) (xs : List X) (t : Bool) → (t ≡ false → p x ≡ false) → filter p xs ≡ filter p (filter q xs) → filter p (x ∷ xs) ≡ filter p (if t then x ∷ filter q xs else filter q xs)
front_passes p q x xs true never rec = ap (λ r. if p x then x ∷ r else r) rec
front_passes p q x xs false never rec = ap (λ t. if t then x ∷ filter p xs else filter p xs) (never refl) ∙ rec

pub passes_both : {X : Type 0} (p q : X → Bool) → ((x : X) → q x ≡ false → p x ≡ false) → (xs : List X) → filter p xs ≡ filter p (filter q xs)
passes_both p q never [] = refl
passes_both p q never (x ∷ xs) = front_passes p q x xs (q x) (never x) (passes_both p q never xs)

front_asked : {X : Type 0} (p q : X → Bool) (x : X) (xs : List X) (t : Bool) → (t ≡ false → p x ≡ false) → list_any p xs ≡ list_any p (filter q xs) → list_any p (x ∷ xs) ≡ list_any p (if t then x ∷ filter q xs else filter q xs)
front_asked p q x xs true never rec = ap (λ r. p x || r) rec
front_asked p q x xs false never rec = ap (λ t. t || list_any p xs) (never refl) ∙ rec

pub asked_both : {X : Type 0} (p q : X → Bool) → ((x : X) → q x ≡ false → p x ≡ false) → (xs : List X) → list_any p xs ≡ list_any p (filter q xs)
asked_both p q never [] = refl
asked_both p q never (x ∷ xs) = front_asked p q x xs (q x) (never x) (asked_both p q never xs)

each_front : {X : Type 0} (P : X → Type 0) (q : X → Bool) (x : X) (xs : List X) (t : Bool) → P x → EachFits P (filter q xs) → EachFits P (if t then x ∷ filter q xs else filter q xs)
each_front P q x xs true p rest = (p, rest)
each_front P q x xs false p rest = rest

pub each_passed : {X : Type 0} (P : X → Type 0) (q : X → Bool) (xs : List X) → EachFits P xs → EachFits P (filter q xs)
each_passed P q [] h = tt
each_passed P q (x ∷ xs) h = each_front P q x xs (q x) h.0 (each_passed P q xs h.1)

front_back : {X : Type 0} (P : X → Type 0) (q : X → Bool) (x : X) (xs : List X) (t : Bool) → (t ≡ false → P x) → (EachFits P (filter q xs) → EachFits P xs) → EachFits P (if t then x ∷ filter q xs else filter q xs) → EachFits P (x ∷ xs)
front_back P q x xs true passed rec h = (h.0, rec h.1)
front_back P q x xs false passed rec h = (passed refl, rec h)

-- what holds of those that pass, and of those that don't, holds of all
pub each_of_both : {X : Type 0} (P : X → Type 0) (q : X → Bool) (xs : List X) → EachFits (λ x. q x ≡ false → P x) xs → EachFits P (filter q xs) → EachFits P xs
each_of_both P q [] passed h = tt
each_of_both P q (x ∷ xs) passed h = front_back P q x xs (q x) passed.0 (each_of_both P q xs passed.1) h

each_always : {X : Type 0} (P : X → Type 0) → ((x : X) → P x) → (xs : List X) → EachFits P xs
each_always P all [] = tt
each_always P all (x ∷ xs) = (all x, each_always P all xs)

-- ---- marks

-- what stands at a mark ends at one place, and is one argument
ends_once : (bytes : List ℕ) (mark behind behind' : ℕ) (arg arg' : RawArg) → Stands (form_of (kind_of mark)) bytes (place_of mark) behind arg → Stands (form_of (kind_of mark)) bytes (place_of mark) behind' arg' → (behind ≡ behind') × (arg ≡ arg')
ends_once bytes mark behind behind' arg arg' s s' =
    let same = some_same (arg, drop behind bytes) (arg', drop behind' bytes) (sym (found_is bytes mark behind arg s) ∙ found_is bytes mark behind' arg' s') in
    let long : length (drop behind bytes) ≡ length (drop behind' bytes) = ap (λ (x : RawArg × List ℕ). length x.1) same in
    (omega (arith, long, length-drop behind bytes, length-drop behind' bytes, s.within, s'.within), ap (λ (x : RawArg × List ℕ). x.0) same)

module _ (first : ℕ) (accessed : Bool) (bytes : List ℕ) where
  -- the arguments at marks of which the first one is this
  args_next : (mark behind : ℕ) (arg : RawArg) (all : List ℕ) → Stands (form_of (kind_of mark)) bytes (place_of mark) behind arg → args_at bytes (mark ∷ all) ≡ arg ∷ args_at bytes all
  args_next mark behind arg all s = ap (λ o. argument o ++ args_at bytes all) (found_is bytes mark behind arg s)

  -- filled with arguments of which those stay that have no mark
  left_fill : (f : RawArg → RawArg) (from : ℕ) (all left : List ℕ) → AreInOrder bytes from all → EachFits (λ arg. needs_none first accessed arg ≡ true → f arg ≡ arg) (args_at bytes all) → AreLeft first accessed bytes all left
      → fill f bytes from all ≡ fill f bytes from left
  left_fill f from [] left h each e = ap (λ l. fill f bytes from l) (sym e)
  left_fill f from (mark ∷ all) left (start, (arg, (behind, (s, rest)))) each (inl (u, k)) =
      let same = ends_once bytes mark behind u.behind arg u.arg s u.stands in
      let each' = subst (EachFits (λ arg. needs_none first accessed arg ≡ true → f arg ≡ arg)) (args_next mark behind arg all s) each in
      let stays : f arg ≡ arg = each'.0 (ap (needs_none first accessed) same.1 ∙ u.needless) in
      let spelled : arg_bytes (f arg) ≡ between (place_of mark) behind bytes = ap arg_bytes (stays ∙ same.1) ∙ u.spelled ∙ ap (λ k. between (place_of mark) k bytes) (sym same.0) in
      let more = fill f bytes behind left in
      fill_next f bytes from mark behind all arg s
      ∙ ap₂ (λ x y. between from (place_of mark) bytes ++ x ++ y) spelled (left_fill f behind all left rest each'.1 k)
      ∙ ap (λ x. x ++ more) (join bytes from (place_of mark) behind start (omega (arith, s.forward)))
      ∙ fill_run f bytes from behind left (omega (arith, start, s.forward)) (left_in_order first accessed bytes behind all left rest k)
  left_fill f from (mark ∷ all) left (start, (arg, (behind, (s, rest)))) each (inr (left', (e, k))) =
      let each' = subst (EachFits (λ arg. needs_none first accessed arg ≡ true → f arg ≡ arg)) (args_next mark behind arg all s) each in
      fill_next f bytes from mark behind all arg s
      ∙ ap (λ x. between from (place_of mark) bytes ++ arg_bytes (f arg) ++ x) (left_fill f behind all left' rest each'.1 k)
      ∙ sym (fill_next f bytes from mark behind left' arg s)
      ∙ ap (λ l. fill f bytes from l) (sym e)

  -- those that need a mark have one
  left_needed : (p : RawArg → Bool) → ((arg : RawArg) → needs_none first accessed arg ≡ true → p arg ≡ false) → (from : ℕ) (all left : List ℕ) → AreInOrder bytes from all → AreLeft first accessed bytes all left
      → filter p (args_at bytes all) ≡ filter p (args_at bytes left)
  left_needed p never from [] left h e = ap (λ l. filter p (args_at bytes l)) (sym e)
  left_needed p never from (mark ∷ all) left (start, (arg, (behind, (s, rest)))) (inl (u, k)) =
      let same = ends_once bytes mark behind u.behind arg u.arg s u.stands in
      ap (filter p) (args_next mark behind arg all s)
      ∙ ap (λ t. if t then arg ∷ filter p (args_at bytes all) else filter p (args_at bytes all)) (never arg (ap (needs_none first accessed) same.1 ∙ u.needless))
      ∙ left_needed p never behind all left rest k
  left_needed p never from (mark ∷ all) left (start, (arg, (behind, (s, rest)))) (inr (left', (e, k))) =
      ap (filter p) (args_next mark behind arg all s)
      ∙ ap (λ r. if p arg then arg ∷ r else r) (left_needed p never behind all left' rest k)
      ∙ ap (filter p) (sym (args_next mark behind arg left' s))
      ∙ ap (λ l. filter p (args_at bytes l)) (sym e)

  any_behind : (x y : Bool) → y ≡ true → (x || y) ≡ true
  any_behind true y h = refl
  any_behind false y h = h

  any_same : (x y z : Bool) → (y ≡ true → z ≡ true) → (x || y) ≡ true → (x || z) ≡ true
  any_same true y z h e = refl
  any_same false y z h e = h e

  -- and what has one is one of all
  left_among : (asks : RawArg → Bool) (from : ℕ) (all left : List ℕ) → AreInOrder bytes from all → AreLeft first accessed bytes all left → list_any asks (args_at bytes left) ≡ true → list_any asks (args_at bytes all) ≡ true
  left_among asks from [] left h e some = subst (λ (l : List ℕ). list_any asks (args_at bytes l) ≡ true) e some
  left_among asks from (mark ∷ all) left (start, (arg, (behind, (s, rest)))) (inl (u, k)) some =
      ap (list_any asks) (args_next mark behind arg all s) ∙ any_behind (asks arg) (list_any asks (args_at bytes all)) (left_among asks behind all left rest k some)
  left_among asks from (mark ∷ all) left (start, (arg, (behind, (s, rest)))) (inr (left', (e, k))) some =
      ap (list_any asks) (args_next mark behind arg all s)
      ∙ any_same (asks arg) (list_any asks (args_at bytes left')) (list_any asks (args_at bytes all)) (left_among asks behind all left' rest k)
      (sym (ap (list_any asks) (args_next mark behind arg left' s)) ∙ subst (λ (l : List ℕ). list_any asks (args_at bytes l) ≡ true) e some)

-- ---- a body

-- what names nothing needs no mark, but it isn't one of those that go without
quiet_apart : (first : ℕ) (accessed : Bool) (arg : RawArg) → needs_none first accessed arg ≡ true → arg_names arg ≡ true
quiet_apart first accessed (args.Local n) e = refl
quiet_apart first accessed (args.Access flags memory offset) e = refl
quiet_apart first accessed (args.Function n) e = cc
quiet_apart first accessed (args.«Type» n) e = cc
quiet_apart first accessed (args.Table n) e = cc
quiet_apart first accessed (args.Memory n) e = cc
quiet_apart first accessed (args.Global n) e = cc
quiet_apart first accessed (args.Tag n) e = cc
quiet_apart first accessed (args.Element n) e = cc
quiet_apart first accessed (args.Data n) e = cc
quiet_apart first accessed (args.Label n) e = cc
quiet_apart first accessed (args.Count n) e = cc
quiet_apart first accessed (args.Number n) e = cc
quiet_apart first accessed (args.Byte b) e = cc
quiet_apart first accessed (args.S32 z) e = cc
quiet_apart first accessed (args.S64 z) e = cc
quiet_apart first accessed (args.F32 bits) e = cc
quiet_apart first accessed (args.F64 bits) e = cc
quiet_apart first accessed (args.Value v) e = cc
quiet_apart first accessed (args.Heap h) e = cc
quiet_apart first accessed (args.Block b) e = cc

no_front : (x y : Bool) → x ≡ false → (x && y) ≡ false
no_front true y e = cc
no_front false y e = refl

no_back : (x y : Bool) → y ≡ true → (x && not y) ≡ false
no_back true true e = refl
no_back false true e = refl
no_back x false e = cc

untrue : (x : Bool) → x ≡ false → x ≡ true → ⊥
untrue true e f = cc
untrue false e f = cc

pub left_shown : (first : ℕ) (accessed : Bool) (bytes marks left : List ℕ) (texts : List Op) → Shows bytes marks (all_args texts) (λ f. row_bytes op_bytes (map (with f) texts)) → AreLeft first accessed bytes marks left
    → AreShown (record { first = first; accessed = accessed }) bytes left texts
left_shown first accessed bytes marks left texts shows are = record {
  ordered = left_in_order first accessed bytes 0 marks left shows.ordered are;
  becomes = λ f leaves stays. shows.becomes f leaves ∙ left_fill first accessed bytes f 0 marks left shows.ordered (stay f stays) are;
  needed = passes_both p arg_names quiet (all_args texts) ∙ ap (filter p) shows.named ∙ sym (passes_both p arg_names quiet (args_at bytes marks)) ∙ left_needed first accessed bytes p never 0 marks left shows.ordered are;
  among = λ asks silent some.
      asked_both asks arg_names silent (all_args texts) ∙ ap (list_any asks) shows.named ∙ sym (asked_both asks arg_names silent (args_at bytes marks)) ∙ left_among first accessed bytes asks 0 marks left shows.ordered are some;
}
  where
    out : LeftOut
    out = record { first = first; accessed = accessed }

    p : RawArg → Bool
    p = needs_mark out

    quiet : (arg : RawArg) → arg_names arg ≡ false → p arg ≡ false
    quiet arg e = no_front (arg_names arg) (not (needs_none first accessed arg)) e

    never : (arg : RawArg) → needs_none first accessed arg ≡ true → p arg ≡ false
    never arg e = no_back (arg_names arg) (needs_none first accessed arg) e

    stay : (f : RawArg → RawArg) → EachFits (StaysUnmarked out f) (all_args texts) → EachFits (StaysUnmarked out f) (args_at bytes marks)
    stay f each =
        each_of_both (StaysUnmarked out f) arg_names (args_at bytes marks)
        (each_always (λ arg. arg_names arg ≡ false → StaysUnmarked out f arg) (λ arg e h. absurd (untrue (arg_names arg) e (quiet_apart first accessed arg h))) (args_at bytes marks))
        (subst (EachFits (StaysUnmarked out f)) shows.named (each_passed (StaysUnmarked out f) arg_names (all_args texts) each))
