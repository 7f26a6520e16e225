-- Items that get a name where they had none.
use Rattle.std.proofs.Common.{⊎_elim, ◌≡◌, ℕ, ◌+◌, ◌-◌, ◌<◌, ◌≤◌, Bool, true, false, List, [], ◌∷◌, ◌++◌, map, refl, sym, ap, ◌∙◌, arith}
use Rattle.std.specs.Prelude.{Option, Some, None, is_none, nat_le, nat_lt, ◌==◌, ◌&&◌, option_map, slice_set}
use Rattle.std.specs.List.{range_with_len}
use Rattle.std.proofs.lemmas.Bool.{cases_order, eq-eqb, leb-true, le-leb, le-ltb, lt-ltb, ne_eqb}
use Rattle.walrus_base.specs.Arena.{item_at}
use Rattle.walrus_base.proofs.Ranges.{range-next}
use Rattle.walrus_model.specs.Abstract.{Name}
use Rattle.walrus_model.specs.Names.{or_else}
use Rattle.walrus_reading.specs.Renamed.{renamed_from}
use Rattle.walrus_reading.specs.Shown.{LocalValue, Shown, mend_local}
use Rattle.walrus_reading.specs.Synthetic.{all_filled, filled_if, filled_row, lacks_name, once_filled, text_of_local}
use Rattle.walrus_reading.proofs.Becoming.{renamed_ext, renamed_same, renamed_twice}
use Rattle.walrus_reading.proofs.Put.{put_there, stays_there}

-- ---- one item

had_one : (o : Option Name) (text : Name) → is_none o ≡ false → or_else o (Some text) ≡ o
had_one None text e = absurd cc
had_one (Some name) text e = refl

had_none : (o : Option Name) → is_none o ≡ true → o ≡ None
had_none None e = refl
had_none (Some name) e = absurd cc

module _ {X : Type 0} (mend : (Option Name → Option Name) → X → X) (name : X → Option Name) (keeps : (g : Option Name → Option Name) (x : X) → g (name x) ≡ name x → mend g x ≡ x) where
  whole : (x : X) → mend (λ old. old) x ≡ x
  whole x = keeps (λ old. old) x refl

  same_slot : (o : Option X) (text : Name) → lacks_name name o ≡ false → o ≡ option_map (mend (filled_if true text)) o
  same_slot None text e = refl
  same_slot (Some x) text e = ap Some (sym (keeps (filled_if true text) x (had_one (name x) text e)))

  -- where it has a name, or isn't there
  pub stays_named : (slots : List (Option X)) (place : ℕ) (text : Name) → lacks_name name (item_at slots place) ≡ false → slots ≡ renamed_from mend (λ n. filled_if (place == n) text) 0 slots
  stays_named slots place text e = stays_there mend whole (λ b. filled_if b text) refl place place refl slots (same_slot (item_at slots place) text e)

  -- where it has none
  pub put_name : {T : Type 0} (value : T → X) (slots : List (Option T)) (place at : ℕ) (text : Name) (last : T) (v : X) → place ≡ at → item_at (map (option_map value) slots) place ≡ Some v → lacks_name name (item_at (map (option_map value) slots) at) ≡ true
      → (name v ≡ None → value last ≡ mend (filled_if true text) v) → map (option_map value) (slice_set slots place (Some last)) ≡ renamed_from mend (λ n. filled_if (at == n) text) 0 (map (option_map value) slots)
  put_name value slots place at text last v same there lacks is =
      put_there mend whole (λ b. filled_if b text) refl place at same value slots last v there
      (is (had_none (name v) (sym (ap (lacks_name name) there) ∙ ap (λ (n : ℕ). lacks_name name (item_at (map (option_map value) slots) n)) same ∙ lacks)))

-- ---- a row of locals

nothing_between : (first n : ℕ) (b : Bool) → nat_le first n ≡ b → (b && nat_lt n (first + 0)) ≡ false
nothing_between first n true e = let le : first ≤ n = leb-true first n e in le-ltb n (first + 0) (omega (arith, le))
nothing_between first n false e = refl

-- none of them so far
pub none_in_row : (first parameters : ℕ) (slots : List (Option LocalValue)) → slots ≡ renamed_from mend_local (filled_row first 0 parameters) 0 slots
none_in_row first parameters slots =
    sym (renamed_same mend_local (λ x. refl) (filled_row first 0 parameters) 0 slots
    (λ n le. ap (λ (b : Bool). filled_if b (text_of_local parameters (n - first))) (nothing_between first n (nat_le first n) refl)))

module _ (first local parameters n : ℕ) where
  abbrev text : Name
  text = text_of_local parameters (n - first)

  -- at the place itself
  at_place : n ≡ first + local → (λ (old : Option Name). filled_if (first + local == n) (text_of_local parameters local) (filled_row first local parameters n old)) ≡ filled_row first (local + 1) parameters n
  at_place same =
      let here : (first + local == n) ≡ true = eq-eqb (first + local) n (sym same) in
      let from : nat_le first n ≡ true = le-leb first n (omega (arith, same)) in
      let none : nat_lt n (first + local) ≡ false = le-ltb n (first + local) (omega (arith, same)) in
      let now : nat_lt n (first + (local + 1)) ≡ true = lt-ltb n (first + (local + 1)) (omega (arith, same)) in
      let alike : text_of_local parameters local ≡ text = ap (text_of_local parameters) (omega (arith, same)) in
      (λ i old. filled_if (here i) (alike i) (filled_if (from i && none i) text old)) ∙ sym (λ i old. filled_if (from i && now i) text old)

  -- elsewhere
  elsewhere : (t : Bool) → (n ≡ first + local → ⊥) → nat_lt n (first + local) ≡ t → nat_lt n (first + (local + 1)) ≡ t
      → (λ (old : Option Name). filled_if (first + local == n) (text_of_local parameters local) (filled_row first local parameters n old)) ≡ filled_row first (local + 1) parameters n
  elsewhere t apart before now =
      let away : (first + local == n) ≡ false = ne_eqb (first + local) n (λ e. apart (sym e)) in
      (λ i old. filled_if (away i) (text_of_local parameters local) (filled_if (nat_le first n && before i) text old)) ∙ sym (λ i old. filled_if (nat_le first n && now i) text old)

  one_in_row : (λ (old : Option Name). filled_if (first + local == n) (text_of_local parameters local) (filled_row first local parameters n old)) ≡ filled_row first (local + 1) parameters n
  one_in_row =
      ⊎_elim at_place
      (⊎_elim (λ (lt : n < first + local). elsewhere true (λ e. omega (arith, e, lt)) (lt-ltb n (first + local) lt) (lt-ltb n (first + (local + 1)) (omega (arith, lt))))
      (λ (gt : first + local < n). elsewhere false (λ e. omega (arith, e, gt)) (le-ltb n (first + local) (omega (arith, gt))) (le-ltb n (first + (local + 1)) (omega (arith, gt)))))
      (cases_order n (first + local))

-- one more of them
pub one_more_in_row : (first local parameters : ℕ) (old now new : List (Option LocalValue)) → now ≡ renamed_from mend_local (filled_row first local parameters) 0 old
    → new ≡ renamed_from mend_local (λ n. filled_if (first + local == n) (text_of_local parameters local)) 0 now → new ≡ renamed_from mend_local (filled_row first (local + 1) parameters) 0 old
one_more_in_row first local parameters old now new before one =
    let once : ℕ → Option Name → Option Name = λ n. filled_if (first + local == n) (text_of_local parameters local) in
    one
    ∙ ap (renamed_from mend_local once 0) before
    ∙ renamed_twice mend_local (λ f g x. refl) (filled_row first local parameters) once 0 old
    ∙ renamed_ext mend_local (λ n o. once n (filled_row first local parameters n o)) (filled_row first (local + 1) parameters) (λ n. one_in_row first local parameters n) 0 old

-- ---- function by function

behind_others : (starts : List ℕ) (s : Shown) (fs : List ℕ) (f : ℕ) → all_filled starts s (fs ++ f ∷ []) ≡ once_filled starts (all_filled starts s fs) f
behind_others starts s [] f = refl
behind_others starts s (g ∷ fs) f = behind_others starts (once_filled starts s g) fs f

-- one more function
pub one_more_function : (starts : List ℕ) (n : ℕ) (old now new : Shown) → now ≡ all_filled starts old (range_with_len 0 n) → new ≡ once_filled starts now n → new ≡ all_filled starts old (range_with_len 0 (n + 1))
one_more_function starts n old now new before one =
    one ∙ ap (λ (s : Shown). once_filled starts s n) before ∙ sym (behind_others starts old (range_with_len 0 n) n) ∙ ap (all_filled starts old) (sym (range-next n))

-- where nothing becomes of the names
pub no_names_become : (slots : List (Option LocalValue)) (becomes : ℕ → Option Name → Option Name) → ((n : ℕ) → becomes n ≡ (λ old. old)) → slots ≡ renamed_from mend_local becomes 0 slots
no_names_become slots becomes none = sym (renamed_same mend_local (λ x. refl) becomes 0 slots (λ n le. none n))
