-- One name more.
use Rattle.std.proofs.Common.{◌≡◌, ℕ, zero, suc, ◌+◌, ◌<◌, ◌≤◌, List, [], ◌∷◌, ◌++◌, length, get_or, drop, map, refl, sym, ap, ◌∙◌, append_assoc, append-nil, arith}
use Rattle.std.specs.Prelude.{Option, Some, option_and_then}
use Rattle.walrus.specs.Base.Arena.{item_at}
use Rattle.walrus_edit_list.specs.declared.numbers.TheConstants.{OF_TYPE}
use Rattle.walrus_edits.specs.ItemRecords.{Told}
use Rattle.walrus_edits.specs.ItemValues.{named, names_in, type_names_in}

module _ {A : Type 0} (what : ℕ) (name_of : A → Option (List ℕ)) where
  pub names_begin : (start : List Told) (left all : List (ℕ × A)) → left ≡ all → start ++ names_in what name_of left ≡ start ++ names_in what name_of all
  names_begin start left all same = ap (λ es. start ++ names_in what name_of es) same

  pub names_turn : (now new whole : List Told) (left rest : List (ℕ × A)) (e : ℕ × A) (place : ℕ) (name : Option (List ℕ)) → left ≡ e ∷ rest → place ≡ e.0 → name ≡ name_of e.1 → new ≡ now ++ named what place name → now ++ names_in what name_of left ≡ whole
      → new ++ names_in what name_of rest ≡ whole
  names_turn now new whole left rest e place name is here same put before =
      ap (λ l. l ++ names_in what name_of rest) (put ∙ ap (λ p. now ++ named what p name) here ∙ ap (λ n. now ++ named what e.0 n) same)
      ∙ append_assoc now (named what e.0 (name_of e.1)) (names_in what name_of rest)
      ∙ ap (λ es. now ++ names_in what name_of es) (sym is) ∙ before

  pub names_end : (now whole : List Told) (left : List (ℕ × A)) → left ≡ [] → now ++ names_in what name_of left ≡ whole → now ≡ whole
  names_end now whole left is before = sym (append-nil now) ∙ ap (λ es. now ++ names_in what name_of es) (sym is) ∙ before

-- ---- types

one_more : (i : ℕ) → suc i + 1 ≡ suc (i + 1)
one_more i = omega arith

dropped : {X : Type 0} (xs : List X) (i : ℕ) (d : X) → i < length xs → drop i xs ≡ get_or xs i d ∷ drop (i + 1) xs
dropped [] i d l = absurd (omega (arith, l))
dropped (y ∷ xs) zero d l = refl
dropped (y ∷ xs) (suc i) d l = dropped xs i d (omega (arith, l)) ∙ ap (λ n. get_or xs i d ∷ drop n (y ∷ xs)) (sym (one_more i))

all_dropped : {X : Type 0} (xs : List X) (i : ℕ) → length xs ≤ i → drop i xs ≡ []
all_dropped [] zero past = refl
all_dropped [] (suc i) past = refl
all_dropped (x ∷ xs) zero past = absurd (omega (arith, past))
all_dropped (x ∷ xs) (suc i) past = all_dropped xs i (omega (arith, past))

module _ {X : Type 0} (place : X → ℕ) (names : List (Option (Option (List ℕ)))) where
  pub types_turn : (now new whole : List Told) (ids : List X) (i : ℕ) (d : X) (p : ℕ) (name : Option (List ℕ)) → i < length ids → p ≡ place (get_or ids i d) → item_at names (place (get_or ids i d)) ≡ Some name
      → new ≡ now ++ named OF_TYPE p name → now ++ type_names_in names (map place (drop i ids)) ≡ whole → new ++ type_names_in names (map place (drop (i + 1) ids)) ≡ whole
  types_turn now new whole ids i d p name l here is put before =
      let id = get_or ids i d in
      let rest = type_names_in names (map place (drop (i + 1) ids)) in
      let same : named OF_TYPE p name ≡ named OF_TYPE (place id) (option_and_then (λ n. n) (item_at names (place id))) =
      ap (λ q. named OF_TYPE q name) here ∙ ap (λ o. named OF_TYPE (place id) (option_and_then (λ n. n) o)) (sym is) in
      ap (λ l. l ++ rest) (put ∙ ap (λ l. now ++ l) same)
      ∙ append_assoc now (named OF_TYPE (place id) (option_and_then (λ n. n) (item_at names (place id)))) rest
      ∙ ap (λ js. now ++ type_names_in names (map place js)) (sym (dropped ids i d l)) ∙ before

  pub types_end : (now whole : List Told) (ids : List X) (i : ℕ) → now ++ type_names_in names (map place (drop i ids)) ≡ whole → length ids ≤ i → now ≡ whole
  types_end now whole ids i before past = sym (append-nil now) ∙ ap (λ js. now ++ type_names_in names (map place js)) (sym (all_dropped ids i past)) ∙ before

-- nine kinds of names, one behind another
pub all_pushed : (n0 n1 n2 n3 n4 n5 n6 n7 n8 n9 a b c d e f g h i : List Told) → n0 ≡ [] → n1 ≡ n0 ++ a → n2 ≡ n1 ++ b → n3 ≡ n2 ++ c → n4 ≡ n3 ++ d → n5 ≡ n4 ++ e → n6 ≡ n5 ++ f → n7 ≡ n6 ++ g → n8 ≡ n7 ++ h
    → n9 ≡ n8 ++ i → n9 ≡ a ++ b ++ c ++ d ++ e ++ f ++ g ++ h ++ i
all_pushed n0 n1 n2 n3 n4 n5 n6 n7 n8 n9 a b c d e f g h i p0 p1 p2 p3 p4 p5 p6 p7 p8 p9 =
    p9 ∙ ap (λ l. l ++ i) (p8 ∙ ap (λ l. l ++ h) (p7 ∙ ap (λ l. l ++ g) (p6 ∙ ap (λ l. l ++ f) (p5 ∙ ap (λ l. l ++ e) (p4 ∙ ap (λ l. l ++ d) (p3 ∙ ap (λ l. l ++ c) (p2 ∙ ap (λ l. l ++ b) (p1 ∙ ap (λ l. l ++ a) p0))))))))
