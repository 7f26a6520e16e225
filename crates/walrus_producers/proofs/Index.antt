-- The places of what has a name, as it comes.
use Rattle.std.proofs.Common.{◌≡◌, ℕ, ◌≤◌, Bool, not, true, false, cond, List, [], ◌∷◌, ◌++◌, length, set, get_or, nat_lt, Option, Some, None, refl, sym, ap, subst, ◌∙◌, arith}
use Rattle.std.specs.Prelude.{bytes_eq, is_some, position, string_bytes}
use Rattle.std.specs.List.{position_or_len}
use Rattle.std.specs.declared.string.String.{String}
use Rattle.std.specs.BTreeMap.{BTreeMap, Updates, get_by_text}
use Rattle.std.specs.String.{string_cmp}
use Rattle.std.proofs.lemmas.List.{length-append, length-set}
use Rattle.std.proofs.lemmas.List.Folds.{position_or_len-set, position_or_len_push}
use Rattle.std.proofs.lemmas.List.Sums.{prefix_len-le-length}
use Rattle.std.proofs.lemmas.List.Quantifiers.{position-Some}
use Rattle.std.proofs.lemmas.Grind.{common_steps}
use Rattle.std.proofs.lemmas.Map.Text.{btree_map_updates_text}
use Rattle.std.proofs.lemmas.Slice.Eq.{bytes_eq-Decides}
use Rattle.walrus_producers.specs.Values.{IsIndex}

-- ---- the first place that passes

module _ {X : Type 0} (p : X → Bool) where
  set_alike : (xs : List X) (i : ℕ) (y d : X) → p y ≡ p (get_or xs i d) → position p (set xs i y) ≡ position p xs
  set_alike xs i y d same =
      ap (λ n. cond (nat_lt n (length (set xs i y))) (Some n) None) (position_or_len-set p xs i y d same)
      ∙ ap (λ l. cond (nat_lt (position_or_len p xs) l) (Some (position_or_len p xs)) None) (length-set xs i y)

  push_behind : (xs : List X) (y : X) (i : ℕ) → position p xs ≡ Some i → position p (xs ++ y ∷ []) ≡ Some i
  push_behind xs y i found =
      let far = position_or_len_push p xs y in let long = length-append xs (y ∷ []) in grind (arith, common_steps)

  push_other : (xs : List X) (y : X) → p y ≡ false → position p (xs ++ y ∷ []) ≡ position p xs
  push_other xs y fails =
      let far = position_or_len_push p xs y in let long = length-append xs (y ∷ []) in grind (arith, common_steps)

  push_first : (xs : List X) (y : X) → p y ≡ true → position p xs ≡ None → position p (xs ++ y ∷ []) ≡ Some (length xs)
  push_first xs y passes none =
      let far = position_or_len_push p xs y in let long = length-append xs (y ∷ []) in
      let low : position_or_len p xs ≤ length xs = prefix_len-le-length (λ x. not (p x)) xs in grind (arith, common_steps)

-- ---- the index

module _ {Y Z : Type 0} (name_of : Z → List ℕ) (places : BTreeMap (String Y) ℕ) (values : List Z) (is : IsIndex name_of places values) (new : Z) where
  abbrev is_called : List ℕ → Z → Bool
  is_called name z = bytes_eq (name_of z) name

  -- one comes in the place of one of its name
  pub index_kept : (i : ℕ) (was : Z) → name_of new ≡ name_of (get_or values i was) → IsIndex name_of places (set values i new)
  index_kept i was same name = is name ∙ sym (set_alike (is_called name) values i new was (ap (λ n. bytes_eq n name) same))

  -- the same of the first one of its name, which was looked for
  pub index_put : (i : ℕ) → position (is_called (name_of new)) values ≡ Some i → IsIndex name_of places (set values i new)
  index_put i found =
      let at = position-Some (is_called (name_of new)) values i new found in
      index_kept i new (sym ((bytes_eq-Decides (name_of (get_or values i new)) (name_of new)).0 at.1))

  -- one goes last, and isn't the first one of its name
  pub index_again : (i : ℕ) → position (is_called (name_of new)) values ≡ Some i → IsIndex name_of places (values ++ new ∷ [])
  index_again i found name = by_name (bytes_eq (name_of new) name) refl
    where
      by_name : (b : Bool) → bytes_eq (name_of new) name ≡ b → get_by_text places name ≡ position (is_called name) (values ++ new ∷ [])
      by_name true same =
          let one : name_of new ≡ name = (bytes_eq-Decides (name_of new) name).0 same in
          let there : position (is_called name) values ≡ Some i = ap (λ n. position (is_called n) values) (sym one) ∙ found in
          is name ∙ there ∙ sym (push_behind (is_called name) values new i there)
      by_name false other = is name ∙ sym (push_other (is_called name) values new other)

  -- the same of a place that was looked for
  pub index_told : (name : List ℕ) (found : Option ℕ) → name ≡ name_of new → found ≡ position (is_called name) values → is_some found ≡ true → IsIndex name_of places (values ++ new ∷ [])
  index_told name (Some i) same told there = index_again i (ap (λ n. position (is_called n) values) (sym same) ∙ sym told)
  index_told name None same told there = absurd cc

  -- one goes last, the first one of its name
  pub index_first : (key : String Y) (after : BTreeMap (String Y) ℕ) → string_bytes key ≡ name_of new → position (is_called (name_of new)) values ≡ None
      → Updates string_cmp places after key (Some (length values)) → IsIndex name_of after (values ++ new ∷ [])
  index_first key after key_is none updates name = by_name (bytes_eq (name_of new) name) refl
    where
      told : get_by_text after name ≡ cond (bytes_eq (name_of new) name) (Some (length values)) (get_by_text places name)
      told = btree_map_updates_text (string_bytes key) places after (Some (length values)) updates name
          ∙ ap (λ n. cond (bytes_eq n name) (Some (length values)) (get_by_text places name)) key_is

      by_name : (b : Bool) → bytes_eq (name_of new) name ≡ b → get_by_text after name ≡ position (is_called name) (values ++ new ∷ [])
      by_name true same =
          let one : name_of new ≡ name = (bytes_eq-Decides (name_of new) name).0 same in
          let nowhere : position (is_called name) values ≡ None = ap (λ n. position (is_called n) values) (sym one) ∙ none in
          told ∙ ap (λ b. cond b (Some (length values)) (get_by_text places name)) same ∙ sym (push_first (is_called name) values new same nowhere)
      by_name false other =
          told ∙ ap (λ b. cond b (Some (length values)) (get_by_text places name)) other ∙ is name ∙ sym (push_other (is_called name) values new other)

  -- the same of a name that was looked for
  pub index_none : (key : String Y) (after : BTreeMap (String Y) ℕ) (name : List ℕ) (found : Option ℕ) (place : ℕ) → string_bytes key ≡ name_of new → place ≡ length values
      → name ≡ name_of new → found ≡ position (is_called name) values → is_some found ≡ false → Updates string_cmp places after key (Some place) → IsIndex name_of after (values ++ new ∷ [])
  index_none key after name (Some i) place is_key at same told there updates = absurd cc
  index_none key after name None place is_key at same told there updates =
      index_first key after is_key (ap (λ n. position (is_called n) values) (sym same) ∙ sym told) (subst (λ n. Updates string_cmp places after key (Some n)) at updates)
