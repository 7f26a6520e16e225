-- Putting at the first place that passes a test.
use Rattle.std.proofs.Common.{◌≡◌, ℕ, zero, suc, ◌+◌, ◌≤◌, Bool, true, false, List, [], ◌∷◌, ◌++◌, set, get_or, Some, None, refl, sym, ap, ◌∙◌, arith}
use Rattle.std.specs.Prelude.{bytes_eq, string_bytes, if◌then◌else◌, position, Result, Ok, Err, MatchResult}
use Rattle.std.specs.List.{position_from}
use Rattle.std.proofs.lemmas.List.{map-set, set-get_or, map-append}
use Rattle.std.proofs.lemmas.Iterator.Adapters.{position_from-zero}
use Rattle.walrus_producers.specs.Fields.{field_name, field_seen, fields_seen}
use Rattle.walrus_producers.specs.Producers.{ProducerValue, ProducerField, with_value, with_field}
use Rattle.walrus_producers.specs.Values.{first_of, is_named, value_seen, values_seen}
use Rattle.walrus_producers.specs.declared.producers.ProducerValue.{ProducerValue as HeldValue}
use Rattle.walrus_producers.specs.declared.producers.ProducerField.{ProducerField as HeldField}

some_is : (k i : ℕ) → Some k ≡ Some i → k ≡ i
some_is k i h = cc

module _ {Z : Type 0} (p : Z → Bool) (f : Z → Z) (last : Z) where
  -- the first that passes is changed, else this one goes last
  abbrev with_first : List Z → List Z
  with_first [] = last ∷ []
  with_first (z ∷ zs) = if p z then f z ∷ zs else z ∷ with_first zs

  -- what is found from k on isn't before k
  from_least : (k i : ℕ) (xs : List Z) → position_from p k xs ≡ Some i → k ≤ i
  from_least k i [] h = absurd cc
  from_least k i (x ∷ xs) h = by_test (p x) h (λ g. from_least (k + 1) i xs g)
    where
      by_test : (t : Bool) → (if t then Some k else position_from p (k + 1) xs) ≡ Some i → (position_from p (k + 1) xs ≡ Some i → k + 1 ≤ i) → k ≤ i
      by_test true h behind = let e : k ≡ i = some_is k i h in omega (arith, e)
      by_test false h behind = let e : k + 1 ≤ i = behind h in omega (arith, e)

  -- a change of the first that passes, of which j stand before it
  found_from : (k i j : ℕ) (xs : List Z) (x d : Z) → position_from p k xs ≡ Some i → i ≡ k + j → x ≡ f (get_or xs j d) → set xs j x ≡ with_first xs
  found_from k i j [] x d h at is = absurd cc
  found_from k i zero (z ∷ zs) x d h at is = by_test (p z) h
    where
      by_test : (t : Bool) → (if t then Some k else position_from p (k + 1) zs) ≡ Some i → x ∷ zs ≡ (if t then f z ∷ zs else z ∷ with_first zs)
      by_test true h = ap (λ y. y ∷ zs) is
      by_test false h = let least : k + 1 ≤ i = from_least (k + 1) i zs h in absurd (omega (arith, least, at))
  found_from k i (suc j) (z ∷ zs) x d h at is = by_test (p z) h (λ g. found_from (k + 1) i j zs x d g (omega (arith, at)) is)
    where
      by_test : (t : Bool) → (if t then Some k else position_from p (k + 1) zs) ≡ Some i → (position_from p (k + 1) zs ≡ Some i → set zs j x ≡ with_first zs)
          → z ∷ set zs j x ≡ (if t then f z ∷ zs else z ∷ with_first zs)
      by_test true h next = let e : k ≡ i = some_is k i h in absurd (omega (arith, e, at))
      by_test false h next = ap (λ ys. z ∷ ys) (next h)

  none_from : (k : ℕ) (xs : List Z) → position_from p k xs ≡ None → xs ++ last ∷ [] ≡ with_first xs
  none_from k [] h = refl
  none_from k (z ∷ zs) h = by_test (p z) h (none_from (k + 1) zs)
    where
      by_test : (t : Bool) → (if t then Some k else position_from p (k + 1) zs) ≡ None → (position_from p (k + 1) zs ≡ None → zs ++ last ∷ [] ≡ with_first zs)
          → z ∷ (zs ++ last ∷ []) ≡ (if t then f z ∷ zs else z ∷ with_first zs)
      by_test true h next = absurd cc
      by_test false h next = ap (λ ys. z ∷ ys) (next h)

  found_first : (i : ℕ) (xs : List Z) (x d : Z) → position p xs ≡ Some i → x ≡ f (get_or xs i d) → set xs i x ≡ with_first xs
  found_first i xs x d h is = found_from 0 i i xs x d (sym (position_from-zero p xs) ∙ h) (omega arith) is

  none_first : (xs : List Z) → position p xs ≡ None → xs ++ last ∷ [] ≡ with_first xs
  none_first xs h = none_from 0 xs (sym (position_from-zero p xs) ∙ h)

-- ---- values

module _ (new : ProducerValue) where
  value_first : (vs : List ProducerValue) → with_first (is_named new.name) (λ v. new) new vs ≡ with_value new vs
  value_first [] = refl
  value_first (v ∷ vs) = ap (λ rest. if bytes_eq v.name new.name then new ∷ vs else v ∷ rest) (value_first vs)

  -- the first value of this name gives its place to the new one
  pub value_found : (vs : List ProducerValue) (i : ℕ) → position (is_named new.name) vs ≡ Some i → set vs i new ≡ with_value new vs
  value_found vs i h = found_first (is_named new.name) (λ v. new) new i vs new new h refl ∙ value_first vs

  -- the new one goes last
  pub value_none : (vs : List ProducerValue) → position (is_named new.name) vs ≡ None → vs ++ new ∷ [] ≡ with_value new vs
  value_none vs h = none_first (is_named new.name) (λ v. new) new vs h ∙ value_first vs

-- what pushing it answered
pub value_pushed : {E : Type 0} (new : HeldValue) (old after : List HeldValue) (r : Result Unit E) → position (is_named (string_bytes new.name)) (values_seen old) ≡ None
    → MatchResult r (λ x. after ≡ old ++ new ∷ []) (λ e. after ≡ old) → MatchResult r (λ x. values_seen after ≡ with_value (value_seen new) (values_seen old)) (λ e. after ≡ old)
value_pushed new old after (Ok u) none h = ap values_seen h ∙ map-append value_seen old (new ∷ []) ∙ value_none (value_seen new) (values_seen old) none
value_pushed new old after (Err e) none h = h

-- ---- fields

pub seen_or : (was : HeldField) (fs : List HeldField) (j : ℕ) → field_seen (get_or fs j was) ≡ get_or (fields_seen fs) j (field_seen was)
seen_or was [] j = refl
seen_or was (f ∷ fs) zero = refl
seen_or was (f ∷ fs) (suc j) = seen_or was fs j

module _ (name : List ℕ) (new : ProducerValue) where
  abbrev is_there : ProducerField → Bool
  is_there f = bytes_eq f.name name

  abbrev changed : ProducerField → ProducerField
  changed f = record { name = f.name; values = with_value new f.values }

  abbrev made : ProducerField
  made = record { name = name; values = new ∷ [] }

  field_first : (fs : List ProducerField) → with_first is_there changed made fs ≡ with_field name new fs
  field_first [] = refl
  field_first (f ∷ fs) = ap (λ rest. if bytes_eq f.name name then changed f ∷ fs else f ∷ rest) (field_first fs)

  -- what putting a value into the first field of this name answered
  pub field_put : {E : Type 0} (old : List HeldField) (i : ℕ) (was now : HeldField) (r : Result Unit E) → first_of field_name name (fields_seen old) ≡ Some i → was ≡ get_or old i was
      → MatchResult r (λ x. field_seen now ≡ changed (field_seen was)) (λ e. field_seen now ≡ field_seen was)
      → MatchResult r (λ x. fields_seen (set old i now) ≡ with_field name new (fields_seen old)) (λ e. fields_seen (set old i now) ≡ fields_seen old)
  field_put old i was now (Ok u) at found h =
      map-set field_seen old i now
      ∙ found_first is_there changed made i (fields_seen old) (field_seen now) (field_seen was) at (h ∙ ap changed (ap field_seen found ∙ seen_or was old i)) ∙ field_first (fields_seen old)
  field_put old i was now (Err e) at found h =
      map-set field_seen old i now ∙ ap (λ f. set (fields_seen old) i f) (h ∙ ap field_seen found)
      ∙ sym (map-set field_seen old i (get_or old i was)) ∙ ap fields_seen (set-get_or old i was)

  -- the field keeps its name
  pub name_kept : {E : Type 0} (was now : HeldField) (r : Result Unit E) → MatchResult r (λ x. field_seen now ≡ changed (field_seen was)) (λ e. field_seen now ≡ field_seen was)
      → string_bytes now.name ≡ string_bytes was.name
  name_kept was now (Ok u) h = ap field_name h
  name_kept was now (Err e) h = ap field_name h

  -- what pushing a field of this value alone answered
  pub field_pushed : {E : Type 0} (field : HeldField) (old after : List HeldField) (r : Result Unit E) → field_seen field ≡ made → first_of field_name name (fields_seen old) ≡ None
      → MatchResult r (λ x. after ≡ old ++ field ∷ []) (λ e. after ≡ old)
      → MatchResult r (λ x. fields_seen after ≡ with_field name new (fields_seen old)) (λ e. fields_seen after ≡ fields_seen old)
  field_pushed field old after (Ok u) is none h =
      ap fields_seen h ∙ map-append field_seen old (field ∷ []) ∙ ap (λ f. fields_seen old ++ f ∷ []) is
      ∙ none_first is_there changed made (fields_seen old) none ∙ field_first (fields_seen old)
  field_pushed field old after (Err e) is none h = ap fields_seen h
