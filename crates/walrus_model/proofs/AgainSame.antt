-- Producers and custom sections that were written once are written so again.
use Rattle.std.proofs.Common.{◌≡◌, Bool, true, false, List, [], ◌∷◌, ◌++◌, map, filter, refl, ap, ap₂, ◌∙◌}
use Rattle.std.specs.Prelude.{not, ◌||◌, cond, codes, bytes_eq, if◌then◌else◌}
use Rattle.std.proofs.lemmas.List.{map-append}
use Rattle.std.proofs.lemmas.List.Elements.{filter-append}
use Rattle.std.proofs.lemmas.Slice.Eq.{bytes_eq-Decides}
use Rattle.walrus_model.specs.Abstract.{Name, Custom, ProducerValue, ProducerField}
use Rattle.walrus_model.specs.Producers.{with_value, with_field, walrus, produced, if_written}
use Rattle.walrus_model.specs.Customs.{is_dylink, is_debug_name, no_indices, fixed, written_customs}
use Rattle.walrus_base.proofs.Lists.{map-map}

if_true : {A : Type 0} (b : Bool) (x y : A) → b ≡ true → (if b then x else y) ≡ x
if_true true x y e = refl
if_true false x y e = absurd (cc)

if_false : {A : Type 0} (b : Bool) (x y : A) → b ≡ false → (if b then x else y) ≡ y
if_false false x y e = refl
if_false true x y e = absurd (cc)

same_name : (a : Name) → bytes_eq a a ≡ true
same_name a = (bytes_eq-Decides a a).1 refl

-- ---- producers

module _ (new : ProducerValue) where
  value_next : (v : ProducerValue) (vs : List ProducerValue) → with_value new (with_value new vs) ≡ with_value new vs → (t : Bool) → bytes_eq v.name new.name ≡ t → with_value new (if t then new ∷ vs else v ∷ with_value new vs) ≡ (if t then new ∷ vs else v ∷ with_value new vs)
  value_next v vs h true e = if_true (bytes_eq new.name new.name) (new ∷ vs) (new ∷ with_value new vs) (same_name new.name)
  value_next v vs h false e = if_false (bytes_eq v.name new.name) (new ∷ with_value new vs) (v ∷ with_value new (with_value new vs)) e ∙ ap (λ l. v ∷ l) h

  value_again : (vs : List ProducerValue) → with_value new (with_value new vs) ≡ with_value new vs
  value_again [] = if_true (bytes_eq new.name new.name) (new ∷ []) (new ∷ with_value new []) (same_name new.name)
  value_again (v ∷ vs) = value_next v vs (value_again vs) (bytes_eq v.name new.name) refl

module _ (name : Name) (new : ProducerValue) where
  abbrev put : Name → List ProducerValue → ProducerField
  put a vs = record { name = a; values = with_value new vs }

  put_again : (a : Name) (vs : List ProducerValue) (fs : List ProducerField) → bytes_eq a name ≡ true → with_field name new (put a vs ∷ fs) ≡ put a vs ∷ fs
  put_again a vs fs e = if_true (bytes_eq a name) (put a (with_value new vs) ∷ fs) (put a vs ∷ with_field name new fs) e
      ∙ ap (λ l. let f : ProducerField = record { name = a; values = l } in f ∷ fs) (value_again new vs)

  field_passed : (f : ProducerField) (fs gs : List ProducerField) → with_field name new fs ≡ gs → bytes_eq f.name name ≡ false → with_field name new (f ∷ fs) ≡ f ∷ gs
  field_passed f fs gs h e =
      let first : with_field name new (f ∷ fs) ≡ f ∷ with_field name new fs = ap (λ t. if t then put f.name f.values ∷ fs else f ∷ with_field name new fs) e in
      first ∙ ap (λ l. f ∷ l) h

  field_next : (f : ProducerField) (fs : List ProducerField) → with_field name new (with_field name new fs) ≡ with_field name new fs → (t : Bool) → bytes_eq f.name name ≡ t → with_field name new (if t then put f.name f.values ∷ fs else f ∷ with_field name new fs) ≡ (if t then put f.name f.values ∷ fs else f ∷ with_field name new fs)
  field_next f fs h true e = put_again f.name f.values fs e
  field_next f fs h false e = field_passed f (with_field name new fs) (with_field name new fs) h e

  field_again : (fs : List ProducerField) → with_field name new (with_field name new fs) ≡ with_field name new fs
  field_again [] = put_again name [] [] (same_name name)
  field_again (f ∷ fs) = field_next f fs (field_again fs) (bytes_eq f.name name) refl

produced_again : (fs : List ProducerField) → produced (produced fs) ≡ produced fs
produced_again fs = field_again (codes "processed-by") walrus fs

pub producers_again : (t : Bool) (fs : List ProducerField) → if_written t (produced (if_written t (produced fs))) ≡ if_written t (produced fs)
producers_again true fs = produced_again fs
producers_again false fs = refl

-- ---- lists

module _ {X : Type 0} (p : X → Bool) where
  kept_next : (x : X) (xs ys : List X) → filter p xs ≡ ys → (t : Bool) → p x ≡ t → filter p (cond t (x ∷ xs) xs) ≡ cond t (x ∷ ys) ys
  kept_next x xs ys h true e = ap (λ t. cond t (x ∷ filter p xs) (filter p xs)) e ∙ ap (λ l. x ∷ l) h
  kept_next x xs ys h false e = h

  kept_again : (xs : List X) → filter p (filter p xs) ≡ filter p xs
  kept_again [] = refl
  kept_again (x ∷ xs) = kept_next x (filter p xs) (filter p xs) (kept_again xs) (p x) refl

  module _ (q : X → Bool) (apart : (x : X) → q x ≡ true → p x ≡ false) where
    none_next : (x : X) (xs : List X) → filter p xs ≡ [] → (t : Bool) → q x ≡ t → filter p (cond t (x ∷ xs) xs) ≡ []
    none_next x xs h true e = ap (λ t. cond t (x ∷ filter p xs) (filter p xs)) (apart x e) ∙ h
    none_next x xs h false e = h

    none_kept : (xs : List X) → filter p (filter q xs) ≡ []
    none_kept [] = refl
    none_kept (x ∷ xs) = none_next x (filter q xs) (none_kept xs) (q x) refl

module _ {X : Type 0} (p : X → Bool) (f : X → X) (same : (x : X) → p (f x) ≡ p x) where
  mapped_next : (x : X) (xs : List X) → filter p (map f xs) ≡ map f (filter p xs) → (t : Bool) → cond t (f x ∷ filter p (map f xs)) (filter p (map f xs)) ≡ map f (cond t (x ∷ filter p xs) (filter p xs))
  mapped_next x xs h true = ap (λ l. f x ∷ l) h
  mapped_next x xs h false = h

  filter-map : (xs : List X) → filter p (map f xs) ≡ map f (filter p xs)
  filter-map [] = refl
  filter-map (x ∷ xs) = ap (λ t. cond t (f x ∷ filter p (map f xs)) (filter p (map f xs))) (same x) ∙ mapped_next x xs (filter-map xs) (p x)

append-none : {X : Type 0} (xs : List X) → xs ++ [] ≡ xs
append-none [] = refl
append-none (x ∷ xs) = ap (λ l. x ∷ l) (append-none xs)

-- ---- custom sections

abbrev F : Custom → Custom
F c = fixed no_indices c

abbrev is_other : Custom → Bool
is_other c = not (is_dylink c || is_debug_name c.name)

pub other_not : (a b : Bool) → not (a || b) ≡ true → a ≡ false
other_not true b e = absurd (cc)
other_not false b e = refl

pub not_other : (a b : Bool) → a ≡ true → not (a || b) ≡ false
not_other true b e = refl
not_other false b e = absurd (cc)

module _ (cs : List Custom) where
  one_pass : (p : Custom → Bool) → ((c : Custom) → p (F c) ≡ p c) → (l k : List Custom) → filter p (filter is_dylink cs) ≡ l → filter p (filter is_other cs) ≡ k → map F (filter p (written_customs no_indices cs)) ≡ map F l ++ map F k
  one_pass p same l k e g =
      ap (map F) (filter-append p (map F (filter is_dylink cs)) (map F (filter is_other cs))
      ∙ ap₂ ◌++◌ (filter-map p F same (filter is_dylink cs) ∙ ap (map F) e) (filter-map p F same (filter is_other cs) ∙ ap (map F) g))
      ∙ map-append F (map F l) (map F k)
      ∙ ap₂ ◌++◌ (map-map F F l) (map-map F F k)

  pub customs_again : written_customs no_indices (written_customs no_indices cs) ≡ written_customs no_indices cs
  customs_again = ap₂ ◌++◌
      (one_pass is_dylink (λ c. refl) (filter is_dylink cs) [] (kept_again is_dylink cs) (none_kept is_dylink is_other (λ c e. other_not (is_dylink c) (is_debug_name c.name) e) cs)
      ∙ append-none (map F (filter is_dylink cs)))
      (one_pass is_other (λ c. refl) [] (filter is_other cs) (none_kept is_other is_dylink (λ c e. not_other (is_dylink c) (is_debug_name c.name) e) cs) (kept_again is_other cs))
