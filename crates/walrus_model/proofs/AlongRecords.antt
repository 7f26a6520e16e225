-- From records written along an order to things that stand for items: what each space's writer has to give.
use Rattle.std.proofs.Common.{◌≡◌, ℕ, List, [], ◌∷◌, ◌++◌, map, refl, sym, ap}
use Rattle.std.specs.Prelude.{Option, Some, None, option_map, option_and_then, filter_map}
use Rattle.std.specs.List.{AllZip}
use Rattle.walrus_base.specs.Arena.{item_at}
use Rattle.walrus_model.specs.Ordered.{StandsFor}

pub zip_append : {A B : Type 0} (R : A → B → Type 0) (xs xs' : List A) (ys ys' : List B) → AllZip R xs ys → AllZip R xs' ys' → AllZip R (xs ++ xs') (ys ++ ys')
zip_append R [] xs' [] ys' h g = g
zip_append R [] xs' (y ∷ ys) ys' h g = absurd h
zip_append R (x ∷ xs) xs' [] ys' h g = absurd h
zip_append R (x ∷ xs) xs' (y ∷ ys) ys' h g = (h.0, zip_append R xs xs' ys ys' h.1 g)

-- both are there, and T holds of them, or neither is
abbrev pub BothOrNone : {A B : Type 0} → (A → B → Type 0) → Option A → Option B → Type 0
BothOrNone T (Some x) (Some y) = T x y
BothOrNone T (Some x) None = ⊥
BothOrNone T None (Some y) = ⊥
BothOrNone T None None = Unit {0}

-- of two lists that go along each other, the parts of one kind do (the imports of a kind)
module _ {A B C D : Type 0} (R : A → B → Type 0) (T : C → D → Type 0) (f : A → Option C) (g : B → Option D) (law : (a : A) (b : B) → R a b → BothOrNone T (f a) (g b)) where
  chosen_step : (a : A) (b : B) (xs : List A) (ys : List B) (o : Option C) (p : Option D) → f a ≡ o → g b ≡ p → BothOrNone T o p → AllZip T (filter_map f xs) (filter_map g ys) → AllZip T (filter_map f (a ∷ xs)) (filter_map g (b ∷ ys))
  chosen_step a b xs ys (Some x) (Some y) e h t rest = rw (e, h) (t, rest)
  chosen_step a b xs ys (Some x) None e h t rest = absurd t
  chosen_step a b xs ys None (Some y) e h t rest = absurd t
  chosen_step a b xs ys None None e h t rest = rw (e, h) rest

  pub zip_chosen : (xs : List A) (ys : List B) → AllZip R xs ys → AllZip T (filter_map f xs) (filter_map g ys)
  zip_chosen [] [] h = tt
  zip_chosen [] (b ∷ ys) h = absurd h
  zip_chosen (a ∷ xs) [] h = absurd h
  zip_chosen (a ∷ xs) (b ∷ ys) h = chosen_step a b xs ys (f a) (g b) refl refl (law a b h.0) (zip_chosen xs ys h.1)

-- X: items of an arena; W: records of a section; Y: things
module _ {X W Y : Type 0} (seen : X → Y) (S : ℕ → Y → Y → Type 0) (slots : List (Option X)) (raw : X → Option W) (back : W → Y) (law : (p : ℕ) (x : X) (w : W) → raw x ≡ Some w → S p (seen x) (back w)) where
  one_stands : (p : ℕ) (w : W) (o : Option X) → item_at slots p ≡ o → Some w ≡ option_and_then raw o → StandsFor S (λ i. option_map seen (item_at slots i)) p (back w)
  one_stands p w (Some x) at e = (seen x, ap (option_map seen) at, law p x w (sym e))
  one_stands p w None at e = absurd (cc)

  -- the records are those of the items, in order
  pub stand_by_records : (order : List ℕ) (raws : List W) → map Some raws ≡ map (λ p. option_and_then raw (item_at slots p)) order → AllZip (StandsFor S (λ i. option_map seen (item_at slots i))) order (map back raws)
  stand_by_records [] [] e = tt
  stand_by_records [] (w ∷ raws) e = absurd (cc)
  stand_by_records (p ∷ order) [] e = absurd (cc)
  stand_by_records (p ∷ order) (w ∷ raws) e =
      let head : Some w ≡ option_and_then raw (item_at slots p) = cc in
      let rest : map Some raws ≡ map (λ q. option_and_then raw (item_at slots q)) order = cc in
      (one_stands p w (item_at slots p) refl head, stand_by_records order raws rest)

-- the same over any look-up, where what an item is written as may turn on its being there
module _ {X W : Type 0} (S : ℕ → X → X → Type 0) (xs : ℕ → Option X) (raw : X → Option W) (back : W → X) (law : (p : ℕ) (x : X) (w : W) → xs p ≡ Some x → raw x ≡ Some w → S p x (back w)) where
  one_along : (p : ℕ) (w : W) (o : Option X) → xs p ≡ o → Some w ≡ option_and_then raw o → StandsFor S xs p (back w)
  one_along p w (Some x) at e = (x, at, law p x w at (sym e))
  one_along p w None at e = absurd (cc)

  pub stand_along : (order : List ℕ) (raws : List W) → map Some raws ≡ map (λ p. option_and_then raw (xs p)) order → AllZip (StandsFor S xs) order (map back raws)
  stand_along [] [] e = tt
  stand_along [] (w ∷ raws) e = absurd (cc)
  stand_along (p ∷ order) [] e = absurd (cc)
  stand_along (p ∷ order) (w ∷ raws) e =
      let head : Some w ≡ option_and_then raw (xs p) = cc in
      let rest : map Some raws ≡ map (λ q. option_and_then raw (xs q)) order = cc in
      (one_along p w (xs p) refl head, stand_along order raws rest)
