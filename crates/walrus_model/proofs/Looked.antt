-- What is looked up in lists and in what is made of them.
use Rattle.std.proofs.Common.{◌≡◌, ◌≢◌, ℕ, true, false, zero, suc, List, [], ◌∷◌, map, sym, ap, ◌∙◌}
use Rattle.std.proofs.lemmas.Option.{slice_get-map}
use Rattle.std.proofs.lemmas.Slice.Eq.{bytes_eq-Decides}
use Rattle.std.specs.Prelude.{Some, option_map, Contains, bytes_eq, slice_get, zip}
use Rattle.walrus_base.proofs.Standing.{got_in, some_inj}
use Rattle.walrus_base.proofs.ShapesKept.{made_of}

pub map_at : {A B : Type 0} (f : A → B) (xs : List A) (k : ℕ) (x : A) → slice_get xs k ≡ Some x → slice_get (map f xs) k ≡ Some (f x)
map_at f xs k x e = slice_get-map f xs k ∙ ap (option_map f) e

pub at_map : {A B : Type 0} (f : A → B) (xs : List A) (k : ℕ) (y : B) → slice_get (map f xs) k ≡ Some y → (x : A) × ((slice_get xs k ≡ Some x) × (f x ≡ y))
at_map f xs k y e = let x = made_of f (slice_get xs k) y (sym (slice_get-map f xs k) ∙ e) in (x.0, (x.1, x.2))

pub got_contains : {A : Type 0} (xs : List A) (k : ℕ) (x : A) → slice_get xs k ≡ Some x → Contains xs x
got_contains xs k x e = let g = got_in xs k x e in (k, g.0, g.1 x)

pub unzipped : {A B : Type 0} (xs : List A) (ys : List B) (k : ℕ) (z : A × B) → slice_get (zip xs ys) k ≡ Some z → (slice_get xs k ≡ Some z.0) × (slice_get ys k ≡ Some z.1)
unzipped [] ys k z e = absurd (cc)
unzipped (x ∷ xs) [] k z e = absurd (cc)
unzipped (x ∷ xs) (y ∷ ys) zero z e = let is : (x, y) ≡ z = some_inj (x, y) z e in (ap (λ p. Some p.0) is, ap (λ p. Some p.1) is)
unzipped (x ∷ xs) (y ∷ ys) (suc k) z e = unzipped xs ys k z e

-- lists that a comparison tells apart are two
pub differs : (xs ys : List ℕ) → bytes_eq xs ys ≡ false → xs ≢ ys
differs xs ys e same = let no_such : false ≡ true = sym e ∙ (bytes_eq-Decides xs ys).1 same in cc
