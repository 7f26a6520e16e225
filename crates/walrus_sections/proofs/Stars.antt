-- A NAME and a text, compared part by part, and what a star lets forget.
use Rattle.std.proofs.Common.{◌≡◌, ◌<◌, ◌≤◌, ◌↔◌, ◌⊎◌, ℕ, List, [], ◌∷◌, ◌++◌, length, refl, sym, ap, ◌∙◌, subst, append_assoc, inl, inr, arith}
use Rattle.std.specs.List.{IsFirstAndRest}
use Rattle.std.proofs.lemmas.List.{append-nil}
use Rattle.walrus_base.proofs.Lookups.{heads}
use Rattle.walrus_sections.specs.Fits.{Part, any, byte, parts, FitParts, Fits, FitsBehind}
use Rattle.walrus_sections.specs.FitSteps.{part_seen, BeginsWith, AtStar, Lessens}
use Rattle.walrus_sections.specs.declared.tool.fits.Part.{Part as HeldPart}
use Rattle.walrus_sections.specs.declared.tool.fits.Part.TheVariants.{Any, Byte}

-- a star takes all of a text
takes_all : (t : List ℕ) → FitParts (any ∷ []) t
takes_all t = (t, [], sym (append-nil t), refl)

-- a star and an empty NAME fit each text
pub fits_all : (name t : List ℕ) → length name < 1 → FitsBehind name t
fits_all [] t empty = takes_all t
fits_all (x ∷ name) t empty = absurd (omega (arith, empty))

module _ (ps : List Part) where
  -- a star may take nothing
  pub takes_none : (t : List ℕ) → FitParts ps t → FitParts (any ∷ ps) t
  takes_none t h = ([], t, refl, h)

  -- and one byte more
  pub takes_more : (x : ℕ) (t : List ℕ) → FitParts (any ∷ ps) t → FitParts (any ∷ ps) (x ∷ t)
  takes_more x t h = (x ∷ h.0, h.1, ap (λ l. x ∷ l) h.2, h.3)

  -- two stars take what one takes
  pub any_twice : (t : List ℕ) → FitParts (any ∷ any ∷ ps) t → FitParts (any ∷ ps) t
  any_twice t h = (h.0 ++ h.3.0, h.3.1, h.2 ∙ ap (λ l. h.0 ++ l) h.3.2 ∙ sym (append_assoc h.0 h.3.0 h.3.1), h.3.3)

  -- a star before an empty text takes nothing
  pub any_empty : FitParts (any ∷ ps) [] → FitParts ps []
  any_empty h = at h.0 h.1 h.2 h.3
    where
      at : (taken rest : List ℕ) → [] ≡ taken ++ rest → FitParts ps rest → FitParts ps []
      at [] rest e f = subst (FitParts ps) (sym e) f
      at (x ∷ taken) rest e f = absurd cc

  -- a star takes nothing, or the first byte
  pub any_front : (x : ℕ) (t : List ℕ) → FitParts (any ∷ ps) (x ∷ t) → FitParts ps (x ∷ t) ⊎ FitParts (any ∷ ps) t
  any_front x t h = at h.0 h.1 h.2 h.3
    where
      at : (taken rest : List ℕ) → x ∷ t ≡ taken ++ rest → FitParts ps rest → FitParts ps (x ∷ t) ⊎ FitParts (any ∷ ps) t
      at [] rest e f = inl (subst (FitParts ps) (sym e) f)
      at (y ∷ taken) rest e f = inr (taken, rest, (heads x y t (taken ++ rest) e).1, f)

  module _ (x : ℕ) where
    -- behind a star, a byte that fits is one of the text
    pub any_byte : (y : ℕ) (t : List ℕ) → FitParts (any ∷ byte x ∷ ps) (y ∷ t) → FitParts (any ∷ ps) t
    any_byte y t h = at h.0 h.1 h.3.0 h.2 h.3.1 h.3.2
      where
        at : (taken rest left : List ℕ) → y ∷ t ≡ taken ++ rest → rest ≡ x ∷ left → FitParts ps left → FitParts (any ∷ ps) t
        at [] rest left e is f = ([], left, (heads y x t left (e ∙ is)).1, f)
        at (z ∷ taken) rest left e is f = (taken ++ x ∷ [], left, (heads y z t (taken ++ rest) e).1 ∙ ap (λ l. taken ++ l) is ∙ sym (append_assoc taken (x ∷ []) left), f)

    -- and none fits an empty text
    pub any_byte_empty : FitParts (any ∷ byte x ∷ ps) [] → ⊥
    any_byte_empty h = at h.0 h.1 h.3.0 h.2 h.3.1
      where
        at : (taken rest left : List ℕ) → [] ≡ taken ++ rest → rest ≡ x ∷ left → ⊥
        at [] rest left e is = let both : [] ≡ x ∷ left = e ∙ is in absurd cc
        at (z ∷ taken) rest left e is = absurd cc

    pub byte_differs : (y : ℕ) (t : List ℕ) → (y ≡ x → ⊥) → FitParts (byte x ∷ ps) (y ∷ t) → ⊥
    byte_differs y t not h = not ((heads y x t h.0 h.1).0)

    pub byte_same : (y : ℕ) (t : List ℕ) → y ≡ x → FitParts (byte x ∷ ps) (y ∷ t) ↔ FitParts ps t
    byte_same y t is = (λ h. subst (FitParts ps) (sym ((heads y x t h.0 h.1).1)) h.2, λ f. (t, ap (λ z. z ∷ t) is, f))

-- ---- from the front of a NAME to its first star

pub record Along (name text behind left : List ℕ) : Type 0 where
  pub same : Fits name text ↔ Fits behind left
  pub starred : FitsBehind name text → FitsBehind behind left
  pub no_longer : length behind ≤ length name
  pub no_more : length left ≤ length text

carry : {ps qs : List Part} {t u : List ℕ} → ps ≡ qs → t ≡ u → FitParts ps t → FitParts qs u
carry {ps = ps} {qs = qs} {t = t} {u = u} parts_are texts_are h = subst (FitParts qs) texts_are (subst (λ (q : List Part). FitParts q t) parts_are h)

as_text : (ps : List Part) {t u : List ℕ} → t ≡ u → FitParts ps t → FitParts ps u
as_text ps is h = subst (FitParts ps) is h

is_any : (part : HeldPart) → ((x : ℕ) → part ≡ Byte x → ⊥) → part_seen part ≡ any
is_any Any not = refl
is_any (Byte x) not = absurd (not x refl)

-- a part of the NAME that is the byte at the front of the text
pub along_turn : (name text behind left rest others : List ℕ) (x y : ℕ) → Along name text behind left → BeginsWith behind (Byte x) rest → IsFirstAndRest left y others → y ≡ x → Along name text rest others
along_turn name text behind left rest others x y along begins front is =
    let both : FitParts (byte x ∷ parts rest) (y ∷ others) ↔ FitParts (parts rest) others = byte_same (parts rest) x y others is in
    record {
      same = (λ h. both.0 (carry begins.are front.0 (along.same.0 h)), λ h. along.same.1 (carry (sym begins.are) (sym front.0) (both.1 h)));
      starred = λ h. any_byte (parts rest) x y others (carry (ap (λ q. any ∷ q) begins.are) front.0 (along.starred h));
      no_longer = omega (arith, begins.shorter, along.no_longer);
      no_more = omega (arith, front.1, along.no_more);
    }

-- a star at the front of what is left of the NAME
pub along_star : (name text behind left rest : List ℕ) (part : HeldPart) → Along name text behind left → BeginsWith behind part rest → ((x : ℕ) → part ≡ Byte x → ⊥)
    → AtStar name text rest left
along_star name text behind left rest part along begins not =
    let are : parts behind ≡ any ∷ parts rest = begins.are ∙ ap (λ p. p ∷ parts rest) (is_any part not) in
    let back : FitsBehind rest left → Fits name text = λ h. along.same.1 (carry (sym are) refl h) in
    record {
      fits = (λ h. carry are refl (along.same.0 h), back);
      behind = (λ h. any_twice (parts rest) left (carry (ap (λ q. any ∷ q) are) refl (along.starred h)), λ h. takes_none (parts name) text (back h));
      shorter = omega (arith, begins.shorter, along.no_longer);
      no_longer = along.no_more;
    }

-- where the NAME doesn't fit a text, a star before it takes the first byte
pub on_differs : (name text rest : List ℕ) (x : ℕ) → (Fits name text → ⊥) → IsFirstAndRest text x rest → Lessens name text name rest
on_differs name text rest x differs front = record {
  same = (λ h. at (any_front (parts name) x rest (as_text (any ∷ parts name) front.0 h)), λ h. as_text (any ∷ parts name) (sym front.0) (takes_more (parts name) x rest h));
  fewer = omega (arith, front.1);
}
  where
    at : FitParts (parts name) (x ∷ rest) ⊎ FitsBehind name rest → FitsBehind name rest
    at (inl h) = absurd (differs (as_text (parts name) (sym front.0) h))
    at (inr h) = h
