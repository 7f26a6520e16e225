-- What parsing adds behind the types that were read: types of handlers, alone in their groups, that name only what was read.
use Rattle.std.proofs.Common.{◌≡◌, ℕ, zero, suc, ◌<◌, ◌≤◌, List, [], ◌∷◌, ◌++◌, length, refl, sym, ap, ◌∙◌, subst, inl, inr, ⊎_elim, ◌⊎◌, arith}
use Rattle.std.proofs.lemmas.Option.{slice_get_within}
use Rattle.std.specs.Prelude.{Some, slice_get, Contains}
use Rattle.wasm_forms.proofs.Bind.{some_same}
use Rattle.walrus_base.specs.Types.{CompType}
use Rattle.walrus_model.specs.Abstract.{Abstract, TypeDef}
use Rattle.walrus_model.specs.Names.{body_of}
use Rattle.walrus_theorem.specs.Chain.{alone, TypeIsFoundOrAdded, Found, Added, AreFoundOrAdded, NoMore, AndThen, AddsHandlers, NoFunction, AndThose, handlers_by}
use Rattle.walrus_base.proofs.Lists.{Contains-head, Contains-tail}
use Rattle.walrus_theorem.proofs.StepHandlers.{AllBelow, Below}

at_seam : {X : Type 0} (xs : List X) (z : X) (j : ℕ) (y : X) → slice_get (xs ++ z ∷ []) j ≡ Some y → (slice_get xs j ≡ Some y) ⊎ ((j ≡ length xs) × (z ≡ y))
at_seam [] z zero y e = inr (refl, some_same z y e)
at_seam [] z (suc j) y e = absurd (cc)
at_seam (x ∷ xs) z zero y e = inl e
at_seam (x ∷ xs) z (suc j) y e = ⊎_elim (λ h. inl h) (λ h. inr (ap suc h.0, h.1)) (at_seam xs z j y e)

-- a type j that was added for a type in P
pub record IsAlone (n : ℕ) (P : CompType ℕ → Type 0) (j : ℕ) (y : TypeDef) : Type 0 where
  pub comp : CompType ℕ
  pub is : y ≡ alone j comp
  pub below : Below n comp
  pub of : P comp

module _ (n : ℕ) (P : CompType ℕ → Type 0) where
  abbrev pub AllAlone : List TypeDef → Type 0
  AllAlone l = (j : ℕ) (y : TypeDef) → n ≤ j → slice_get l j ≡ Some y → IsAlone n P j y

  one_alone : (comp : CompType ℕ) (old new : List TypeDef) (p : ℕ) → TypeIsFoundOrAdded comp old new p → Below n comp → P comp → AllAlone old → AllAlone new
  one_alone comp old new p (Found stands first same) below of h = λ j y le at. h j y le (subst (λ (l : List TypeDef). slice_get l j ≡ Some y) same at)
  one_alone comp old new p (Added none place made) below of h = λ j y le at. ⊎_elim
      (λ e. h j y le e)
      (λ (e : (j ≡ length old) × (alone p comp ≡ y)). record {
        comp = comp;
        is = sym e.1 ∙ ap (λ k. alone k comp) (place ∙ sym e.0);
        below = below;
        of = of;
      })
      (at_seam old (alone p comp) j y (subst (λ (l : List TypeDef). slice_get l j ≡ Some y) made at))

  many_alone : (comps : List (CompType ℕ)) (old new : List TypeDef) (places : List ℕ) → AreFoundOrAdded comps old new places → AllBelow n comps → ((comp : CompType ℕ) → Contains comps comp → P comp) → AllAlone old → AllAlone new
  many_alone comps old new places (NoMore types) below of h = h
  many_alone whole first last places (AndThen comp comps old middle new p ps one rest) below of h =
      many_alone comps middle new ps rest (λ c at. below c (Contains-tail comp c comps at)) (λ c at. of c (Contains-tail comp c comps at))
      (one_alone comp old middle p one (below comp (Contains-head comp comps)) (of comp (Contains-head comp comps)) h)

  module _ (m : Abstract) (places : ℕ → List ℕ) (below : (f : ℕ) → AllBelow n (handlers_by m (body_of m f))) (of : (f : ℕ) (comp : CompType ℕ) → Contains (handlers_by m (body_of m f)) comp → P comp) where
    pub all_alone : (fs : List ℕ) (old new : List TypeDef) → AddsHandlers m places fs old new → AllAlone old → AllAlone new
    all_alone fs old new (NoFunction types) h = h
    all_alone whole first last (AndThose f fs old middle new one rest) h =
        all_alone fs middle new rest (many_alone (handlers_by m (body_of m f)) old middle (places f) one (below f) (of f) h)

pub none_yet : (P : CompType ℕ → Type 0) (l : List TypeDef) → AllAlone (length l) P l
none_yet P l j y le at = absurd (let lt : j < length l = slice_get_within l j y at in omega arith)
