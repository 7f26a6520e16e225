-- The types of legacy handlers are found, or added, in one way.
use Rattle.std.proofs.Common.{◌≡◌, ℕ, ◌<◌, List, [], ◌∷◌, ◌++◌, refl, sym, ap, ap₂, ◌∙◌, subst, inl, inr, ◌⊎◌}
use Rattle.std.specs.Prelude.{Contains}
use Rattle.walrus_base.specs.Types.{CompType}
use Rattle.walrus_model.specs.Abstract.{Abstract, TypeDef}
use Rattle.walrus_model.specs.Names.{body_of}
use Rattle.walrus_theorem.specs.Chain.{alone, IsLoneTypeAt, TypeIsFoundOrAdded, Found, Added, AreFoundOrAdded, NoMore, AndThen, handlers_by, AddsHandlers, NoFunction, AndThose}
use Rattle.walrus_theorem.specs.OneRun.{HandlersOnce}
use Rattle.walrus_base.proofs.Agree.{Compared, compared}
use Rattle.walrus_base.proofs.Lists.{Contains-uncons, Contains-none}

abbrev Same : List TypeDef → List TypeDef → ℕ → ℕ → Type 0
Same a b p q = (a ≡ b) × (p ≡ q)

module _ (comp : CompType ℕ) (old : List TypeDef) where
  first_one : (p q : ℕ) → IsLoneTypeAt comp old p → ((k : ℕ) → k < p → IsLoneTypeAt comp old k → ⊥) → IsLoneTypeAt comp old q → ((k : ℕ) → k < q → IsLoneTypeAt comp old k → ⊥) → Compared p q → p ≡ q
  first_one p q s f t g (inl h) = absurd (g p h s)
  first_one p q s f t g (inr (inl h)) = h
  first_one p q s f t g (inr (inr h)) = absurd (f q h t)

  found_once : (a b : List TypeDef) (p q : ℕ) → TypeIsFoundOrAdded comp old a p → TypeIsFoundOrAdded comp old b q → Same a b p q
  found_once a b p q (Found s f e) (Found t g h) = (e ∙ sym h, first_one p q s f t g (compared p q))
  found_once a b p q (Found s f e) (Added away at is) = absurd (away p s)
  found_once a b p q (Added away at is) (Found t g h) = absurd (away q t)
  found_once a b p q (Added away at is) (Added far to so) =
      let one : p ≡ q = at ∙ sym to in
      (is ∙ ap (λ k. old ++ alone k comp ∷ []) one ∙ sym so, one)

abbrev SameLists : List TypeDef → List TypeDef → List ℕ → List ℕ → Type 0
SameLists a b p q = (a ≡ b) × (p ≡ q)

are_once : (comps : List (CompType ℕ)) (old a b : List TypeDef) (ps qs : List ℕ) → AreFoundOrAdded comps old a ps → AreFoundOrAdded comps old b qs → SameLists a b ps qs
are_once _ _ _ _ _ _ (NoMore types) (NoMore _) = (refl, refl)
are_once _ _ _ _ _ _ (AndThen comp comps old x a p ps h k) (AndThen _ _ _ y b q qs g l) =
    let one = found_once comp old x y p q h g in
    let rest = are_once comps x a b ps qs k (subst (λ z. AreFoundOrAdded comps z b qs) (sym one.0) l) in
    (rest.0, ap₂ ◌∷◌ one.1 rest.1)

-- the places of the functions in the list, and all types
module _ (m : Abstract) where
  pub places_once : (p q : ℕ → List ℕ) (fs : List ℕ) (old a b : List TypeDef) → AddsHandlers m p fs old a → AddsHandlers m q fs old b → (a ≡ b) × ((f : ℕ) → Contains fs f → p f ≡ q f)
  places_once p q _ _ _ _ (NoFunction types) (NoFunction _) = (refl, λ f at. absurd (Contains-none f at))
  places_once p q _ _ _ _ (AndThose f fs old x a h k) (AndThose _ _ _ y b g l) =
      let one = are_once (handlers_by m (body_of m f)) old x y (p f) (q f) h g in
      let rest = places_once p q fs x a b k (subst (λ z. AddsHandlers m q fs z b) (sym one.0) l) in
      (rest.0, λ e at. at_one e one.1 rest.1 (Contains-uncons f e fs at))
    where
      at_one : (e : ℕ) → p f ≡ q f → ((g : ℕ) → Contains fs g → p g ≡ q g) → (f ≡ e) ⊎ Contains fs e → p e ≡ q e
      at_one e here there (inl is) = subst (λ z. p z ≡ q z) is here
      at_one e here there (inr at) = there e at

pub handlers_once : HandlersOnce
handlers_once m p q fs old a b h k = (places_once m p q fs old a b h k).0
