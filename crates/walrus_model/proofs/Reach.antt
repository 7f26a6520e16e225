-- What is reached follows a renaming.
use Rattle.std.proofs.Common.{◌≡◌, ℕ, List, [], ◌∷◌, map, refl, sym, ap, ◌∙◌, subst, inl, inr, ⊎_elim}
use Rattle.std.specs.Prelude.{Option, Some, None, option_map, Contains}
use Rattle.walrus_base.specs.Operators.{Functions, Elements, DataSegments, Item}
use Rattle.walrus_model.specs.Abstract.{Abstract, Export, ElementKind, PassiveElements, DeclaredElements, ActiveElements, Element, DataKind, PassiveData, ActiveData, DataSegment}
use Rattle.walrus_model.specs.Refers.{written_in, Refers}
use Rattle.walrus_model.specs.Roots.{IsRootElement, IsRootData, IsRoot, exported, start, data_segment, element_segment, asked_for}
use Rattle.walrus_model.specs.Reached.{Reached, root, step}
use Rattle.walrus_model.specs.Renaming.{Renaming, renamed, renamed_element_kind, renamed_element, renamed_data_kind, renamed_data, renamed_export}
use Rattle.walrus_model.specs.Same.{BothAnd}
use Rattle.walrus_model.specs.Carried.{Carried}
use Rattle.walrus_model.specs.Follows.{SetsFollow, IsWide, ReachedFollows}
use Rattle.walrus_base.proofs.Lists.{Contains-head, Contains-tail, Contains-uncons, Contains-none, Contains-map}
use Rattle.walrus_model.proofs.Steps.{given}
use Rattle.walrus_model.proofs.Follow.{names_follow_lem}
use Rattle.walrus_model.proofs.Orders.{is_some_by as there_is}

-- an item of a list that was put through f
pub Contains-unmap : {A B : Type 0} (f : A → B) (xs : List A) (y : B) → Contains (map f xs) y → (x : A) × Contains xs x × (f x ≡ y)
Contains-unmap f [] y at = absurd (Contains-none y at)
Contains-unmap f (x ∷ xs) y at = ⊎_elim
    (λ e. (x, Contains-head x xs, e))
    (λ rest. let found = Contains-unmap f xs y rest in (found.0, Contains-tail x found.0 xs found.1, found.2))
    (Contains-uncons (f x) y (map f xs) at)

-- what stands at the old number, where it is known what stands at the new one
pub taken : {X : Type 0} (S : X → X → Type 0) (a b : Option X) (y : X) → BothAnd S a b → b ≡ Some y → (x : X) × (a ≡ Some x) × S x y
taken S (Some x) (Some z) y s e = (x, refl, subst (λ w. S x w) (let p : z ≡ y = cc in p) s)
taken S (Some x) None y s e = absurd s
taken S None b y s e = absurd s

start_back : (f : ℕ → ℕ) (o : Option ℕ) (j : ℕ) → option_map f o ≡ Some j → (i : ℕ) × (o ≡ Some i) × (f i ≡ j)
start_back f None j e = absurd (cc)
start_back f (Some i) j e = (i, refl, cc)

module _ (r : Renaming) where
  element_forth : (k : ElementKind) → IsRootElement k → IsRootElement (renamed_element_kind r k)
  element_forth PassiveElements h = absurd h
  element_forth DeclaredElements h = tt
  element_forth (ActiveElements table offset) h = tt

  element_back : (k : ElementKind) → IsRootElement (renamed_element_kind r k) → IsRootElement k
  element_back PassiveElements h = absurd h
  element_back DeclaredElements h = tt
  element_back (ActiveElements table offset) h = tt

  data_forth : (k : DataKind) → IsRootData k → IsRootData (renamed_data_kind r k)
  data_forth PassiveData h = absurd h
  data_forth (ActiveData memory offset) h = tt

  data_back : (k : DataKind) → IsRootData (renamed_data_kind r k) → IsRootData k
  data_back PassiveData h = absurd h
  data_back (ActiveData memory offset) h = tt

module _ (K : Item → Type 0) (r : Renaming) (m n : Abstract) (c : Carried K (λ x. ⊥) r m n) (wide : IsWide K m) (sets : SetsFollow K r m n) where
  -- ---- references

  refers_forth : (x y : Item) → K x → Refers m x y → Refers n (renamed r x) (renamed r y)
  refers_forth x y k (inl at) = inl (subst (λ l. Contains l (renamed r y)) (sym (names_follow_lem K (λ x. ⊥) r m n c x.0 x.1 k)) (Contains-map (renamed r) y (written_in m x) at))
  refers_forth x y k (inr too) = inr (sets.kept x y k too)

  refers_back : (x z : Item) → K x → Refers n (renamed r x) z → (y : Item) × Refers m x y × (renamed r y ≡ z)
  refers_back x z k (inl at) =
      let found = Contains-unmap (renamed r) (written_in m x) z (subst (λ l. Contains l z) (names_follow_lem K (λ x. ⊥) r m n c x.0 x.1 k) at) in
      (found.0, inl found.1, found.2)
  refers_back x z k (inr too) = let found = sets.only x z k too in (found.0, inr found.1, found.2)

  -- ---- roots

  root_forth : (x : Item) → IsRoot m x → IsRoot n (renamed r x)
  root_forth x (exported e at is) = exported (renamed_export r e) (subst (λ l. Contains l (renamed_export r e)) (sym c.exports) (Contains-map (renamed_export r) e m.exports at)) (ap (renamed r) is)
  root_forth x (start f at is) = start (r.numbers Functions f) (c.start ∙ ap (option_map (r.numbers Functions)) at) (ap (renamed r) is)
  root_forth x (data_segment i d at kind is) =
      let k = subst K is (wide.reached x (root x (data_segment i d at kind is))) in
      let new = given (λ x y. y ≡ renamed_data r x) (m.data_segments i) (n.data_segments (r.numbers DataSegments i)) d (c.data_segments.same i k) at in
      data_segment (r.numbers DataSegments i) new.0 new.1 (subst (λ (z : DataSegment). IsRootData z.kind) (sym new.2) (data_forth r d.kind kind)) (ap (renamed r) is)
  root_forth x (element_segment i e at kind is) =
      let k = subst K is (wide.reached x (root x (element_segment i e at kind is))) in
      let new = given (λ x y. y ≡ renamed_element r x) (m.elements i) (n.elements (r.numbers Elements i)) e (c.elements.same i k) at in
      element_segment (r.numbers Elements i) new.0 new.1 (subst (λ (z : Element). IsRootElement z.kind) (sym new.2) (element_forth r e.kind kind)) (ap (renamed r) is)
  root_forth x (asked_for at) = asked_for (subst (λ l. Contains l (renamed r x)) (sym sets.roots) (Contains-map (renamed r) x m.section_roots at))

  data_found : (i j : ℕ) (d : DataSegment) (y : Item) → n.data_segments j ≡ Some d → IsRootData d.kind → y ≡ (DataSegments, j) → K (DataSegments, i) → r.numbers DataSegments i ≡ j → (x : Item) × IsRoot m x × (renamed r x ≡ y)
  data_found i j d y at kind is k e =
      let old = taken (λ x y. y ≡ renamed_data r x) (m.data_segments i) (n.data_segments (r.numbers DataSegments i)) d (c.data_segments.same i k) (ap n.data_segments e ∙ at) in
      ((DataSegments, i), data_segment i old.0 old.1 (data_back r old.0.kind (subst (λ (z : DataSegment). IsRootData z.kind) old.2 kind)) refl, ap (λ (q : ℕ). (DataSegments, q)) e ∙ sym is)

  element_found : (i j : ℕ) (d : Element) (y : Item) → n.elements j ≡ Some d → IsRootElement d.kind → y ≡ (Elements, j) → K (Elements, i) → r.numbers Elements i ≡ j → (x : Item) × IsRoot m x × (renamed r x ≡ y)
  element_found i j d y at kind is k e =
      let old = taken (λ x y. y ≡ renamed_element r x) (m.elements i) (n.elements (r.numbers Elements i)) d (c.elements.same i k) (ap n.elements e ∙ at) in
      ((Elements, i), element_segment i old.0 old.1 (element_back r old.0.kind (subst (λ (z : Element). IsRootElement z.kind) old.2 kind)) refl, ap (λ (q : ℕ). (Elements, q)) e ∙ sym is)

  root_back : (y : Item) → IsRoot n y → (x : Item) × IsRoot m x × (renamed r x ≡ y)
  root_back y (exported e at is) =
      let found = Contains-unmap (renamed_export r) m.exports e (subst (λ l. Contains l e) c.exports at) in
      (found.0.item, exported found.0 found.1 refl, ap (λ (z : Export). z.item) found.2 ∙ sym is)
  root_back y (start f at is) =
      let found = start_back (r.numbers Functions) m.start f (sym c.start ∙ at) in
      ((Functions, found.0), start found.0 found.1 refl, ap (λ (q : ℕ). (Functions, q)) found.2 ∙ sym is)
  root_back y (data_segment j d at kind is) = ⊎_elim
      (λ found. data_found found.0 j d y at kind is found.1 found.2)
      (λ none. absurd none)
      (c.data_segments.onto j (there_is (n.data_segments j) d at))
  root_back y (element_segment j e at kind is) = ⊎_elim
      (λ found. element_found found.0 j e y at kind is found.1 found.2)
      (λ none. absurd none)
      (c.elements.onto j (there_is (n.elements j) e at))
  root_back y (asked_for at) =
      let found = Contains-unmap (renamed r) m.section_roots y (subst (λ l. Contains l y) sets.roots at) in
      (found.0, asked_for found.1, found.2)

  -- ---- what is reached

  reached_forth : (x : Item) → Reached m x → Reached n (renamed r x)
  reached_forth x (root y at) = root (renamed r x) (root_forth x at)
  reached_forth y (step x z h refers) = step (renamed r x) (renamed r y) (reached_forth x h) (refers_forth x y (wide.reached x h) refers)

  reached_back : (y : Item) → Reached n y → (x : Item) × Reached m x × (renamed r x ≡ y)
  reached_back y (root z at) = let found = root_back y at in (found.0, root found.0 found.1, found.2)
  reached_back z (step y w h refers) =
      let found = reached_back y h in
      let next = refers_back found.0 z (wide.reached found.0 found.1) (subst (λ (q : Item). Refers n q z) (sym found.2) refers) in
      (next.0, step found.0 next.0 found.1 next.1, next.2)

  pub reached_follows_lem : ReachedFollows r m n
  reached_follows_lem = record { forth = reached_forth; back = reached_back }
