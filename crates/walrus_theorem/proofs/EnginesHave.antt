-- Each module that was read has its list of active segments; and an engine that tells two modules apart.
use Rattle.std.proofs.Common.{◌≡◌, ℕ, zero, suc, ◌+◌, ◌<◌, Bool, true, false, List, [], ◌∷◌, get_or, refl, sym, ap, ◌∙◌, subst, arith, ⊎_elim}
use Rattle.std.specs.Prelude.{Some, None, All, AllPairs, Contains, cond, slice_get, ◌↔◌}
use Rattle.std.proofs.lemmas.List.Kept.{AllPairs-cons}
use Rattle.std.proofs.lemmas.List.Elements.{All-contains_itself}
use Rattle.wasm_forms.proofs.Bind.{some_same}
use Rattle.walrus_model.specs.Abstract.{Abstract, ElementKind, PassiveElements, DeclaredElements, ActiveElements, Element, DataKind, PassiveData, ActiveData, DataSegment}
use Rattle.walrus_model.specs.Sections.{elements_of, data_segments_of}
use Rattle.walrus_model.specs.Examples.{one_function}
use Rattle.walrus_theorem.specs.Engines.{IsActive, IsActiveKind, AreAll, Segments, counter, one_nop, ReadHasSegments, SomeEngineTells}
use Rattle.walrus_base.proofs.Lists.{Contains-head, Contains-tail, Contains-uncons, Contains-none}

module _ {X : Type 0} (t : X → Bool) where
  abbrev pub numbers : ℕ → List X → List ℕ
  numbers k [] = []
  numbers k (x ∷ xs) = cond (t x) (k ∷ numbers (suc k) xs) (numbers (suc k) xs)

  abbrev Stands : ℕ → List X → ℕ → Type 0
  Stands k xs y = (i : ℕ) × (x : X) × (y ≡ k + i) × (slice_get xs i ≡ Some x) × (t x ≡ true)

  later : (k : ℕ) (x : X) (xs : List X) (y : ℕ) → Stands (suc k) xs y → Stands k (x ∷ xs) y
  later k x xs y (i, z, e, at, is) = (suc i, z, (let h : y ≡ suc k + i = e in omega arith), at, is)

  told_by : (k : ℕ) (x : X) (xs : List X) (y : ℕ) → (Contains (numbers (suc k) xs) y → Stands (suc k) xs y) → (b : Bool) → t x ≡ b → Contains (cond b (k ∷ numbers (suc k) xs) (numbers (suc k) xs)) y → Stands k (x ∷ xs) y
  told_by k x xs y rest true e at = ⊎_elim
      (λ is. (0, x, (let h : k ≡ y = is in omega arith), refl, e))
      (λ more. later k x xs y (rest more))
      (Contains-uncons k y (numbers (suc k) xs) at)
  told_by k x xs y rest false e at = later k x xs y (rest at)

  told : (k : ℕ) (xs : List X) (y : ℕ) → Contains (numbers k xs) y → Stands k xs y
  told k [] y at = absurd (Contains-none y at)
  told k (x ∷ xs) y at = told_by k x xs y (told (suc k) xs y) (t x) refl at

  is_there : (k : ℕ) (x : X) (rest : List ℕ) (b : Bool) → b ≡ true → Contains (cond b (k ∷ rest) rest) k
  is_there k x rest true e = Contains-head k rest
  is_there k x rest false e = absurd (cc)

  still : (k : ℕ) (rest : List ℕ) (b : Bool) (y : ℕ) → Contains rest y → Contains (cond b (k ∷ rest) rest) y
  still k rest true y at = Contains-tail k y rest at
  still k rest false y at = at

  there : (k : ℕ) (xs : List X) (i : ℕ) (x : X) → slice_get xs i ≡ Some x → t x ≡ true → (y : ℕ) → y ≡ k + i → Contains (numbers k xs) y
  there k [] i x at e y is = absurd (cc)
  there k (z ∷ zs) zero x at e y is = let same : z ≡ x = some_same z x at in let here : k ≡ y = omega (arith, is) in subst (Contains (numbers k (z ∷ zs))) here (is_there k z (numbers (suc k) zs) (t z) (ap t same ∙ e))
  there k (z ∷ zs) (suc i) x at e y is = still k (numbers (suc k) zs) (t z) y (there (suc k) zs i x at e y (let h : y ≡ k + suc i = is in omega arith))

  above : (k j : ℕ) (xs : List X) → j < k → All (λ y. j < y) (numbers k xs)
  above k j xs less a d within = by (told k xs (get_or (numbers k xs) a d) (All-contains_itself (numbers k xs) a d within)) where
    by : {y : ℕ} → Stands k xs y → j < y
    by (i, x, e, at, is) = omega (arith, e, less)

  rises_by : (k : ℕ) (x : X) (xs : List X) → AllPairs (λ a b. a < b) (numbers (suc k) xs) → (b : Bool) → AllPairs (λ a b. a < b) (cond b (k ∷ numbers (suc k) xs) (numbers (suc k) xs))
  rises_by k x xs h true = AllPairs-cons (λ a b. a < b) k (numbers (suc k) xs) (above (suc k) k xs (omega arith)) h
  rises_by k x xs h false = h

  rises : (k : ℕ) (xs : List X) → AllPairs (λ a b. a < b) (numbers k xs)
  rises k [] = λ i j d less within. absurd (omega (arith, within))
  rises k (x ∷ xs) = rises_by k x xs (rises (suc k) xs) (t x)

  pub all_of : (P : X → Type 0) → ((x : X) → P x ↔ (t x ≡ true)) → (xs : List X) → AreAll (λ i. (x : X) × (slice_get xs i ≡ Some x) × P x) (numbers 0 xs)
  all_of P same xs = record {
    rising = rises 0 xs;
    are = λ i. (
      λ at. let s = told 0 xs i at in (s.1, ap (slice_get xs) (let h : i ≡ 0 + s.0 = s.2 in let e : i ≡ s.0 = omega arith in e) ∙ s.3, (same s.1).1 s.4),
      λ (x, at, is). there 0 xs i x at ((same x).0 is) i (omega arith),
    );
  }

abbrev pub is_active : ElementKind → Bool
is_active (ActiveElements table offset) = true
is_active PassiveElements = false
is_active DeclaredElements = false

pub active_same : (k : ElementKind) → IsActive k ↔ (is_active k ≡ true)
active_same (ActiveElements table offset) = ((λ h. refl), (λ h. tt))
active_same PassiveElements = ((λ h. absurd h), (λ h. absurd (cc)))
active_same DeclaredElements = ((λ h. absurd h), (λ h. absurd (cc)))

abbrev pub is_data : DataKind → Bool
is_data (ActiveData memory offset) = true
is_data PassiveData = false

pub data_same : (k : DataKind) → IsActiveKind k ↔ (is_data k ≡ true)
data_same (ActiveData memory offset) = ((λ h. refl), (λ h. tt))
data_same PassiveData = ((λ h. absurd h), (λ h. absurd (cc)))

pub read_has_segments : ReadHasSegments
read_has_segments c bytes m read = subst Segments (sym read.is) (record {
  elements = numbers (λ (e : Element). is_active e.kind) 0 (elements_of read.sections);
  elements_are = all_of (λ (e : Element). is_active e.kind) (λ e. IsActive e.kind) (λ e. active_same e.kind) (elements_of read.sections);
  data_segments = numbers (λ (d : DataSegment). is_data d.kind) 0 (data_segments_of read.sections);
  data_are = all_of (λ (d : DataSegment). is_data d.kind) (λ d. IsActiveKind d.kind) (λ d. data_same d.kind) (data_segments_of read.sections);
})

no_segments : (m : Abstract) → ((i : ℕ) → m.elements i ≡ None) → ((i : ℕ) → m.data_segments i ≡ None) → Segments m
no_segments m no_elements no_data = record {
  elements = [];
  elements_are = record { rising = λ i j d less within. absurd (omega (arith, within)); are = λ i. ((λ at. absurd (Contains-none i at)), (λ (e, at, is). let no : None ≡ Some e = sym (no_elements i) ∙ at in absurd (cc))) };
  data_segments = [];
  data_are = record { rising = λ i j d less within. absurd (omega (arith, within)); are = λ i. ((λ at. absurd (Contains-none i at)), (λ (e, at, is). let no : None ≡ Some e = sym (no_data i) ∙ at in absurd (cc))) };
}

pub some_engine_tells : SomeEngineTells
some_engine_tells same =
    let e : ◌≡◌ {A = List ℕ} (2 ∷ []) (1 ∷ []) = same (no_segments one_function (λ i. refl) (λ i. refl)) (no_segments one_nop (λ i. refl) (λ i. refl)) counter 1 in
    let h : 2 ≡ 1 = ap (λ (l : List ℕ). get_or l 0 0) e in
    absurd (omega (arith, h))
