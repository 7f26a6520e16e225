-- Rising places, and what is put behind them.
use Rattle.std.proofs.Common.{◌≡◌, ℕ, zero, suc, ◌<◌, ◌≤◌, true, List, [], ◌∷◌, ◌++◌, map, slice_get, Option, Some, IsTrue, leb, refl, subst, ap, sym, ◌∙◌, arith, eq-eqb, eqb-true, ◌⊎◌, inl, inr, ⊎_elim}
use Rattle.std.proofs.lemmas.Bool.{leb-true, le-leb, or_left, or_right}
use Rattle.walrus_base.specs.Id.{place}
use Rattle.walrus_base.specs.declared.id.Id.{Id}
use Rattle.walrus_base.specs.declared.keys.TypeKey.{TypeKey}
use Rattle.walrus_base.specs.Alone.{AreInOrder, AreNotNamed, NamesNot, NotesOnly}
use Rattle.walrus_base.specs.Composite.{function_type}
use Rattle.walrus_base.specs.Index.{places_at}
use Rattle.walrus_base.specs.PlaceList.{has, rise}
use Rattle.walrus_base.specs.TypeDef.{type_place}
use Rattle.walrus_base.specs.declared.composite.FunctionType.{FunctionType as DeclaredFunctionType}
use Rattle.walrus_base.specs.declared.index.FunctionIndex.{FunctionIndex}
use Rattle.walrus_base.specs.declared.types.Type.{«Type»}
use Rattle.walrus_base.proofs.OwnIdLemmas.{both, first, second}
use Rattle.walrus_base.proofs.Noted.{or_cases}

rise-higher : (low : ℕ) (ps : List ℕ) (high more : ℕ) → high ≤ more → IsTrue (rise low ps high) → IsTrue (rise low ps more)
rise-higher low [] high more h r = let lt : low ≤ high = leb-true low high r in le-leb low more (omega (arith, h, lt))
rise-higher low (p ∷ ps) high more h r = both _ _ (first _ _ r) (rise-higher p ps high more h (second _ _ r))

rise-behind : (low : ℕ) (ps : List ℕ) (p : ℕ) → IsTrue (rise low ps p) → IsTrue (rise low (ps ++ p ∷ []) p)
rise-behind low [] p r = both _ _ r (le-leb p p (omega arith))
rise-behind low (q ∷ ps) p r = both _ _ (first _ _ r) (rise-behind q ps p (second _ _ r))

rise-least : (low : ℕ) (ps : List ℕ) (high p : ℕ) → IsTrue (rise low ps high) → has ps p ≡ true → low ≤ p
rise-least low [] high p r h = absurd cc
rise-least low (q ∷ ps) high p r h =
    let lt : low ≤ q = leb-true low q (first _ _ r) in
    ⊎_elim (λ here. let e : q ≡ p = eqb-true q p here in omega (arith, lt, e)) (λ later. let more : q ≤ p = rise-least q ps high p (second (leb low q) (rise q ps high) r) later in omega (arith, lt, more)) (or_cases _ _ h)

rise-between : (low : ℕ) (ps : List ℕ) (high : ℕ) → IsTrue (rise low ps high) → low ≤ high
rise-between low [] high r = leb-true low high r
rise-between low (q ∷ ps) high r =
    let lt : low ≤ q = leb-true low q (first _ _ r) in
    let more : q ≤ high = rise-between q ps high (second (leb low q) (rise q ps high) r) in
    omega (arith, lt, more)

-- rising places lie up to the last
pub rise-most : (low : ℕ) (ps : List ℕ) (high p : ℕ) → IsTrue (rise low ps high) → has ps p ≡ true → p ≤ high
rise-most low [] high p r h = absurd cc
rise-most low (q ∷ ps) high p r h =
    let rest = second (leb low q) (rise q ps high) r in
    ⊎_elim (λ here. let e : q ≡ p = eqb-true q p here in let lt : q ≤ high = rise-between q ps high rest in omega (arith, lt, e)) (λ later. rise-most q ps high p rest later) (or_cases _ _ h)

-- a smaller place than that of one of the ids stands before it
pub earlier : (low : ℕ) (ids : List (Id TypeKey)) (high i : ℕ) (id : Id TypeKey) (p : ℕ) → IsTrue (rise low (map place ids) high) → slice_get ids i ≡ Some id → has (map place ids) p ≡ true → p < place id
    → (k : ℕ) × (other : Id TypeKey) × (k < i) × (slice_get ids k ≡ Some other) × (place other ≡ p)
earlier low [] high i id p r at h lt = absurd cc
earlier low (x ∷ ids) high zero id p r at h lt =
    let same : x ≡ id = cc in
    let e : place x ≡ place id = ap (λ y. place y) same in
    absurd (⊎_elim
    (λ here. let is : place x ≡ p = eqb-true (place x) p here in omega (arith, is, e, lt))
    (λ later. let more : place x ≤ p = rise-least (place x) (map place ids) high p (second (leb low (place x)) (rise (place x) (map place ids) high) r) later in omega (arith, more, e, lt))
    (or_cases _ _ h))
earlier low (x ∷ ids) high (suc i) id p r at h lt =
    ⊎_elim
    (λ here. (0, x, omega arith, refl, eqb-true (place x) p here))
    (λ later. let found = earlier (place x) ids high i id p (second (leb low (place x)) (rise (place x) (map place ids) high) r) at later lt in (suc found.0, found.1, (let less : found.0 < i = found.2 in omega (arith, less)), found.3, found.4))
    (or_cases _ _ h)

-- an id of these is under its place
pub is_there : (ids : List (Id TypeKey)) (i : ℕ) (id : Id TypeKey) → slice_get ids i ≡ Some id → has (map place ids) (place id) ≡ true
is_there [] i id at = absurd cc
is_there (x ∷ ids) zero id at = let same : x ≡ id = cc in or_left _ _ (eq-eqb (place x) (place id) (ap (λ y. place y) same))
is_there (x ∷ ids) (suc i) id at = or_right _ _ (is_there ids i id at)

has-behind : (ps : List ℕ) (p q : ℕ) → has (ps ++ q ∷ []) p ≡ true → (has ps p ≡ true) ⊎ (q ≡ p)
has-behind [] p q h = ⊎_elim (λ here. inr (eqb-true q p here)) (λ later. absurd cc) (or_cases _ _ h)
has-behind (x ∷ ps) p q h =
    ⊎_elim (λ here. inl (or_left _ _ here)) (λ later. ⊎_elim (λ old. inl (or_right _ _ old)) (λ new. inr new) (has-behind ps p q later)) (or_cases _ _ h)

has-before : (ps : List ℕ) (p q : ℕ) → has ps p ≡ true → has (ps ++ q ∷ []) p ≡ true
has-before [] p q h = absurd cc
has-before (x ∷ ps) p q h = ⊎_elim (λ here. or_left _ _ here) (λ later. or_right _ _ (has-before ps p q later)) (or_cases _ _ h)

module _ (slot : Option «Type») (before after : FunctionIndex) (notes : NotesOnly slot before after) where
  -- what was under a type of functions is
  pub notes_stay : (f : DeclaredFunctionType) (p : ℕ) → IsTrue (has (places_at before f) p) → IsTrue (has (places_at after f) p)
  notes_stay f p h = ⊎_elim
      (λ same. ap (λ ps. has ps p) same ∙ h)
      (λ more. ap (λ ps. has ps p) more.3 ∙ has-before (places_at before f) p (type_place more.0) h)
      (notes f)

  pub notes_in_order : (end later : ℕ) → ((ty : «Type») → slot ≡ Some ty → type_place ty ≡ end) → end ≤ later → AreInOrder before end → AreInOrder after later
  notes_in_order end later at lt ordered f = rise-higher 0 (places_at after f) end later lt (⊎_elim
      (λ same. ap (λ ps. rise 0 ps end) same ∙ ordered f)
      (λ more. ap (λ ps. rise 0 ps end) more.3 ∙ ap (λ n. rise 0 (places_at before f ++ n ∷ []) end) (at more.0 more.1) ∙ rise-behind 0 (places_at before f) end (ordered f))
      (notes f))

  pub notes_not_named : AreNotNamed before → AreNotNamed after
  notes_not_named named f p h = ⊎_elim
      (λ same. named f p (ap (λ ps. has ps p) (sym same) ∙ h))
      (λ more. ⊎_elim
      (λ old. named f p old)
      (λ new. subst (NamesNot (function_type f)) new more.2)
      (has-behind (places_at before f) p (type_place more.0) (ap (λ ps. has ps p) (sym more.3) ∙ h)))
      (notes f)
