-- Locals in their order are in groups of different types.
use Rattle.std.proofs.Common.{◌≡◌, ◌≢◌, ℕ, zero, suc, ◌<◌, ◌⊎◌, ⊎_elim, inl, inr, List, [], ◌∷◌, ◌++◌, map, replicate, Option, Some, sym, ap, ◌∙◌, subst, arith}
use Rattle.std.specs.Prelude.{All, AllPairs}
use Rattle.std.specs.List.{AllByRecursion}
use Rattle.std.proofs.lemmas.List.Elements.{All-head, All-tail, All-cons, All-from_recursion}
use Rattle.std.proofs.lemmas.List.Kept.{AllPairs-cons}
use Rattle.walrus_base.specs.Arena.{item_at}
use Rattle.walrus_base.specs.Types.{ValType}
use Rattle.walrus_functions.specs.DeclaredLocals.{TypeGoesBefore, GoesBefore, AreGrouped}
use Rattle.walrus_functions.specs.Declaring.{AreRuns, Changes, spread}
use Rattle.wasm_forms.proofs.Bind.{some_same}
use Rattle.walrus_base.proofs.FunctionSame.{cons_head as head_same, cons_tail as tail_same}

abbrev Group : Type 0
Group = ℕ × ValType ℕ

abbrev Filled : Group → Type 0
Filled g = 0 < g.0

pairs-head : {X : Type 0} (R : X → X → Type 0) (x : X) (xs : List X) → AllPairs R (x ∷ xs) → All (R x) xs
pairs-head R x xs h = λ k d low. h 0 (suc k) d (omega arith) (omega arith)

pairs-tail : {X : Type 0} (R : X → X → Type 0) (x : X) (xs : List X) → AllPairs R (x ∷ xs) → AllPairs R xs
pairs-tail R x xs h = λ i j d less low. h (suc i) (suc j) d (omega arith) (omega arith)

module _ (slots : List (Option (ValType ℕ))) (used parameters : List ℕ) where
  abbrev Before : ValType ℕ → ValType ℕ → Type 0
  Before v w = TypeGoesBefore slots used parameters v w

  abbrev Leads : ValType ℕ → ValType ℕ → Type 0
  Leads v w = Before v w ⊎ (v ≡ w)

  not_both : (v w : ValType ℕ) → Before v w → Before w v → ⊥
  not_both v w (inl a) (inl b) = omega arith
  not_both v w (inl a) (inr (e, b)) = omega arith
  not_both v w (inr (e, a)) (inl b) = omega arith
  not_both v w (inr (e, a)) (inr (f, b)) =
      let above = a.1.2 b.0 b.1.0 b.1.1 in
      let below = b.1.2 a.0 a.1.0 a.1.1 in
      omega (arith, above, below)

  leads : (x y : ℕ) (v w : ValType ℕ) → item_at slots x ≡ Some v → item_at slots y ≡ Some w → GoesBefore slots used parameters x y → Leads v w
  leads x y v w here there g =
      let first : g.0 ≡ v = some_same g.0 v (sym g.1.1.0 ∙ here) in
      let second : g.1.0 ≡ w = some_same g.1.0 w (sym g.1.1.1 ∙ there) in
      ⊎_elim (λ (b : Before g.0 g.1.0). inl (subst (λ (u : ValType ℕ). Before v u) second (subst (λ (u : ValType ℕ). Before u g.1.0) first b)))
      (λ (s : (g.0 ≡ g.1.0) × (x < y)). inr (sym first ∙ s.0 ∙ second)) g.1.1.2

  leads_all : (x : ℕ) (v : ValType ℕ) (order : List ℕ) (types : List (ValType ℕ)) → item_at slots x ≡ Some v → map (item_at slots) order ≡ map Some types → All (GoesBefore slots used parameters x) order → AllByRecursion (Leads v) types
  leads_all x v [] [] here are h = tt
  leads_all x v [] (t ∷ types) here are h = absurd cc
  leads_all x v (y ∷ order) [] here are h = absurd cc
  leads_all x v (y ∷ order) (t ∷ types) here are h = (leads x y v t here (head_same _ _ _ _ are) (All-head (GoesBefore slots used parameters x) y order h), leads_all x v order types here (tail_same _ _ _ _ are) (All-tail (GoesBefore slots used parameters x) y order h))

  abbrev Rise : List (ValType ℕ) → Type 0
  Rise [] = Unit {0}
  Rise (v ∷ types) = AllByRecursion (Leads v) types × Rise types

  types_rise : (order : List ℕ) (types : List (ValType ℕ)) → map (item_at slots) order ≡ map Some types → AllPairs (GoesBefore slots used parameters) order → Rise types
  types_rise [] [] are h = tt
  types_rise [] (t ∷ types) are h = absurd cc
  types_rise (x ∷ order) [] are h = absurd cc
  types_rise (x ∷ order) (t ∷ types) are h =
      (leads_all x t order types (head_same _ _ _ _ are) (tail_same _ _ _ _ are) (pairs-head (GoesBefore slots used parameters) x order h), types_rise order types (tail_same _ _ _ _ are) (pairs-tail (GoesBefore slots used parameters) x order h))

  -- ---- groups

  behind : (vs ws : List (ValType ℕ)) → Rise (vs ++ ws) → Rise ws
  behind [] ws h = h
  behind (v ∷ vs) ws h = behind vs ws h.1

  later : (P : ValType ℕ → Type 0) (vs ws : List (ValType ℕ)) → AllByRecursion P (vs ++ ws) → AllByRecursion P ws
  later P [] ws h = h
  later P (v ∷ vs) ws h = later P vs ws h.1

  of_groups : (P : ValType ℕ → Type 0) (gs : List Group) → All Filled gs → AllByRecursion P (spread gs) → AllByRecursion (λ (g : Group). P g.1) gs
  of_groups P [] f h = tt
  of_groups P (g ∷ gs) f h = (first g.0 (All-head Filled g gs f) h, of_groups P gs (All-tail Filled g gs f) (later P (replicate g.0 g.1) (spread gs) h))
    where
      first : (n : ℕ) → 0 < n → AllByRecursion P (replicate n g.1 ++ spread gs) → P g.1
      first zero some k = absurd (omega arith)
      first (suc n) some k = k.0

  leads_groups : (g : Group) (gs : List Group) → All Filled (g ∷ gs) → Rise (spread (g ∷ gs)) → AllByRecursion (λ (h : Group). Leads g.1 h.1) gs
  leads_groups g gs f h = go g.0 (All-head Filled g gs f) h
    where
      go : (n : ℕ) → 0 < n → Rise (replicate n g.1 ++ spread gs) → AllByRecursion (λ (h : Group). Leads g.1 h.1) gs
      go zero some k = absurd (omega arith)
      go (suc n) some k = of_groups (Leads g.1) gs (All-tail Filled g gs f) (later (Leads g.1) (replicate n g.1) (spread gs) k.0)

  abbrev Apart : Group → Group → Type 0
  Apart g h = g.1 ≢ h.1

  before_next : (v w : ValType ℕ) → Leads v w → v ≢ w → Before v w
  before_next v w (inl b) apart = b
  before_next v w (inr e) apart = absurd (apart e)

  no_later : (v w : ValType ℕ) → Before v w → (gs : List Group) → AllByRecursion (λ (h : Group). Leads w h.1) gs → v ≢ w → AllByRecursion (λ (h : Group). v ≢ h.1) gs
  no_later v w b [] h apart = tt
  no_later v w b (g ∷ gs) h apart = ((λ same. ⊎_elim (λ (k : Before w g.1). not_both v w b (subst (λ (u : ValType ℕ). Before w u) (sym same) k)) (λ (e : w ≡ g.1). apart (same ∙ sym e)) h.0), no_later v w b gs h.1 apart)

  groups_apart : (gs : List Group) → All Filled gs → Changes gs → Rise (spread gs) → AllPairs Apart gs
  groups_apart [] f c h = λ i j d less low. absurd (omega arith)
  groups_apart (g ∷ []) f c h = λ i j d less low. absurd (omega arith)
  groups_apart (g ∷ k ∷ gs) f c h =
      let rest = groups_apart (k ∷ gs) (All-tail Filled g (k ∷ gs) f) c.1 (behind (replicate g.0 g.1) (spread (k ∷ gs)) h) in
      let ahead = leads_groups g (k ∷ gs) f h in
      let next = leads_groups k gs (All-tail Filled g (k ∷ gs) f) (behind (replicate g.0 g.1) (spread (k ∷ gs)) h) in
      AllPairs-cons Apart g (k ∷ gs) (All-cons (Apart g) k gs c.0 (All-from_recursion (Apart g) gs (no_later g.1 k.1 (before_next g.1 k.1 ahead.0 c.0) gs next c.0))) rest

  pub grouped : (order : List ℕ) (types : List (ValType ℕ)) (gs : List Group) → AllPairs (GoesBefore slots used parameters) order → map (item_at slots) order ≡ map Some types → AreRuns types gs → AreGrouped slots order gs
  grouped order types gs sorted are runs = record {
    spread = ap (map Some) runs.all ∙ sym are;
    apart = groups_apart gs runs.filled runs.changes (subst (λ (vs : List (ValType ℕ)). Rise vs) (sym runs.all) (types_rise order types are sorted));
    filled = runs.filled;
  }

  -- ---- the locals differ

  not_itself : (x y : ℕ) → GoesBefore slots used parameters x y → x ≢ y
  not_itself x y g same =
      let one : g.0 ≡ g.1.0 = some_same g.0 g.1.0 (sym g.1.1.0 ∙ ap (item_at slots) same ∙ g.1.1.1) in
      ⊎_elim (λ (b : Before g.0 g.1.0). let twice : Before g.0 g.0 = subst (λ (u : ValType ℕ). Before g.0 u) (sym one) b in not_both g.0 g.0 twice twice)
      (λ (s : (g.0 ≡ g.1.0) × (x < y)). let less = s.1 in omega (arith, less, same)) g.1.1.2

  pub locals_differ : (order : List ℕ) → AllPairs (GoesBefore slots used parameters) order → AllPairs (λ (x y : ℕ). x ≢ y) order
  locals_differ order h = λ i j d less low. not_itself _ _ (h i j d less low)
