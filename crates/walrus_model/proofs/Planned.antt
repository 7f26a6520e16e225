-- What is written along a plan carries all there is, and numbers rise: for all spaces at once.
use Rattle.std.proofs.Common.{◌≡◌, ◌⊎◌, ℕ, ◌<◌, List, ◌++◌, refl, sym, ap, ◌∙◌, subst, arith, inl, inr, ⊎_elim}
use Rattle.std.specs.Prelude.{Option, Some, None, IsSome, option_map, unwrap_or}
use Rattle.walrus_base.specs.Operators.{Space, Types, Functions, Tables, Memories, Tags, Globals, Elements, DataSegments, Item}
use Rattle.walrus_base.specs.Shape.{place_in}
use Rattle.walrus_model.specs.Abstract.{Abstract, Origin, ImportedBy, Defined, Body, FunctionKind, ImportedFunction, LocalFunction, Uninitialised, Function, Table, Memory, Tag, Global}
use Rattle.walrus_model.specs.Carried.{Carries, KeepsApart, In}
use Rattle.walrus_model.specs.Live.{IsLive}
use Rattle.walrus_model.specs.Order.{LargerFirst, FunctionsByImport, OriginsInOrder, ByImport}
use Rattle.walrus_model.specs.Plan.{Plan, AreNumbered, numbers_by, IsPlan, IsWrittenAlong, IsImportedIn, IsOwnIn}
use Rattle.walrus_model.specs.Renaming.{Renaming}
use Rattle.walrus_model.specs.Same.{BothAnd}
use Rattle.walrus_model.specs.Spaces.{Thing, look, SameThing, origin_in}
use Rattle.walrus_model.proofs.Spaces.{live_to, live_from}
use Rattle.walrus_model.specs.Ordered.{ListsEach, Ordered}
use Rattle.walrus_model.proofs.Orders.{carries_in_order, rises_in_order, apart_in_order, lists_both, is_some_by}
use Rattle.walrus_base.proofs.Standing.{some_of, some_inj}
use mathlib.Core.Path.{fun_ext}

-- ---- what comes before by import goes one way

less_one_way : (i j : ℕ) → i < j → j < i → ⊥
less_one_way i j a b = omega (arith, a, b)

larger_one_way : (i j : ℕ) (a b : Body) → LargerFirst i j a b → LargerFirst j i b a → ⊥
larger_one_way i j a b (inl h) (inl g) = omega (arith, h, g)
larger_one_way i j a b (inl h) (inr g) = omega (arith, h, g.0)
larger_one_way i j a b (inr h) (inl g) = omega (arith, h.0, g)
larger_one_way i j a b (inr h) (inr g) = omega (arith, h.1, g.1)

functions_one_way : (i j : ℕ) (a b : FunctionKind) → FunctionsByImport i j a b → FunctionsByImport j i b a → ⊥
functions_one_way i j (ImportedFunction p) (ImportedFunction q) h g = less_one_way p q h g
functions_one_way i j (ImportedFunction p) (LocalFunction b) h g = g
functions_one_way i j (ImportedFunction p) Uninitialised h g = h
functions_one_way i j (LocalFunction a) (ImportedFunction q) h g = h
functions_one_way i j (LocalFunction a) (LocalFunction b) h g = larger_one_way i j a b h g
functions_one_way i j (LocalFunction a) Uninitialised h g = h
functions_one_way i j Uninitialised b h g = h

pub origins_one_way : (i j : ℕ) (a b : Origin) → OriginsInOrder i j a b → OriginsInOrder j i b a → ⊥
origins_one_way i j (ImportedBy p) (ImportedBy q) h g = less_one_way p q h g
origins_one_way i j (ImportedBy p) Defined h g = g
origins_one_way i j Defined (ImportedBy q) h g = h
origins_one_way i j Defined Defined h g = less_one_way i j h g

pub both_one_way : {X : Type 0} (S T : X → X → Type 0) → ((x y : X) → S x y → T y x → ⊥) → (a b : Option X) → BothAnd S a b → BothAnd T b a → ⊥
both_one_way S T law (Some x) (Some y) h g = law x y h g
both_one_way S T law (Some x) None h g = h
both_one_way S T law None b h g = h

pub by_import_one_way : (m : Abstract) (s : Space) (i j : ℕ) → ByImport m s i j → ByImport m s j i → ⊥
by_import_one_way m Types i j h g = less_one_way i j h g
by_import_one_way m Functions i j h g = both_one_way (FunctionsByImport i j) (FunctionsByImport j i) (functions_one_way i j) (option_map (λ (f : Function). f.kind) (m.functions i)) (option_map (λ (f : Function). f.kind) (m.functions j)) h g
by_import_one_way m Tables i j h g = both_one_way (OriginsInOrder i j) (OriginsInOrder j i) (origins_one_way i j) (option_map (λ (t : Table). t.origin) (m.tables i)) (option_map (λ (t : Table). t.origin) (m.tables j)) h g
by_import_one_way m Memories i j h g = both_one_way (OriginsInOrder i j) (OriginsInOrder j i) (origins_one_way i j) (option_map (λ (t : Memory). t.origin) (m.memories i)) (option_map (λ (t : Memory). t.origin) (m.memories j)) h g
by_import_one_way m Tags i j h g = both_one_way (OriginsInOrder i j) (OriginsInOrder j i) (origins_one_way i j) (option_map (λ (t : Tag). t.origin) (m.tags i)) (option_map (λ (t : Tag). t.origin) (m.tags j)) h g
by_import_one_way m Globals i j h g = both_one_way (OriginsInOrder i j) (OriginsInOrder j i) (origins_one_way i j) (option_map (λ (t : Global). t.origin) (m.globals i)) (option_map (λ (t : Global). t.origin) (m.globals j)) h g
by_import_one_way m Elements i j h g = less_one_way i j h g
by_import_one_way m DataSegments i j h g = less_one_way i j h g

-- ---- all spaces

-- what a look-up has is what is live
all_live : {A : ℕ → Type 0} {f : ℕ → ℕ} (v : Abstract) (s : Space) {S : ℕ → Thing s → Thing s → Type 0} {ys : ℕ → Option (Thing s)} → Carries (λ i. IsSome (look v s i)) A f S (look v s) ys → Carries (In (IsLive v) s) A f S (look v s) ys
all_live v s c = record {
  same = λ i h. c.same i (live_to v s i h);
  onto = λ j there. ⊎_elim (λ found. inl (found.0, live_from v s found.0 found.1, found.2)) (λ added. inr added) (c.onto j there);
}

module _ (names : Space → ℕ → Option ℕ) (plan : Plan) (numbered : AreNumbered names plan) (v n : Abstract) (is_plan : IsPlan v plan) (r : Renaming) (by_names : (s : Space) (i : ℕ) → r.numbers s i ≡ numbers_by names s i) where
  agrees : (s : Space) (p k : ℕ) → place_in (plan s) p ≡ Some k → r.numbers s p ≡ k
  agrees s p k e = by_names s p ∙ ap (λ (o : Option ℕ). unwrap_or o 0) (numbered s p ∙ e)

  pub planned_apart : (s : Space) → KeepsApart (In (IsLive v) s) (r.numbers s)
  planned_apart s i j a b e = apart_in_order (look v s) (plan s) (is_plan.holds s) (r.numbers s) (agrees s) i j (live_to v s i a) (live_to v s j b) e

  pub planned_rises : (s : Space) (i j : ℕ) → IsLive v (s, i) → IsLive v (s, j) → ByImport v s i j → r.numbers s i < r.numbers s j
  planned_rises s i j a b = rises_in_order (look v s) (plan s) (is_plan.holds s) (r.numbers s) (agrees s) (ByImport v s) (by_import_one_way v s) (is_plan.sorted s) i j (live_to v s i a) (live_to v s j b)

  pub planned_carries : (Added : Item → Type 0) (s : Space) → IsWrittenAlong r v n plan s → Carries (In (IsLive v) s) (In Added s) (r.numbers s) (SameThing r s) (look v s) (look n s)
  planned_carries Added s w =
      subst (λ (ys : ℕ → Option (Thing s)). Carries (In (IsLive v) s) (In Added s) (r.numbers s) (SameThing r s) (look v s) ys) (sym (fun_ext w.reads))
      (all_live v s (carries_in_order (look v s) (plan s) (is_plan.holds s) (r.numbers s) (agrees s) (SameThing r s) w.written w.stand (In Added s)))

-- ---- imported ones, and behind them the others

module _ (v : Abstract) (s : Space) where
  two_origins : (x : Thing s) (y : Thing s) (k : ℕ) (o : Option Origin) → origin_in s x ≡ o → (o ≡ Some (ImportedBy k) → ⊥) → x ≡ y → origin_in s y ≡ Some (ImportedBy k) → ⊥
  two_origins x y k o e not same at = not (sym e ∙ ap (origin_in s) same ∙ at)

  own_by : (p : ℕ) (x : Thing s) (o : Option Origin) → look v s p ≡ Some x → origin_in s x ≡ o → ((k : ℕ) → o ≡ Some (ImportedBy k) → ⊥) → IsOwnIn v s p
  own_by p x o at e not = (is_some_by (look v s p) x at, λ named. two_origins x named.0 named.2.0 o e (not named.2.0) (some_inj x named.0 (sym at ∙ named.1)) named.2.1)

  one_origin : (p : ℕ) (x : Thing s) (o : Option Origin) → look v s p ≡ Some x → origin_in s x ≡ o → IsImportedIn v s p ⊎ IsOwnIn v s p
  one_origin p x (Some (ImportedBy k)) at e = inl (x, at, (k, e))
  one_origin p x (Some Defined) at e = inr (own_by p x (Some Defined) at e (λ k f. cc))
  one_origin p x None at e = inr (own_by p x None at e (λ k f. cc))

  pub imported_first : (xs ys : List ℕ) → ListsEach (IsImportedIn v s) xs → ListsEach (IsOwnIn v s) ys → Ordered (look v s) (xs ++ ys)
  imported_first xs ys a b =
      lists_both (IsImportedIn v s) (IsOwnIn v s) (λ p. IsSome (look v s p))
      (λ p h g. g.1 h)
      (λ p live. let x = some_of (look v s p) live in one_origin p x.0 (origin_in s x.0) x.1 refl)
      (λ p h. is_some_by (look v s p) h.0 h.1)
      (λ p g. g.0)
      xs ys a b
