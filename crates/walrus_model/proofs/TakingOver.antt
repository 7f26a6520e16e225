-- Where each thing of a module that was taken over comes from, and where each chosen one goes.
use Rattle.std.proofs.Common.{◌≡◌, ℕ, Bool, true, List, [], ◌∷◌, map, refl, sym, ap, ◌∙◌, subst, inl, inr, ⊎_elim}
use Rattle.std.specs.Prelude.{Option, Some, None, IsSome, Contains, ◌⊎◌}
use Rattle.walrus_base.specs.Operators.{Space, Types, Elements, Item}
use Rattle.walrus_model.specs.Abstract.{Abstract}
use Rattle.walrus_model.specs.Carried.{Carries}
use Rattle.walrus_model.specs.Live.{IsLive}
use Rattle.walrus_model.specs.Refers.{named_by}
use Rattle.walrus_model.specs.Renaming.{Renaming, renamed}
use Rattle.walrus_model.specs.Same.{BothAnd}
use Rattle.walrus_model.specs.Spaces.{Thing, look, names_in_thing, SameThing}
use Rattle.walrus_model.specs.RulesCarried.{TakenOver}
use Rattle.walrus_model.proofs.Spaces.{written_in_look, carried_items}
use Rattle.walrus_model.proofs.Steps.{live_under}
use Rattle.walrus_base.proofs.Lists.{Contains-head, Contains-tail, Contains-uncons, Contains-none}

pub Contains-map_back : {A B : Type 0} (f : A → B) (xs : List A) (y : B) → Contains (map f xs) y → (x : A) × Contains xs x × (f x ≡ y)
Contains-map_back f [] y h = absurd (Contains-none y h)
Contains-map_back {A} f (z ∷ zs) y h = ⊎_elim
    (λ (e : f z ≡ y). (z, Contains-head z zs, e))
    (λ (t : Contains (map f zs) y). let q : (x : A) × Contains zs x × (f x ≡ y) = Contains-map_back f zs y t in (q.0, Contains-tail z q.0 zs q.1, q.2))
    (Contains-uncons (f z) y (map f zs) h)

pub is_some_by : {A : Type 0} (o : Option A) (x : A) → o ≡ Some x → IsSome o
is_some_by {A} o x e = subst (λ (p : Option A). IsSome p) (sym e) (refl {A = Bool} {a = true})

both_second : {X : Type 0} (S : X → X → Type 0) (a b : Option X) (y : X) → b ≡ Some y → BothAnd S a b → (x : X) × (a ≡ Some x) × S x y
both_second S (Some x) (Some z) y e s = (x, refl, (let p : z ≡ y = cc in subst (S x) p s))
both_second S (Some x) None y e s = absurd s
both_second S None b y e s = absurd s

both_first : {X : Type 0} (S : X → X → Type 0) (a b : Option X) (x : X) → a ≡ Some x → BothAnd S a b → (y : X) × (b ≡ Some y) × S x y
both_first S (Some z) (Some y) x e s = (y, refl, (let p : z ≡ x = cc in subst (λ w. S w y) p s))
both_first S (Some z) None x e s = absurd s
both_first S None b x e s = absurd (cc)

-- thing j of the new module, y, and the one that it was
pub record Came (K : Item → Type 0) (r : Renaming) (m : Abstract) (s : Space) (j : ℕ) (y : Thing s) : Type 0 where
  pub from : ℕ
  pub chosen : K (s, from)
  pub number : r.numbers s from ≡ j
  pub thing : Thing s
  pub is : look m s from ≡ Some thing
  pub same : SameThing r s from thing y

-- the same where its old number is known
pub record Was (r : Renaming) (m : Abstract) (s : Space) (i : ℕ) (y : Thing s) : Type 0 where
  pub thing : Thing s
  pub is : look m s i ≡ Some thing
  pub same : SameThing r s i thing y

-- one that is chosen, x, and what it is in the new module
pub record Went (r : Renaming) (n : Abstract) (s : Space) (i : ℕ) (x : Thing s) : Type 0 where
  pub thing : Thing s
  pub is : look n s (r.numbers s i) ≡ Some thing
  pub same : SameThing r s i x thing

module _ {K Added : Item → Type 0} {Before After : Space → ℕ → ℕ → Type 0} {r : Renaming} {m n : Abstract} (c : TakenOver K Added Before After r m n) where
  carries : (s : Space) → Carries (λ i. K (s, i)) (λ j. Added (s, j)) (r.numbers s) (SameThing r s) (look m s) (look n s)
  carries s = carried_items K Added r m n c.carried s

  -- where the old number is known
  pub was_at : (s : Space) (j : ℕ) (y : Thing s) (i : ℕ) → K (s, i) → r.numbers s i ≡ j → look n s j ≡ Some y → Was r m s i y
  was_at s j y i k e at =
      let q = both_second (SameThing r s i) (look m s i) (look n s (r.numbers s i)) y (ap (look n s) e ∙ at) ((carries s).same i k) in
      record { thing = q.0; is = q.1; same = q.2 }

  came_by : (s : Space) (j : ℕ) (y : Thing s) (i : ℕ) → K (s, i) → r.numbers s i ≡ j → look n s j ≡ Some y → Came K r m s j y
  came_by s j y i k e at = let w = was_at s j y i k e at in record { from = i; chosen = k; number = e; thing = w.thing; is = w.is; same = w.same }

  pub came_or : (s : Space) (j : ℕ) (y : Thing s) → look n s j ≡ Some y → Came K r m s j y ⊎ Added (s, j)
  came_or s j y at = ⊎_elim (λ found. inl (came_by s j y found.0 found.1 found.2 at)) (λ added. inr added) ((carries s).onto j (is_some_by (look n s j) y at))

  -- in a space where nothing is added
  pub came : (s : Space) (no_type : s ≡ Types → ⊥) (no_segment : s ≡ Elements → ⊥) (j : ℕ) (y : Thing s) → look n s j ≡ Some y → Came K r m s j y
  came s no_type no_segment j y at = ⊎_elim (λ found. found) (λ added. ⊎_elim (λ e. absurd (no_type e)) (λ e. absurd (no_segment e)) (c.kinds s j added)) (came_or s j y at)

  pub went : (s : Space) (i : ℕ) (x : Thing s) → K (s, i) → look m s i ≡ Some x → Went r n s i x
  went s i x k at = let q = both_first (SameThing r s i) (look m s i) (look n s (r.numbers s i)) x at ((carries s).same i k) in record { thing = q.0; is = q.1; same = q.2 }

  -- what a chosen thing names is chosen
  pub names_chosen : (s : Space) (i : ℕ) (x : Thing s) (y : Item) → K (s, i) → look m s i ≡ Some x → Contains (names_in_thing s x) y → K y
  names_chosen s i x y k at h = c.named (s, i) y k (subst (λ (l : List Item). Contains l y) (sym (written_in_look m s i)) (subst (λ (o : Option (Thing s)). Contains (named_by (names_in_thing s) o) y) (sym at) h))

  pub live_after : (x : Item) → K x → IsLive n (renamed r x)
  live_after x k = live_under K Added r m n c.carried x.0 x.1 k
