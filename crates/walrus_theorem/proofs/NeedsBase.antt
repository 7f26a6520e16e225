-- Small modules: what is written of them, their indices, and their order.
use Rattle.std.proofs.Common.{◌≡◌, true, false, ℕ, zero, suc, ◌<◌, List, [], ◌∷◌, refl, sym, ◌∙◌, subst, arith, inl, ap}
use Rattle.std.specs.Prelude.{Option, Some, None, IsSome, Bool, slice_get, if◌then◌else◌}
use Rattle.std.proofs.lemmas.Bool.{false_from_ne_true}
use Rattle.walrus_base.specs.Operators as items
use Rattle.walrus_base.specs.Operators.{Space, Types, Functions, Tables, Memories, Globals, Elements, DataSegments, Item}
use Rattle.walrus_model.specs.Abstract.{Abstract, Indices, Name}
use Rattle.walrus_model.specs.Carried.{Carries}
use Rattle.walrus_model.specs.Customs.{AreIndices}
use Rattle.walrus_model.specs.Declared.{Declares, IsUndeclared}
use Rattle.walrus_model.specs.Kept.{IsImportOf}
use Rattle.walrus_model.specs.Live.{IsLive}
use Rattle.walrus_model.specs.Order.{Rises, ByImport}
use Rattle.walrus_model.specs.Renaming.{Renaming}
use Rattle.walrus_model.specs.Same.{BothAnd}
use Rattle.walrus_theorem.specs.Namings.{has}
use Rattle.walrus_base.proofs.Lists.{Contains-none}

pub no_item : (i : ℕ) → false ≡ true → ⊥
no_item i h = cc

pub one_item : {X : Type 0} (x : X) (i : ℕ) → IsSome (slice_get (x ∷ []) i) → i ≡ 0
one_item x zero h = refl
one_item x (suc i) h = absurd (no_item i h)

pub none_carried : {X : Type 0} (K A : ℕ → Type 0) (r : ℕ → ℕ) (S : ℕ → X → X → Type 0) (xs ys : ℕ → Option X) → ((i : ℕ) → K i → ⊥) → ((j : ℕ) → IsSome (ys j) → ⊥) → Carries K A r S xs ys
none_carried K A r S xs ys none nothing = record { same = λ i k. absurd (none i k); onto = λ j h. absurd (nothing j h) }

pub one_carried : {X : Type 0} (A : ℕ → Type 0) (r : ℕ → ℕ) (S : ℕ → X → X → Type 0) (x y : X) → r 0 ≡ 0 → S 0 x y → Carries (λ i. IsSome (slice_get (x ∷ []) i)) A r S (slice_get (x ∷ [])) (slice_get (y ∷ []))
one_carried A r S x y e s = record {
  same = λ i k. subst (λ i. BothAnd (S i) (slice_get (x ∷ []) i) (slice_get (y ∷ []) (r i))) (sym (one_item x i k)) (subst (λ j. BothAnd (S 0) (Some x) (slice_get (y ∷ []) j)) (sym e) s);
  onto = λ j h. inl (0, refl, e ∙ sym (one_item y j h));
}

pub given : Abstract → Renaming → Indices
given v r x = if has v x then Some (r.numbers x.0 x.1) else None

pub has_live : (v : Abstract) (x : Item) → IsLive v x → has v x ≡ true
has_live v (Types, i) h = h
has_live v (Functions, i) h = h
has_live v (Tables, i) h = h
has_live v (Memories, i) h = h
has_live v (items.Tags, i) h = h
has_live v (Globals, i) h = h
has_live v (Elements, i) h = h
has_live v (DataSegments, i) h = h

pub live_has : (v : Abstract) (x : Item) → has v x ≡ true → IsLive v x
live_has v (Types, i) h = h
live_has v (Functions, i) h = h
live_has v (Tables, i) h = h
live_has v (Memories, i) h = h
live_has v (items.Tags, i) h = h
live_has v (Globals, i) h = h
live_has v (Elements, i) h = h
live_has v (DataSegments, i) h = h

pub are_given : (v : Abstract) (r : Renaming) → AreIndices v r (given v r)
unfolding given
are_given v r = record {
  live = λ x h. ap (λ (b : Bool). if b then Some (r.numbers x.0 x.1) else None) (has_live v x h);
  dead = λ x h. ap (λ (b : Bool). if b then Some (r.numbers x.0 x.1) else None) (false_from_ne_true (has v x) (λ e. h (live_has v x e)));
}

-- no space has more than one item, and none comes before itself
pub record IsSmall (v : Abstract) : Type 0 where
  pub single : (space : Space) (i : ℕ) → IsLive v (space, i) → i ≡ 0
  pub still : (space : Space) → ByImport v space 0 0 → ⊥
  pub no_import : (i : ℕ) → IsImportOf (IsLive v) v i → ⊥

pub small_rises : (v : Abstract) (r : Renaming) → IsSmall v → Rises (IsLive v) (ByImport v) r (IsImportOf (IsLive v) v)
small_rises v r small = record {
  items = λ space away i j li lj b. absurd (small.still space (subst (λ k. ByImport v space 0 k) (small.single space j lj) (subst (λ k. ByImport v space k j) (small.single space i li) b)));
  imports = λ i j li lj lt. absurd (small.no_import i li);
}

pub empty_if : (b : Bool) (names : List Name) → names ≡ [] → (if b then names else []) ≡ []
empty_if true names e = e
empty_if false names e = refl

-- nothing names a function by ref.func
abbrev pub NamesNone : Abstract → Type 0
NamesNone v = (f : ℕ) → IsUndeclared (IsLive v) v f → ⊥

pub declares_none : (v n : Abstract) (r : Renaming) → NamesNone v → Declares (IsLive v) r v n None
declares_none v n r none = record {
  functions = [];
  undeclared = record {
    rising = λ i j d less low. absurd (let l : j < 0 = low in omega (arith, l));
    are = λ f. ((λ at. absurd (Contains-none f at)), (λ u. absurd (none f u)));
  };
  declared = refl;
}

-- ---- no items at all

abbrev pub no_items : {X : Type 0} → (K A : ℕ → Type 0) (r : ℕ → ℕ) (S : ℕ → X → X → Type 0) → ((i : ℕ) → K i → ⊥) → Carries K A r S (slice_get []) (slice_get [])
no_items K A r S none = none_carried K A r S (slice_get []) (slice_get []) none no_item
