-- Tests of the items of a module, and what they tell.
use Rattle.std.proofs.Common.{◌≡◌, ◌⊎◌, inl, inr, ℕ, ◌<◌, ◌≤◌, Bool, true, false, List, ◌∷◌, Some, refl, sym, ◌∙◌, subst, arith, ◌↔◌}
use Rattle.std.specs.Prelude.{All, Contains, Option, nat_le, slice_index_or}
use Rattle.std.specs.Bool.{Decides}
use Rattle.std.specs.List.{list_all}
use Rattle.std.proofs.Math.Dec.{leb}
use Rattle.std.proofs.lemmas.Bool.{false≢true}
use Rattle.std.proofs.lemmas.Bool.Decides.{Decides-by_and, leb_tells}
use Rattle.std.proofs.lemmas.List.Elements.{All-cons, All-contains, All-contains_itself, All-tail}
use Rattle.walrus_base.specs.Arena.{entries, item_at, items}
use Rattle.walrus_model.proofs.Slots.{entry_in, item_seen}
use Rattle.walrus_base.proofs.Lists.{Contains-map}

pub leb_decides : (a b : ℕ) → Decides (nat_le a b) (a ≤ b)
leb_decides a b = by (leb_tells a b)
  where
    by : ((leb a b ≡ true) × (a ≤ b)) ⊎ ((leb a b ≡ false) × (b < a)) → Decides (leb a b) (a ≤ b)
    by (inl h) = (λ e. h.1, λ l. h.0)
    by (inr h) = (λ e. absurd (false≢true (sym h.0 ∙ e)), λ l. absurd (omega (arith, h.1, l)))

-- the same fact in other words
pub decides_by : {P Q : Type 0} → (P → Q) → (Q → P) → (b : Bool) → Decides b P → Decides b Q
decides_by to back b d = (λ e. to (d.0 e), λ q. d.1 (back q))

-- a test that failed, without which nothing holds
pub refused : {P : Type 0} (a t : Bool) → a ≡ t → a ≡ false → (P → t ≡ true) → Decides false P
refused a t is failed law = (λ e. absurd (false≢true e), λ h. absurd (false≢true (sym failed ∙ is ∙ law h)))

-- the last of several tests
pub told_last : {P : Type 0} (a t : Bool) → a ≡ t → (t ≡ true → P) → (P → t ≡ true) → Decides a P
told_last a t is holds law = (λ e. holds (sym is ∙ e), λ h. is ∙ law h)

-- all of a list, where each is
pub all_so : {X : Type 0} (P : X → Type 0) (xs : List X) → ((x : X) → Contains xs x → P x) → All P xs
all_so P xs h k d lt = h (slice_index_or xs k d) (All-contains_itself xs k d lt)

-- a step past one of which it holds
pub all_goes : {X : Type 0} (P : X → Type 0) (all left after : List X) (x : X) → left ≡ x ∷ after → P x → (All P all ↔ All P left) → (All P all ↔ All P after)
all_goes P all left after x steps holds tells = (
  λ h. All-tail P x after (subst (All P) steps (tells.0 h)),
  λ h. tells.1 (subst (All P) (sym steps) (All-cons P x after holds h)),
)

-- ---- a test of each item

module _ {A : Type 0} (p : A → Bool) (P : A → Type 0) (decides : (x : A) → Decides (p x) (P x)) where
  pub all_decide : (xs : List A) → Decides (list_all p xs) (All P xs)
  all_decide xs = Decides-by_and p P (list_all p) decides refl (λ y ys. refl) xs

  module _ (slots : List (Option A)) where
    pub passed : list_all p (items slots) ≡ true → (i : ℕ) (x : A) → item_at slots i ≡ Some x → P x
    passed h i x at = All-contains P (items slots) x ((all_decide (items slots)).0 h) (Contains-map (λ (e : ℕ × A). e.1) (i, x) (entries slots) (entry_in slots i x at))

    pub passes : ((i : ℕ) (x : A) → item_at slots i ≡ Some x → P x) → list_all p (items slots) ≡ true
    passes law = (all_decide (items slots)).1 (all_so P (items slots) (λ x c. let i = item_seen slots x c in law i.0 x i.1))
