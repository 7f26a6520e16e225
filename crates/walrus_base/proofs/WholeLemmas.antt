-- Groups stay whole where groups are added and deleted.
use Rattle.std.proofs.Common.{◌≡◌, ℕ, zero, suc, ◌+◌, ◌-◌, ◌<◌, ◌==◌, Bool, true, false, List, [], ◌∷◌, ◌++◌, length, map, set, Option, Some, None, option_map, IsTrue, refl, sym, ap, ◌∙◌, arith, add-zero, eq-eqb, eqb-true, ⊎_elim, subst}
use Rattle.std.proofs.lemmas.List.{get_or-set_other}
use Rattle.std.specs.List.{range_with_len}
use Rattle.walrus_base.specs.Arena.{item_at, kept_by}
use Rattle.walrus_base.proofs.Kept.{kept_was, kept_marked, kept_there}
use Rattle.walrus_base.specs.PlaceList.{has}
use Rattle.walrus_base.specs.TypeDef.{TypeDef, places_between}
use Rattle.walrus_base.specs.TypeSlots.{new_group, cleared, group_at, group_of, last_of}
use Rattle.walrus_base.specs.Whole.{AreWhole, KeepsGroups}
use Rattle.walrus_base.specs.declared.composite.NewType.{NewType}
use Rattle.walrus_base.proofs.Indexed.{member_group, some_same}
use Rattle.walrus_base.proofs.Noted.{or_cases}
use Rattle.walrus_base.proofs.NewGroups.{member_def, item_at-behind, item_at-mapped, has_item}
use Rattle.walrus_base.proofs.ShapesKept.{made_of, item_at-front}
use Rattle.walrus_base.proofs.SlotLemmas.{item_at-append, item_at-cleared}
use Rattle.std.proofs.lemmas.Bool.{or_left, or_right, or_parts as neither}

-- ---- a row of numbers

pub has-range : (a n k : ℕ) → k < n → has (range_with_len a n) (a + k) ≡ true
has-range a zero k lt = absurd (omega arith)
has-range a (suc n) zero lt = or_left (a == a + 0) (has (range_with_len (a + 1) n) (a + 0)) (eq-eqb a (a + 0) (sym (add-zero a)))
has-range a (suc n) (suc k) lt =
    let e : a + suc k ≡ (a + 1) + k = omega arith in
    or_right (a == a + suc k) (has (range_with_len (a + 1) n) (a + suc k)) (ap (has (range_with_len (a + 1) n)) e ∙ has-range (a + 1) n k (omega arith))

range-has : (a n p : ℕ) → has (range_with_len a n) p ≡ true → (j : ℕ) × (j < n) × (p ≡ a + j)
range-has a zero p h = absurd cc
range-has a (suc n) p h =
    ⊎_elim
    (λ here. (0, omega arith, sym (eqb-true a p here) ∙ sym (add-zero a)))
    (λ later. let r = range-has (a + 1) n p later in (suc r.0, (let lt : r.0 < n = r.1 in omega (arith, lt)), (let e : p ≡ (a + 1) + r.0 = r.2 in omega (arith, e))))
    (or_cases (a == p) (has (range_with_len (a + 1) n) p) h)

-- ---- emptied places

pub none_from : {T : Type 0} (o : Option T) → ((x : T) → o ≡ Some x → ⊥) → o ≡ None
none_from None h = refl
none_from (Some x) h = absurd (h x refl)

pub none_some : {T : Type 0} (o : Option T) (x : T) → o ≡ None → o ≡ Some x → ⊥
none_some o x p q = cc

set_none : {T : Type 0} (xs : List (Option T)) (p : ℕ) → item_at (set xs p None) p ≡ None
set_none [] p = refl
set_none (x ∷ xs) zero = refl
set_none (x ∷ xs) (suc p) = set_none xs p

set_other : {T : Type 0} (xs : List (Option T)) (q p : ℕ) → (q == p) ≡ false → item_at (set xs q None) p ≡ item_at xs p
set_other xs q p apart = get_or-set_other xs q p None None (λ e. let t : (q == p) ≡ true = eq-eqb q p (sym e) in absurd cc)

cleared-has : {T : Type 0} (ps : List ℕ) (xs : List (Option T)) (p : ℕ) → has ps p ≡ true → item_at (cleared ps xs) p ≡ None
cleared-has [] xs p h = absurd cc
cleared-has (q ∷ ps) xs p h =
    ⊎_elim
    (λ here. none_from (item_at (cleared ps (set xs q None)) p) (λ x e.
    none_some (item_at (set xs q None) p) x (ap (λ n. item_at (set xs n None) p) (eqb-true q p here) ∙ set_none xs p) (item_at-cleared ps (set xs q None) p x e)))
    (λ later. cleared-has ps (set xs q None) p later)
    (or_cases (q == p) (has ps p) h)

cleared-other : {T : Type 0} (ps : List ℕ) (xs : List (Option T)) (p : ℕ) → has ps p ≡ false → item_at (cleared ps xs) p ≡ item_at xs p
cleared-other [] xs p h = refl
cleared-other (q ∷ ps) xs p h =
    let out = neither (q == p) (has ps p) h in
    cleared-other ps (set xs q None) p out.1 ∙ set_other xs q p out.0

-- ---- groups

bound : (f : NewType → TypeDef) (ms : List NewType) (k : ℕ) (x : TypeDef) → item_at (map (λ m. Some (f m)) ms) k ≡ Some x → k < length ms
bound f [] k x e = absurd cc
bound f (m ∷ ms) zero x e = omega arith
bound f (m ∷ ms) (suc k) x e = let lt : k < length ms = bound f ms k x e in omega (arith, lt)

owned : (slots : List (Option TypeDef)) (ms : List NewType) → AreWhole slots → (t : ℕ) (x : TypeDef) → item_at (slots ++ new_group (length slots) ms) t ≡ Some x → IsTrue (has x.group t)
owned slots ms old t x e =
    let row = range_with_len (length slots) (length ms) in
    ⊎_elim
    (λ before. old.own t x before)
    (λ new. ap (λ g. has g t) (member_group row ms new.0 x new.2) ∙ ap (has row) new.1 ∙ has-range (length slots) (length ms) new.0 (bound (member_def row) ms new.0 x new.2))
    (item_at-append slots (new_group (length slots) ms) t x e)

all_there : (slots : List (Option TypeDef)) (ms : List NewType) → AreWhole slots → (t : ℕ) (x : TypeDef) → item_at (slots ++ new_group (length slots) ms) t ≡ Some x
    → (p : ℕ) → IsTrue (has x.group p) → option_map (λ y. y.group) (item_at (slots ++ new_group (length slots) ms) p) ≡ Some x.group
all_there slots ms old t x e p h =
    let first = length slots in
    let row = range_with_len first (length ms) in
    let new_slots = slots ++ new_group first ms in
    ⊎_elim
    (λ before.
    let made = made_of (λ (y : TypeDef). y.group) (item_at slots p) x.group (old.members t x before p h) in
    ap (option_map (λ (y : TypeDef). y.group)) (item_at-front slots (new_group first ms) p made.0 made.1) ∙ ap Some made.2)
    (λ new.
    let same : x.group ≡ row = member_group row ms new.0 x new.2 in
    let at = range-has first (length ms) p (ap (λ g. has g p) (sym same) ∙ h) in
    let item = has_item ms at.0 at.1 in
    ap (λ n. option_map (λ (y : TypeDef). y.group) (item_at new_slots n)) at.2
    ∙ ap (option_map (λ (y : TypeDef). y.group)) (item_at-behind slots (new_group first ms) at.0 ∙ item_at-mapped (member_def row) ms at.0 item.0 item.1)
    ∙ ap Some (sym same))
    (item_at-append slots (new_group first ms) t x e)

pub whole-append : (slots : List (Option TypeDef)) (ms : List NewType) → AreWhole slots → AreWhole (slots ++ new_group (length slots) ms)
whole-append slots ms old = record { own = owned slots ms old; members = all_there slots ms old }

still_there : (slots : List (Option TypeDef)) (t0 : ℕ) (x0 : TypeDef) → item_at slots t0 ≡ Some x0 → AreWhole slots → (t : ℕ) (x : TypeDef) → item_at (cleared x0.group slots) t ≡ Some x
    → (p : ℕ) → IsTrue (has x.group p) → (test : Bool) → has x0.group p ≡ test → option_map (λ y. y.group) (item_at (cleared x0.group slots) p) ≡ Some x.group
still_there slots t0 x0 e0 old t x e p h true out =
    let before = item_at-cleared x0.group slots t x e in
    let groups : x.group ≡ x0.group = some_same x.group x0.group (sym (old.members t x before p h) ∙ old.members t0 x0 e0 p out) in
    absurd (none_some (item_at (cleared x0.group slots) t) x (cleared-has x0.group slots t (ap (λ g. has g t) (sym groups) ∙ old.own t x before)) e)
still_there slots t0 x0 e0 old t x e p h false out =
    ap (option_map (λ (y : TypeDef). y.group)) (cleared-other x0.group slots p out) ∙ old.members t x (item_at-cleared x0.group slots t x e) p h

pub whole-cleared : (slots : List (Option TypeDef)) (t : ℕ) (x : TypeDef) → item_at slots t ≡ Some x → AreWhole slots → AreWhole (cleared x.group slots)
whole-cleared slots t0 x0 e0 old = record {
  own = λ t x e. old.own t x (item_at-cleared x0.group slots t x e);
  members = λ t x e p h. still_there slots t0 x0 e0 old t x e p h (has x0.group p) refl;
}

pub whole-same : (old new : List (Option TypeDef)) → new ≡ old → AreWhole old → AreWhole new
whole-same old new same whole = subst AreWhole (sym same) whole

-- marked places are kept, and with each type its group
pub whole-kept : (keeps : ℕ → Bool) (slots : List (Option TypeDef)) → AreWhole slots → KeepsGroups keeps slots → AreWhole (kept_by keeps slots)
whole-kept keeps slots old closed = record {
  own = λ t x e. old.own t x (kept_was keeps slots t x e);
  members = λ t x e p h.
      let was = kept_was keeps slots t x e in
      ap (option_map (λ (y : TypeDef). y.group)) (kept_there keeps slots p (closed t x was (kept_marked keeps slots t x e) p h)) ∙ old.members t x was p h;
}

-- ---- the last member of a group

pub last_row : (a n other : ℕ) → last_of (range_with_len a (suc n)) other ≡ a + n
last_row a zero other = sym (add-zero a)
last_row a (suc n) other = last_row (a + 1) n a ∙ omega arith

module _ (slots : List (Option TypeDef)) (whole : AreWhole slots) (t first end : ℕ) (x : TypeDef) (at : item_at slots t ≡ Some x) (is : x.group ≡ places_between first end) where
  -- a group isn't empty
  pub not_empty : first < end
  not_empty =
      let inside = range-has first (end - first) t (ap (λ g. has g t) (sym is) ∙ whole.own t x at) in
      let lt : inside.0 < end - first = inside.1 in
      omega (arith, lt)

  pub last_between : (other : ℕ) → last_of (group_at slots t) other ≡ end - 1
  last_between other =
      let lt : first < end = not_empty in
      let count : end - first ≡ suc (end - first - 1) = omega (arith, lt) in
      ap (λ o. last_of (group_of o) other) at ∙ ap (λ g. last_of g other) (is ∙ ap (λ n. range_with_len first n) count)
      ∙ last_row first (end - first - 1) other ∙ omega (arith, lt)
