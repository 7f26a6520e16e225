-- The members of a new group have its shape.
use Rattle.std.proofs.Common.{◌≡◌, ℕ, zero, suc, ◌+◌, ◌<◌, ◌==◌, Bool, true, false, List, [], ◌∷◌, ◌++◌, length, map, slice_get, Option, Some, None, option_map, refl, sym, ap, ap₂, ◌∙◌, arith, add-zero, eq-eqb, eqb-true}
use Rattle.std.specs.Prelude.{if◌then◌else◌}
use Rattle.std.proofs.lemmas.List.{get_or-append-add}
use Rattle.std.specs.List.{range_with_len}
use Rattle.walrus_base.specs.Arena.{item_at}
use Rattle.walrus_base.specs.Types.{map_sub}
use Rattle.walrus_base.specs.Composite.{new_sub}
use Rattle.walrus_base.specs.Shape.{place_in, seen_from, in_its_group, Types}
use Rattle.walrus_base.specs.ShapeLaws.{group_subs, GroupHasShape}
use Rattle.walrus_base.specs.TypeDef.{TypeDef}
use Rattle.walrus_base.specs.TypeSlots.{new_group}
use Rattle.walrus_base.specs.declared.composite.NewType.{NewType}
use Rattle.walrus_base.proofs.ShapesKept.{shapes_kept, item_at-front}

-- a member of a group
abbrev pub member_def : List ℕ → NewType → TypeDef
member_def group member = record { group = group; sub = new_sub member }

along : (types : Types) (group : List ℕ) (a : ℕ) (ms : List NewType) → ((k : ℕ) (m : NewType) → slice_get ms k ≡ Some m → types (a + k) ≡ Some (member_def group m))
    → map (λ t. option_map in_its_group (types t)) (range_with_len a (length ms)) ≡ map Some (map (λ m. map_sub (seen_from group) (new_sub m)) ms)
along types group a [] at = refl
along types group a (m ∷ ms) at =
    ap₂ ◌∷◌ (ap (λ t. option_map in_its_group (types t)) (sym (add-zero a)) ∙ ap (option_map in_its_group) (at 0 m refl))
    (along types group (a + 1) ms (λ k n h. let e : (a + 1) + k ≡ a + suc k = omega arith in ap types e ∙ at (suc k) n h))

-- the position of a number in a row of numbers
place_next : (b : Bool) (o : Option ℕ) (k : ℕ) → b ≡ false → o ≡ Some k → (if b then Some 0 else option_map suc o) ≡ Some (suc k)
place_next true o k p h = absurd cc
place_next false o k p h = ap (option_map suc) h

place_first : (b : Bool) (o : Option ℕ) → b ≡ true → (if b then Some 0 else option_map suc o) ≡ Some 0
place_first true o p = refl
place_first false o p = absurd cc

not_equal : (b : Bool) (x y : ℕ) → (x == y) ≡ b → (x ≡ y → ⊥) → b ≡ false
not_equal true x y e apart = absurd (apart (eqb-true x y e))
not_equal false x y e apart = refl

place-range : (a n k : ℕ) → k < n → place_in (range_with_len a n) (a + k) ≡ Some k
place-range a zero k lt = absurd (omega arith)
place-range a (suc n) zero lt = place_first (a == a + 0) (place_in (range_with_len (a + 1) n) (a + 0)) (eq-eqb a (a + 0) (sym (add-zero a)))
place-range a (suc n) (suc k) lt =
    let e : a + suc k ≡ (a + 1) + k = omega arith in
    place_next (a == a + suc k) (place_in (range_with_len (a + 1) n) (a + suc k)) k (not_equal (a == a + suc k) a (a + suc k) refl (λ h. let f : a ≡ a + suc k = h in omega arith))
    (ap (place_in (range_with_len (a + 1) n)) e ∙ place-range (a + 1) n k (omega arith))

-- the items behind
pub item_at-behind : {T : Type 0} (slots more : List (Option T)) (k : ℕ) → item_at (slots ++ more) (length slots + k) ≡ item_at more k
item_at-behind slots more k = get_or-append-add slots more k None

pub item_at-mapped : {X T : Type 0} (f : X → T) (xs : List X) (k : ℕ) (x : X) → slice_get xs k ≡ Some x → item_at (map (λ y. Some (f y)) xs) k ≡ Some (f x)
item_at-mapped f [] k x h = absurd cc
item_at-mapped {X} {T} f (y ∷ ys) zero x h = let e : y ≡ x = cc in ap (λ z. Some (f z)) e
item_at-mapped f (y ∷ ys) (suc k) x h = item_at-mapped f ys k x h

pub has_item : {X : Type 0} (xs : List X) (k : ℕ) → k < length xs → (x : X) × (slice_get xs k ≡ Some x)
has_item [] k lt = absurd (omega arith)
has_item (x ∷ xs) zero lt = (x, refl)
has_item (x ∷ xs) (suc k) lt = has_item xs k (omega arith)

pub new_groups : GroupHasShape
new_groups slots members filling have k lt =
    let first = length slots in
    let group = range_with_len first (length members) in
    let new = slots ++ new_group first members in
    let there : (j : ℕ) (m : NewType) → slice_get members j ≡ Some m → item_at new (first + j) ≡ Some (member_def group m) =
    λ j m h. item_at-behind slots (new_group first members) j ∙ item_at-mapped (member_def group) members j m h in
    let found = has_item members k lt in (
      member_def group found.0,
      there k found.0 found.1,
      place-range first (length members) k lt,
      group_subs first members,
      along (item_at new) group first members there,
      refl,
      shapes_kept (item_at slots) (item_at new) (item_at-front slots (new_group first members)) filling _ have,
    )
