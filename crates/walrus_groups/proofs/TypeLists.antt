-- The types of a type section one behind another: where each stands, and how many they are.
use Rattle.std.proofs.Common.{inl, inr, ◌≡◌, ◌⊎◌, ⊎_elim, ℕ, zero, suc, ◌+◌, ◌<◌, ◌≤◌, List, [], ◌∷◌, ◌++◌, length, map, get_or, take, refl, sym, ap, ap₂, ◌∙◌, arith}
use Rattle.std.specs.Prelude.{Some, Contains, slice_get, flat_map, sum_by, option_map}
use Rattle.std.specs.List.{range_with_len}
use Rattle.std.proofs.lemmas.List.{length-append, length-map, map-append}
use Rattle.std.proofs.lemmas.List.FromFn.{length-range_with_len, get_or-range_with_len}
use Rattle.std.proofs.lemmas.List.Sums.{sum_by-cons}
use Rattle.wasm_entries.specs.Record.{Sub, Group}
use Rattle.walrus_base.specs.TypeDef.{TypeDef}
use Rattle.walrus_groups.specs.Groups.{sub_of, members_of, types_from}
use Rattle.walrus_base.proofs.Lookups.{mapped_some, got_map}

-- ---- how many

-- how many types groups have
abbrev pub count : List Group → ℕ
count gs = sum_by (λ g. length g) gs

pub count_more : (g : Group) (gs : List Group) → count (g ∷ gs) ≡ length g + count gs
count_more g gs = sum_by-cons (λ (g : Group). length g) g gs

pub types_count : (first : ℕ) (gs : List Group) → length (types_from first gs) ≡ count gs
types_count first [] = refl
types_count first (g ∷ gs) =
    length-append (members_of first g) (types_from (first + length g) gs)
    ∙ ap₂ ◌+◌ (length-map g _) (types_count (first + length g) gs)
    ∙ sym (count_more g gs)

subs_of_group : (first n : ℕ) (g : Group) → map (λ (x : TypeDef). x.sub) (map (λ s. record { group = range_with_len first n; sub = sub_of s }) g) ≡ map sub_of g
subs_of_group first n [] = refl
subs_of_group first n (s ∷ g) = ap (λ l. sub_of s ∷ l) (subs_of_group first n g)

-- the types themselves are those of the groups
pub types_subs : (first : ℕ) (gs : List Group) → map (λ (x : TypeDef). x.sub) (types_from first gs) ≡ map sub_of (flat_map (λ g. g) gs)
types_subs first [] = refl
types_subs first (g ∷ gs) =
    map-append (λ (x : TypeDef). x.sub) (members_of first g) (types_from (first + length g) gs)
    ∙ ap₂ ◌++◌ (subs_of_group first (length g) g) (types_subs (first + length g) gs)
    ∙ sym (map-append sub_of g (flat_map (λ g. g) gs))

-- ---- numbers one behind another

pub in_range : (a n k : ℕ) → k < n → Contains (range_with_len a n) (a + k)
in_range a n k lt = (k, omega (arith, lt, length-range_with_len a n), get_or-range_with_len a n k (a + k) lt)

-- ---- where a type stands

-- it is a member of one of the groups
pub record IsMember (first : ℕ) (gs : List Group) (i : ℕ) (x : TypeDef) : Type 0 where
  pub number : ℕ
  pub group : Group
  pub at : ℕ
  pub sub : Sub
  pub group_there : slice_get gs number ≡ Some group
  pub sub_there : slice_get group at ≡ Some sub
  pub index : i ≡ count (take number gs) + at
  pub group_is : x.group ≡ range_with_len (first + count (take number gs)) (length group)
  pub sub_is : x.sub ≡ sub_of sub

pub got_either : {A : Type 0} (xs ys : List A) (k : ℕ) (v : A) → slice_get (xs ++ ys) k ≡ Some v → (slice_get xs k ≡ Some v) ⊎ ((j : ℕ) × (k ≡ length xs + j) × (slice_get ys j ≡ Some v))
got_either [] ys k v e = inr (k, omega arith, e)
got_either (x ∷ xs) ys zero v e = inl e
got_either (x ∷ xs) ys (suc k) v e = later (got_either xs ys k v e)
  where
    later : (slice_get xs k ≡ Some v) ⊎ ((j : ℕ) × (k ≡ length xs + j) × (slice_get ys j ≡ Some v)) → (slice_get xs k ≡ Some v) ⊎ ((j : ℕ) × (suc k ≡ suc (length xs) + j) × (slice_get ys j ≡ Some v))
    later (inl h) = inl h
    later (inr h) = inr (h.0, omega (arith, h.1), h.2)

member_behind : (first : ℕ) (g : Group) (gs : List Group) (i j : ℕ) (x : TypeDef) → i ≡ length (members_of first g) + j → IsMember (first + length g) gs j x → IsMember first (g ∷ gs) i x
member_behind first g gs i j x is m =
    let more : count (g ∷ take m.number gs) ≡ length g + count (take m.number gs) = count_more g (take m.number gs) in
    let long : length (members_of first g) ≡ length g = length-map g _ in
    let start : first + length g + count (take m.number gs) ≡ first + count (g ∷ take m.number gs) = omega (arith, more) in
    record {
      number = suc m.number;
      group = m.group;
      at = m.at;
      sub = m.sub;
      group_there = m.group_there;
      sub_there = m.sub_there;
      index = omega (arith, is, more, long, m.index);
      group_is = m.group_is ∙ ap (λ (n : ℕ). range_with_len n (length m.group)) start;
      sub_is = m.sub_is;
    }

member_here : (first : ℕ) (g : Group) (gs : List Group) (i : ℕ) (x : TypeDef) → slice_get (members_of first g) i ≡ Some x → IsMember first (g ∷ gs) i x
member_here first g gs i x h =
    let m = mapped_some (λ s. record { group = range_with_len first (length g); sub = sub_of s }) (slice_get g i) x (sym (got_map (λ s. record { group = range_with_len first (length g); sub = sub_of s }) g i) ∙ h) in
    let start : first ≡ first + 0 = omega arith in
    record {
      number = 0;
      group = g;
      at = i;
      sub = m.0;
      group_there = refl;
      sub_there = m.1;
      index = omega arith;
      group_is = ap (λ (y : TypeDef). y.group) m.2 ∙ ap (λ (n : ℕ). range_with_len n (length g)) start;
      sub_is = ap (λ (y : TypeDef). y.sub) m.2;
    }

member_from : (first : ℕ) (gs : List Group) (i : ℕ) (x : TypeDef) → slice_get (types_from first gs) i ≡ Some x → IsMember first gs i x
member_from first [] i x e = cc
member_from first (g ∷ gs) i x e =
    ⊎_elim (member_here first g gs i x)
    (λ b. member_behind first g gs i b.0 x b.1 (member_from (first + length g) gs b.0 x b.2))
    (got_either (members_of first g) (types_from (first + length g) gs) i x e)

pub type_is_member : (gs : List Group) (i : ℕ) (x : TypeDef) → slice_get (types_from 0 gs) i ≡ Some x → IsMember 0 gs i x
type_is_member gs i x e = member_from 0 gs i x e

pub got_left : {A : Type 0} (xs ys : List A) (k : ℕ) (v : A) → slice_get xs k ≡ Some v → slice_get (xs ++ ys) k ≡ Some v
got_left [] ys k v e = cc
got_left (x ∷ xs) ys zero v e = e
got_left (x ∷ xs) ys (suc k) v e = got_left xs ys k v e

pub got_right : {A : Type 0} (xs ys : List A) (k n : ℕ) → n ≡ length xs + k → slice_get (xs ++ ys) n ≡ slice_get ys k
got_right [] ys k n e = ap (slice_get ys) (let p : n ≡ k = omega (arith, e) in p)
got_right (x ∷ xs) ys k zero e = absurd (omega (arith, e))
got_right (x ∷ xs) ys k (suc n) e = got_right xs ys k n (omega (arith, e))

-- the other way round: a member of a group has this index
pub member_there : (first : ℕ) (gs : List Group) (number : ℕ) (g : Group) (at : ℕ) (s : Sub) → slice_get gs number ≡ Some g → slice_get g at ≡ Some s
    → slice_get (types_from first gs) (count (take number gs) + at) ≡ Some (record { group = range_with_len (first + count (take number gs)) (length g); sub = sub_of s })
member_there first [] number g at s e h = absurd (cc)
member_there first (y ∷ gs) zero g at s e h =
    let same : y ≡ g = cc in
    let start : first ≡ first + 0 = omega arith in
    let place : 0 + at ≡ at = omega arith in
    let here : slice_get y at ≡ Some s = ap (λ l. slice_get l at) same ∙ h in
    ap (slice_get (types_from first (y ∷ gs))) place
    ∙ got_left (members_of first y) (types_from (first + length y) gs) at (record { group = range_with_len first (length y); sub = sub_of s })
    (got_map (λ s. record { group = range_with_len first (length y); sub = sub_of s }) y at ∙ ap (option_map (λ s. record { group = range_with_len first (length y); sub = sub_of s })) here)
    ∙ ap₂ (λ (n m : ℕ). Some (record { group = range_with_len n m; sub = sub_of s })) start (ap length same)
member_there first (y ∷ gs) (suc number) g at s e h =
    let more : count (y ∷ take number gs) ≡ length y + count (take number gs) = count_more y (take number gs) in
    let long : length (members_of first y) ≡ length y = length-map y _ in
    let start : first + length y + count (take number gs) ≡ first + count (y ∷ take number gs) = omega (arith, more) in
    got_right (members_of first y) (types_from (first + length y) gs) (count (take number gs) + at) (count (y ∷ take number gs) + at) (omega (arith, more, long))
    ∙ member_there (first + length y) gs number g at s e h
    ∙ ap (λ (n : ℕ). Some (record { group = range_with_len n (length g); sub = sub_of s })) start

-- a group ends before all the types do
pub group_fits : (gs : List Group) (number : ℕ) (g : Group) → slice_get gs number ≡ Some g → count (take number gs) + length g ≤ count gs
group_fits [] number g e = cc
group_fits (y ∷ gs) zero g e =
    let same : length y ≡ length g = ap length (let p : y ≡ g = cc in p) in
    omega (arith, same, count_more y gs)
group_fits (y ∷ gs) (suc number) g e =
    let fits = group_fits gs number g e in
    omega (arith, fits, count_more y gs, count_more y (take number gs))
