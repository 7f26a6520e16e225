-- Rows of what stands place by place, and what is added behind them, whatever it is.
use Rattle.std.proofs.Common.{◌≡◌, ℕ, zero, suc, ◌+◌, ◌<◌, ◌≤◌, List, [], ◌∷◌, ◌++◌, length, map, take, get_or, refl, sym, ap, subst, ◌∙◌, arith, append_assoc, append-nil, length-append}
use Rattle.std.specs.Prelude.{All, Option, Some}
use Rattle.std.proofs.lemmas.List.{take_more, take_all, map-append}
use Rattle.walrus_base.specs.Arena.{item_at}
use Rattle.walrus_base.proofs.Taking.{mapped_all}
use Rattle.walrus_reading.specs.Placed.{AddsPlaced, AllPlaced, InTurn}
use Rattle.walrus_reading.proofs.Becoming.{one_later}

-- ---- what stands

pub placed_length : {A B : Type 0} (R : ℕ → A → B → Type 0) (k : ℕ) (xs : List A) (ys : List B) → AllPlaced R k xs ys → length xs ≡ length ys
placed_length R k [] [] h = refl
placed_length R k [] (y ∷ ys) h = absurd h
placed_length R k (x ∷ xs) [] h = absurd h
placed_length R k (x ∷ xs) (y ∷ ys) h = ap suc (placed_length R (k + 1) xs ys h.1)

pub placed_append : {A B : Type 0} (R : ℕ → A → B → Type 0) (k next : ℕ) (xs : List A) (ys : List B) (us : List A) (vs : List B) → next ≡ k + length ys → AllPlaced R k xs ys → AllPlaced R next us vs → AllPlaced R k (xs ++ us) (ys ++ vs)
placed_append R k next [] [] us vs at h more = let e : next ≡ k = omega (arith, at) in subst (λ (n : ℕ). AllPlaced R n us vs) e more
placed_append R k next [] (y ∷ ys) us vs at h more = absurd h
placed_append R k next (x ∷ xs) [] us vs at h more = absurd h
placed_append R k next (x ∷ xs) (y ∷ ys) us vs at h more = (h.0, placed_append R (k + 1) next xs ys us vs (omega (arith, at)) h.1 more)

-- one more
pub placed_push : {A B : Type 0} (R : ℕ → A → B → Type 0) (xs : List A) (ys : List B) (x : A) (y : B) → AllPlaced R 0 xs ys → R (length ys) x y → AllPlaced R 0 (xs ++ x ∷ []) (ys ++ y ∷ [])
placed_push R xs ys x y h one = placed_append R 0 (length ys) xs ys (x ∷ []) (y ∷ []) (omega arith) h (one, tt)

pub nothing_more : (a : ℕ) → a ≡ a + 0
nothing_more a = omega arith

-- what is held at each place with the id of the place sits at its own id
pub placed_own : {A T : Type 0} (own : T → ℕ) (R : ℕ → A → Option T → Type 0) → ((n : ℕ) (a : A) (x : T) → R n a (Some x) → own x ≡ n) → (k : ℕ) (xs : List A) (slots : List (Option T)) → AllPlaced R k xs slots
    → (i : ℕ) (x : T) → item_at slots i ≡ Some x → own x ≡ k + i
placed_own own R give k [] [] h i x e = absurd cc
placed_own own R give k [] (s ∷ slots) h i x e = absurd h
placed_own own R give k (a ∷ xs) [] h i x e = absurd h
placed_own {A} {T} own R give k (a ∷ xs) (s ∷ slots) h zero x e = give k a x (subst (λ (o : Option T). R k a o) e h.0) ∙ nothing_more k
placed_own own R give k (a ∷ xs) (s ∷ slots) h (suc i) x e = placed_own own R give (k + 1) xs slots h.1 i x e ∙ one_later k i

pub map_twice : {X Y A : Type 0} (f : X → Y) (g : Y → A) (xs : List X) → map g (map f xs) ≡ map (λ x. g (f x)) xs
map_twice f g [] = refl
map_twice f g (x ∷ xs) = ap (λ l. g (f x) ∷ l) (map_twice f g xs)

-- what holds of all that entries say holds of one that is known by its place
pub seen_all : {X Y : Type 0} (P : Y → Type 0) (says : X → Y) (raw : List X) (i : ℕ) (x : X) → All P (map says raw) → i < length raw → x ≡ get_or raw i x → P (says x)
seen_all P says raw i x h lt is = subst (λ v. P (says v)) (sym is) (mapped_all P says raw i x h lt)

-- ---- what is added

module _ {A B : Type 0} (R : ℕ → A → B → Type 0) where
  pub adds_one : (x : A) (y : B) (old new : List B) → new ≡ old ++ y ∷ [] → R (length old) x y → AddsPlaced R (x ∷ []) old new
  adds_one x y old new push holds = (y ∷ [], (push, (holds, tt)))

  pub adds_none : (old new : List B) → new ≡ old → AddsPlaced R [] old new
  adds_none old new same = ([], (same ∙ sym (append-nil old), tt))

  pub adds_both : (xs ys : List A) (old middle new : List B) → AddsPlaced R xs old middle → AddsPlaced R ys middle new → AddsPlaced R (xs ++ ys) old new
  adds_both xs ys old middle new (a, (is, placed)) (b, (grown, more)) = (
    a ++ b,
    (
      grown ∙ ap (λ (l : List B). l ++ b) is ∙ append_assoc old a b,
      placed_append R (length old) (length middle) xs a ys b (ap length is ∙ length-append old a) placed more,
    ),
  )

  -- behind nothing, they are all that stands
  pub placed_first : (xs : List A) (old new : List B) → old ≡ [] → AddsPlaced R xs old new → AllPlaced R 0 xs new
  placed_first xs old new none (more, (is, placed)) =
      let all : new ≡ more = is ∙ ap (λ (l : List B). l ++ more) none in
      subst (λ (l : List B). AllPlaced R 0 xs l) (sym all) (subst (λ (l : List B). AllPlaced R (length l) xs more) none placed)

  -- behind those that stand
  pub placed_more : (xs ys : List A) (old new : List B) → AllPlaced R 0 xs old → AddsPlaced R ys old new → AllPlaced R 0 (xs ++ ys) new
  placed_more xs ys old new h (more, (is, placed)) =
      subst (λ (l : List B). AllPlaced R 0 (xs ++ ys) l) (sym is) (placed_append R 0 (length old) xs old ys more (omega arith) h placed)

  -- a loop over entries, each of which says what is added
  module _ {X : Type 0} (says : X → A) (raw : List X) where
    pub none_yet : (first old : List B) → old ≡ first → AddsPlaced R (map says (take 0 raw)) first old
    none_yet first old same = adds_none first old same

    pub one_more : (i : ℕ) (d : X) (first old new : List B) → i < length raw → AddsPlaced R (map says (take i raw)) first old → AddsPlaced R (says (get_or raw i d) ∷ []) old new
        → AddsPlaced R (map says (take (i + 1) raw)) first new
    one_more i d first old new lt before adds =
        let v : X = get_or raw i d in
        let more : map says (take (i + 1) raw) ≡ map says (take i raw) ++ says v ∷ [] = ap (map says) (take_more raw i d lt) ∙ map-append says (take i raw) (v ∷ []) in
        subst (λ (l : List A). AddsPlaced R l first new) (sym more) (adds_both (map says (take i raw)) (says v ∷ []) first old new before adds)

    -- the same of an item that is known by its place
    pub one_seen : (i : ℕ) (x : X) (first old new : List B) → i < length raw → x ≡ get_or raw i x → AddsPlaced R (map says (take i raw)) first old → AddsPlaced R (says x ∷ []) old new
        → AddsPlaced R (map says (take (i + 1) raw)) first new
    one_seen i x first old new lt is before adds = one_more i x first old new lt before (subst (λ (v : X). AddsPlaced R (says v ∷ []) old new) is adds)

    pub all_done : (i : ℕ) (first all : List B) → length raw ≤ i → AddsPlaced R (map says (take i raw)) first all → AddsPlaced R (map says raw) first all
    all_done i first all le h = subst (λ (l : List X). AddsPlaced R (map says l) first all) (take_all i raw le) h

  -- the same where what is added is said in two steps
  pub all_twice : {X Y : Type 0} (entry : X → Y) (says : Y → A) (raw : List X) (i : ℕ) (first all : List B) → length raw ≤ i → AddsPlaced R (map (λ x. says (entry x)) (take i raw)) first all
      → AddsPlaced R (map says (map entry raw)) first all
  all_twice entry says raw i first all le h =
      subst (λ (l : List A). AddsPlaced R l first all) (sym (map_twice entry says raw)) (all_done (λ x. says (entry x)) raw i first all le h)

-- ---- what changes from one to the next

pub in_turn_append : {A B S : Type 0} (R : A → B → S → S → Type 0) (xs : List A) (ys : List B) (us : List A) (vs : List B) (old middle new : S) → InTurn R xs ys old middle → InTurn R us vs middle new → InTurn R (xs ++ us) (ys ++ vs) old new
in_turn_append {A} {B} {S} R [] [] us vs old middle new h more = subst (λ (s : S). InTurn R us vs s new) h more
in_turn_append R [] (y ∷ ys) us vs old middle new h more = absurd h
in_turn_append R (x ∷ xs) [] us vs old middle new h more = absurd h
in_turn_append R (x ∷ xs) (y ∷ ys) us vs old middle new h more = (h.0, (h.1.0, in_turn_append R xs ys us vs h.0 middle new h.1.1 more))
