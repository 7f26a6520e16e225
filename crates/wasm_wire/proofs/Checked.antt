-- What a check answered, of a fact that says the same, and of lists as they lie in memory.
use Rattle.std.proofs.Common.{◌≡◌, ℕ, ◌+◌, ◌<◌, Bool, true, false, ltb, List, [], ◌∷◌, length, get_or, map, refl, sym, ap, ◌∙◌, subst, arith, ltb-true, ltb-false}
use Rattle.std.specs.Prelude.{All, Result, Ok, Err}
use Rattle.std.proofs.lemmas.List.{get_or-map, get_or_default, length-map}
use Rattle.std.proofs.lemmas.List.Sums.{fold_more}
use Rattle.std.proofs.lemmas.List.Elements.{All-map}
use Rattle.wasm_forms.specs.declared.error.WireError.{WireError}
use Rattle.wasm_forms.specs.declared.error.WireError.TheVariants.{Malformed, Memory, TooLarge}
use Rattle.std.specs.Global.{Vec}
use Rattle.wasm_entries.specs.declared.record.RawSub.{RawSub}
use Rattle.wasm_entries.specs.Record.{Group, group, sub}
use Rattle.wasm_wire.specs.Indices.{AllFrom, GroupRefers, TypesRefer}
use Rattle.wasm_wire.specs.Gathering.{EachRefers, types_before}
use Rattle.wasm_wire.specs.Rules.{Checks}

pub checks_same : (r : Result Unit WireError) (P Q : Type 0) → (P → Q) → (Q → P) → Checks r P → Checks r Q
checks_same (Ok u) P Q f g h = f h
checks_same (Err Malformed) P Q f g h = λ q. h (g q)
checks_same (Err (Memory e)) P Q f g h = tt
checks_same (Err TooLarge) P Q f g h = h

pub all_mapped : {X Y : Type 0} (P : Y → Type 0) (v : X → Y) (xs : List X) → All (λ x. P (v x)) xs → All P (map v xs)
all_mapped P v xs h = All-map P v xs h

pub all_unmapped : {X Y : Type 0} (P : Y → Type 0) (v : X → Y) (xs : List X) → All P (map v xs) → All (λ x. P (v x)) xs
all_unmapped P v xs h = λ k d within. subst P (get_or-map v xs k d (v d) within) (h k (v d) (omega (arith, length-map xs v)))

-- R of each element's view and its place
abbrev pub EachView : {X Y : Type 0} → (ℕ → Y → Type 0) → (X → Y) → List X → Type 0
EachView {X} R v xs = (k : ℕ) (d : X) → k < length xs → R k (v (get_or xs k d))

abbrev pub Each : {Y : Type 0} → (ℕ → Y → Type 0) → List Y → Type 0
Each {Y} R ys = (k : ℕ) (d : Y) → k < length ys → R k (get_or ys k d)

pub each_mapped : {X Y : Type 0} (R : ℕ → Y → Type 0) (v : X → Y) (xs : List X) → EachView R v xs → Each R (map v xs)
each_mapped R v [] h = λ k d within. absurd (omega (arith, within))
each_mapped R v (x ∷ xs) h = λ k d within.
    let near : k < length (x ∷ xs) = omega (arith, within, length-map (x ∷ xs) v) in
    subst (R k) (sym (get_or-map v (x ∷ xs) k x d near)) (h k x near)

pub each_unmapped : {X Y : Type 0} (R : ℕ → Y → Type 0) (v : X → Y) (xs : List X) → Each R (map v xs) → EachView R v xs
each_unmapped R v xs h = λ k d within. subst (R k) (get_or-map v xs k d (v d) within) (h k (v d) (omega (arith, length-map xs v)))

pub from_mapped : {X Y : Type 0} (R : ℕ → Y → Type 0) (v : X → Y) (first : ℕ) (xs : List X) → AllFrom (λ n x. R n (v x)) first xs → AllFrom R first (map v xs)
from_mapped R v first xs h = each_mapped (λ k. R (first + k)) v xs h

pub from_unmapped : {X Y : Type 0} (R : ℕ → Y → Type 0) (v : X → Y) (first : ℕ) (xs : List X) → AllFrom R first (map v xs) → AllFrom (λ n x. R n (v x)) first xs
from_unmapped R v first xs h = each_unmapped (λ k. R (first + k)) v xs h

pub each_group : (gs : List (Vec RawSub)) → EachRefers gs → TypesRefer (map group gs)
each_group gs h = each_mapped (λ k. GroupRefers (types_before gs k)) group gs h

pub all_groups : (gs : List (Vec RawSub)) → TypesRefer (map group gs) → EachRefers gs
all_groups gs h = each_unmapped (λ k. GroupRefers (types_before gs k)) group gs h

-- one group more

pub before_more : (gs : List (Vec RawSub)) (i : ℕ) (x : Vec RawSub) → i < length gs → types_before gs (i + 1) ≡ types_before gs i + length (get_or gs i x).items
before_more gs i x within =
    let near : i < length (map group gs) = omega (arith, within, length-map gs group) in
    fold_more (λ (a : ℕ) (g : Group). a + length g) 0 (map group gs) i (group x) near
    ∙ ap (λ (g : Group). types_before gs i + length g) (get_or-map group gs i x (group x) within)
    ∙ ap (λ n. types_before gs i + n) (length-map (get_or gs i x).items sub)

near_or_last : {X : Type 0} (R : ℕ → X → Type 0) (xs : List X) (i : ℕ) (x : X) → x ≡ get_or xs i x → i < length xs → ((k : ℕ) (d : X) → k < i → R k (get_or xs k d)) → R i x
    → (k : ℕ) (d : X) → k < i + 1 → (t : Bool) → ltb k i ≡ t → R k (get_or xs k d)
near_or_last R xs i x is within h last k d less true e = h k d (ltb-true k i e)
near_or_last R xs i x is within h last k d less false e =
    let same : i ≡ k = omega (arith, less, ltb-false k i e) in
    subst (λ (j : ℕ). R j (get_or xs j d)) same (subst (R i) (is ∙ get_or_default xs i x d within) last)

-- R of each element so far, and of one more
pub each_more : {X : Type 0} (R : ℕ → X → Type 0) (xs : List X) (i : ℕ) (x : X) → x ≡ get_or xs i x → i < length xs → ((k : ℕ) (d : X) → k < i → R k (get_or xs k d)) → R i x
    → (k : ℕ) (d : X) → k < i + 1 → R k (get_or xs k d)
each_more R xs i x is within h last k d less = near_or_last R xs i x is within h last k d less (ltb k i) refl
