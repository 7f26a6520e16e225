-- What the loops keep that write groups and their members.
use Rattle.std.proofs.Common.{◌≡◌, ℕ, Bool, true, false, List, [], ◌∷◌, ◌++◌, map, Option, Some, None, option_map, refl, sym, ap, ◌∙◌, subst, append_assoc, append-nil, eq-eqb}
use Rattle.std.specs.Prelude.{IsSome, is_some, if◌then◌else◌, ◌==◌}
use Rattle.std.specs.List.{AllZip}
use Rattle.std.proofs.lemmas.List.{map-append}
use Rattle.walrus_base.specs.Arena.{item_at, IsLive}
use Rattle.walrus_base.specs.PlaceList.{has}
use Rattle.walrus_base.specs.TypeDef.{TypeDef}
use Rattle.walrus_base.specs.TypeSlots.{group_at, group_of}
use Rattle.walrus_base.specs.Whole.{AreWhole}
use Rattle.walrus_groups.specs.Written.{starts_at, firsts}
use Rattle.std.proofs.lemmas.Bool.{or_left, or_right}

-- what is made of those that are left completes what is made of all
abbrev pub Completes : {A B C : Type 0} → (A → C → Type 0) → (all left : List A) → (B → C) → List B → Type 0
Completes {A} {B} {C} R all left f items = (more : List C) → AllZip R left more → AllZip R all (map f items ++ more)

pub completes_first : {A B C : Type 0} (R : A → C → Type 0) (all left : List A) (f : B → C) (items : List B) → left ≡ all → items ≡ [] → Completes R all left f items
completes_first {A} {B} {C} R all left f items same none more zip =
    subst (λ (l : List B). AllZip R all (map f l ++ more)) (sym none) (subst (λ (l : List A). AllZip R l more) same zip)

pub completes_next : {A B C : Type 0} (R : A → C → Type 0) (all left after : List A) (e : A) (f : B → C) (items next : List B) (x : B) → left ≡ e ∷ after → next ≡ items ++ x ∷ [] → R e (f x) → Completes R all left f items → Completes R all after f next
completes_next {A} {B} {C} R all left after e f items next x step pushed made keeps more zip =
    subst (λ (l : List C). AllZip R all l)
    (sym (ap (λ (l : List B). map f l ++ more) pushed ∙ ap (λ (l : List C). l ++ more) (map-append f items (x ∷ [])) ∙ append_assoc (map f items) (f x ∷ []) more))
    (keeps (f x ∷ more) (subst (λ (l : List A). AllZip R l (f x ∷ more)) (sym step) (made, zip)))

pub completes_last : {A B C : Type 0} (R : A → C → Type 0) (all left : List A) (f : B → C) (items : List B) → left ≡ [] → Completes R all left f items → AllZip R all (map f items)
completes_last {A} {B} {C} R all left f items none keeps =
    subst (λ (l : List C). AllZip R all l) (append-nil (map f items)) (keeps [] (subst (λ (l : List A). AllZip R l []) (sym none) tt))

-- ---- the firsts of groups

pub firsts_yes : (left after : List (ℕ × TypeDef)) (e : ℕ × TypeDef) → left ≡ e ∷ after → starts_at e.1.group e.0 ≡ true → firsts left ≡ e ∷ firsts after
firsts_yes left after e step h = ap firsts step ∙ ap (λ (b : Bool). if b then e ∷ firsts after else firsts after) h

pub firsts_no : (left after : List (ℕ × TypeDef)) (e : ℕ × TypeDef) → left ≡ e ∷ after → starts_at e.1.group e.0 ≡ false → firsts left ≡ firsts after
firsts_no left after e step h = ap firsts step ∙ ap (λ (b : Bool). if b then e ∷ firsts after else firsts after) h

pub live_at : (slots : List (Option TypeDef)) (p q : ℕ) (x : TypeDef) → p ≡ q → item_at slots q ≡ Some x → IsLive slots p
live_at slots p q x same at = ap is_some (ap (item_at slots) same ∙ at)

-- ---- the members of a group are there

abbrev pub AllLive : List (Option TypeDef) → List ℕ → Type 0
AllLive slots [] = Unit {0}
AllLive slots (p ∷ ps) = IsLive slots p × AllLive slots ps

live_all : (slots : List (Option TypeDef)) (ps : List ℕ) → ((p : ℕ) → has ps p ≡ true → IsLive slots p) → AllLive slots ps
live_all slots [] live = tt
live_all slots (p ∷ ps) live = (live p (or_left (p == p) (has ps p) (eq-eqb p p refl)), live_all slots ps (λ q h. live q (or_right (p == q) (has ps q) h)))

made_some : (o : Option TypeDef) (g : List ℕ) → option_map (λ y. y.group) o ≡ Some g → IsSome o
made_some None g h = absurd cc
made_some (Some x) g h = refl

group_of_live : (slots : List (Option TypeDef)) (p : ℕ) (o : Option TypeDef) → AreWhole slots → item_at slots p ≡ o → AllLive slots (group_of o)
group_of_live slots p None whole at = tt
group_of_live slots p (Some x) whole at = live_all slots x.group (λ q h. made_some (item_at slots q) x.group (whole.members p x at q h))

pub group_live : (slots : List (Option TypeDef)) (p : ℕ) → AreWhole slots → AllLive slots (group_at slots p)
group_live slots p whole = group_of_live slots p (item_at slots p) whole refl

pub live_here : (slots : List (Option TypeDef)) (left after : List ℕ) (p : ℕ) → left ≡ p ∷ after → AllLive slots left → IsLive slots p
live_here slots left after p step live = (subst (λ (l : List ℕ). AllLive slots l) step live).0

pub live_after : (slots : List (Option TypeDef)) (left after : List ℕ) (p : ℕ) → left ≡ p ∷ after → AllLive slots left → AllLive slots after
live_after slots left after p step live = (subst (λ (l : List ℕ). AllLive slots l) step live).1
