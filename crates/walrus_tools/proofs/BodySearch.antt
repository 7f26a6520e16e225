-- A search for the body of a function among bodies that stand by rising id.
use Rattle.std.proofs.Common.{◌≡◌, ℕ, zero, suc, ◌-◌, ◌<◌, ◌≤◌, Bool, true, false, cond, List, [], ◌∷◌, length, map, get_or, Option, Some, None, Result, Ok, Err, find, option_map, refl, sym, ap, ◌∙◌, arith}
use Rattle.std.specs.Prelude.{nat_eq}
use Rattle.std.specs.List.Sorted.{IsBinarySearchResult, IsNonDecreasingBy, IsSearchInRange}
use Rattle.std.specs.Ordering.{nat_cmp, ordering_index}
use Rattle.std.specs.declared.ops.Range.{Range}
use Rattle.std.proofs.lemmas.Bool.{eqb-true, eq-eqb}
use Rattle.std.proofs.lemmas.Bool.Decides.{nat_tests}
use Rattle.std.proofs.lemmas.Cmp.{ranked}
use Rattle.std.proofs.lemmas.List.Sorted.{IsNonDecreasingBy-from_default}
use Rattle.walrus.specs.Base.Id.{place}
use Rattle.walrus.specs.Base.Operators.{Types, Tables, Memories, Tags, Globals, Elements, DataSegments, Item, function_item}
use Rattle.walrus.specs.Base.IdValue.{Id}
use Rattle.walrus.specs.Base.FunctionKey.{FunctionKey}
use Rattle.walrus.specs.Code.Code.{item_of}
use Rattle.walrus.specs.Code.ItemId.{ItemId}
use Rattle.walrus.specs.Code.ItemId.TheVariants as items
use Rattle.walrus.specs.Items.Items.{is_item}
use Rattle.walrus.specs.Items.Transform.{range_of}
use Rattle.walrus_tools.specs.LinkSteps.{AreRising, FindsBody}
use Rattle.walrus_tools.specs.Links.{body_size}

abbrev Body : Type 0
Body = Id FunctionKey × Range ℕ

-- ---- lists

get_map : {X Y : Type 0} (f : X → Y) (xs : List X) (i : ℕ) (d : X) → get_or (map f xs) i (f d) ≡ f (get_or xs i d)
get_map f [] i d = refl
get_map f (x ∷ xs) zero d = refl
get_map f (x ∷ xs) (suc i) d = get_map f xs i d

-- the first that passes
find_at : {Y : Type 0} (p : Y → Bool) (xs : List Y) (i : ℕ) (d : Y) → i < length xs → p (get_or xs i d) ≡ true → ((j : ℕ) → j < i → p (get_or xs j d) ≡ false) → find p xs ≡ Some (get_or xs i d)
find_at p [] i d lt holds fails = absurd (omega (arith, lt))
find_at p (x ∷ xs) zero d lt holds fails = ap (λ (b : Bool). cond b (Some x) (find p xs)) holds
find_at p (x ∷ xs) (suc i) d lt holds fails =
    let l : suc i < length (x ∷ xs) = lt in
    ap (λ (b : Bool). cond b (Some x) (find p xs)) (fails zero (omega arith)) ∙ find_at p xs i d (omega (arith, l)) holds (λ j below. fails (suc j) (omega (arith, below)))

-- none passes
find_none : {Y : Type 0} (p : Y → Bool) (xs : List Y) (d : Y) → ((j : ℕ) → j < length xs → p (get_or xs j d) ≡ false) → find p xs ≡ None
find_none p [] d fails = refl
find_none p (x ∷ xs) d fails =
    ap (λ (b : Bool). cond b (Some x) (find p xs)) (fails zero (omega arith)) ∙ find_none p xs d (λ j below. fails (suc j) (let l : suc (length xs) ≡ length (x ∷ xs) = refl in omega (arith, below, l)))

length_map : {X Y : Type 0} (f : X → Y) (xs : List X) → length (map f xs) ≡ length xs
length_map f [] = refl
length_map f (x ∷ xs) = ap suc (length_map f xs)

-- ---- bodies

-- where a search found something
abbrev pub result_place : Result ℕ ℕ → Option ℕ
result_place (Ok at) = Some at
result_place (Err at) = None

-- numbers that differ are told apart
told_apart : (n m : ℕ) → (n ≡ m → ⊥) → nat_eq n m ≡ false
told_apart n m differs = by (nat_eq n m) refl where
  by : (b : Bool) → nat_eq n m ≡ b → nat_eq n m ≡ false
  by true is = absurd (differs (eqb-true n m is))
  by false is = is

abbrev key : Body → ℕ
key b = place b.0

module _ (all : List Body) (rise : AreRising (map range_of all)) (f : ℕ) where
  abbrev test : ℕ × (ℕ × ℕ) → Bool
  test r = is_item (function_item r.0) (function_item f)

  keys_rise : (d : Body) (i j : ℕ) → i < j → j < length all → key (get_or all i d) < key (get_or all j d)
  keys_rise d i j lt below =
      let at : (k : ℕ) → (get_or (map range_of all) k (range_of d)).0 ≡ key (get_or all k d) = λ k. ap (λ (r : ℕ × (ℕ × ℕ)). r.0) (get_map range_of all k d) in
      let low : (get_or (map range_of all) i (range_of d)).0 < (get_or (map range_of all) j (range_of d)).0 = rise i j (range_of d) lt (omega (arith, below, length_map range_of all)) in
      omega (arith, low, at i, at j)

  comparisons_rise : (d : Body) → IsNonDecreasingBy (λ (b : Body). ordering_index (nat_cmp (key b) f)) all
  comparisons_rise d = IsNonDecreasingBy-from_default (λ (b : Body). ordering_index (nat_cmp (key b) f)) all d (λ i j le in_range.
      let rises : key (get_or all i d) ≤ key (get_or all j d) = grind (arith, keys_rise d i j, λ (same : i ≡ j). ap (λ (k : ℕ). key (get_or all k d)) same) in
      grind (arith, nat_tests))

  -- a body of another function doesn't pass
  apart : (d : Body) (k : ℕ) → (key (get_or all k d) ≡ f → ⊥) → test (get_or (map range_of all) k (range_of d)) ≡ false
  apart d k differs = ap test (get_map range_of all k d) ∙ told_apart (key (get_or all k d)) f differs

  same : (d : Body) (k : ℕ) → key (get_or all k d) ≡ f → test (get_or (map range_of all) k (range_of d)) ≡ true
  same d k is = ap test (get_map range_of all k d) ∙ eq-eqb (key (get_or all k d)) f is

  found : (d : Body) (at : ℕ) → at < length all → key (get_or all at d) ≡ f → body_size (map range_of all) (function_item f) ≡ Some ((range_of (get_or all at d)).1.1 - (range_of (get_or all at d)).1.0)
  found d at below is =
      ap (option_map (λ (r : ℕ × (ℕ × ℕ)). r.1.1 - r.1.0))
      (find_at test (map range_of all) at (range_of d) (omega (arith, below, length_map range_of all)) (same d at is)
      (λ j lt. apart d j (λ s. let low : key (get_or all j d) < key (get_or all at d) = keys_rise d j at lt below in omega (arith, low, s, is)))
      ∙ ap (λ (r : ℕ × (ℕ × ℕ)). Some r) (get_map range_of all at d))

  lost : (d : Body) (at : ℕ) → ((j : ℕ) → j < at → key (get_or all j d) < f) → ((j : ℕ) → at ≤ j → j < length all → f < key (get_or all j d)) → body_size (map range_of all) (function_item f) ≡ None
  lost d at low high =
      ap (option_map (λ (r : ℕ × (ℕ × ℕ)). r.1.1 - r.1.0))
      (find_none test (map range_of all) (range_of d)
      (λ j below. let here : j < length all = omega (arith, below, length_map range_of all) in apart d j (λ s. grind (arith, low j, high j, here, s))))

  pub searched : (r : Result ℕ ℕ) → IsSearchInRange r (length all) → IsBinarySearchResult (λ (b : Body). nat_cmp (key b) f) all r → FindsBody all f (result_place r)
  searched (Ok at) in_range equal = (in_range, λ d. found d at in_range (ranked _ f _ (sym (equal d))))
  searched (Err at) in_range parted = by all refl where
    by : (xs : List Body) → all ≡ xs → body_size (map range_of all) (function_item f) ≡ None
    by [] is = ap (λ (ys : List Body). body_size (map range_of ys) (function_item f)) is
    by (d ∷ xs) is =
        lost d at (λ j lt. ranked _ f _ (sym ((parted (comparisons_rise d)).0 j d (omega arith) lt))) (λ j le lt. ranked _ f _ (sym ((parted (comparisons_rise d)).1 j d le lt)))

-- ---- other items

find_false : {Y : Type 0} (p : Y → Bool) (xs : List Y) → ((y : Y) → p y ≡ false) → find p xs ≡ None
find_false p [] fails = refl
find_false p (x ∷ xs) fails = ap (λ (b : Bool). cond b (Some x) (find p xs)) (fails x) ∙ find_false p xs fails

other_kind : (all : List Body) (x : Item) → ((f : ℕ) → is_item (function_item f) x ≡ false) → None ≡ body_size (map range_of all) x
other_kind all x apart = sym (ap (option_map (λ (r : ℕ × (ℕ × ℕ)). r.1.1 - r.1.0)) (find_false (λ (r : ℕ × (ℕ × ℕ)). is_item (function_item r.0) x) (map range_of all) (λ r. apart r.0)))

-- what is no function has no body
pub lost_kind : (all : List Body) (item : ItemId) → ((id : Id FunctionKey) → item ≡ items.Function id → ⊥) → None ≡ body_size (map range_of all) (item_of item)
lost_kind all (items.«Type» id) h = other_kind all (Types, place id) (λ f. refl)
lost_kind all (items.Function id) h = absurd (h id refl)
lost_kind all (items.Table id) h = other_kind all (Tables, place id) (λ f. refl)
lost_kind all (items.Memory id) h = other_kind all (Memories, place id) (λ f. refl)
lost_kind all (items.Tag id) h = other_kind all (Tags, place id) (λ f. refl)
lost_kind all (items.Global id) h = other_kind all (Globals, place id) (λ f. refl)
lost_kind all (items.Element id) h = other_kind all (Elements, place id) (λ f. refl)
lost_kind all (items.Data id) h = other_kind all (DataSegments, place id) (λ f. refl)
