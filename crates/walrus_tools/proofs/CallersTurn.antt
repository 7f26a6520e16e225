-- Whether an item refers to another, and the items that do, one after another.
use Rattle.std.proofs.Common.{◌≡◌, ◌==◌, ◌&&◌, ℕ, ◌+◌, ◌<◌, ◌≤◌, suc, Bool, true, false, ◌||◌, List, [], ◌∷◌, get_or, map, Option, Some, None, option_map, refl, sym, ap, ap₂, ◌∙◌, subst, arith, inl, inr, ⊎_elim}
use Rattle.std.specs.Prelude.{◌↔◌, ◌⊎◌, AllPairs, Contains, IsTrue}
use Rattle.std.specs.List.{list_any}
use Rattle.std.proofs.lemmas.Bool.{cases_lt, eq-eqb, eqb-true}
use Rattle.std.proofs.lemmas.List.Elements.{Contains-get_or, Contains-push, Contains-push_cases}
use Rattle.std.proofs.lemmas.List.Quantifiers.{all_pairs_push}
use Rattle.walrus.specs.Base.Arena.{IsLive as IsLiveAt, item_at}
use Rattle.walrus.specs.Base.Operators.{Space, Types, Functions, Tables, Memories, Tags, Globals, Elements, DataSegments, Item, type_item}
use Rattle.walrus.specs.Base.PlaceList.{has}
use Rattle.walrus.specs.Base.TypeDef.{TypeDef}
use Rattle.walrus.specs.Base.TypeSlots.{group_at, group_of, last_of}
use Rattle.walrus.specs.Base.Whole.{AreWhole}
use Rattle.walrus.proofs.Base.Lists.{Contains-append_1, Contains-head, Contains-none, Contains-tail, Contains-uncons}
use Rattle.walrus.proofs.Base.ShapesEnd.{has_contained}
use Rattle.walrus.proofs.Base.Standing.{some_inj, some_of}
use Rattle.walrus.specs.Code.Code.{item_of}
use Rattle.walrus.specs.Code.ItemId.{ItemId}
use Rattle.walrus.specs.Code.ItemId.TheVariants as ids
use Rattle.walrus.specs.Contents.Named.{NamesItself, group_names}
use Rattle.walrus.specs.Contents.There.{IsRefusal, IsSound}
use Rattle.walrus.proofs.Contents.ExportedRefs.{contained_has}
use Rattle.walrus.proofs.Contents.Groups.{own_refers, refers_split}
use Rattle.walrus.specs.Items.Items.{is_item, space_number}
use Rattle.walrus.specs.Items.Error.{Error}
use Rattle.walrus.specs.Items.Error.TheVariants as error
use Rattle.walrus.proofs.Items.ItemLemmas.{is_item-same, same-is_item}
use Rattle.walrus.specs.Model.Abstract.{Abstract}
use Rattle.walrus.specs.Model.Live.{IsLive}
use Rattle.walrus.specs.Model.Refers.{Refers, named_by}
use Rattle.walrus_tools.specs.Callers.{AddsIfCaller, AreCallers, CallersBefore, CallersThrough, HasUnsound, IsBefore, IsPastSpace}

pub untrue : false ≡ true → ⊥
untrue h = cc

or_true : (a : Bool) {b : Bool} → b ≡ true → (a || b) ≡ true
or_true true h = refl
or_true false h = h

-- ---- groups

types_in : (g : List ℕ) (n : ℕ) → has g n ≡ true → Contains (map type_item g) (type_item n)
types_in g n h = map_in g (contained_has g n h) where
  map_in : (ps : List ℕ) → Contains ps n → Contains (map type_item ps) (type_item n)
  map_in [] c = absurd (Contains-none n c)
  map_in (p ∷ ps) c = ⊎_elim
      (λ (same : p ≡ n). subst (λ (m : ℕ). Contains (type_item p ∷ map type_item ps) (type_item m)) same (Contains-head (type_item p) (map type_item ps)))
      (λ (later : Contains ps n). Contains-tail (type_item p) (type_item n) (map type_item ps) (map_in ps later))
      (Contains-uncons p n ps c)

in_types : (g : List ℕ) (y : Item) → Contains (map type_item g) y → (n : ℕ) × (y ≡ type_item n) × (has g n ≡ true)
in_types [] y c = absurd (Contains-none y c)
in_types (p ∷ g) y c = ⊎_elim
    (λ (same : type_item p ≡ y). (p, sym same, has_contained (p ∷ g) p (Contains-head p g)))
    (λ (later : Contains (map type_item g) y). (let r = in_types g y later in (r.0, r.1, has_contained (p ∷ g) r.0 (Contains-tail p r.0 g (contained_has g r.0 r.2)))))
    (Contains-uncons (type_item p) y (map type_item g) c)

last_in : (p : ℕ) (g : List ℕ) (other : ℕ) → Contains (p ∷ g) (last_of (p ∷ g) other)
last_in p [] other = Contains-head p []
last_in p (q ∷ g) other = Contains-tail p (last_of (q ∷ g) other) (q ∷ g) (last_in q g other)

has_last : (g : List ℕ) (a : ℕ) → has g a ≡ true → has g (last_of g a) ≡ true
has_last [] a h = absurd (untrue h)
has_last (p ∷ g) a h = has_contained (p ∷ g) (last_of (p ∷ g) a) (last_in p g a)

last_same : (p : ℕ) (g : List ℕ) (a b : ℕ) → last_of (p ∷ g) a ≡ last_of (p ∷ g) b
last_same p g a b = refl

lasts_same : (g : List ℕ) (a b : ℕ) → has g a ≡ true → last_of g a ≡ last_of g b
lasts_same [] a b h = absurd (untrue h)
lasts_same (p ∷ g) a b h = last_same p g a b

module _ (slots : List (Option TypeDef)) (whole : AreWhole slots) where
  abbrev slot : ℕ → Option TypeDef
  slot i = item_at slots i

  group_is : (a : ℕ) (x : TypeDef) → slot a ≡ Some x → group_at slots a ≡ x.group
  group_is a x is = ap group_of is

  -- a member has the whole group
  member_group : (a b : ℕ) (x y : TypeDef) → slot a ≡ Some x → slot b ≡ Some y → has x.group b ≡ true → y.group ≡ x.group
  member_group a b x y at there h = some_inj y.group x.group (sym (ap (option_map (λ (z : TypeDef). z.group)) there) ∙ whole.members a x at b h)

  same_group : (a b : ℕ) (x y : TypeDef) → slot a ≡ Some x → slot b ≡ Some y → last_of x.group a ≡ last_of y.group b → has x.group b ≡ true
  same_group a b x y at there same =
      let in_x = has_last x.group a (whole.own a x at) in
      let in_y = subst (λ (p : ℕ). has y.group p ≡ true) (sym same) (has_last y.group b (whole.own b y there)) in
      let groups : Some y.group ≡ Some x.group = sym (whole.members b y there (last_of x.group a) in_y) ∙ whole.members a x at (last_of x.group a) in_x in
      subst (λ (g : List ℕ). has g b ≡ true) (some_inj y.group x.group groups) (whole.own b y there)

  one_last : (a b : ℕ) (x y : TypeDef) → slot a ≡ Some x → slot b ≡ Some y → has x.group b ≡ true → last_of x.group a ≡ last_of y.group b
  one_last a b x y at there h = lasts_same x.group a b (whole.own a x at) ∙ ap (λ (g : List ℕ). last_of g b) (sym (member_group a b x y at there h))

  -- a type is a member of the group of another if both have the same last member
  module _ (a b : ℕ) (live : IsLiveAt slots a) where
    abbrev names : List Item
    names = named_by (λ (t : TypeDef). map type_item t.group) (slot a)

    names_are : (x : TypeDef) → slot a ≡ Some x → names ≡ map type_item x.group
    names_are x at = ap (λ (o : Option TypeDef). named_by (λ (t : TypeDef). map type_item t.group) o) at

    pub members_told : (same : Bool) → IsLiveAt slots b → same ≡ (last_of (group_at slots a) a == last_of (group_at slots b) b) → IsTrue same ↔ Contains names (type_item b)
    members_told same there is =
        let (x, at) = some_of (slot a) live in
        let (y, at_b) = some_of (slot b) there in (
          λ told. (
              let lasts = eqb-true (last_of (group_at slots a) a) (last_of (group_at slots b) b) (sym is ∙ told) in
              let both : last_of x.group a ≡ last_of y.group b = ap (λ (g : List ℕ). last_of g a) (sym (group_is a x at)) ∙ lasts ∙ ap (λ (g : List ℕ). last_of g b) (group_is b y at_b) in
              subst (λ (ns : List Item). Contains ns (type_item b)) (sym (names_are x at)) (types_in x.group b (same_group a b x y at at_b both))
              ),
          λ c. (
              let (n, n_is, member) = in_types x.group (type_item b) (subst (λ (ns : List Item). Contains ns (type_item b)) (names_are x at) c) in
              let b_is : b ≡ n = ap (λ (z : Item). z.1) n_is in
              let both = one_last a b x y at at_b (subst (λ (m : ℕ). has x.group m ≡ true) (sym b_is) member) in
              let lasts : last_of (group_at slots a) a ≡ last_of (group_at slots b) b = ap (λ (g : List ℕ). last_of g a) (group_is a x at) ∙ both ∙ ap (λ (g : List ℕ). last_of g b) (sym (group_is b y at_b)) in
              is ∙ eq-eqb (last_of (group_at slots a) a) (last_of (group_at slots b) b) lasts
              ),
        )

-- members are types
pub no_type_member : (v : Abstract) (a : ℕ) (y : ItemId) → ((id : _) → y ≡ ids.«Type» id → ⊥) → Contains (group_names v (Types, a)) (item_of y) → ⊥
no_type_member v a y no_type c = by (v.types a) c where
  never : (n : ℕ) (z : ItemId) → ((id : _) → z ≡ ids.«Type» id → ⊥) → item_of z ≡ type_item n → ⊥
  never n (ids.«Type» id) not is = not id refl
  never n (ids.Function id) not is = let no : Functions ≡ Types = ap (λ (x : Item). x.0) is in cc
  never n (ids.Table id) not is = let no : Tables ≡ Types = ap (λ (x : Item). x.0) is in cc
  never n (ids.Memory id) not is = let no : Memories ≡ Types = ap (λ (x : Item). x.0) is in cc
  never n (ids.Tag id) not is = let no : Tags ≡ Types = ap (λ (x : Item). x.0) is in cc
  never n (ids.Global id) not is = let no : Globals ≡ Types = ap (λ (x : Item). x.0) is in cc
  never n (ids.Element id) not is = let no : Elements ≡ Types = ap (λ (x : Item). x.0) is in cc
  never n (ids.Data id) not is = let no : DataSegments ≡ Types = ap (λ (x : Item). x.0) is in cc

  by : (o : Option TypeDef) → Contains (named_by (λ (t : TypeDef). map type_item t.group) o) (item_of y) → ⊥
  by None c = Contains-none (item_of y) c
  by (Some t) c = (let r = in_types t.group (item_of y) c in never r.0 y no_type r.1)

-- ---- whether an item refers to another

module _ (y : Item) where
  abbrev is_y : ItemId → Bool
  is_y other = is_item (item_of other) y

  any_there : (named : List ItemId) → list_any is_y named ≡ true → Contains (map item_of named) y
  any_there [] h = absurd (untrue h)
  any_there (z ∷ named) h = by (is_y z) refl (any_there named) h where
    by : (t : Bool) → is_y z ≡ t → (list_any is_y named ≡ true → Contains (map item_of named) y) → (t || list_any is_y named) ≡ true → Contains (item_of z ∷ map item_of named) y
    by true e rest told = subst (λ (w : Item). Contains (item_of z ∷ map item_of named) w) (is_item-same (item_of z) y e) (Contains-head (item_of z) (map item_of named))
    by false e rest told = Contains-tail (item_of z) y (map item_of named) (rest told)

  there_any : (named : List ItemId) → Contains (map item_of named) y → list_any is_y named ≡ true
  there_any [] c = absurd (Contains-none y c)
  there_any (z ∷ named) c = ⊎_elim
      (λ (here : item_of z ≡ y). ap (λ (t : Bool). t || list_any is_y named) (same-is_item (item_of z) y here))
      (λ (later : Contains (map item_of named) y). or_true (is_y z) (there_any named later))
      (Contains-uncons (item_of z) y (map item_of named) c)

  -- among what an item names, or in its group
  pub refers_told : (v : Abstract) (x : Item) (named : List ItemId) (added : List Item) → map item_of named ≡ added → ((z : Item) → Contains added z ↔ NamesItself v x z) → (Contains (group_names v x) y → ⊥)
      → (found : Bool) → found ≡ list_any is_y named → IsTrue found ↔ Refers v x y
  refers_told v x named added same are apart found is = (
    λ told. own_refers v x y ((are y).0 (subst (λ (zs : List Item). Contains zs y) same (any_there named (sym is ∙ told)))),
    λ refers. ⊎_elim
        (λ (member : Contains (group_names v x) y). absurd (apart member))
        (λ (own : NamesItself v x y). is ∙ there_any named (subst (λ (zs : List Item). Contains zs y) (sym same) ((are y).1 own)))
        (refers_split v x y refers),
  )

-- an item that isn't sound is why
pub unsound_refused : (v : Abstract) (x : Item) → IsLive v x → (e : Error) → IsRefusal (IsSound v x → ⊥) e → IsRefusal (HasUnsound v) e
unsound_refused v x live (error.Memory m) h = h
unsound_refused v x live error.DeadItem h = (x, live, h)
unsound_refused v x live _ h = absurd h

-- ---- the items that do

numbers_same : (s t : Space) → space_number s ≡ space_number t → s ≡ t
numbers_same s t same = ap (λ (x : Item). x.0) (is_item-same (s, 0) (t, 0) (ap (λ (b : Bool). b && true) (eq-eqb (space_number s) (space_number t) same)))

module _ (v : Abstract) (y : Item) where
  abbrev Calls : Item → Type 0
  Calls x = IsLive v x × Refers v x y

  none_before : (x : Item) → IsBefore x (Types, 0) → ⊥
  none_before x (inl less) = omega (arith, less)
  none_before x (inr (same, less)) = omega (arith, less)

  pub callers_begin : CallersBefore v y (Types, 0) []
  callers_begin = record {
    rising = λ i j d less within. (let w : j < 0 = within in absurd (omega (arith, w)));
    are = λ x. (λ c. absurd (Contains-none x c), λ h. absurd (none_before x h.0));
  }

  module _ (s : Space) (i : ℕ) (old new : List Item) (h : CallersBefore v y (s, i) old) where
    -- what comes before the next is before this one, or is it
    splits : (x : Item) → IsBefore x (s, i + 1) → IsBefore x (s, i) ⊎ (x ≡ (s, i))
    splits x (inl less) = inl (inl less)
    splits x (inr (same, less)) = ⊎_elim
        (λ (lt : x.1 < i). inl (inr (same, lt)))
        (λ (le : i ≤ x.1). (let is : x.1 ≡ i = omega (arith, le, less) in inr (ap₂ (λ (t : Space) (n : ℕ). (t, n)) same is)))
        (cases_lt x.1 i)

    later : (x : Item) → IsBefore x (s, i) → IsBefore x (s, i + 1)
    later x (inl less) = inl less
    later x (inr (same, less)) = inr (same, omega (arith, less))

    pub callers_next : AddsIfCaller v (s, i) y old new → CallersBefore v y (s, i + 1) new
    callers_next (inl (live, refers, is)) = record {
      rising = subst (λ (xs : List Item). AllPairs IsBefore xs) (sym is) (all_pairs_push IsBefore old (s, i) h.rising (λ k d within. ((h.are (get_or old k d)).0 (Contains-get_or old k d within)).0));
      are = λ x. (
        λ c. ⊎_elim
            (λ (there : Contains old x). (let r = (h.are x).0 there in (later x r.0, r.1)))
            (λ (own : (s, i) ≡ x). subst (λ (z : Item). IsBefore z (s, i + 1) × Calls z) own (inr (refl, omega arith), (live, refers)))
            (Contains-push_cases old (s, i) x (subst (λ (xs : List Item). Contains xs x) is c)),
        λ b. ⊎_elim
            (λ (before : IsBefore x (s, i)). subst (λ (xs : List Item). Contains xs x) (sym is) (Contains-append_1 x old ((s, i) ∷ []) ((h.are x).1 (before, b.1))))
            (λ (own : x ≡ (s, i)). subst (λ (z : Item). Contains new z) (sym own) (subst (λ (xs : List Item). Contains xs (s, i)) (sym is) (Contains-push old (s, i))))
            (splits x b.0),
      );
    }
    callers_next (inr (not, is)) = record {
      rising = subst (λ (xs : List Item). AllPairs IsBefore xs) (sym is) h.rising;
      are = λ x. (
        λ c. (let r = (h.are x).0 (subst (λ (xs : List Item). Contains xs x) is c) in (later x r.0, r.1)),
        λ b. ⊎_elim
            (λ (before : IsBefore x (s, i)). subst (λ (xs : List Item). Contains xs x) (sym is) ((h.are x).1 (before, b.1)))
            (λ (own : x ≡ (s, i)). absurd (not (subst (λ (z : Item). Calls z) own b.1)))
            (splits x b.0),
      );
    }

  -- behind the last of a kind
  pub callers_through : (s : Space) (n : ℕ) (callers : List Item) → CallersBefore v y (s, n) callers → IsPastSpace v s n → CallersThrough v y s callers
  callers_through s n callers h past = record { rising = h.rising; are = λ x. (λ c. (let r = (h.are x).0 c in (up x r.0, r.1)), λ b. (h.are x).1 (down x b.0 b.1.0, b.1)) } where
    up : (x : Item) → IsBefore x (s, n) → space_number x.0 ≤ space_number s
    up x (inl less) = omega (arith, less)
    up x (inr (same, less)) = (let e = ap space_number same in omega (arith, e))

    down : (x : Item) → space_number x.0 ≤ space_number s → IsLive v x → IsBefore x (s, n)
    down x le live = ⊎_elim
        (λ (less : space_number x.0 < space_number s). inl less)
        (λ (more : space_number s ≤ space_number x.0).
        let is : x.0 ≡ s = numbers_same x.0 s (omega (arith, le, more)) in
        inr (is, past x.1 (subst (λ (t : Space). IsLive v (t, x.1)) is live)))
        (cases_lt (space_number x.0) (space_number s))

  -- in front of the first of the next kind
  pub callers_turn : (s t : Space) (callers : List Item) → space_number t ≡ suc (space_number s) → CallersThrough v y s callers → CallersBefore v y (t, 0) callers
  callers_turn s t callers is h = record { rising = h.rising; are = λ x. (λ c. (let r = (h.are x).0 c in (up x r.0, r.1)), λ b. (h.are x).1 (down x b.0, b.1)) } where
    up : (x : Item) → space_number x.0 ≤ space_number s → IsBefore x (t, 0)
    up x le = inl (omega (arith, le, is))

    down : (x : Item) → IsBefore x (t, 0) → space_number x.0 ≤ space_number s
    down x (inl less) = omega (arith, less, is)
    down x (inr (same, less)) = absurd (omega (arith, less))

  at_most : (s : Space) → space_number s ≤ 7
  at_most Types = omega arith
  at_most Functions = omega arith
  at_most Tables = omega arith
  at_most Memories = omega arith
  at_most Tags = omega arith
  at_most Globals = omega arith
  at_most Elements = omega arith
  at_most DataSegments = omega arith

  pub callers_all : (callers : List Item) → CallersThrough v y DataSegments callers → AreCallers v y callers
  callers_all callers h = record { rising = h.rising; are = λ x. (λ c. ((h.are x).0 c).1, λ b. (h.are x).1 (at_most x.0, b)) }
