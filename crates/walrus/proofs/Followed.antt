-- How the search for used items goes on, and what it has found at its end.
use Rattle.std.proofs.Common.{◌≡◌, ℕ, ◌+◌, ◌<◌, ◌≤◌, ◌⊎◌, inl, inr, ⊎_elim, List, [], ◌∷◌, ◌++◌, get_or, length, map, take, sym, ap, ◌∙◌, subst, arith}
use Rattle.std.specs.Prelude.{◌↔◌, Contains, Result, Ok, Err, MatchResult, vec_capacity, vec_len}
use Rattle.std.proofs.lemmas.List.{length-map, take-append-le, take_all, take_more}
use Rattle.std.proofs.lemmas.List.Elements.{Contains-push, Contains-push_cases, Contains-append_left, Contains-append_right, Contains-append_cases}
use Rattle.walrus_base.specs.Operators.{Item}
use Rattle.walrus_code.specs.Code.{item_of}
use Rattle.walrus_code.specs.declared.items.ItemId.{ItemId}
use Rattle.walrus_items.specs.declared.error.Error.{Error}
use Rattle.walrus_model.specs.Abstract.{Abstract}
use Rattle.walrus_model.specs.Live.{IsLive}
use Rattle.walrus_model.specs.Reached.{Reached, root, step}
use Rattle.walrus_model.specs.Refers.{Refers}
use Rattle.walrus_model.specs.Roots.{IsRoot}
use Rattle.walrus_contents.specs.Named.{NamesItself}
use Rattle.walrus_contents.specs.There.{IsRefusal, IsSound}
use Rattle.walrus_base.proofs.Lists.{Contains-none}
use Rattle.walrus_contents.proofs.Groups.{group_is_written, own_refers, refers_split}
use Rattle.walrus_contents.proofs.NamedLemmas.{among}
use Rattle.walrus.proofs.Entered.{enters_both, enters_none}
use Rattle.walrus.specs.Marked.{ReachesUnsound}
use Rattle.walrus.specs.MarkedItems.{HavePlaces, has_mark}
use Rattle.walrus.specs.Used.{Enters, EntersAll, Follows, Found, IsDead, IsOf, NamesDead, OneDead}
use Rattle.walrus.specs.Worklist.{IsRoomForLive, Keeps, Takes, entered_items}
use Rattle.walrus.specs.declared.passes.marks.MarkedItems.{MarkedItems}
use Rattle.walrus.specs.declared.passes.worklist.Worklist.{Worklist}

-- ---- refusals

pub dead_among : (v : Abstract) (xs : List ItemId) (i : ℕ) (d : ItemId) → i < length xs → (IsLive v (item_of (get_or xs i d)) → ⊥) → NamesDead v (map item_of xs)
dead_among v xs i d lt dead = (item_of (get_or xs i d), among item_of xs i d lt, dead)

-- where one of some isn't there, one of more isn't
module _ (v : Abstract) (a b all : List Item) (same : all ≡ a ++ b) where
  pub dead_first : NamesDead v a → NamesDead v all
  dead_first d = subst (λ (xs : List Item). NamesDead v xs) (sym same) (d.0, Contains-append_left a b d.0 d.1, d.2)

  pub dead_second : NamesDead v b → NamesDead v all
  dead_second d = subst (λ (xs : List Item). NamesDead v xs) (sym same) (d.0, Contains-append_right a b d.0 d.1, d.2)

-- what isn't there, for another reason
pub dead_map : (P Q : Type 0) → (P → Q) → (e : Error) → IsDead P e → IsDead Q e
dead_map P Q f e dead = (dead.0, f dead.1)

-- it is refused, where memory may be wanting too
pub refused_dead : (P Q : Type 0) → (P → Q) → (e : Error) → IsDead P e → IsRefusal Q e
refused_dead P Q f e dead = subst (λ (r : Error). IsRefusal Q r) (sym dead.0) (f dead.1)

-- ---- items that are entered one by one, where those to come decide

-- what those to come decide of all of them
pub record Entering (v : Abstract) (left all : List Item) (old now : Worklist) : Type 0 where
  pub kept : Keeps v now
  pub enters : (new : Worklist) → Enters v left now new → Enters v all old new
  pub dead : NamesDead v left → NamesDead v all

-- at the beginning all are to come
pub entering_all : (v : Abstract) (left all : List Item) (list : Worklist) → Keeps v list → left ≡ all → Entering v left all list list
entering_all v left all list kept same = record {
  kept = kept;
  enters = λ new e. subst (λ (xs : List Item). Enters v xs list new) same e;
  dead = λ d. subst (λ (xs : List Item). NamesDead v xs) same d;
}

module _ (v : Abstract) (left after all : List Item) (x : Item) (old now : Worklist) (steps : left ≡ x ∷ after) (e : Entering v left all old now) where
  -- the next one is entered
  pub entering_more : (mid : Worklist) → Enters v (x ∷ []) now mid → Entering v after all old mid
  entering_more mid one = record {
    kept = one.kept;
    enters = λ new rest. e.enters new (subst (λ (xs : List Item). Enters v xs now new) (sym steps) (enters_both v (x ∷ []) after now mid new one rest));
    dead = λ d. e.dead (dead_second v (x ∷ []) after left steps d);
  }

  -- the next one isn't there
  pub entering_dead : (IsLive v x → ⊥) → NamesDead v all
  entering_dead dead = e.dead (dead_first v (x ∷ []) after left steps (x, Contains-push [] x, dead))

-- at the end none is to come
pub entering_none : (v : Abstract) (left all : List Item) (old now : Worklist) → left ≡ [] → Entering v left all old now → Enters v all old now
entering_none v left all old now none e = e.enters now (subst (λ (xs : List Item). Enters v xs now now) (sym none) (enters_none v now e.kept))

-- all that an item names itself was put, and entered
module _ {T : Type 0} (v : Abstract) (x : Item) (put added : List Item) (old new : Worklist) (same : put ≡ added) (are : (y : Item) → Contains added y ↔ NamesItself v x y) where
  pub item_entered : IsSound v x → (r : Result T Error) → MatchResult r (λ _. Enters v put old new) (IsDead (NamesDead v put))
      → MatchResult r (λ _. IsSound v x × EntersAll v (NamesItself v x) old new) (IsRefusal ((IsSound v x → ⊥) ⊎ OneDead v (NamesItself v x)))
  item_entered sound (Ok _) e = (sound, record { named = added; are = are; enters = subst (λ (names : List Item). Enters v names old new) same e })
  item_entered sound (Err e) dead = refused_dead (NamesDead v put) _ (λ d. inr (d.0, (are d.0).0 (subst (λ (names : List Item). Contains names d.0) same d.1), d.2)) e dead

-- ---- what is taken

pub none_taken : (list : Worklist) → entered_items list ≡ [] → list.taken ≡ 0
none_taken list nothing =
    let none : length (entered_items list) ≡ 0 = ap length nothing in
    let counted : list.taken ≤ vec_len list.entered = list.counted in
    omega (arith, none, counted, length-map list.entered.items item_of, list.entered.ok.0)

module _ (x : Item) (old mid : Worklist) (t : Takes x old mid) where
  pub taken_more : take (old.taken + 1) (entered_items old) ≡ take old.taken (entered_items old) ++ x ∷ []
  taken_more = take_more (entered_items old) old.taken x t.waits ∙ ap (λ (y : Item). take old.taken (entered_items old) ++ y ∷ []) t.is

  pub taken_in : Contains (entered_items old) x
  taken_in = (old.taken, t.waits, t.is)

  same_items : entered_items mid ≡ entered_items old
  same_items = ap (λ ids. map item_of ids.items) t.entered

  pub keeps_taken : (v : Abstract) → Keeps v old → Keeps v mid
  keeps_taken v kept = record {
    agrees = λ y. (
      λ h. subst (λ (ys : List Item). Contains ys y) (sym same_items) ((kept.agrees y).0 (ap (λ (m : MarkedItems). has_mark m y) (sym t.marks) ∙ h)),
      λ c. ap (λ (m : MarkedItems). has_mark m y) t.marks ∙ (kept.agrees y).1 (subst (λ (ys : List Item). Contains ys y) same_items c),
    );
    live = λ y c. kept.live y (subst (λ (ys : List Item). Contains ys y) same_items c);
    places = subst (λ (m : MarkedItems). HavePlaces v m) (sym t.marks) kept.places;
    room = subst (λ ids. IsRoomForLive v (vec_capacity ids)) (sym t.entered) kept.room;
  }

module _ (v : Abstract) where
  -- a root isn't there
  pub unsound_root : (roots : List Item) → ((x : Item) → IsRoot v x ↔ Contains roots x) → NamesDead v roots → ReachesUnsound v
  unsound_root roots are dead = (dead.0, root dead.0 ((are dead.0).1 dead.1), λ sound. dead.2 sound.live)

  -- where all that is named is reached, so are the members of its groups
  of_reached : (named : List Item) → ((x : Item) → Contains named x → Reached v x) → (x : Item) → IsOf v named x → Reached v x
  of_reached named are x (inl c) = are x c
  of_reached named are x (inr g) = step g.0 x (are g.0 g.1) (inl (group_is_written v g.0 x g.2))

  -- the first turn
  pub follows_init : (none list : Worklist) (roots : List Item) → entered_items none ≡ [] → list.taken ≡ 0 → Enters v roots none list → ((x : Item) → IsRoot v x ↔ Contains roots x) → Follows v list
  follows_init none list roots nothing_in first e are = record {
    kept = e.kept;
    reached = λ x c. of_reached roots (λ y h. root y ((are y).1 h)) x (named x c);
    rooted = λ x r. e.entered x ((are x).0 r);
    groups = e.groups (λ x y c. absurd (Contains-none x (subst (λ (t : List Item). Contains t x) nothing_in c)));
    sound = λ x c. absurd (nothing x c);
    closed = λ x y c r. absurd (nothing x c);
  } where
    named : (x : Item) → Contains (entered_items list) x → IsOf v roots x
    named x c = e.named_only x (subst (λ (t : List Item). Contains t x) (e.grows ∙ ap (λ (t : List Item). t ++ e.rest) nothing_in) c)

    nothing : (x : Item) → Contains (take list.taken (entered_items list)) x → ⊥
    nothing x c = Contains-none x (subst (λ (n : ℕ). Contains (take n (entered_items list)) x) first c)

  module _ (list : Worklist) (s : Follows v list) where
    -- ---- a turn
    module _ (x : Item) (mid : Worklist) (t : Takes x list mid) where
      abbrev f : List Item
      f = entered_items list

      at : Contains f x
      at = taken_in x list mid t

      -- it isn't sound, or what it names isn't there
      pub unsound_by : (IsSound v x → ⊥) ⊎ OneDead v (NamesItself v x) → ReachesUnsound v
      unsound_by (inl not_sound) = (x, s.reached x at, not_sound)
      unsound_by (inr dead) = (dead.0, step x dead.0 (s.reached x at) (own_refers v x dead.0 dead.1), λ sound. dead.2 sound.live)

      pub follows_more : (new : Worklist) → IsSound v x → EntersAll v (NamesItself v x) mid new → Follows v new
      follows_more new is_sound all = record {
        kept = e.kept;
        reached = λ y c. ⊎_elim (λ h. s.reached y h) (λ h. of_reached all.named (λ z m. step x z (s.reached x at) (own_refers v x z ((all.are z).0 m))) y (e.named_only y h)) (cases y c);
        rooted = λ y r. still y (s.rooted y r);
        groups = e.groups (λ y z c g. subst (λ (ys : List Item). Contains ys z) (sym same) (s.groups y z (subst (λ (ys : List Item). Contains ys y) same c) g));
        sound = λ y c. ⊎_elim (λ h. s.sound y h) (λ (is : x ≡ y). subst (λ (z : Item). IsSound v z) is is_sound) (taken y c);
        closed = λ y z c r. ⊎_elim
            (λ h. still z (s.closed y z h r))
            (λ (is : x ≡ y). ⊎_elim (λ g. still z (s.groups x z at g)) (λ own. e.entered z ((all.are z).1 own)) (refers_split v x z (subst (λ (w : Item). Refers v w z) (sym is) r)))
            (taken y c);
      } where
        e : Enters v all.named mid new
        e = all.enters

        same : entered_items mid ≡ f
        same = same_items x list mid t

        grows : entered_items new ≡ f ++ e.rest
        grows = e.grows ∙ ap (λ (ys : List Item). ys ++ e.rest) same

        still : (y : Item) → Contains f y → Contains (entered_items new) y
        still y c = subst (λ (ys : List Item). Contains ys y) (sym grows) (Contains-append_left f e.rest y c)

        cases : (y : Item) → Contains (entered_items new) y → Contains f y ⊎ Contains e.rest y
        cases y c = Contains-append_cases f e.rest y (subst (λ (ys : List Item). Contains ys y) grows c)

        in_front : take (list.taken + 1) (entered_items new) ≡ take list.taken f ++ x ∷ []
        in_front =
            let waits : list.taken < length f = t.waits in
            ap (take (list.taken + 1)) grows ∙ take-append-le (list.taken + 1) f e.rest (omega (arith, waits)) ∙ taken_more x list mid t

        taken : (y : Item) → Contains (take new.taken (entered_items new)) y → Contains (take list.taken f) y ⊎ (x ≡ y)
        taken y c = Contains-push_cases (take list.taken f) x y (subst (λ (ys : List Item). Contains ys y)
            (ap (λ (n : ℕ). take n (entered_items new)) (e.taken ∙ t.taken) ∙ in_front) c)

    -- ---- the end
    module _ (all : vec_len list.entered ≤ list.taken) where
      many : length (entered_items list) ≡ vec_len list.entered
      many = length-map list.entered.items item_of ∙ sym list.entered.ok.0

      all_taken : length (entered_items list) ≤ list.taken
      all_taken = omega (arith, all, many)

      in_taken : (x : Item) → Contains (entered_items list) x → Contains (take list.taken (entered_items list)) x
      in_taken x c = subst (λ (t : List Item). Contains t x) (sym (take_all list.taken (entered_items list) all_taken)) c

      pub entered_all : (x : Item) → Reached v x → Contains (entered_items list) x
      entered_all x (root _ r) = s.rooted x r
      entered_all y (step x _ h r) = s.closed x y (in_taken x (entered_all x h)) r

      pub found_all : Found v list.marks list.taken
      found_all = record {
        marked = λ x. (λ h. s.reached x ((s.kept.agrees x).0 h), λ h. (s.kept.agrees x).1 (entered_all x h));
        count = record {
          items = entered_items list;
          count = (let counted = list.counted in omega (arith, all, many, counted));
          once = list.once;
          are = λ x. (s.reached x, entered_all x);
        };
        sound = λ x h. s.sound x (in_taken x (entered_all x h));
        places = s.kept.places;
      }
