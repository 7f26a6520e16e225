-- How a worklist follows what is entered.
use Rattle.std.proofs.Common.{◌≡◌, ℕ, zero, suc, ◌<◌, ◌≤◌, ◌≢◌, ◌⊎◌, inl, inr, ⊎_elim, Bool, true, false, List, [], ◌∷◌, ◌++◌, length, length-append, map, Option, Some, None, sym, ap, ◌∙◌, subst, refl, append_assoc, arith}
use Rattle.std.specs.Prelude.{◌↔◌, AllPairs, Contains, not, vec_capacity, vec_len, if◌then◌else◌}
use Rattle.std.proofs.lemmas.Bool.{false≢true}
use Rattle.std.proofs.lemmas.List.{append-nil, length-map}
use Rattle.std.proofs.lemmas.List.Elements.{Contains-get_or, Contains-push, Contains-push_cases, Contains-append_left, Contains-append_right, Contains-append_cases}
use Rattle.std.proofs.lemmas.List.Quantifiers.{all_pairs_push}
use Rattle.walrus_base.specs.Operators.{Space, Types, Functions, Tables, Memories, Tags, Globals, Elements, DataSegments, Item, type_item}
use Rattle.walrus_base.specs.TypeSlots.{group_of}
use Rattle.walrus_code.specs.Code.{item_of}
use Rattle.walrus_model.specs.Abstract.{Abstract, TypeDef}
use Rattle.walrus_model.specs.Live.{IsLive}
use Rattle.walrus_model.specs.Refers.{named_by}
use Rattle.walrus_base.proofs.Lists.{Contains-none}
use Rattle.walrus_contents.specs.Named.{group_names}
use Rattle.walrus_contents.specs.There.{AreLive}
use Rattle.walrus_contents.proofs.Groups.{GroupsAreWhole}
use Rattle.walrus.specs.MarkedItems.{AddsMark, AreUnmarked, HavePlaces, SamePlaces, has_mark}
use Rattle.walrus.specs.Used.{Enters, IsOf, NotesAll}
use Rattle.walrus.specs.Worklist.{Agrees, IsRoomForLive, Keeps, Notes, entered_items}
use Rattle.walrus.specs.declared.passes.marks.MarkedItems.{MarkedItems}
use Rattle.walrus.specs.declared.passes.worklist.Worklist.{Worklist}
use Rattle.walrus_theorem.proofs.EditSpace.{equal_or as same_or_other}

abbrev space_number : Space → ℕ
space_number Types = 0
space_number Functions = 1
space_number Tables = 2
space_number Memories = 3
space_number Tags = 4
space_number Globals = 5
space_number Elements = 6
space_number DataSegments = 7

abbrev space_at : ℕ → Space
space_at zero = Types
space_at (suc zero) = Functions
space_at (suc (suc zero)) = Tables
space_at (suc (suc (suc zero))) = Memories
space_at (suc (suc (suc (suc zero)))) = Tags
space_at (suc (suc (suc (suc (suc zero))))) = Globals
space_at (suc (suc (suc (suc (suc (suc zero)))))) = Elements
space_at (suc (suc (suc (suc (suc (suc (suc n))))))) = DataSegments

space_back : (s : Space) → space_at (space_number s) ≡ s
space_back Types = refl
space_back Functions = refl
space_back Tables = refl
space_back Memories = refl
space_back Tags = refl
space_back Globals = refl
space_back Elements = refl
space_back DataSegments = refl

pair_same : (s t : Space) (i j : ℕ) → s ≡ t → i ≡ j → ◌≡◌ {A = Item} (s, i) (t, j)
pair_same s t i j p q = ap (λ (x : Space). (x, i)) p ∙ ap (λ (n : ℕ). (t, n)) q

pub same_or_other_item : (x y : Item) → (x ≡ y) ⊎ (x ≢ y)
same_or_other_item (s, i) (t, j) = choose (same_or_other (space_number s) (space_number t)) (same_or_other i j) where
  choose : (space_number s ≡ space_number t) ⊎ (space_number s ≢ space_number t) → (i ≡ j) ⊎ (i ≢ j) → (◌≡◌ {A = Item} (s, i) (t, j)) ⊎ (◌≢◌ {A = Item} (s, i) (t, j))
  choose (inl p) (inl q) = inl (pair_same s t i j (sym (space_back s) ∙ ap space_at p ∙ space_back t) q)
  choose (inl p) (inr q) = inr (λ e. q (ap (λ (x : Item). x.1) e))
  choose (inr p) b = inr (λ e. p (ap (λ (x : Item). space_number x.0) e))

-- ---- an item that is marked, and entered where it wasn't

-- those marked are those in the list
abbrev pub MarkedAre : MarkedItems → List Item → Type 0
MarkedAre marks items = (y : Item) → (has_mark marks y ≡ true) ↔ Contains items y

-- nothing is marked, and nothing entered
pub nothing_agrees : (marks : MarkedItems) → AreUnmarked marks → MarkedAre marks []
nothing_agrees marks none x = (λ h. absurd (false≢true (sym (none x) ∙ h)), λ c. absurd (Contains-none x c))

module _ (x : Item) (old new : MarkedItems) (m : AddsMark old new x) (items : List Item) (agrees : MarkedAre old items) where
  -- it wasn't marked
  pub agrees_new : MarkedAre new (items ++ x ∷ [])
  agrees_new y = (λ h. there h (same_or_other_item y x), λ c. back c) where
    there : has_mark new y ≡ true → (y ≡ x) ⊎ (y ≢ x) → Contains (items ++ x ∷ []) y
    there h (inl e) = subst (λ (z : Item). Contains (items ++ x ∷ []) z) (sym e) (Contains-push items x)
    there h (inr other) = Contains-append_left items (x ∷ []) y ((agrees y).0 (sym (m.others y other) ∙ h))

    back_other : Contains items y → (y ≡ x) ⊎ (y ≢ x) → has_mark new y ≡ true
    back_other c (inl e) = subst (λ (z : Item). has_mark new z ≡ true) (sym e) m.added
    back_other c (inr other) = m.others y other ∙ (agrees y).1 c

    back : Contains (items ++ x ∷ []) y → has_mark new y ≡ true
    back c = ⊎_elim (λ h. back_other h (same_or_other_item y x)) (λ (e : x ≡ y). subst (λ (z : Item). has_mark new z ≡ true) e m.added) (Contains-push_cases items x y c)

  -- it was marked
  pub agrees_again : has_mark old x ≡ true → MarkedAre new items
  agrees_again was y = (λ h. (agrees y).0 (unmarked h (same_or_other_item y x)), λ c. marked ((agrees y).1 c) (same_or_other_item y x)) where
    marked : has_mark old y ≡ true → (y ≡ x) ⊎ (y ≢ x) → has_mark new y ≡ true
    marked h (inl e) = subst (λ (z : Item). has_mark new z ≡ true) (sym e) m.added
    marked h (inr other) = m.others y other ∙ h

    unmarked : has_mark new y ≡ true → (y ≡ x) ⊎ (y ≢ x) → has_mark old y ≡ true
    unmarked h (inl e) = subst (λ (z : Item). has_mark old z ≡ true) (sym e) was
    unmarked h (inr other) = sym (m.others y other) ∙ h

-- what isn't marked isn't in the list, so that behind it no two are the same still
pub once_more : (marks : MarkedItems) (items : List Item) → MarkedAre marks items → (x : Item) → has_mark marks x ≡ false → AllPairs (λ (y z : Item). y ≢ z) items → AllPairs (λ (y z : Item). y ≢ z) (items ++ x ∷ [])
once_more marks items agrees x not_marked once = all_pairs_push (λ (y z : Item). y ≢ z) items x once
    (λ k d lt same. absurd (false≢true (sym not_marked ∙ (agrees x).1 (subst (λ (y : Item). Contains items y) same (Contains-get_or items k d lt)))))

-- what a contract says of it
module _ (x : Item) (old new : Worklist) (m : AddsMark old.marks new.marks x) (agrees : Agrees old) where
  pub notes_new : has_mark old.marks x ≡ false → entered_items new ≡ entered_items old ++ x ∷ [] → vec_capacity new.entered ≡ vec_capacity old.entered → new.taken ≡ old.taken → Notes x old new
  notes_new off grows room taken = record {
    items = grows ∙ ap (λ (t : Bool). if t then entered_items old else (entered_items old ++ x ∷ [])) (sym off);
    agrees = subst (λ (t : List Item). MarkedAre new.marks t) (sym grows) (agrees_new x old.marks new.marks m (entered_items old) agrees);
    places = m.places;
    room = room;
    taken = taken;
  }

  pub notes_again : has_mark old.marks x ≡ true → entered_items new ≡ entered_items old → vec_capacity new.entered ≡ vec_capacity old.entered → new.taken ≡ old.taken → Notes x old new
  notes_again on same room taken = record {
    items = same ∙ ap (λ (t : Bool). if t then entered_items old else (entered_items old ++ x ∷ [])) (sym on);
    agrees = subst (λ (t : List Item). MarkedAre new.marks t) (sym same) (agrees_again x old.marks new.marks m (entered_items old) agrees on);
    places = m.places;
    room = room;
    taken = taken;
  }

-- ---- the members of a group

pub group_members : (o : Option TypeDef) → map type_item (group_of o) ≡ named_by (λ (t : TypeDef). map type_item t.group) o
group_members None = refl
group_members (Some t) = refl

-- ---- places and room

pub have_places : (v : Abstract) (old new : MarkedItems) → SamePlaces old new → HavePlaces v old → HavePlaces v new
have_places v old new same have x live = subst (λ (n : ℕ). x.1 < n) (sym (same x.0)) (have x live)

-- those that were entered are still
kept_in : (f f' rest : List Item) → f' ≡ f ++ rest → (y : Item) → Contains f y → Contains f' y
kept_in f f' rest grows y c = subst (λ (t : List Item). Contains t y) (sym grows) (Contains-append_left f rest y c)

-- each is of those or new
was_or_new : (f f' rest : List Item) → f' ≡ f ++ rest → (y : Item) → Contains f' y → Contains f y ⊎ Contains rest y
was_or_new f f' rest grows y c = Contains-append_cases f rest y (subst (λ (t : List Item). Contains t y) grows c)

module _ (v : Abstract) where
  -- nothing is entered
  pub keeps_none : (list : Worklist) → AreUnmarked list.marks → HavePlaces v list.marks → entered_items list ≡ [] → IsRoomForLive v (vec_capacity list.entered) → Keeps v list
  keeps_none list unmarked places nothing room = record {
    agrees = subst (λ (t : List Item). MarkedAre list.marks t) (sym nothing) (nothing_agrees list.marks unmarked);
    live = λ x c. absurd (Contains-none x (subst (λ (t : List Item). Contains t x) nothing c));
    places = places;
    room = room;
  }

  live_behind : (items : List Item) (x : Item) → AreLive v items → IsLive v x → AreLive v (items ++ x ∷ [])
  live_behind items x live is y c = ⊎_elim (λ h. live y h) (λ (e : x ≡ y). subst (λ (z : Item). IsLive v z) e is) (Contains-push_cases items x y c)

  -- there is room for a live item that isn't marked
  pub has_room : (list : Worklist) → Keeps v list → (x : Item) → IsLive v x → has_mark list.marks x ≡ false → vec_len list.entered < vec_capacity list.entered
  has_room list kept x live not_marked =
      let items = entered_items list in
      let many : length (items ++ x ∷ []) ≤ vec_capacity list.entered = kept.room (items ++ x ∷ []) (once_more list.marks items kept.agrees x not_marked list.once) (live_behind items x kept.live live) in
      omega (arith, many, length-append items (x ∷ []), length-map list.entered.items item_of, list.entered.ok.0)

  -- ---- one item

  module _ (x : Item) (old new : Worklist) (kept : Keeps v old) (live : IsLive v x) (n : Notes x old new) where
    keeps_noted : AreLive v (entered_items new) → Keeps v new
    keeps_noted are = record {
      agrees = n.agrees;
      live = are;
      places = have_places v old.marks new.marks n.places kept.places;
      room = subst (λ (k : ℕ). IsRoomForLive v k) (sym n.room) kept.room;
    }

    -- it wasn't marked
    noted_new : entered_items new ≡ entered_items old ++ x ∷ [] → NotesAll v (x ∷ []) old new
    noted_new grows = record {
      rest = x ∷ [];
      grows = grows;
      named_only = λ y c. c;
      entered = λ y c. subst (λ (t : List Item). Contains t y) (sym grows) (Contains-append_right (entered_items old) (x ∷ []) y c);
      taken = n.taken;
      kept = keeps_noted (subst (λ (t : List Item). AreLive v t) (sym grows) (live_behind (entered_items old) x kept.live live));
    }

    -- it was marked
    noted_again : has_mark old.marks x ≡ true → entered_items new ≡ entered_items old → NotesAll v (x ∷ []) old new
    noted_again was same = record {
      rest = [];
      grows = same ∙ sym (append-nil (entered_items old));
      named_only = λ y c. absurd (Contains-none y c);
      entered = λ y c. ⊎_elim
          (λ h. absurd (Contains-none y h))
          (λ (e : x ≡ y). subst (λ (t : List Item). Contains t y) (sym same) (subst (λ (z : Item). Contains (entered_items old) z) e ((kept.agrees x).0 was)))
          (Contains-push_cases [] x y c);
      taken = n.taken;
      kept = keeps_noted (subst (λ (t : List Item). AreLive v t) (sym same) kept.live);
    }

    pub notes_one : NotesAll v (x ∷ []) old new
    notes_one = by (has_mark old.marks x) refl where
      by : (t : Bool) → has_mark old.marks x ≡ t → NotesAll v (x ∷ []) old new
      by true e = noted_again e (n.items ∙ ap (λ (t : Bool). if t then entered_items old else (entered_items old ++ x ∷ [])) e)
      by false e = noted_new (n.items ∙ ap (λ (t : Bool). if t then entered_items old else (entered_items old ++ x ∷ [])) e)

  -- ---- nothing, and one after the other

  pub notes_none : (list : Worklist) → Keeps v list → NotesAll v [] list list
  notes_none list kept = record {
    rest = [];
    grows = sym (append-nil (entered_items list));
    named_only = λ x c. c;
    entered = λ x c. absurd (Contains-none x c);
    taken = refl;
    kept = kept;
  }

  pub notes_both : (a b : List Item) (l l1 l2 : Worklist) → NotesAll v a l l1 → NotesAll v b l1 l2 → NotesAll v (a ++ b) l l2
  notes_both a b l l1 l2 x y = record {
    rest = x.rest ++ y.rest;
    grows = y.grows ∙ ap (λ (t : List Item). t ++ y.rest) x.grows ∙ append_assoc (entered_items l) x.rest y.rest;
    named_only = λ z c. ⊎_elim (λ h. Contains-append_left a b z (x.named_only z h)) (λ h. Contains-append_right a b z (y.named_only z h)) (Contains-append_cases x.rest y.rest z c);
    entered = λ z c. ⊎_elim
        (λ h. kept_in (entered_items l1) (entered_items l2) y.rest y.grows z (x.entered z h))
        (λ h. y.entered z h)
        (Contains-append_cases a b z c);
    taken = y.taken ∙ x.taken;
    kept = y.kept;
  }

  of_left : (a b : List Item) (z : Item) → IsOf v a z → IsOf v (a ++ b) z
  of_left a b z (inl c) = inl (Contains-append_left a b z c)
  of_left a b z (inr g) = inr (g.0, Contains-append_left a b g.0 g.1, g.2)

  of_right : (a b : List Item) (z : Item) → IsOf v b z → IsOf v (a ++ b) z
  of_right a b z (inl c) = inl (Contains-append_right a b z c)
  of_right a b z (inr g) = inr (g.0, Contains-append_right a b g.0 g.1, g.2)

  of_cases : (a b : List Item) (z : Item) → IsOf v (a ++ b) z → IsOf v a z ⊎ IsOf v b z
  of_cases a b z (inl c) = ⊎_elim (λ h. inl (inl h)) (λ h. inr (inl h)) (Contains-append_cases a b z c)
  of_cases a b z (inr g) = ⊎_elim (λ h. inl (inr (g.0, h, g.2))) (λ h. inr (inr (g.0, h, g.2))) (Contains-append_cases a b g.0 g.1)

  of_none : (z : Item) → IsOf v [] z → ⊥
  of_none z (inl c) = Contains-none z c
  of_none z (inr g) = Contains-none g.0 g.1

  -- ---- one item with its group

  module _ (whole : GroupsAreWhole v) (x : Item) (is_live : IsLive v x) where
    one : (y : Item) → Contains (x ∷ []) y → x ≡ y
    one y c = ⊎_elim (λ h. absurd (Contains-none y h)) (λ (e : x ≡ y). e) (Contains-push_cases [] x y c)

    live_one : (y : Item) → IsOf v (x ∷ []) y → IsLive v y
    live_one y (inl c) = subst (λ (z : Item). IsLive v z) (one y c) is_live
    live_one y (inr g) = (whole g.0 y g.2).0

    -- it wasn't marked: its group was entered behind it
    pub enters_new : (old mid new : Worklist) → NotesAll v (x ∷ []) old mid → NotesAll v (group_names v x) mid new → Enters v (x ∷ []) old new
    enters_new old mid new first others = record {
      live = live_one;
      rest = both.rest;
      grows = both.grows;
      named_only = λ y c. ⊎_elim (λ h. inl h) (λ g. inr (x, Contains-push [] x, g)) (Contains-append_cases (x ∷ []) group y (both.named_only y c));
      groups = λ h z y c g. ⊎_elim
          (λ was. kept_in f f2 both.rest both.grows y (h z y was g))
          (λ new. both.entered y (Contains-append_right (x ∷ []) group y (member z y g (Contains-append_cases (x ∷ []) group z (both.named_only z new)))))
          (was_or_new f f2 both.rest both.grows z c);
      entered = λ y c. both.entered y (Contains-append_left (x ∷ []) group y c);
      taken = both.taken;
      kept = both.kept;
    } where
      group : List Item
      group = group_names v x

      f : List Item
      f = entered_items old

      f2 : List Item
      f2 = entered_items new

      both : NotesAll v ((x ∷ []) ++ group) old new
      both = notes_both (x ∷ []) group old mid new first others

      member : (z y : Item) → Contains (group_names v z) y → Contains (x ∷ []) z ⊎ Contains group z → Contains group y
      member z y g (inl c) = subst (λ (w : Item). Contains (group_names v w) y) (sym (one z c)) g
      member z y g (inr m) = subst (λ (ys : List Item). Contains ys y) (whole x z m).1 g

    -- it was marked
    pub enters_again : (old new : Worklist) → Contains (entered_items old) x → NotesAll v (x ∷ []) old new → Enters v (x ∷ []) old new
    enters_again old new was n = record {
      live = live_one;
      rest = n.rest;
      grows = n.grows;
      named_only = λ y c. inl (n.named_only y c);
      groups = λ h z y c g. kept_in f f1 n.rest n.grows y (h z y (⊎_elim
          (λ before. before)
          (λ new. subst (λ (w : Item). Contains f w) (one z (n.named_only z new)) was)
          (was_or_new f f1 n.rest n.grows z c)) g);
      entered = n.entered;
      taken = n.taken;
      kept = n.kept;
    } where
      f : List Item
      f = entered_items old

      f1 : List Item
      f1 = entered_items new

    was_in : (b r : Bool) → r ≡ not b → r ≡ false → b ≡ true
    was_in true r e f = refl
    was_in false r e f = absurd (false≢true (sym f ∙ e))

    pub enters_marked : (old new : Worklist) (is_new : Bool) → Keeps v old → is_new ≡ not (has_mark old.marks x) → is_new ≡ false → NotesAll v (x ∷ []) old new → Enters v (x ∷ []) old new
    enters_marked old new is_new kept e f_is n = enters_again old new ((kept.agrees x).0 (was_in (has_mark old.marks x) is_new e f_is)) n

    -- it was entered before, and nothing changes
    pub enters_before : (list : Worklist) → Keeps v list → has_mark list.marks x ≡ true → Enters v (x ∷ []) list list
    enters_before list kept is = enters_again list list ((kept.agrees x).0 is) (record {
      rest = [];
      grows = sym (append-nil (entered_items list));
      named_only = λ y c. absurd (Contains-none y c);
      entered = λ y c. subst (λ (z : Item). Contains (entered_items list) z) (one y c) ((kept.agrees x).0 is);
      taken = refl;
      kept = kept;
    })

  -- ---- nothing, and one after the other

  pub enters_none : (list : Worklist) → Keeps v list → Enters v [] list list
  enters_none list kept = record {
    live = λ x o. absurd (of_none x o);
    rest = [];
    grows = sym (append-nil (entered_items list));
    named_only = λ x c. inl c;
    groups = λ h. h;
    entered = λ x c. absurd (Contains-none x c);
    taken = refl;
    kept = kept;
  }

  pub enters_both : (a b : List Item) (l l1 l2 : Worklist) → Enters v a l l1 → Enters v b l1 l2 → Enters v (a ++ b) l l2
  enters_both a b l l1 l2 x y = record {
    live = λ z o. ⊎_elim (λ h. x.live z h) (λ h. y.live z h) (of_cases a b z o);
    rest = x.rest ++ y.rest;
    grows = y.grows ∙ ap (λ (t : List Item). t ++ y.rest) x.grows ∙ append_assoc (entered_items l) x.rest y.rest;
    named_only = λ z c. ⊎_elim (λ h. of_left a b z (x.named_only z h)) (λ h. of_right a b z (y.named_only z h)) (Contains-append_cases x.rest y.rest z c);
    groups = λ h. y.groups (x.groups h);
    entered = λ z c. ⊎_elim
        (λ h. kept_in (entered_items l1) (entered_items l2) y.rest y.grows z (x.entered z h))
        (λ h. y.entered z h)
        (Contains-append_cases a b z c);
    taken = y.taken ∙ x.taken;
    kept = y.kept;
  }

  pub enters_more : (a b c : List Item) (l l1 l2 : Worklist) → c ≡ a ++ b → Enters v a l l1 → Enters v b l1 l2 → Enters v c l l2
  enters_more a b c l l1 l2 e x y = subst (λ (named : List Item). Enters v named l l2) (sym e) (enters_both a b l l1 l2 x y)
