-- Modules that differ in custom sections alone, and in what these ask to keep: what an item names is the same, and what a search enters.
use Rattle.std.proofs.Common.{◌≡◌, ◌⊎◌, inl, inr, List, refl, sym, subst}
use Rattle.std.specs.Prelude.{Contains}
use Rattle.walrus_base.specs.Operators.{Types, Functions, Tables, Memories, Tags, Globals, Elements, DataSegments, Item}
use Rattle.walrus_model.specs.Abstract.{Abstract, Custom}
use Rattle.walrus_contents.specs.Named.{NamesItself, group_names}
use Rattle.walrus_contents.specs.There.{IsSound}
use Rattle.walrus_theorem.proofs.SameItems.{live_back, live_on, with_own}
use Rattle.walrus.specs.Marked.{IsFirst, MarksSpare}
use Rattle.walrus.specs.MarkedItems.{HavePlaces}
use Rattle.walrus.specs.Used.{Enters, EntersAll, HoldGroups, IsOf, NamesDead, OneDead}
use Rattle.walrus.specs.Worklist.{Keeps}
use Rattle.walrus.specs.declared.passes.marks.MarkedItems.{MarkedItems}
use Rattle.walrus.specs.declared.passes.worklist.Worklist.{Worklist}

-- ---- what holds of the one holds of the other

module _ (v : Abstract) (customs : List Custom) (roots : List Item) where
  abbrev W : Abstract
  W = with_own v customs roots

  pub sound_on : (x : Item) → IsSound v x → IsSound W x
  sound_on x s = record { live = live_on v customs roots x s.live; initialised = s.initialised; locals = s.locals }

  pub names_on : (x y : Item) → NamesItself v x y → NamesItself W x y
  names_on (Types, i) y h = h
  names_on (Functions, i) y h = h
  names_on (Tables, i) y h = h
  names_on (Memories, i) y h = h
  names_on (Tags, i) y h = h
  names_on (Globals, i) y h = h
  names_on (Elements, i) y h = h
  names_on (DataSegments, i) y h = h

  groups_same : (x : Item) → group_names v x ≡ group_names W x
  groups_same (Types, i) = refl
  groups_same (Functions, i) = refl
  groups_same (Tables, i) = refl
  groups_same (Memories, i) = refl
  groups_same (Tags, i) = refl
  groups_same (Globals, i) = refl
  groups_same (Elements, i) = refl
  groups_same (DataSegments, i) = refl

  of_on : (named : List Item) (y : Item) → IsOf v named y → IsOf W named y
  of_on named y (inl c) = inl c
  of_on named y (inr g) = inr (g.0, g.1, subst (λ (ys : List Item). Contains ys y) (groups_same g.0) g.2)

  holds_on : (list : Worklist) → HoldGroups v list → HoldGroups W list
  holds_on list h x y c g = h x y c (subst (λ (ys : List Item). Contains ys y) (sym (groups_same x)) g)

  pub places_on : (marks : MarkedItems) → HavePlaces v marks → HavePlaces W marks
  places_on marks have x live = have x (live_back v customs roots x live)

  pub keeps_on : (list : Worklist) → Keeps v list → Keeps W list
  keeps_on list k = record {
    agrees = k.agrees;
    live = λ x c. live_on v customs roots x (k.live x c);
    places = places_on list.marks k.places;
    room = λ xs once live. k.room xs once (λ x c. live_back v customs roots x (live x c));
  }

  first_on : (x : Item) → IsFirst v x → IsFirst W x
  first_on x f = record { memory = f.memory; is = f.is; first = record { live = f.first.live; first = f.first.first } }

-- ---- and the other way round, since v has custom sections of its own too

module _ (v : Abstract) (customs : List Custom) (roots : List Item) where
  abbrev other : Abstract
  other = with_own v customs roots

  pub sound_back : (x : Item) → IsSound other x → IsSound v x
  sound_back x s = sound_on other v.customs v.section_roots x s

  names_back : (x y : Item) → NamesItself other x y → NamesItself v x y
  names_back x y h = names_on other v.customs v.section_roots x y h

  of_back : (named : List Item) (y : Item) → IsOf other named y → IsOf v named y
  of_back named y h = of_on other v.customs v.section_roots named y h

  holds_back : (list : Worklist) → HoldGroups other list → HoldGroups v list
  holds_back list h = holds_on other v.customs v.section_roots list h

  pub places_back : (marks : MarkedItems) → HavePlaces other marks → HavePlaces v marks
  places_back marks have = places_on other v.customs v.section_roots marks have

  pub keeps_back : (list : Worklist) → Keeps other list → Keeps v list
  keeps_back list k = keeps_on other v.customs v.section_roots list k

  first_back : (x : Item) → IsFirst other x → IsFirst v x
  first_back x f = first_on other v.customs v.section_roots x f

  -- ---- what is entered

  pub enters_on : (named : List Item) (old new : Worklist) → Enters v named old new → Enters other named old new
  enters_on named old new e = record {
    live = λ x o. live_on v customs roots x (e.live x (of_back named x o));
    rest = e.rest;
    grows = e.grows;
    named_only = λ x c. of_on v customs roots named x (e.named_only x c);
    groups = λ h. holds_on v customs roots new (e.groups (holds_back old h));
    entered = e.entered;
    taken = e.taken;
    kept = keeps_on v customs roots new e.kept;
  }

  pub enters_all_on : (x : Item) (old new : Worklist) → EntersAll v (NamesItself v x) old new → EntersAll other (NamesItself other x) old new
  enters_all_on x old new all = record {
    named = all.named;
    are = λ y. (λ c. names_on v customs roots x y ((all.are y).0 c), λ h. (all.are y).1 (names_back x y h));
    enters = enters_on all.named old new all.enters;
  }

  -- ---- what isn't there

  pub names_dead_on : (named : List Item) → NamesDead v named → NamesDead other named
  names_dead_on named d = (d.0, d.1, λ live. d.2 (live_back v customs roots d.0 live))

  pub unfit_on : (x : Item) → (IsSound v x → ⊥) ⊎ OneDead v (NamesItself v x) → (IsSound other x → ⊥) ⊎ OneDead other (NamesItself other x)
  unfit_on x (inl not_sound) = inl (λ sound. not_sound (sound_back x sound))
  unfit_on x (inr d) = inr (d.0, names_on v customs roots x d.0 d.1, λ live. d.2 (live_back v customs roots d.0 live))

  -- ---- the spare memory

  pub spare_on : (old new : MarkedItems) → MarksSpare v old new → MarksSpare other old new
  spare_on old new spare x = (
    λ h. with_first ((spare x).0 h),
    λ h. (spare x).1 (of_first h),
  ) where
    with_first : {P Q : Type 0} → P ⊎ (Q × IsFirst v x) → P ⊎ (Q × IsFirst other x)
    with_first (inl p) = inl p
    with_first (inr q) = inr (q.0, first_on v customs roots x q.1)

    of_first : {P Q : Type 0} → P ⊎ (Q × IsFirst other x) → P ⊎ (Q × IsFirst v x)
    of_first (inl p) = inl p
    of_first (inr q) = inr (q.0, first_back x q.1)
