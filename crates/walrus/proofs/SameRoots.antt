-- Modules that differ in custom sections alone, where these ask to keep the same items: what is reached is the same, and what a search finds.
use Rattle.std.proofs.Common.{ℕ, inl, inr, List}
use Rattle.std.specs.Prelude.{◌↔◌, Contains, Result, Ok, Err, MatchResult}
use Rattle.walrus_base.specs.Operators.{Types, Functions, Tables, Memories, Tags, Globals, Elements, DataSegments, Item}
use Rattle.walrus_model.specs.Abstract.{Abstract, Custom}
use Rattle.walrus_model.specs.Kept.{IsSpareMemory, Kept, ReachedCount}
use Rattle.walrus_model.specs.Reached.{Reached, root, step}
use Rattle.walrus_model.specs.Refers.{Refers}
use Rattle.walrus_model.specs.Roots.{IsRoot, exported, start, data_segment, element_segment, asked_for}
use Rattle.walrus_items.specs.declared.error.Error.{Error}
use Rattle.walrus_contents.specs.There.{IsRefusal}
use Rattle.walrus_contents.proofs.NamedLemmas.{refusal_map}
use Rattle.walrus_theorem.proofs.SameItems.{with_own}
use Rattle.walrus.specs.Marked.{Finds, ReachesSound, ReachesUnsound}
use Rattle.walrus.specs.declared.passes.marks.MarkedItems.{MarkedItems}
use Rattle.walrus.proofs.SameSearch.{sound_back, sound_on}

-- the same items are in both, however often and wherever
abbrev pub SameMembers : List Item → List Item → Type 0
SameMembers xs ys = (x : Item) → Contains xs x ↔ Contains ys x

pub refers_on : (v : Abstract) (customs : List Custom) (roots : List Item) (x y : Item) → Refers v x y → Refers (with_own v customs roots) x y
refers_on v customs roots (Types, i) y h = h
refers_on v customs roots (Functions, i) y h = h
refers_on v customs roots (Tables, i) y h = h
refers_on v customs roots (Memories, i) y h = h
refers_on v customs roots (Tags, i) y h = h
refers_on v customs roots (Globals, i) y h = h
refers_on v customs roots (Elements, i) y h = h
refers_on v customs roots (DataSegments, i) y h = h

-- ---- what is reached

module _ (v : Abstract) (customs : List Custom) (roots : List Item) (same : SameMembers v.section_roots roots) where
  abbrev W : Abstract
  W = with_own v customs roots

  pub root_on : (x : Item) → IsRoot v x → IsRoot W x
  root_on x (exported e at is) = exported e at is
  root_on x (start f at is) = start f at is
  root_on x (data_segment i d at kind is) = data_segment i d at kind is
  root_on x (element_segment i e at kind is) = element_segment i e at kind is
  root_on x (asked_for at) = asked_for ((same x).0 at)

  reached_on : (x : Item) → Reached v x → Reached W x
  reached_on x (root _ r) = root x (root_on x r)
  reached_on y (step x _ h r) = step x y (reached_on x h) (refers_on v customs roots x y r)

module _ (v : Abstract) (customs : List Custom) (roots : List Item) (same : SameMembers v.section_roots roots) where
  abbrev other : Abstract
  other = with_own v customs roots

  on : (x : Item) → Reached v x → Reached other x
  on x h = reached_on v customs roots same x h

  pub back : (x : Item) → Reached other x → Reached v x
  back x h = reached_on other v.customs v.section_roots (λ y. ((same y).1, (same y).0)) x h

  -- ---- what is kept, counted and sound

  spare_on : (x : Item) → IsSpareMemory v x → IsSpareMemory other x
  spare_on x s = record {
    segment = s.segment;
    data_is_reached = on (DataSegments, s.segment) s.data_is_reached;
    no_memory_is = λ j reached. s.no_memory_is j (back (Memories, j) reached);
    memory = s.memory;
    is = s.is;
    first = record { live = s.first.live; first = s.first.first };
  }

  spare_back : (x : Item) → IsSpareMemory other x → IsSpareMemory v x
  spare_back x s = record {
    segment = s.segment;
    data_is_reached = back (DataSegments, s.segment) s.data_is_reached;
    no_memory_is = λ j reached. s.no_memory_is j (on (Memories, j) reached);
    memory = s.memory;
    is = s.is;
    first = record { live = s.first.live; first = s.first.first };
  }

  kept_on : (x : Item) → Kept v x → Kept other x
  kept_on x (inl reached) = inl (on x reached)
  kept_on x (inr spare) = inr (spare_on x spare)

  kept_back : (x : Item) → Kept other x → Kept v x
  kept_back x (inl reached) = inl (back x reached)
  kept_back x (inr spare) = inr (spare_back x spare)

  count_on : (n : ℕ) → ReachedCount v n → ReachedCount other n
  count_on n c = record { items = c.items; count = c.count; once = c.once; are = λ x. (λ at. on x ((c.are x).0 at), λ reached. (c.are x).1 (back x reached)) }

  sound_still : ReachesSound v → ReachesSound other
  sound_still sound x reached = sound_on v customs roots x (sound x (back x reached))

  pub unsound_still : ReachesUnsound v → ReachesUnsound other
  unsound_still u = (u.0, on u.0 u.1, λ sound. u.2 (sound_back v customs roots u.0 sound))

  finds_still : (marks : MarkedItems) (n : ℕ) → Finds v marks n → Finds other marks n
  finds_still marks n f = record {
    kept = λ x. (λ marked. kept_on x ((f.kept x).0 marked), λ kept. (f.kept x).1 (kept_back x kept));
    count = count_on n f.count;
    sound = sound_still f.sound;
  }

  -- ---- what a search answers

  pub answers_still : (r : Result (MarkedItems × ℕ) Error) → MatchResult r (λ found. Finds v found.0 found.1) (IsRefusal (ReachesUnsound v))
      → MatchResult r (λ found. Finds other found.0 found.1) (IsRefusal (ReachesUnsound other))
  answers_still (Ok found) f = finds_still found.0 found.1 f
  answers_still (Err e) refused = refusal_map (ReachesUnsound v) (ReachesUnsound other) unsound_still e refused
