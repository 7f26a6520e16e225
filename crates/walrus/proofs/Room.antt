-- Live items of which no two are the same are no more than the live items that the collections hold, and these no more than their places.
use Rattle.std.proofs.Common.{◌≡◌, ◌≢◌, ℕ, zero, suc, ◌+◌, ◌<◌, ◌≤◌, ⊎_elim, List, [], ◌∷◌, ◌++◌, length, length-append, filter, Option, Some, None, refl, sym, ap, ap₂, ◌∙◌, subst, arith}
use Rattle.std.specs.Prelude.{AllPairs, Contains, IsSome, count_by, is_some}
use Rattle.std.proofs.lemmas.List.Elements.{Contains-append_left, Contains-append_right}
use Rattle.std.proofs.lemmas.List.Sums.{count_by-le-length, length-filter}
use Rattle.walrus_base.specs.Arena.{item_at}
use Rattle.walrus_base.specs.ModuleTypes.{type_slots}
use Rattle.walrus_base.specs.Operators.{Space, Types, Functions, Tables, Memories, Tags, Globals, Elements, DataSegments, Item}
use Rattle.walrus_items.specs.Data.{data_segments}
use Rattle.walrus_items.specs.Elements.{elements}
use Rattle.walrus_items.specs.Functions.{functions}
use Rattle.walrus_items.specs.Globals.{globals}
use Rattle.walrus_items.specs.Memories.{memories}
use Rattle.walrus_items.specs.Tables.{tables}
use Rattle.walrus_items.specs.Tags.{tags}
use Rattle.walrus_model.specs.Live.{IsLive}
use Rattle.walrus_base.proofs.Lists.{Contains-head, Contains-none, Contains-tail, Contains-uncons}
use Rattle.walrus_contents.specs.View.{contents_view, data_of, element_of, function, global_of, memory_of, table_of, tag_of}
use Rattle.walrus_contents.specs.declared.parts.Contents.{Contents}
use Rattle.walrus.specs.LiveCount.{live_count, place_count}
use Rattle.walrus.specs.Worklist.{IsRoomForLive}
use Rattle.walrus_base.proofs.Standing.{was_some as was_there}

-- ---- a list of distinct elements, all of them in another, is no longer

module _ {X : Type 0} where
  -- the list without one x
  abbrev Without : X → List X → Type 0
  Without x ys = (rest : List X) × ((length ys ≡ suc (length rest)) × ((z : X) → Contains ys z → z ≢ x → Contains rest z))

  here : (x y : X) (ys : List X) → y ≡ x → Without x (y ∷ ys)
  here x y ys e = (ys, (refl, λ z at other. ⊎_elim (λ (q : y ≡ z). absurd (other (sym q ∙ e))) (λ h. h) (Contains-uncons y z ys at)))

  later : (x y : X) (ys : List X) → Without x ys → Without x (y ∷ ys)
  later x y ys r = (
    y ∷ r.0,
    (
      ap suc r.1.0,
      λ z at other. ⊎_elim
          (λ (q : y ≡ z). subst (λ (w : X). Contains (y ∷ r.0) w) q (Contains-head y r.0))
          (λ h. Contains-tail y z r.0 (r.1.1 z h other))
          (Contains-uncons y z ys at),
    ),
  )

  without : (x : X) (ys : List X) → Contains ys x → Without x ys
  without x [] at = absurd (Contains-none x at)
  without x (y ∷ ys) at = ⊎_elim (here x y ys) (λ h. later x y ys (without x ys h)) (Contains-uncons y x ys at)

  head_apart : (x : X) (xs : List X) → AllPairs (λ y z. y ≢ z) (x ∷ xs) → (z : X) → Contains xs z → z ≢ x
  head_apart x xs apart z at same =
      let low : at.0 < length xs = at.1 in
      let within : suc at.0 < length (x ∷ xs) = omega (arith, low) in
      apart 0 (suc at.0) z (omega arith) within (sym same ∙ sym at.2)

  tail_apart : (x : X) (xs : List X) → AllPairs (λ y z. y ≢ z) (x ∷ xs) → AllPairs (λ y z. y ≢ z) xs
  tail_apart x xs apart i j d lt within =
      let next : suc j < length (x ∷ xs) = omega (arith, within) in
      apart (suc i) (suc j) d (omega (arith, lt)) next

  fits : (xs ys : List X) → AllPairs (λ y z. y ≢ z) xs → ((z : X) → Contains xs z → Contains ys z) → length xs ≤ length ys
  fits [] ys apart among = omega arith
  fits (x ∷ xs) ys apart among =
      let w = without x ys (among x (Contains-head x xs)) in
      let rest : length xs ≤ length w.0 = fits xs w.0 (tail_apart x xs apart) (λ z at. w.1.1 z (among z (Contains-tail x z xs at)) (head_apart x xs apart z at)) in
      omega (arith, rest, w.1.0)

-- ---- the live items, kind by kind

module _ {T : Type 0} (space : Space) where
  -- those at the places from p on
  abbrev live_from : ℕ → List (Option T) → List Item
  live_from p [] = []
  live_from p (None ∷ rest) = live_from (suc p) rest
  live_from p (Some x ∷ rest) = (space, p) ∷ live_from (suc p) rest

  many_live : (p : ℕ) (slots : List (Option T)) → length (live_from p slots) ≡ count_by is_some slots
  many_live p slots = many_filtered p slots ∙ length-filter is_some slots where
    many_filtered : (p : ℕ) (slots : List (Option T)) → length (live_from p slots) ≡ length (filter is_some slots)
    many_filtered p [] = refl
    many_filtered p (None ∷ rest) = many_filtered (suc p) rest
    many_filtered p (Some x ∷ rest) = ap suc (many_filtered (suc p) rest)

  live_there : (p q i : ℕ) (slots : List (Option T)) → q ≡ p + i → IsSome (item_at slots i) → Contains (live_from p slots) (space, q)
  live_there p q i [] e there = absurd cc
  live_there p q zero (None ∷ rest) e there = absurd cc
  live_there p q zero (Some x ∷ rest) e there =
      let same : p ≡ q = omega (arith, e) in
      subst (λ (n : ℕ). Contains ((space, p) ∷ live_from (suc p) rest) (space, n)) same (Contains-head (space, p) (live_from (suc p) rest))
  live_there p q (suc i) (None ∷ rest) e there = live_there (suc p) q i rest (omega (arith, e)) there
  live_there p q (suc i) (Some x ∷ rest) e there = Contains-tail (space, p) (space, q) (live_from (suc p) rest) (live_there (suc p) q i rest (omega (arith, e)) there)

  -- those of a collection
  abbrev live_in : List (Option T) → List Item
  live_in slots = live_from 0 slots

  live_at : (i : ℕ) (slots : List (Option T)) → IsSome (item_at slots i) → Contains (live_in slots) (space, i)
  live_at i slots there = live_there 0 i i slots (omega arith) there

both : (xs ys : List Item) (m n : ℕ) → length xs ≡ m → length ys ≡ n → length (xs ++ ys) ≡ m + n
both xs ys m n e f = length-append xs ys ∙ ap₂ ◌+◌ e f

module _ (c : Contents) where
  abbrev types : List Item
  types = live_in Types (type_slots c.types)

  abbrev to_functions : List Item
  to_functions = types ++ live_in Functions (functions c.funcs)

  abbrev to_tables : List Item
  to_tables = to_functions ++ live_in Tables (tables c.tables)

  abbrev to_memories : List Item
  to_memories = to_tables ++ live_in Memories (memories c.memories)

  abbrev to_tags : List Item
  to_tags = to_memories ++ live_in Tags (tags c.tags)

  abbrev to_globals : List Item
  to_globals = to_tags ++ live_in Globals (globals c.globals)

  abbrev to_elements : List Item
  to_elements = to_globals ++ live_in Elements (elements c.elements)

  abbrev all_live : List Item
  all_live = to_elements ++ live_in DataSegments (data_segments c.data_)

  so_many : length all_live ≡ live_count c
  so_many =
      both to_elements _ _ _ (both to_globals _ _ _ (both to_tags _ _ _ (both to_memories _ _ _ (both to_tables _ _ _ (both to_functions _ _ _ (both types _ _ _
      (many_live Types 0 (type_slots c.types))
      (many_live Functions 0 (functions c.funcs)))
      (many_live Tables 0 (tables c.tables)))
      (many_live Memories 0 (memories c.memories)))
      (many_live Tags 0 (tags c.tags)))
      (many_live Globals 0 (globals c.globals)))
      (many_live Elements 0 (elements c.elements)))
      (many_live DataSegments 0 (data_segments c.data_))

  from_elements : (x : Item) → Contains to_elements x → Contains all_live x
  from_elements x at = Contains-append_left to_elements _ x at

  from_globals : (x : Item) → Contains to_globals x → Contains all_live x
  from_globals x at = from_elements x (Contains-append_left to_globals _ x at)

  from_tags : (x : Item) → Contains to_tags x → Contains all_live x
  from_tags x at = from_globals x (Contains-append_left to_tags _ x at)

  from_memories : (x : Item) → Contains to_memories x → Contains all_live x
  from_memories x at = from_tags x (Contains-append_left to_memories _ x at)

  from_tables : (x : Item) → Contains to_tables x → Contains all_live x
  from_tables x at = from_memories x (Contains-append_left to_tables _ x at)

  from_functions : (x : Item) → Contains to_functions x → Contains all_live x
  from_functions x at = from_tables x (Contains-append_left to_functions _ x at)

  among_live : (x : Item) → IsLive (contents_view c) x → Contains all_live x
  among_live (Types, i) live = from_functions _ (Contains-append_left types _ _ (live_at Types i (type_slots c.types) live))
  among_live (Functions, i) live = from_functions _ (Contains-append_right types _ _ (live_at Functions i (functions c.funcs) (was_there (function c.locals) _ live)))
  among_live (Tables, i) live = from_tables _ (Contains-append_right to_functions _ _ (live_at Tables i (tables c.tables) (was_there table_of _ live)))
  among_live (Memories, i) live = from_memories _ (Contains-append_right to_tables _ _ (live_at Memories i (memories c.memories) (was_there memory_of _ live)))
  among_live (Tags, i) live = from_tags _ (Contains-append_right to_memories _ _ (live_at Tags i (tags c.tags) (was_there tag_of _ live)))
  among_live (Globals, i) live = from_globals _ (Contains-append_right to_tags _ _ (live_at Globals i (globals c.globals) (was_there global_of _ live)))
  among_live (Elements, i) live = from_elements _ (Contains-append_right to_globals _ _ (live_at Elements i (elements c.elements) (was_there element_of _ live)))
  among_live (DataSegments, i) live = Contains-append_right to_elements _ _ (live_at DataSegments i (data_segments c.data_) (was_there data_of _ live))

  pub room_for_live : IsRoomForLive (contents_view c) (live_count c)
  room_for_live xs apart live = subst (λ (n : ℕ). length xs ≤ n) so_many (fits xs all_live apart (λ z at. among_live z (live z at)))

  -- each collection holds no more live items than it has places
  within_places : live_count c ≤ place_count c
  within_places =
      let in_types = count_by-le-length is_some (type_slots c.types) in
      let in_functions = count_by-le-length is_some (functions c.funcs) in
      let in_tables = count_by-le-length is_some (tables c.tables) in
      let in_memories = count_by-le-length is_some (memories c.memories) in
      let in_tags = count_by-le-length is_some (tags c.tags) in
      let in_globals = count_by-le-length is_some (globals c.globals) in
      let in_elements = count_by-le-length is_some (elements c.elements) in
      let in_data = count_by-le-length is_some (data_segments c.data_) in
      omega (arith, in_types, in_functions, in_tables, in_memories, in_tags, in_globals, in_elements, in_data)

  pub room_for_places : IsRoomForLive (contents_view c) (place_count c)
  room_for_places xs apart live =
      let few : length xs ≤ live_count c = room_for_live xs apart live in
      omega (arith, few, within_places)
