-- What custom sections ask for is, kind by kind, what they ask to keep.
use Rattle.std.proofs.Common.{◌≡◌, ℕ, ◌⊎◌, inl, inr, ⊎_elim, List, [], ◌∷◌, ◌++◌, map, filter, sym, subst}
use Rattle.std.specs.Prelude.{◌↔◌, Contains}
use Rattle.std.proofs.lemmas.List.{map-append}
use Rattle.std.proofs.lemmas.List.Elements.{Contains-push, Contains-push_cases, Contains-append_left, Contains-append_right, Contains-append_cases}
use Rattle.walrus_base.specs.Operators.{Types, Functions, Tables, Memories, Tags, Globals, Elements, DataSegments, Item}
use Rattle.walrus_base.proofs.Lists.{Contains-head, Contains-none, Contains-tail, Contains-uncons}
use Rattle.walrus_items.specs.Roots.{RootLists, no_roots, with_root, with_roots}
use Rattle.walrus_module.specs.View.{can_be_kept}
use Rattle.walrus.specs.Asked.{asked_items}
use Rattle.walrus.proofs.SameRoots.{SameMembers}

-- ---- one more

-- the list has one member more
abbrev AddsOne : List Item → List Item → Item → Type 0
AddsOne old new y = (x : Item) → Contains new x ↔ (Contains old x ⊎ (y ≡ x))

pushed : (f : ℕ → Item) (ns : List ℕ) (n : ℕ) → AddsOne (map f ns) (map f (ns ++ n ∷ [])) (f n)
pushed f ns n = subst (λ (ys : List Item). AddsOne (map f ns) ys (f n)) (sym (map-append f ns (n ∷ []))) (λ x. (
  λ c. Contains-push_cases (map f ns) (f n) x c,
  λ h. ⊎_elim (λ c. Contains-append_left (map f ns) (f n ∷ []) x c) (λ (e : f n ≡ x). subst (λ (y : Item). Contains (map f ns ++ f n ∷ []) y) e (Contains-push (map f ns) (f n))) h,
))

in_front : (old new : List Item) (y : Item) (rest : List Item) → AddsOne old new y → AddsOne (old ++ rest) (new ++ rest) y
in_front old new y rest adds x = (
  λ c. ⊎_elim
      (λ h. ⊎_elim (λ was. inl (Contains-append_left old rest x was)) (λ (e : y ≡ x). inr e) ((adds x).0 h))
      (λ h. inl (Contains-append_right old rest x h))
      (Contains-append_cases new rest x c),
  λ h. ⊎_elim
      (λ c. ⊎_elim
      (λ was. Contains-append_left new rest x ((adds x).1 (inl was)))
      (λ later. Contains-append_right new rest x later)
      (Contains-append_cases old rest x c))
      (λ (e : y ≡ x). Contains-append_left new rest x ((adds x).1 (inr e)))
      h,
)

behind : (front old new : List Item) (y : Item) → AddsOne old new y → AddsOne (front ++ old) (front ++ new) y
behind front old new y adds x = (
  λ c. ⊎_elim
      (λ h. inl (Contains-append_left front old x h))
      (λ h. ⊎_elim (λ was. inl (Contains-append_right front old x was)) (λ (e : y ≡ x). inr e) ((adds x).0 h))
      (Contains-append_cases front new x c),
  λ h. ⊎_elim
      (λ c. ⊎_elim
      (λ before. Contains-append_left front new x before)
      (λ was. Contains-append_right front new x ((adds x).1 (inl was)))
      (Contains-append_cases front old x c))
      (λ (e : y ≡ x). Contains-append_right front new x ((adds x).1 (inr e)))
      h,
)

-- ---- one of each kind

module _ (r : RootLists) (n : ℕ) where
  abbrev functions : List ℕ → List Item
  functions ns = map (λ i. (Functions, i)) ns

  abbrev tables : List ℕ → List Item
  tables ns = map (λ i. (Tables, i)) ns

  abbrev memories : List ℕ → List Item
  memories ns = map (λ i. (Memories, i)) ns

  abbrev tags : List ℕ → List Item
  tags ns = map (λ i. (Tags, i)) ns

  abbrev globals : List ℕ → List Item
  globals ns = map (λ i. (Globals, i)) ns

  more_functions : AddsOne (asked_items r) (asked_items (with_root r (Functions, n))) (Functions, n)
  more_functions =
      in_front _ _ _ (globals r.globals) (in_front _ _ _ (tags r.tags) (in_front _ _ _ (memories r.memories) (in_front _ _ _ (tables r.tables)
      (pushed (λ i. (Functions, i)) r.funcs n))))

  more_tables : AddsOne (asked_items r) (asked_items (with_root r (Tables, n))) (Tables, n)
  more_tables =
      in_front _ _ _ (globals r.globals) (in_front _ _ _ (tags r.tags) (in_front _ _ _ (memories r.memories) (behind (functions r.funcs) _ _ _
      (pushed (λ i. (Tables, i)) r.tables n))))

  more_memories : AddsOne (asked_items r) (asked_items (with_root r (Memories, n))) (Memories, n)
  more_memories =
      in_front _ _ _ (globals r.globals) (in_front _ _ _ (tags r.tags) (behind (functions r.funcs ++ tables r.tables) _ _ _
      (pushed (λ i. (Memories, i)) r.memories n)))

  more_tags : AddsOne (asked_items r) (asked_items (with_root r (Tags, n))) (Tags, n)
  more_tags =
      in_front _ _ _ (globals r.globals) (behind (functions r.funcs ++ tables r.tables ++ memories r.memories) _ _ _
      (pushed (λ i. (Tags, i)) r.tags n))

  more_globals : AddsOne (asked_items r) (asked_items (with_root r (Globals, n))) (Globals, n)
  more_globals =
      behind (functions r.funcs ++ tables r.tables ++ memories r.memories ++ tags r.tags) _ _ _
      (pushed (λ i. (Globals, i)) r.globals n)

-- ---- all of them

-- those that can be kept
abbrev those_kept : List Item → List Item
those_kept xs = filter (λ (x : Item). can_be_kept x.0) xs

goes : (old new whole rest : List Item) (y x : Item) → AddsOne old new y → Contains whole x ↔ (Contains new x ⊎ Contains rest x) → Contains whole x ↔ (Contains old x ⊎ Contains (y ∷ rest) x)
goes old new whole rest y x adds later = (
  λ c. ⊎_elim
      (λ h. ⊎_elim (λ was. inl was) (λ (e : y ≡ x). inr (subst (λ (z : Item). Contains (y ∷ rest) z) e (Contains-head y rest))) ((adds x).0 h))
      (λ h. inr (Contains-tail y x rest h))
      (later.0 c),
  λ h. ⊎_elim
      (λ was. later.1 (inl ((adds x).1 (inl was))))
      (λ c. ⊎_elim (λ (e : y ≡ x). later.1 (inl ((adds x).1 (inr e)))) (λ r. later.1 (inr r)) (Contains-uncons y x rest c))
      h,
)

all_asked : (r : RootLists) (xs : List Item) (x : Item) → Contains (asked_items (with_roots r xs)) x ↔ (Contains (asked_items r) x ⊎ Contains (those_kept xs) x)
all_asked r [] x = (λ c. inl c, λ h. ⊎_elim (λ c. c) (λ c. absurd (Contains-none x c)) h)
all_asked r ((Functions, n) ∷ xs) x = goes _ _ _ _ _ x (more_functions r n) (all_asked (with_root r (Functions, n)) xs x)
all_asked r ((Tables, n) ∷ xs) x = goes _ _ _ _ _ x (more_tables r n) (all_asked (with_root r (Tables, n)) xs x)
all_asked r ((Memories, n) ∷ xs) x = goes _ _ _ _ _ x (more_memories r n) (all_asked (with_root r (Memories, n)) xs x)
all_asked r ((Tags, n) ∷ xs) x = goes _ _ _ _ _ x (more_tags r n) (all_asked (with_root r (Tags, n)) xs x)
all_asked r ((Globals, n) ∷ xs) x = goes _ _ _ _ _ x (more_globals r n) (all_asked (with_root r (Globals, n)) xs x)
all_asked r ((Types, n) ∷ xs) x = all_asked r xs x
all_asked r ((Elements, n) ∷ xs) x = all_asked r xs x
all_asked r ((DataSegments, n) ∷ xs) x = all_asked r xs x

pub asked_are_kept : (roots : RootLists) (xs : List Item) → roots ≡ with_roots no_roots xs → SameMembers (asked_items roots) (those_kept xs)
asked_are_kept roots xs is x = subst (λ (r : RootLists). Contains (asked_items r) x ↔ Contains (those_kept xs) x) (sym is) (
  λ c. ⊎_elim (λ none. absurd (Contains-none x none)) (λ h. h) ((all_asked no_roots xs x).0 c),
  λ h. (all_asked no_roots xs x).1 (inr h),
)
