-- Groups that stand for the types of a module, one behind another, read as these types.
use Rattle.std.proofs.Common.{◌≡◌, ℕ, zero, suc, ◌+◌, ◌<◌, ◌≤◌, ◌==◌, Bool, true, false, List, [], ◌∷◌, ◌++◌, length, map, Option, Some, None, option_map, refl, sym, ap, ◌∙◌, arith, add-zero, eq-eqb, subst}
use Rattle.std.specs.List.{range_with_len, AllZip}
use Rattle.std.proofs.lemmas.Bool.{ltb-true, ltb-false, eqb-true, eqb-false}
use Rattle.std.proofs.lemmas.Slice.Zip.{AllZip-long}
use Rattle.std.proofs.lemmas.List.FromFn.{length-range_with_len}
use Rattle.std.specs.Prelude.{if◌then◌else◌, nat_lt}
use Rattle.wasm_forms.specs.Reading.{◌>>=◌}
use Rattle.wasm_entries.specs.Record.{Sub, Group}
use Rattle.walrus_base.specs.Arena.{item_at, entries_from, entries, items}
use Rattle.walrus_base.specs.Operators.{Types}
use Rattle.walrus_base.specs.PlaceList.{has}
use Rattle.walrus_base.specs.Shape.{place_in}
use Rattle.walrus_base.specs.TypeDef.{TypeDef}
use Rattle.walrus_base.specs.Whole.{AreWhole}
use Rattle.walrus_code.specs.Names.{Lookup}
use Rattle.walrus_groups.specs.Groups.{sub_of, types_from}
use Rattle.walrus_groups.specs.Indexed.{NumbersTypes}
use Rattle.walrus_groups.specs.Named.{named_types, named_sub, named_def}
use Rattle.walrus_groups.specs.Written.{IsWritten, StandsFor, GroupStandsFor, starts_at, firsts, sub_is_exact}
use Rattle.walrus_base.proofs.WrittenLists.{some_inside, not_equal, IsRow, row-has, has-row}
use Rattle.walrus_base.proofs.WholeLemmas.{none_some}

-- the type with each number looked up, and no exact heap type in it
abbrev pub IsNamed : Lookup → TypeDef → TypeDef → Type 0
IsNamed names x y = (named_def names x ≡ Some y) × (sub_is_exact x.sub ≡ false)

-- a type whose group has these numbers
abbrev in_group : List ℕ → Sub → TypeDef
in_group row s = record { group = row; sub = sub_of s }

module _ (names : Lookup) (slots : List (Option TypeDef)) (whole : AreWhole slots) (rows : (t : ℕ) (x : TypeDef) → item_at slots t ≡ Some x → IsRow x.group) where
  -- these stand for the next types, of one group
  abbrev AreNext : List ℕ → List (Option TypeDef) → List Sub → Type 0
  AreNext G rest [] = Unit {0}
  AreNext G [] (s ∷ left) = ⊥
  AreNext G (None ∷ rest) (s ∷ left) = ⊥
  AreNext G (Some y ∷ rest) (s ∷ left) = (y.group ≡ G) × IsWritten names y s × AreNext G rest left

  -- the slots from a place on
  abbrev From : ℕ → List (Option TypeDef) → Type 0
  From q rest = (j : ℕ) → item_at slots (q + j) ≡ item_at rest j

  from_next : (q : ℕ) (o : Option TypeDef) (rest : List (Option TypeDef)) → From q (o ∷ rest) → From (q + 1) rest
  from_next q o rest at = λ j. let e : q + 1 + j ≡ q + suc j = omega arith in ap (item_at slots) e ∙ at (suc j)

  from_here : (q : ℕ) (o : Option TypeDef) (rest : List (Option TypeDef)) → From q (o ∷ rest) → item_at slots q ≡ o
  from_here q o rest at = ap (item_at slots) (sym (add-zero q)) ∙ at 0

  -- the types from a place on have the next indices
  abbrev Counts : ℕ → ℕ → List (Option TypeDef) → Type 0
  Counts q idx rest = (t : ℕ) → q ≤ t → names Types t ≡ option_map (λ k. idx + k) (place_in (map (λ e. e.0) (entries_from q rest)) t)

  counts_none : (q idx : ℕ) (rest : List (Option TypeDef)) → Counts q idx (None ∷ rest) → Counts (q + 1) idx rest
  counts_none q idx rest count = λ t l. count t (omega (arith, l))

  one_on : (idx : ℕ) (o : Option ℕ) → option_map (λ k. idx + k) (option_map suc o) ≡ option_map (λ k. idx + 1 + k) o
  one_on idx None = refl
  one_on idx (Some k) = let e : idx + suc k ≡ idx + 1 + k = omega arith in ap (λ (n : ℕ). Some n) e

  counts_some : (q idx : ℕ) (x : TypeDef) (rest : List (Option TypeDef)) → Counts q idx (Some x ∷ rest) → Counts (q + 1) (idx + 1) rest
  counts_some q idx x rest count = λ t l.
      let apart : (q == t) ≡ false = not_equal q t (λ e. absurd (omega (arith, l, e))) in
      count t (omega (arith, l))
      ∙ ap (λ (b : Bool). option_map (λ k. idx + k) (if b then Some 0 else option_map suc (place_in (map (λ e. e.0) (entries_from (q + 1) rest)) t))) apart
      ∙ one_on idx (place_in (map (λ e. e.0) (entries_from (q + 1) rest)) t)

  counts_here : (q idx : ℕ) (x : TypeDef) (rest : List (Option TypeDef)) → Counts q idx (Some x ∷ rest) → names Types q ≡ Some idx
  counts_here q idx x rest count =
      count q (omega arith)
      ∙ ap (λ (b : Bool). option_map (λ k. idx + k) (if b then Some 0 else option_map suc (place_in (map (λ e. e.0) (entries_from (q + 1) rest)) q))) (eq-eqb q q refl)
      ∙ ap (λ (n : ℕ). Some n) (add-zero idx)

  -- the places of a group have the next indices
  row_named : (q idx : ℕ) (G : List ℕ) (rest : List (Option TypeDef)) (left : List Sub) → Counts q idx rest → AreNext G rest left → named_types names (range_with_len q (length left)) ≡ Some (range_with_len idx (length left))
  row_named q idx G rest [] count next = refl
  row_named q idx G [] (s ∷ left) count next = elim next [ ]
  row_named q idx G (None ∷ rest) (s ∷ left) count next = elim next [ ]
  row_named q idx G (Some y ∷ rest) (s ∷ left) count next =
      ap (λ (o : Option ℕ). o >>= λ found. named_types names (range_with_len (q + 1) (length left)) >>= λ others. Some (found ∷ others)) (counts_here q idx y rest count)
      ∙ ap (λ (o : Option (List ℕ)). o >>= λ others. Some (idx ∷ others)) (row_named (q + 1) (idx + 1) G rest left (counts_some q idx y rest count) next.2)

  -- no group reaches over this place
  abbrev Apart : ℕ → Type 0
  Apart end = (t : ℕ) (x : TypeDef) → item_at slots t ≡ Some x → end ≤ t → (p : ℕ) → has x.group p ≡ true → end ≤ p

  same_group : (t u p : ℕ) (x y : TypeDef) → item_at slots t ≡ Some x → item_at slots u ≡ Some y → has x.group p ≡ true → has y.group p ≡ true → x.group ≡ y.group
  same_group t u p x y a b in_x in_y = some_inside _ _ (sym (whole.members t x a p in_x) ∙ whole.members u y b p in_y)

  -- behind the group that begins here
  apart_behind : (q n : ℕ) (x : TypeDef) → Apart q → item_at slots q ≡ Some x → x.group ≡ range_with_len q n → Apart (q + n)
  apart_behind q n x apart at row t y here l p inside = by_test (nat_lt p (q + n)) refl
    where
      by_test : (b : Bool) → nat_lt p (q + n) ≡ b → q + n ≤ p
      by_test false e = ltb-false p (q + n) e
      by_test true e =
          let low : q ≤ p = apart t y here (omega (arith, l)) p inside in
          let mine : has x.group p ≡ true = ap (λ g. has g p) row ∙ row-has q n p low (ltb-true p (q + n) e) in
          let same : y.group ≡ x.group = same_group t q p y x here at inside mine in
          let t_in : has (range_with_len q n) t ≡ true = ap (λ g. has g t) (sym (same ∙ row)) ∙ whole.own t y here in
          absurd (omega (arith, (has-row q n t t_in).1, l))

  -- a group that begins here and stands for the types of these places
  next_of : (q : ℕ) (G : List ℕ) (rest : List (Option TypeDef)) (n : ℕ) (g : List Sub) → From q rest → AllZip (StandsFor names slots) (range_with_len q n) g
      → ((p : ℕ) (y : TypeDef) → item_at slots p ≡ Some y → q ≤ p → p < q + n → y.group ≡ G) → AreNext G rest g
  next_of q G rest zero [] at zip groups = tt
  next_of q G rest zero (s ∷ g) at zip groups = elim zip [ ]
  next_of q G rest (suc n) [] at zip groups = elim zip [ ]
  next_of q G [] (suc n) (s ∷ g) at zip groups = absurd (none_some _ zip.0.0 (ap (item_at slots) (sym (add-zero q)) ∙ at 0) zip.0.1.0)
  next_of q G (None ∷ rest) (suc n) (s ∷ g) at zip groups = absurd (none_some _ zip.0.0 (from_here q None rest at) zip.0.1.0)
  next_of q G (Some y ∷ rest) (suc n) (s ∷ g) at zip groups =
      let same : zip.0.0 ≡ y = some_inside _ _ (sym zip.0.1.0 ∙ from_here q (Some y) rest at) in (
        groups q y (from_here q (Some y) rest at) (omega arith) (omega arith),
        subst (λ (z : TypeDef). IsWritten names z s) same zip.0.1.1,
        next_of (q + 1) G rest n g (from_next q (Some y) rest at) zip.1 (λ p z here low high. groups p z here (omega (arith, low)) (omega (arith, high))),
      )

  -- ---- one type after another

  one_named : (G R : List ℕ) (y : TypeDef) (s : Sub) → named_types names G ≡ Some R → y.group ≡ G → IsWritten names y s → IsNamed names y (in_group R s)
  one_named G R y s named same written = (
    ap (λ (g : List ℕ). named_types names g >>= λ group. named_sub names y.sub >>= λ sub. Some (record { group = group; sub = sub })) same
        ∙ ap (λ (o : Option (List ℕ)). o >>= λ group. named_sub names y.sub >>= λ sub. Some (record { group = group; sub = sub })) named
        ∙ ap (λ o. o >>= λ sub. Some (record { group = R; sub = sub })) written.named,
    written.plain,
  )

  -- what is left of a group, and the groups behind it, stand for the types from a place on
  abbrev Walk : ℕ → List (Option TypeDef) → Type 0
  Walk q rest = (idx behind end : ℕ) (left : List Sub) (G R : List ℕ) (gs : List Group)
      → From q rest → Counts q idx rest → named_types names G ≡ Some R → AreNext G rest left → ((p : ℕ) → q ≤ p → starts_at G p ≡ false)
      → behind ≡ idx + length left → end ≡ q + length left → Apart end → AllZip (GroupStandsFor names slots) (firsts (entries_from q rest)) gs
      → AllZip (IsNamed names) (map (λ e. e.1) (entries_from q rest)) (map (in_group R) left ++ types_from behind gs)

  ended : (q : ℕ) → Walk q []
  ended q idx behind end [] G R [] at count named next starts b e apart zip = tt
  ended q idx behind end [] G R (g ∷ gs) at count named next starts b e apart zip = elim zip [ ]
  ended q idx behind end (s ∷ left) G R gs at count named next starts b e apart zip = elim next [ ]

  apart_none : (q end : ℕ) → end ≡ q + 0 → item_at slots q ≡ None → Apart end → Apart (q + 1 + 0)
  apart_none q end is none apart t x here l p inside =
      let low : end ≤ p = apart t x here (omega (arith, is, l)) p inside in
      not_here (q == p) refl low
    where
      gone : q ≡ p → ⊥
      gone e = none_group (ap (option_map (λ (y : TypeDef). y.group)) (ap (item_at slots) (sym e) ∙ none)) (whole.members t x here p inside)
        where
          none_group : option_map (λ (y : TypeDef). y.group) (item_at slots p) ≡ None → option_map (λ (y : TypeDef). y.group) (item_at slots p) ≡ Some x.group → ⊥
          none_group a b = none_some _ x.group a b

      not_here : (b : Bool) → (q == p) ≡ b → end ≤ p → q + 1 + 0 ≤ p
      not_here true e low = absurd (gone (eqb-true q p e))
      not_here false e low = other (eqb-false q p e)
        where
          other : (q ≡ p → ⊥) → q + 1 + 0 ≤ p
          other apart = above q p apart (omega (arith, is, low))
            where
              above : (a b : ℕ) → (a ≡ b → ⊥) → a ≤ b → a + 1 + 0 ≤ b
              above zero zero d l = absurd (d refl)
              above zero (suc b) d l = omega arith
              above (suc a) zero d l = absurd (omega (arith, l))
              above (suc a) (suc b) d l = let r : a + 1 + 0 ≤ b = above a b (λ e. d (ap suc e)) (omega (arith, l)) in omega (arith, r)

  step_none : (q : ℕ) (rest : List (Option TypeDef)) → Walk (q + 1) rest → Walk q (None ∷ rest)
  step_none q rest later idx behind end [] G R gs at count named next starts b e apart zip =
      later idx behind (q + 1 + 0) [] G R gs (from_next q None rest at) (counts_none q idx rest count) named tt (λ p l. starts p (omega (arith, l))) b refl
      (apart_none q end e (from_here q None rest at) apart) zip
  step_none q rest later idx behind end (s ∷ left) G R gs at count named next starts b e apart zip = elim next [ ]

  zip_first : (b : Bool) (q : ℕ) (x : TypeDef) (es : List (ℕ × TypeDef)) (gs : List Group) → starts_at x.group q ≡ b → AllZip (GroupStandsFor names slots) (firsts ((q, x) ∷ es)) gs → AllZip (GroupStandsFor names slots) (if b then (q, x) ∷ firsts es else firsts es) gs
  zip_first b q x es gs h zip = subst (λ (b : Bool). AllZip (GroupStandsFor names slots) (if b then (q, x) ∷ firsts es else firsts es) gs) h zip

  -- a group begins here
  opened : (q : ℕ) (x : TypeDef) (rest : List (Option TypeDef)) → Walk (q + 1) rest → (idx behind n : ℕ) (gs : List Group)
      → From q (Some x ∷ rest) → Counts q idx (Some x ∷ rest) → behind ≡ idx → x.group ≡ range_with_len q n → 0 < n → Apart q
      → AllZip (GroupStandsFor names slots) ((q, x) ∷ firsts (entries_from (q + 1) rest)) gs
      → AllZip (IsNamed names) (x ∷ map (λ e. e.1) (entries_from (q + 1) rest)) (types_from behind gs)
  opened q x rest later idx behind n [] at count b row some apart zip = elim zip [ ]
  opened q x rest later idx behind n ([] ∷ gs) at count b row some apart zip = absurd (omega (arith, some, (let l : 0 ≡ n = AllZip-long (StandsFor names slots) (range_with_len q n) [] (subst (λ (G : List ℕ). AllZip (StandsFor names slots) G []) row zip.0) ∙ length-range_with_len q n in l)))
  opened q x rest later idx behind n ((s ∷ left) ∷ gs) at count b row some apart zip =
      let here : item_at slots q ≡ Some x = from_here q (Some x) rest at in
      let zipped : AllZip (StandsFor names slots) (range_with_len q n) (s ∷ left) = subst (λ (G : List ℕ). AllZip (StandsFor names slots) G (s ∷ left)) row zip.0 in
      let long : suc (length left) ≡ n = AllZip-long (StandsFor names slots) (range_with_len q n) (s ∷ left) zipped ∙ length-range_with_len q n in
      let next : AreNext x.group (Some x ∷ rest) (s ∷ left) = next_of q x.group (Some x ∷ rest) n (s ∷ left) at zipped
      (λ p y there low high. same_group p q p y x there here (whole.own p y there) (ap (λ g. has g p) row ∙ row-has q n p low high)) in
      let R : List ℕ = range_with_len behind (suc (length left)) in
      let named : named_types names x.group ≡ Some R =
      ap (named_types names) (row ∙ ap (range_with_len q) (sym long))
      ∙ row_named q idx x.group (Some x ∷ rest) (s ∷ left) count next
      ∙ ap (λ i. Some (range_with_len i (suc (length left)))) (sym b) in (
        one_named x.group R x s named refl next.1,
        later (idx + 1) (behind + suc (length left)) (q + n) left x.group R gs (from_next q (Some x) rest at) (counts_some q idx x rest count) named next.2
            (λ p l. ap (λ g. starts_at g p) (row ∙ ap (range_with_len q) (sym long)) ∙ not_equal q p (λ e. absurd (omega (arith, l, e))))
            (omega (arith, b)) (omega (arith, long)) (apart_behind q n x apart here row) zip.1,
      )

  -- the first place of a group that no group reaches over
  first_here : (q : ℕ) (x : TypeDef) → item_at slots q ≡ Some x → Apart q → (n : ℕ) × ((x.group ≡ range_with_len q n) × (0 < n))
  first_here q x here apart =
      let row = rows q x here in
      let inside = has-row row.0 row.1.0 q (ap (λ g. has g q) (sym row.1.1) ∙ whole.own q x here) in
      let low : row.0 ≤ q = inside.0 in
      let high : q < row.0 + row.1.0 = inside.1 in
      let reach : q ≤ row.0 = apart q x here (omega arith) row.0 (ap (λ g. has g row.0) row.1.1 ∙ row-has row.0 row.1.0 row.0 (omega arith) (omega (arith, low, high))) in
      let same : row.0 ≡ q = omega (arith, low, reach) in
      (row.1.0, (row.1.1 ∙ ap (λ f. range_with_len f row.1.0) same, omega (arith, high, same)))

  step_some : (q : ℕ) (x : TypeDef) (rest : List (Option TypeDef)) → Walk (q + 1) rest → Walk q (Some x ∷ rest)
  step_some q x rest later idx behind end (s ∷ left) G R gs at count named next starts b e apart zip = (
    one_named G R x s named next.0 next.1,
    later (idx + 1) behind end left G R gs (from_next q (Some x) rest at) (counts_some q idx x rest count) named next.2 (λ p l. starts p (omega (arith, l)))
        (omega (arith, b)) (omega (arith, e)) apart
        (zip_first false q x (entries_from (q + 1) rest) gs (ap (λ g. starts_at g q) next.0 ∙ starts q (omega arith)) zip),
  )
  step_some q x rest later idx behind end [] G R gs at count named next starts b e apart zip =
      let here : item_at slots q ≡ Some x = from_here q (Some x) rest at in
      let is : end ≡ q = omega (arith, e) in
      let reaching : Apart q = subst Apart is apart in
      let first = first_here q x here reaching in
      opened q x rest later idx behind first.0 gs at count (omega (arith, b)) first.1.0 first.1.1 reaching
      (zip_first true q x (entries_from (q + 1) rest) gs (ap (λ g. starts_at g q) first.1.0 ∙ starts_row q first.0 first.1.1) zip)
    where
      starts_row : (q n : ℕ) → 0 < n → starts_at (range_with_len q n) q ≡ true
      starts_row q zero h = absurd (omega (arith, h))
      starts_row q (suc n) h = eq-eqb q q refl

  walk : (q : ℕ) (rest : List (Option TypeDef)) → Walk q rest
  walk q [] = ended q
  walk q (None ∷ rest) = step_none q rest (walk (q + 1) rest)
  walk q (Some x ∷ rest) = step_some q x rest (walk (q + 1) rest)

  pub walked : (gs : List Group) → NumbersTypes names slots → AllZip (GroupStandsFor names slots) (firsts (entries slots)) gs → AllZip (IsNamed names) (items slots) (types_from 0 gs)
  walked gs numbered zip =
      walk 0 slots 0 0 0 [] [] [] gs (λ j. let e : 0 + j ≡ j = omega arith in ap (item_at slots) e) (λ t l. numbered t ∙ unchanged (place_in (map (λ e. e.0) (entries slots)) t)) refl tt (λ p l. refl) refl refl
      (λ t x here l p inside. omega arith) zip
    where
      unchanged : (o : Option ℕ) → o ≡ option_map (λ k. 0 + k) o
      unchanged None = refl
      unchanged (Some k) = let e : k ≡ 0 + k = omega arith in ap (λ (n : ℕ). Some n) e
