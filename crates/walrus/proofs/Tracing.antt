-- How a search notes who named each item.
use Rattle.std.proofs.Common.{◌≡◌, ℕ, ◌+◌, ◌-◌, ◌<◌, ◌≤◌, ◌⊎◌, inl, inr, Bool, true, false, List, [], ◌∷◌, ◌++◌, length, length-append, replicate, Option, Some, None, refl, sym, ap, ◌∙◌, subst, append_assoc, arith}
use Rattle.std.specs.Prelude.{Contains, not, unwrap_or, if◌then◌else◌}
use Rattle.std.proofs.lemmas.Bool.{false≢true, cases_lt}
use Rattle.std.proofs.lemmas.List.{get_or_append_left, get_or-append-add, get_or-replicate, length-replicate}
use Rattle.std.proofs.lemmas.List.Elements.{Contains-get_or, Contains-append_left, Contains-append_right}
use Rattle.walrus_base.specs.Operators.{Item, Types}
use Rattle.walrus_model.specs.Abstract.{Abstract}
use Rattle.walrus_model.specs.Refers.{Refers}
use Rattle.walrus_contents.specs.Named.{group_names}
use Rattle.walrus_contents.proofs.Groups.{group_is_written}
use Rattle.walrus.specs.MarkedItems.{has_mark}
use Rattle.walrus.specs.Traced.{IsNamedFrom, MayName, Names, Traces, item_in, place_in}
use Rattle.walrus.specs.Used.{Enters, NotesAll}
use Rattle.walrus.specs.Worklist.{Keeps, Notes, entered_items}
use Rattle.walrus.specs.declared.passes.why.Traced.{Traced}
use Rattle.walrus.specs.declared.passes.worklist.Worklist.{Worklist}
use Rattle.walrus.proofs.Entered.{enters_both, enters_none}

-- ---- lists that grow

still_in : (items rest : List Item) (k : ℕ) → k < length items → item_in (items ++ rest) k ≡ item_in items k
still_in items rest k lt = get_or_append_left items rest (Types, 0) k lt

module _ (R : Item → Type 0) (v : Abstract) where
  -- an item that is there is named as before
  named_still : (items rest : List Item) (k p : ℕ) → k < length items → IsNamedFrom R v items k p → IsNamedFrom R v (items ++ rest) k p
  named_still items rest k p lt (inl h) = inl (h.0, subst R (sym (still_in items rest k lt)) h.1)
  named_still items rest k p lt (inr h) =
      let before : p < k = h.0 in
      inr (
        before,
        subst (λ (y : Item). Refers v (item_in (items ++ rest) p) y) (sym (still_in items rest k lt))
            (subst (λ (x : Item). Refers v x (item_in items k)) (sym (still_in items rest p (omega (arith, before, lt)))) h.1),
      )

  pub traces_none : Traces R v [] []
  traces_none = record { counted = refl; named = λ k lt. absurd (omega (arith, lt)) }

  -- behind what is noted is noted who named each of the rest
  traces_more : (items rest : List Item) (places more : List ℕ) → Traces R v items places → length more ≡ length rest
      → ((j : ℕ) → j < length rest → IsNamedFrom R v (items ++ rest) (length items + j) (place_in more j)) → Traces R v (items ++ rest) (places ++ more)
  traces_more items rest places more t long are = record {
    counted = (let counted = t.counted in omega (arith, long, counted, length-append items rest, length-append places more));
    named = λ k lt. by k lt (cases_lt k (length items));
  } where
    counted : length places ≡ length items
    counted = t.counted

    old : (k : ℕ) → k < length items → place_in (places ++ more) k ≡ place_in places k
    old k lt = get_or_append_left places more 0 k (omega (arith, lt, counted))

    new : (j : ℕ) → place_in (places ++ more) (length items + j) ≡ place_in more j
    new j = ap (λ (n : ℕ). place_in (places ++ more) (n + j)) (sym counted) ∙ get_or-append-add places more j 0

    by : (k : ℕ) → k < length (items ++ rest) → (k < length items) ⊎ (length items ≤ k) → IsNamedFrom R v (items ++ rest) k (place_in (places ++ more) k)
    by k lt (inl low) = subst (λ (p : ℕ). IsNamedFrom R v (items ++ rest) k p) (sym (old k low)) (named_still items rest k (place_in places k) low (t.named k low))
    by k lt (inr high) =
        let j : ℕ = k - length items in
        let is : length items + j ≡ k = omega (arith, high) in
        let within : j < length rest = omega (arith, lt, high, length-append items rest) in
        subst (λ (n : ℕ). IsNamedFrom R v (items ++ rest) n (place_in (places ++ more) n)) is
        (subst (λ (p : ℕ). IsNamedFrom R v (items ++ rest) (length items + j) p) (sym (new j)) (are j within))

  -- one item, and the members of its group
  module _ (items : List Item) (places : List ℕ) (t : Traces R v items places) (x : Item) (p : ℕ) where
    traces_one : IsNamedFrom R v (items ++ x ∷ []) (length items) p → Traces R v (items ++ x ∷ []) (places ++ p ∷ [])
    traces_one is = traces_more items (x ∷ []) places (p ∷ []) t refl (λ j lt. at j (omega (arith, lt))) where
      at : (j : ℕ) → j ≡ 0 → IsNamedFrom R v (items ++ x ∷ []) (length items + j) (place_in (p ∷ []) j)
      at j e = subst (λ (i : ℕ). IsNamedFrom R v (items ++ x ∷ []) (length items + i) (place_in (p ∷ []) i)) (sym e)
          (subst (λ (n : ℕ). IsNamedFrom R v (items ++ x ∷ []) n p) (omega arith) is)

    is_last : item_in (items ++ x ∷ []) (length items) ≡ x
    is_last = subst (λ (n : ℕ). item_in (items ++ x ∷ []) n ≡ x) (omega arith) (get_or-append-add items (x ∷ []) 0 (Types, 0))

    traces_group : (rest : List Item) → IsNamedFrom R v (items ++ x ∷ []) (length items) p → ((y : Item) → Contains rest y → Contains (group_names v x) y)
        → Traces R v ((items ++ x ∷ []) ++ rest) ((places ++ p ∷ []) ++ replicate (length rest) (length items))
    traces_group rest is members = traces_more (items ++ x ∷ []) rest (places ++ p ∷ []) (replicate (length rest) (length items)) (traces_one is) (length-replicate (length rest) (length items)) member where
      front : List Item
      front = items ++ x ∷ []

      longer : length front ≡ length items + 1
      longer = length-append items (x ∷ [])

      member : (j : ℕ) → j < length rest → IsNamedFrom R v (front ++ rest) (length front + j) (place_in (replicate (length rest) (length items)) j)
      member j lt =
          let its : item_in (front ++ rest) (length front + j) ≡ item_in rest j = get_or-append-add front rest j (Types, 0) in
          let first : item_in (front ++ rest) (length items) ≡ x = still_in front rest (length items) (omega (arith, longer)) ∙ is_last in
          let refers : Refers v x (item_in rest j) = inl (group_is_written v x (item_in rest j) (members (item_in rest j) (Contains-get_or rest j (Types, 0) lt))) in
          subst (λ (q : ℕ). IsNamedFrom R v (front ++ rest) (length front + j) q) (sym (get_or-replicate (length rest) j (length items) 0 lt))
          (inr (omega (arith, longer), subst (λ (y : Item). Refers v (item_in (front ++ rest) (length items)) y) (sym its) (subst (λ (z : Item). Refers v z (item_in rest j)) (sym first) refers)))

-- who names an item is noted as it may be
first_named : (roots : List Item) (v : Abstract) (items : List Item) (by : Option ℕ) (x : Item) → MayName roots v items by x
    → IsNamedFrom (Contains roots) v (items ++ x ∷ []) (length items) (unwrap_or by (length items))
first_named roots v items None x root = inl (refl, subst (λ (y : Item). Contains roots y) (sym last) root) where
  last : item_in (items ++ x ∷ []) (length items) ≡ x
  last = subst (λ (n : ℕ). item_in (items ++ x ∷ []) n ≡ x) (omega arith) (get_or-append-add items (x ∷ []) 0 (Types, 0))
first_named roots v items (Some p) x may = inr (
  may.0,
  subst (λ (y : Item). Refers v (item_in (items ++ x ∷ []) p) y) (sym last)
      (subst (λ (z : Item). Refers v z x) (sym (still_in items (x ∷ []) p may.0)) may.1),
) where
  last : item_in (items ++ x ∷ []) (length items) ≡ x
  last = subst (λ (n : ℕ). item_in (items ++ x ∷ []) n ≡ x) (omega arith) (get_or-append-add items (x ∷ []) 0 (Types, 0))

-- who may name an item still may when more are entered
pub may_still : (roots : List Item) (v : Abstract) (items rest : List Item) (by : Option ℕ) (x : Item) → MayName roots v items by x → MayName roots v (items ++ rest) by x
may_still roots v items rest None x root = root
may_still roots v items rest (Some p) x may = (
  (let within : p < length items = may.0 in omega (arith, within, length-append items rest)),
  subst (λ (z : Item). Refers v z x) (sym (still_in items rest p may.0)) may.1,
)

-- ---- what the calls leave

module _ (v : Abstract) (by : Option ℕ) where
  pub names_none : (t : Traced) → Keeps v t.list → Names v by [] t t
  names_none t kept = record { enters = enters_none v t.list kept; traces = λ roots may traces. traces }

  pub names_both : (a b : List Item) (t t1 t2 : Traced) → Names v by a t t1 → Names v by b t1 t2 → Names v by (a ++ b) t t2
  names_both a b t t1 t2 x y = record {
    enters = enters_both v a b t.list t1.list t2.list x.enters y.enters;
    traces = λ roots may traces. y.traces roots
        (λ z c. subst (λ (items : List Item). MayName roots v items by z) (sym x.enters.grows) (may_still roots v (entered_items t.list) x.enters.rest by z (may z (Contains-append_right a b z c))))
        (x.traces roots (λ z c. may z (Contains-append_left a b z c)) traces);
  }

  pub names_more : (a b c : List Item) (t t1 t2 : Traced) → c ≡ a ++ b → Names v by a t t1 → Names v by b t1 t2 → Names v by c t t2
  names_more a b c t t1 t2 e x y = subst (λ (named : List Item). Names v by named t t2) (sym e) (names_both a b t t1 t2 x y)

  -- it was entered before
  pub names_again : (x : Item) (t : Traced) (new : Worklist) (named : Traced) → named.list ≡ new → named.namers ≡ t.namers → entered_items new ≡ entered_items t.list → Enters v (x ∷ []) t.list new → Names v by (x ∷ []) t named
  names_again x t new named list namers same e = record {
    enters = subst (λ (l : Worklist). Enters v (x ∷ []) t.list l) (sym list) e;
    traces = λ roots may traces. subst (λ (items : List Item). Traces (Contains roots) v items named.namers.items) (sym same ∙ ap entered_items (sym list))
        (subst (λ (places : List ℕ). Traces (Contains roots) v (entered_items t.list) places) (sym (ap (λ ns. ns.items) namers)) traces);
  }

  -- it is entered now, with its group
  pub names_new : (x : Item) (t named : Traced) (mid : Worklist) (many place namer : ℕ) → place ≡ length (entered_items t.list) → namer ≡ unwrap_or by place
      → entered_items mid ≡ entered_items t.list ++ x ∷ [] → NotesAll v (group_names v x) mid named.list → Enters v (x ∷ []) t.list named.list → many ≡ length (entered_items named.list)
      → named.namers.items ≡ t.namers.items ++ namer ∷ replicate (many - (place + 1)) place → Names v by (x ∷ []) t named
  names_new x t named mid many place namer place_is namer_is first group e all put = record {
    enters = e;
    traces = λ roots may traces. of_traces roots (may x (alone x)) traces;
  } where
    items : List Item
    items = entered_items t.list

    alone : (y : Item) → Contains (y ∷ []) y
    alone y = (0, omega arith, refl)

    noted : named.namers.items ≡ t.namers.items ++ unwrap_or by (length items) ∷ replicate (many - (length items + 1)) (length items)
    noted =
        put
        ∙ ap (λ (n : ℕ). t.namers.items ++ n ∷ replicate (many - (place + 1)) place) namer_is
        ∙ ap (λ (n : ℕ). t.namers.items ++ unwrap_or by n ∷ replicate (many - (n + 1)) n) place_is

    grown : entered_items named.list ≡ (items ++ x ∷ []) ++ group.rest
    grown = group.grows ∙ ap (λ (ys : List Item). ys ++ group.rest) first

    of_traces : (roots : List Item) → MayName roots v items by x → Traces (Contains roots) v items t.namers.items → Traces (Contains roots) v (entered_items named.list) named.namers.items
    of_traces roots may traces =
        let p : ℕ = unwrap_or by (length items) in
        let longer : length (entered_items named.list) ≡ length items + 1 + length group.rest = ap length grown ∙ length-append (items ++ x ∷ []) group.rest ∙ ap (λ (n : ℕ). n + length group.rest) (length-append items (x ∷ [])) in
        let rest_is : many - (length items + 1) ≡ length group.rest = omega (arith, all, longer) in
        let places : named.namers.items ≡ (t.namers.items ++ p ∷ []) ++ replicate (length group.rest) (length items) =
        noted ∙ ap (λ (n : ℕ). t.namers.items ++ p ∷ replicate n (length items)) rest_is ∙ sym (append_assoc t.namers.items (p ∷ []) (replicate (length group.rest) (length items))) in
        subst (λ (ys : List Item). Traces (Contains roots) v ys named.namers.items) (sym grown)
        (subst (λ (ns : List ℕ). Traces (Contains roots) v ((items ++ x ∷ []) ++ group.rest) ns) (sym places)
        (traces_group (Contains roots) v items t.namers.items traces x p group.rest (first_named roots v items by x may) group.named_only))

-- ---- other words for the same

-- other roots, and another module
pub traces_map : (R Q : Item → Type 0) (v w : Abstract) → ((x : Item) → R x → Q x) → ((x y : Item) → Refers v x y → Refers w x y) → (items : List Item) (places : List ℕ) → Traces R v items places → Traces Q w items places
traces_map R Q v w roots refers items places t = record { counted = t.counted; named = λ k lt. by k (t.named k lt) } where
  by : (k : ℕ) → IsNamedFrom R v items k (place_in places k) → IsNamedFrom Q w items k (place_in places k)
  by k (inl h) = inl (h.0, roots (item_in items k) h.1)
  by k (inr h) = inr (h.0, refers (item_in items (place_in places k)) (item_in items k) h.1)

-- ---- what noting an item leaves

module _ (x : Item) (old mid : Worklist) (n : Notes x old mid) (is_new : Bool) (e : is_new ≡ not (has_mark old.marks x)) where
  marked : (b r : Bool) → r ≡ not b → r ≡ false → b ≡ true
  marked true r e f = refl
  marked false r e f = absurd (false≢true (sym f ∙ e))

  unmarked : (b r : Bool) → r ≡ not b → r ≡ true → b ≡ false
  unmarked true r e f = absurd (false≢true (sym e ∙ f))
  unmarked false r e f = refl

  -- it is new, and stands behind the others
  pub noted_first : is_new ≡ true → entered_items mid ≡ entered_items old ++ x ∷ []
  noted_first f = n.items ∙ ap (λ (t : Bool). if t then entered_items old else (entered_items old ++ x ∷ [])) (unmarked (has_mark old.marks x) is_new e f)

  -- it isn't
  pub noted_again : is_new ≡ false → entered_items mid ≡ entered_items old
  noted_again f = n.items ∙ ap (λ (t : Bool). if t then entered_items old else (entered_items old ++ x ∷ [])) (marked (has_mark old.marks x) is_new e f)

-- there are more items then than before
pub more_are : (items mid new rest : List Item) (x : Item) → mid ≡ items ++ x ∷ [] → new ≡ mid ++ rest → length items < length new
more_are items mid new rest x first grows =
    let one : length mid ≡ length items + 1 = ap length first ∙ length-append items (x ∷ []) in
    let all : length new ≡ length mid + length rest = ap length grows ∙ length-append mid rest in
    omega (arith, one, all)
