-- A chain of references, read back from its last item.
use Rattle.std.proofs.Common.{◌≡◌, ℕ, ◌+◌, ◌-◌, ◌<◌, ◌≤◌, ◌⊎◌, inl, inr, ⊎_elim, Bool, true, false, cond, List, [], ◌∷◌, ◌++◌, get_or, length, map, reverse, Some, None, refl, sym, ap, ◌∙◌, subst, arith}
use Rattle.std.specs.Prelude.{◌≢◌, AllPairs, Contains, position, vec_len}
use Rattle.std.specs.Global.{Vec}
use Rattle.std.specs.List.{position_from}
use Rattle.std.proofs.lemmas.Iterator.Adapters.{position_from-zero}
use Rattle.std.proofs.lemmas.List.{get_or_default, get_or-map, get_or-reverse, length-map, length-reverse, map-append, reverse-append}
use Rattle.std.proofs.lemmas.List.Quantifiers.{all_pairs_push, position-Some}
use Rattle.std.proofs.lemmas.List.Elements.{Contains-get_or, Contains-push_cases}
use Rattle.walrus_base.proofs.Lists.{Contains-none, Contains-uncons}
use Rattle.walrus_model.proofs.Reach.{Contains-unmap}
use Rattle.walrus_base.specs.Operators.{Item, Types}
use Rattle.walrus_code.specs.Code.{item_of}
use Rattle.walrus_code.specs.declared.items.ItemId.{ItemId}
use Rattle.walrus_model.specs.Abstract.{Abstract}
use Rattle.walrus_model.specs.Roots.{IsRoot}
use Rattle.walrus_items.specs.Items.{is_item}
use Rattle.walrus_items.proofs.ItemLemmas.{is_item-same, same-is_item}
use Rattle.walrus.specs.Traced.{IsNamedFrom, Traces, item_in, place_in}
use Rattle.walrus.specs.Why.{IsChain, IsWay}
use Rattle.walrus.specs.Worklist.{entered_items}
use Rattle.walrus.specs.declared.passes.worklist.Worklist.{Worklist}

pub map-reverse : {X Y : Type 0} (f : X → Y) (xs : List X) → map f (reverse xs) ≡ reverse (map f xs)
map-reverse f [] = refl
map-reverse {Y = Y} f (x ∷ xs) = ap (map f) (reverse-append (x ∷ []) xs) ∙ map-append f (reverse xs) (x ∷ []) ∙ ap (λ (ys : List Y). ys ++ f x ∷ []) (map-reverse f xs) ∙ sym (reverse-append (f x ∷ []) (map f xs))

-- no item of the list stands twice
abbrev pub Once : List Item → Type 0
Once xs = AllPairs (λ (y z : Item). y ≢ z) xs

pub once-reverse : (xs : List Item) → Once xs → Once (reverse xs)
once-reverse xs once i j d less low same =
    let long : length (reverse xs) ≡ length xs = length-reverse xs in
    let early : i < length xs = omega (arith, less, low, long) in
    let late : j < length xs = omega (arith, low, long) in
    once (length xs - 1 - j) (length xs - 1 - i) d (omega (arith, less, late)) (omega (arith, early))
    (sym (get_or-reverse xs j d late) ∙ sym same ∙ get_or-reverse xs i d early)

-- the item stands in the list, at this place or behind it
abbrev pub StandsFrom : List Item → ℕ → Item → Type 0
StandsFrom items at y = (k : ℕ) × (at ≤ k) × (k < length items) × (item_in items k ≡ y)

-- what was read so far, the last item first, is a chain from the item at a place to x, of items from this place on
pub record Back (v : Abstract) (items read : List Item) (at : ℕ) (x : Item) : Type 0 where
  pub others : List Item
  pub is : reverse read ≡ item_in items at ∷ others
  pub leads : IsWay v (item_in items at) others x
  pub once : Once read
  pub from : (y : Item) → Contains read y → StandsFrom items at y

module _ (v : Abstract) (items : List Item) where
  pub back_begins : (at : ℕ) → at < length items → (read : List Item) → read ≡ item_in items at ∷ [] → Back v items read at (item_in items at)
  back_begins at within read e = subst (λ (ys : List Item). Back v items ys at (item_in items at)) (sym e) (record {
    others = [];
    is = refl;
    leads = refl;
    once = λ i j d less low. absurd (omega (arith, less, low));
    from = λ y c. (at, omega arith, within, ⊎_elim (λ none. absurd (Contains-none y none)) (λ is. is) (Contains-push_cases [] (item_in items at) y c));
  })

  module _ (places : List ℕ) (t : Traces (IsRoot v) v items places) (once : Once items) (read : List Item) (at : ℕ) (within : at < length items) (x : Item) (b : Back v items read at x) where
    pub back_goes : (p : ℕ) → p ≡ place_in places at → p ≢ at → (more : List Item) → more ≡ read ++ item_in items p ∷ [] → Back v items more p x
    back_goes p named other more e = by (subst (λ (q : ℕ). IsNamedFrom (IsRoot v) v items at q) (sym named) (t.named at within)) where
      by : IsNamedFrom (IsRoot v) v items at p → Back v items more p x
      by (inl h) = absurd (other h.0)
      by (inr h) =
          let y : Item = item_in items p in
          let before : p < at = h.0 in
          subst (λ (ys : List Item). Back v items ys p x) (sym e) (record {
            others = item_in items at ∷ b.others;
            is = reverse-append read (y ∷ []) ∙ ap (λ (ys : List Item). y ∷ ys) b.is;
            leads = (h.1, b.leads);
            once = all_pairs_push (λ (y z : Item). y ≢ z) read y b.once (λ j d lt same.
                let stands = b.from (get_or read j d) (Contains-get_or read j d lt) in
                let later : at ≤ stands.0 = stands.1 in
                once p stands.0 (Types, 0) (omega (arith, before, later)) stands.2 (sym same ∙ sym stands.3));
            from = λ z c. ⊎_elim
                (λ old. (let stands = b.from z old in let later : at ≤ stands.0 = stands.1 in (stands.0, omega (arith, before, later), stands.2, stands.3)))
                (λ (is : y ≡ z). (p, omega arith, omega (arith, before, within), is))
                (Contains-push_cases read y z c);
          })

    pub back_ends : place_in places at ≡ at → (chain : List Item) → chain ≡ reverse read → IsChain v chain x
    back_ends own chain e = by (t.named at within) where
      by : IsNamedFrom (IsRoot v) v items at (place_in places at) → IsChain v chain x
      by (inl h) = record {
        first = item_in items at;
        others = b.others;
        is = e ∙ b.is;
        rooted = h.1;
        leads = b.leads;
        once = subst Once (sym e) (once-reverse read b.once);
      }
      by (inr h) = absurd (let before : place_in places at < at = h.0 in omega (arith, before, own))

-- ---- where an item stands

module _ (x : Item) where
  abbrev pub is_x : ItemId → Bool
  is_x id = is_item (item_of id) x

  none_from : (k : ℕ) (ids : List ItemId) → position_from is_x k ids ≡ None → (id : ItemId) → Contains ids id → is_x id ≡ true → ⊥
  none_from k [] none id at passes = Contains-none id at
  none_from k (y ∷ ys) none id at passes = by (is_x y) refl none (Contains-uncons y id ys at) (none_from (k + 1) ys) where
    by : (b : Bool) → is_x y ≡ b → cond b (Some k) (position_from is_x (k + 1) ys) ≡ None → (y ≡ id) ⊎ Contains ys id
        → (position_from is_x (k + 1) ys ≡ None → (z : ItemId) → Contains ys z → is_x z ≡ true → ⊥) → ⊥
    by true is h there rest = absurd cc
    by false is h (inl here) rest = let no_such : false ≡ true = sym is ∙ ap is_x here ∙ passes in cc
    by false is h (inr there) rest = rest h id there passes

  -- it stands at no place
  pub stands_nowhere : (ids : List ItemId) → position is_x ids ≡ None → Contains (map item_of ids) x → ⊥
  stands_nowhere ids none c =
      let from = Contains-unmap item_of ids x c in
      none_from 0 ids (sym (position_from-zero is_x ids) ∙ none) from.0 from.1 (same-is_item (item_of from.0) x from.2)

  -- it stands at this one
  pub stands_there : (ids : List ItemId) (k : ℕ) (d : ItemId) → position is_x ids ≡ Some k → (k < length ids) × (item_in (map item_of ids) k ≡ x)
  stands_there ids k d found =
      let at = position-Some is_x ids k d found in
      (at.0, get_or-map item_of ids k d (Types, 0) at.0 ∙ is_item-same (item_of (get_or ids k d)) x at.1)

-- ---- what is read of the list and of the places

module _ (list : Worklist) where
  pub many_are : vec_len list.entered ≡ length (entered_items list)
  many_are = list.entered.ok.0 ∙ sym (length-map list.entered.items item_of)

  pub read_item : (k : ℕ) → k < vec_len list.entered → (d : ItemId) → d ≡ get_or list.entered.items k d → item_of d ≡ item_in (entered_items list) k
  read_item k lt d is = ap item_of is ∙ sym (get_or-map item_of list.entered.items k d (Types, 0) (omega (arith, lt, list.entered.ok.0)))

pub read_place : (places : Vec ℕ) (k : ℕ) → k < vec_len places → (p : ℕ) → p ≡ get_or places.items k p → p ≡ place_in places.items k
read_place places k lt p is = is ∙ get_or_default places.items k p 0 (omega (arith, lt, places.ok.0))
