-- A body that is written is the same body, under the indices that its items and locals are given.
use Rattle.std.proofs.Common.{inl, inr, ◌≡◌, ◌⊎◌, ℕ, zero, suc, get_or, None, lt-ltb, ◌+◌, ◌<◌, ◌≤◌, Bool, true, false, List, [], ◌∷◌, ◌++◌, length, map, refl, sym, ap, ap₂, subst, ◌∙◌, arith, Some}
use Rattle.std.specs.Prelude.{◌≢◌, Option, Contains, nat_eq, nat_lt, option_map, slice_get, unwrap_or, if◌then◌else◌}
use Rattle.std.specs.List.{AllByRecursion, IsDistinct, range_with_len}
use Rattle.std.proofs.lemmas.Bool.{ne_eqb}
use Rattle.std.proofs.lemmas.Bool.Decides.{eqb_tells}
use Rattle.std.proofs.lemmas.List.{length-append}
use Rattle.walrus_base.specs.Arena.{item_at}
use Rattle.walrus_base.specs.Id.{place}
use Rattle.walrus_base.specs.Types.{ValType, map_val}
use Rattle.walrus_base.specs.Operators.{Types, locals_of}
use Rattle.walrus_base.specs.Shape.{place_in}
use Rattle.walrus_code.specs.FromRaw.{ops_of}
use Rattle.walrus_items.specs.Function.{body_of, function_type, args_of}
use Rattle.walrus_code.specs.Names.{named_val}
use Rattle.walrus_bodies.specs.declared.features.Features.{Features}
use Rattle.walrus_functions.specs.EmittedBody.{Source, index_in}
use Rattle.walrus_functions.specs.Handlers.{params_of}
use Rattle.walrus_contents.specs.declared.parts.Parts.{Parts}
use Rattle.walrus_model.specs.Abstract.{Body}
use Rattle.walrus_model.specs.Sections.{types_of, body_with}
use Rattle.walrus_model.specs.Refers.{IsUsed}
use Rattle.walrus_model.specs.Renaming.{Renaming, renamed_ops}
use Rattle.walrus_model.specs.Same.{SameBody}
use Rattle.walrus_writing.specs.Parts.{HasBytes, slots_of, source}
use Rattle.walrus_writing.specs.Records.{Records}
use Rattle.walrus_writing.proofs.TypesEntered.{params_typed}
use Rattle.walrus_functions.proofs.BodyTypes.{types_in, typed_by, further_typed, as_many_further}
use Rattle.walrus_model.proofs.Indices.{found_at}
use Rattle.walrus_base.proofs.Lookups.{then_some, mapped_some, got_map, mapped_append, as_long, where_placed, place_range, place_past, Stands, there}
use Rattle.walrus_model.proofs.NamedFound.{locals_found}
use Rattle.walrus_model.proofs.Renamed.{val_renamed, ops_renamed}
use Rattle.walrus_writing.proofs.WrittenAs.{laid_of, number_is, renaming_of}
use Rattle.walrus_base.proofs.Lists.{Contains-map}
use Rattle.walrus_model.proofs.OpsFollow.{ops_locals_follow}
use Rattle.walrus_base.proofs.Standing.{got_in, got_where, some_of, some_inj, stands_at}
use Rattle.walrus_functions.specs.DeclaredLocals.{GoesBefore, IsDeclared}
use Rattle.walrus_functions.proofs.ApartLemmas.{locals_differ}
use Rattle.walrus_functions.proofs.LawOrder.{Sorted, sorted_of, turn}
use Rattle.walrus_theorem.specs.Spelling.{UsesAll}
use Rattle.walrus_base.proofs.Agree.{Compared, compared}
use Rattle.walrus_base.proofs.SameVal.{unplaced}
use Rattle.std.proofs.lemmas.List.FromFn.{length-range_with_len as range_length}
use Rattle.walrus_theorem.proofs.ManyLocals.{gap as rest_of}
use Rattle.walrus_theorem.proofs.UsedLocals.{no_some}

-- ---- places behind a list

none_by : (o : Option ℕ) → option_map suc o ≡ None → o ≡ None
none_by None e = refl
none_by (Some k) e = no_some (suc k) e

place_next : (x y : ℕ) (xs ys : List ℕ) (m : ℕ) → ((nat_eq x y ≡ true) × (x ≡ y)) ⊎ ((nat_eq x y ≡ false) × (x ≢ y)) → place_in (x ∷ xs) y ≡ None → (place_in xs y ≡ None → place_in (xs ++ ys) y ≡ Some m) → place_in (x ∷ (xs ++ ys)) y ≡ Some (suc m)
place_next x y xs ys m (inl q) none later = no_some 0 (sym (ap (λ (t : Bool). if t then Some 0 else option_map suc (place_in xs y)) q.0) ∙ none)
place_next x y xs ys m (inr q) none later =
    let left : option_map suc (place_in xs y) ≡ None = sym (ap (λ (t : Bool). if t then Some 0 else option_map suc (place_in xs y)) q.0) ∙ none in
    ap (λ (t : Bool). if t then Some 0 else option_map suc (place_in (xs ++ ys) y)) q.0 ∙ ap (option_map suc) (later (none_by (place_in xs y) left))

place_behind : (xs ys : List ℕ) (y k m : ℕ) → m ≡ length xs + k → place_in xs y ≡ None → place_in ys y ≡ Some k → place_in (xs ++ ys) y ≡ Some m
place_behind [] ys y k m n none e = e ∙ ap (λ (j : ℕ). Some j) (let p : k ≡ m = omega (arith, n) in p)
place_behind (x ∷ xs) ys y k zero n none e = absurd (omega (arith, n))
place_behind (x ∷ xs) ys y k (suc m) n none e = place_next x y xs ys m (eqb_tells x y) none (λ left. place_behind xs ys y k m (omega (arith, n)) left e)

all_differ : (x : ℕ) (xs : List ℕ) → AllByRecursion (λ (y : ℕ). x ≢ y) xs → AllByRecursion (λ (y : ℕ). nat_eq x y ≡ false) xs
all_differ x [] h = tt
all_differ x (y ∷ ys) h = (ne_eqb x y h.0, all_differ x ys h.1)

distinct_by : (xs : List ℕ) → Sorted (λ (x : ℕ) (y : ℕ). x ≢ y) xs → IsDistinct nat_eq xs
unfolding IsDistinct
distinct_by [] h = tt
distinct_by (x ∷ xs) h = (all_differ x xs h.0, distinct_by xs h.1)

-- ---- the types of its locals

module _ {p : Parts} {features : Features} (r : Records p features) (i t : ℕ) (bytes : List ℕ) (b : HasBytes p r.names features i bytes) (e : r.names Types (place (function_type b.local)) ≡ Some t)
    (found_locals : (x : ℕ) → (renaming_of r).locals i x ≡ unwrap_or (place_in (args_of b.local ++ b.written.order) x) 0) where
  abbrev S : Source
  S = source p r.names features b.local

  abbrev slots : List (Option (ValType ℕ))
  slots = slots_of p

  abbrev parameters : List ℕ
  parameters = args_of b.local

  abbrev all_locals : List ℕ
  all_locals = parameters ++ b.written.order

  abbrev params : List (ValType ℕ)
  params = params_of (types_of (laid_of r) t)

  abbrev further : List (ValType ℕ)
  further = types_in S bytes b.places b.numbers b.ids b.used b.written

  abbrev new : Body
  new = body_with params (further, ops_of b.written.texts)

  abbrev ren : Renaming
  ren = renaming_of r

  params_looked_up : map Some params ≡ map (typed_by r.names slots) parameters
  params_looked_up = params_typed r i t bytes b e

  locals_typed : map Some (params ++ further) ≡ map (typed_by r.names slots) all_locals
  locals_typed =
      mapped_append (λ v. Some v) params further
      ∙ ap₂ (λ (x y : List (Option (ValType ℕ))). x ++ y) params_looked_up (further_typed S bytes b.places b.numbers b.ids b.used b.written)
      ∙ sym (mapped_append (typed_by r.names slots) parameters b.written.order)

  -- ---- a local that is used

  pub record Placed (x : ℕ) : Type 0 where
    pub k : ℕ
    pub at : place_in all_locals x ≡ Some k
    pub is : ren.locals i x ≡ k

  pub placed : (x : ℕ) → Contains (locals_of (body_of b.local)) x → Placed x
  placed x u =
      let s = some_of (place_in all_locals x) (locals_found r.names (index_in S b.written.order) S.ops (ops_of b.written.texts) b.written.named x u) in
      record { k = s.0; at = s.1; is = found_locals x ∙ ap (λ (o : Option ℕ). unwrap_or o 0) s.1 }

  kept_apart : (x y : ℕ) → Contains (locals_of (body_of b.local)) x → Contains (locals_of (body_of b.local)) y → ren.locals i x ≡ ren.locals i y → x ≡ y
  kept_apart x y u w same =
      let p = placed x u in
      let q = placed y w in
      let k : p.k ≡ q.k = sym p.is ∙ same ∙ q.is in
      some_inj x y (sym (found_at all_locals x p.k p.at) ∙ ap (λ (n : ℕ). slice_get all_locals n) k ∙ found_at all_locals y q.k q.at)

  type_kept : (x : ℕ) → Contains (locals_of (body_of b.local)) x → slice_get (params ++ further) (ren.locals i x) ≡ option_map (map_val (ren.numbers Types)) (item_at slots x)
  type_kept x u =
      let p = placed x u in
      let stands : slice_get all_locals p.k ≡ Some x = found_at all_locals x p.k p.at in
      let typed : option_map (λ (v : ValType ℕ). Some v) (slice_get (params ++ further) p.k) ≡ Some (typed_by r.names slots x) =
      sym (got_map (λ (v : ValType ℕ). Some v) (params ++ further) p.k) ∙ ap (λ (l : List (Option (ValType ℕ))). slice_get l p.k) locals_typed ∙ got_map (typed_by r.names slots) all_locals p.k ∙ ap (option_map (typed_by r.names slots)) stands in
      let w : (w : ValType ℕ) × (slice_get (params ++ further) p.k ≡ Some w) × (typed_by r.names slots x ≡ Some w) = mapped_some (λ (v : ValType ℕ). Some v) (slice_get (params ++ further) p.k) (typed_by r.names slots x) typed in
      let v : (v : ValType ℕ) × (item_at slots x ≡ Some v) × (named_val r.names v ≡ Some w.0) = then_some (named_val r.names) (item_at slots x) w.0 w.2 in
      let renamed : w.0 ≡ map_val (ren.numbers Types) v.0 = val_renamed r.names ren (number_is r) v.0 w.0 v.2 in
      ap (λ (n : ℕ). slice_get (params ++ further) n) p.is ∙ w.1 ∙ ap (λ (y : ValType ℕ). Some y) renamed ∙ sym (ap (option_map (map_val (ren.numbers Types))) v.1)

  many : length params ≡ length parameters
  many = as_long (λ v. Some v) (typed_by r.names slots) params parameters params_looked_up

  place_by : (x k : ℕ) → Stands parameters x k → place_in (range_with_len 0 (length params)) k ≡ place_in parameters x
  place_by x k (inl s) = let lt : k < length params = omega (arith, s.1, many) in place_range 0 (length params) k k (omega arith) lt ∙ sym s.0
  place_by x k (inr s) = let le : 0 + length params ≤ k = omega (arith, s.1, many) in place_past 0 (length params) k le ∙ sym s.0

  place_kept : (x : ℕ) → Contains (locals_of (body_of b.local)) x → place_in (range_with_len 0 (length params)) (ren.locals i x) ≡ place_in parameters x
  place_kept x u =
      let p = placed x u in
      ap (place_in (range_with_len 0 (length params))) p.is ∙ place_by x p.k (where_placed parameters b.written.order x p.k p.at)

  -- the body in memory, with its parameters and the types of its locals
  pub same_body : (old : Body) → old.operators ≡ body_of b.local → old.parameters ≡ parameters → ((x : ℕ) → old.local_type x ≡ item_at slots x) → SameBody ren i old new
  same_body old ops ps ts =
      let used : (x : ℕ) → IsUsed old x → Contains (locals_of (body_of b.local)) x = λ x u. subst (λ l. Contains (locals_of l) x) ops u in
      record {
        operators = ops_renamed r.names ren (number_is r) (index_in S b.written.order) (ren.locals i) (λ p j g. sym (found_locals p ∙ ap (λ (o : Option ℕ). unwrap_or o 0) g)) S.ops (ops_of b.written.texts) b.written.named
            ∙ ap (λ l. renamed_ops ren (ren.locals i) l) (sym ops);
        apart = λ x y u w same. kept_apart x y (used x u) (used y w) same;
        types = λ x u. type_kept x (used x u) ∙ ap (option_map (map_val (ren.numbers Types))) (sym (ts x));
        parameters = λ x u. place_kept x (used x u) ∙ ap (λ (l : List ℕ). place_in l x) (sym ps);
      }

  -- ---- the locals that it declares

  abbrev order : List ℕ
  order = b.written.order

  abbrev Before : ℕ → ℕ → Type 0
  Before x y = GoesBefore slots (locals_of (body_of b.local)) parameters x y

  order_differs : IsDistinct nat_eq order
  order_differs = distinct_by order (sorted_of (λ (x : ℕ) (y : ℕ). x ≢ y) order (locals_differ slots (locals_of (body_of b.local)) parameters order b.written.declared.sorted))

  among : (k y : ℕ) → slice_get order k ≡ Some y → Contains order y
  among k y at = let g = got_in order k y at in (k, g.0, g.1 y)

  -- a declared local stands behind the parameters, in the order
  declared_at : (k y : ℕ) → slice_get order k ≡ Some y → ren.locals i y ≡ length parameters + k
  declared_at k y at =
      let d = (b.written.declared.which y).0 (among k y at) in
      found_locals y
      ∙ ap (λ (o : Option ℕ). unwrap_or o 0) (place_behind parameters order y k (length parameters + k) refl (unplaced parameters y d.no_parameter) (stands_at order y k order_differs at))

  in_turn : (x y k l : ℕ) → slice_get order k ≡ Some x → slice_get order l ≡ Some y → Before x y → Compared k l → k < l
  in_turn x y k l at there g (inl lt) = lt
  in_turn x y k l at there g (inr (inl same)) =
      let one : x ≡ y = some_inj x y (sym at ∙ ap (slice_get order) same ∙ there) in
      let self : Before x x = subst (λ (z : ℕ). Before x z) (sym one) g in
      absurd (turn slots (locals_of (body_of b.local)) parameters x x self self)
  in_turn x y k l at there g (inr (inr lt)) =
      let p = got_in order l y there in
      let q = got_in order k x at in
      let back : Before y x = subst (λ (z : ℕ). Before z x) (p.1 x) (subst (λ (z : ℕ). Before (get_or order l x) z) (q.1 x) (b.written.declared.sorted l k x lt q.0)) in
      absurd (turn slots (locals_of (body_of b.local)) parameters x y g back)

  pub locals_rise : (x y : ℕ) → IsDeclared slots (locals_of (body_of b.local)) parameters x → IsDeclared slots (locals_of (body_of b.local)) parameters y → Before x y → ren.locals i x < ren.locals i y
  locals_rise x y dx dy g =
      let cx = (b.written.declared.which x).1 dx in
      let cy = (b.written.declared.which y).1 dy in
      let at : slice_get order cx.0 ≡ Some x = got_where order x cx in
      let there : slice_get order cy.0 ≡ Some y = got_where order y cy in
      let less : cx.0 < cy.0 = in_turn x y cx.0 cy.0 at there g (compared cx.0 cy.0) in
      let first : ren.locals i x ≡ length parameters + cx.0 = declared_at cx.0 x at in
      let second : ren.locals i y ≡ length parameters + cy.0 = declared_at cy.0 y there in
      omega (arith, less, first, second)

  operators_renamed : ops_of b.written.texts ≡ renamed_ops ren (ren.locals i) (body_of b.local)
  operators_renamed = ops_renamed r.names ren (number_is r) (index_in S b.written.order) (ren.locals i) (λ p j g. sym (found_locals p ∙ ap (λ (o : Option ℕ). unwrap_or o 0) g)) S.ops (ops_of b.written.texts) b.written.named

  used_again : (y : ℕ) → Contains (locals_of (body_of b.local)) y → Contains (locals_of (ops_of b.written.texts)) (ren.locals i y)
  used_again y u =
      subst (λ l. Contains l (ren.locals i y)) (sym (ap locals_of operators_renamed ∙ ops_locals_follow ren (ren.locals i) (body_of b.local)))
      (Contains-map (ren.locals i) y (locals_of (body_of b.local)) u)

  uses_at : (x k : ℕ) → x ≡ length parameters + k → k < length order → Contains (locals_of (ops_of b.written.texts)) x
  uses_at x k e low =
      let y = some_of (slice_get order k) (there order k low) in
      let d = (b.written.declared.which y.0).0 (among k y.0 y.1) in
      subst (λ z. Contains (locals_of (ops_of b.written.texts)) z) (declared_at k y.0 y.1 ∙ sym e) (used_again y.0 d.is_used)

  -- each of its locals is there
  pub in_body : (y : ℕ) → y < length (parameters ++ order) → nat_lt y (length new.parameters + new.declared) ≡ true
  in_body y low =
      let range : length new.parameters ≡ length params = range_length 0 (length params) in
      let as_many : length further ≡ length order = as_many_further S bytes b.places b.numbers b.ids b.used b.written in
      lt-ltb y (length new.parameters + new.declared) (omega (arith, low, range, many, as_many, length-append parameters order))

  -- each of those that it declares is used
  pub uses_all : UsesAll new
  uses_all x low high =
      let range : length new.parameters ≡ length params = range_length 0 (length params) in
      let above : length parameters ≤ x = omega (arith, low, range, many) in
      let k = rest_of (length parameters) x above in
      let as_many : length further ≡ length order = as_many_further S bytes b.places b.numbers b.ids b.used b.written in
      let at : x ≡ length parameters + k.0 = k.1 in
      let below : k.0 < length order = omega (arith, high, range, many, as_many, at) in
      uses_at x k.0 at below
