-- The types that the handlers of what was written need stand in what was written.
use Rattle.std.proofs.Common.{◌≡◌, ℕ, ◌<◌, false, true, List, [], ◌∷◌, map, refl, sym, ap, ap₂, ◌∙◌, subst, arith, inl, inr, ⊎_elim}
use Rattle.std.specs.Prelude.{Option, Some, None, IsSome, is_some, Contains}
use Rattle.walrus_base.specs.Types.{CompType, SubType, map_comp, map_sub, comp_names, sub_names}
use Rattle.walrus_base.specs.Operators.{Types, Functions, Item, type_item}
use Rattle.walrus_model.specs.Abstract.{Abstract, TypeDef, Body}
use Rattle.walrus_model.specs.Config.{Config}
use Rattle.walrus_model.specs.Kept.{Kept}
use Rattle.walrus_model.specs.Live.{IsLive}
use Rattle.walrus_model.specs.Names.{body_of}
use Rattle.walrus_model.specs.Refers.{named_by, type_names}
use Rattle.walrus_model.specs.Renaming.{Renaming}
use Rattle.walrus_model.specs.Same.{SameType}
use Rattle.walrus_model.specs.Out.{IsHandlerType, Written}
use Rattle.walrus_theorem.specs.Chain.{alone, IsLoneTypeAt, handlers_by, ParsedAs}
use Rattle.walrus_theorem.specs.SettledForm.{IsLoneType, IsFirstLoneType, IsForHandlers}
use Rattle.walrus_base.proofs.Lists.{Contains-head, Contains-map, Contains-append_1, Contains-append_2, Contains-none}
use Rattle.walrus_base.proofs.TypeMaps.{comp-map, comp-names, sub-itself}
use Rattle.walrus_model.proofs.Seen.{same_sub}
use Rattle.walrus_model.proofs.Steps.{given}
use Rattle.walrus_model.proofs.PipelineOps.{from_map}
use Rattle.walrus_base.proofs.Agree.{Compared, compared}
use Rattle.walrus_theorem.proofs.AgainFirst.{IsFirst, AreFirst, are_first, comp_of, place_of}
use Rattle.walrus_model.proofs.SettleDeclared.{body_pair_on, body_pair_back}
use Rattle.walrus_model.proofs.SettleHandlers.{handlers_follow}
use Rattle.walrus_theorem.proofs.StepHandlers.{handlers_fine, function_has}
use Rattle.walrus_theorem.proofs.StepParsed.{live_forth}
use Rattle.walrus_theorem.proofs.StepTypes.{comp_agrees}
use Rattle.walrus_theorem.proofs.StepOut.{LeavesOnly, IsHandlerPlace, whole_of, FinalOf, carried_of}
use Rattle.walrus_theorem.proofs.AgainRan.{Ran}
use Rattle.walrus_model.specs.Carried.{Carried}
use Rattle.walrus_base.proofs.Standing.{some_of}

-- ---- a type that is alone, from what stands under its new number

comp_stays : (f : ℕ → ℕ) (comp : CompType ℕ) → ((t : ℕ) → Contains (comp_names comp) t → f t ≡ t) → map_comp f comp ≡ comp
comp_stays f comp h = comp_agrees f (λ t. t) comp h ∙ ap (λ (s : SubType ℕ). s.comp) (sub-itself (λ t. t) (λ t. refl) (record { is_final = true; supertypes = []; comp = comp }))

one_list : (f : ℕ → ℕ) (xs : List ℕ) (q : ℕ) → map f xs ≡ q ∷ [] → (x : ℕ) × (xs ≡ x ∷ []) × (f x ≡ q)
one_list f [] q e = absurd (cc)
one_list f (x ∷ []) q e = (x, refl, cc)
one_list f (x ∷ y ∷ ys) q e = absurd (cc)

no_list : (f : ℕ → ℕ) (xs : List ℕ) → map f xs ≡ [] → xs ≡ []
no_list f [] e = refl
no_list f (x ∷ xs) e = absurd (cc)

sole : (xs : List ℕ) (i : ℕ) → xs ≡ i ∷ [] → Contains xs i
sole xs i e = subst (λ z. Contains z i) (sym e) (Contains-head i [])

made_alone : (f : ℕ → ℕ) (t : ℕ) (comp : CompType ℕ) (x : TypeDef) (i : ℕ) → x.group ≡ i ∷ [] → i ≡ t → map_sub f x.sub ≡ record { is_final = true; supertypes = []; comp = map_comp f comp } → x.sub.comp ≡ comp → x ≡ alone t comp
made_alone f t comp x i group own subs comps =
    let final : x.sub.is_final ≡ true = ap (λ (z : SubType ℕ). z.is_final) subs in
    let supers : x.sub.supertypes ≡ [] = no_list f x.sub.supertypes (ap (λ (z : SubType ℕ). z.supertypes) subs) in
    let whole : x.sub ≡ record { is_final = true; supertypes = []; comp = comp } =
    ap₂ (λ (q : List ℕ) (d : CompType ℕ). let z : SubType ℕ = record { is_final = x.sub.is_final; supertypes = q; comp = d } in z) supers comps
    ∙ ap (λ q. let z : SubType ℕ = record { is_final = q; supertypes = []; comp = comp } in z) final in
    ap₂ (λ (q : List ℕ) (z : SubType ℕ). let d : TypeDef = record { group = q; sub = z } in d) (group ∙ ap (λ z. z ∷ []) own) whole

module _ (K J : Item → Type 0) (c : Config) (m v n : Abstract) (ran : Ran K J c m v n) where
  abbrev pub w : Abstract
  w = ran.w

  abbrev p : ParsedAs c m v
  p = ran.p

  abbrev l : LeavesOnly J v ran.w
  l = ran.l

  abbrev o : Written c (record ran.w { elements = ran.elements }) n
  o = ran.o

  abbrev pub f : ℕ → ℕ
  f = o.renaming.numbers Types

  abbrev pub g : ℕ → ℕ
  g = o.renaming.numbers Functions

  -- the renaming of the whole way
  abbrev pub r : Renaming
  r = whole_of c m v ran.w n ran.elements ran.fs ran.p ran.plain ran.holds K J ran.chosen ran.l ran.undeclared ran.b ran.o

  abbrev Added : Item → Type 0
  Added x = FinalOf c m v ran.w n ran.elements ran.fs ran.p ran.plain ran.holds K J ran.chosen ran.l ran.undeclared ran.b ran.o x

  carried : Carried K Added r m n
  carried = carried_of c m v ran.w n ran.elements ran.fs ran.p ran.plain ran.holds K J ran.chosen ran.l ran.undeclared ran.b ran.o

  -- ---- types of w and of n

  pub apart : (t u : ℕ) → IsLive w (Types, t) → IsLive w (Types, u) → f t ≡ f u → t ≡ u
  apart t u ht hu e = by (compared t u) where
    by : Compared t u → t ≡ u
    by (inl less) = let h : f t < f u = ran.pinned.types_rise t u ht hu less in absurd (omega (arith, h, e))
    by (inr (inl is)) = is
    by (inr (inr less)) = let h : f u < f t = ran.pinned.types_rise u t hu ht less in absurd (omega (arith, h, e))

  pub old_type : (j : ℕ) → IsSome (n.types j) → (t : ℕ) × IsLive w (Types, t) × (f t ≡ j)
  old_type j there = ⊎_elim (λ found. found) (λ none. absurd none) (o.carried.types.onto j there)

  abbrev back_by : (j : ℕ) (q : Option TypeDef) → n.types j ≡ q → ℕ
  back_by j None e = 0
  back_by j (Some x) e = (old_type j (ap is_some e)).0

  abbrev back_of : ℕ → ℕ
  back_of j = back_by j (n.types j) refl

  there : (t : ℕ) (x : TypeDef) → w.types t ≡ Some x → (y : TypeDef) × (n.types (f t) ≡ Some y) × SameType f t x y
  there t x at = given (SameType f t) (w.types t) (n.types (f t)) x (o.carried.types.same t (ap is_some at)) at

  back_at_by : (t : ℕ) (q : Option TypeDef) (e : n.types (f t) ≡ q) → IsLive w (Types, t) → IsSome q → back_by (f t) q e ≡ t
  back_at_by t None e live has = let no : false ≡ true = has in absurd (cc)
  back_at_by t (Some x) e live has = let h = old_type (f t) (ap is_some e) in apart h.0 t h.1 live h.2

  back_at : (t : ℕ) → IsLive w (Types, t) → back_of (f t) ≡ t
  back_at t live =
      let x = some_of (w.types t) live in
      back_at_by t (n.types (f t)) refl live (ap is_some (there t x.0 x.1).1)

  abbrev pub NamesLive : CompType ℕ → Type 0
  NamesLive comp = (t : ℕ) → Contains (comp_names comp) t → IsLive w (Types, t)

  pub comp_back : (a d : CompType ℕ) → NamesLive a → NamesLive d → map_comp f a ≡ map_comp f d → a ≡ d
  comp_back a d ha hd e =
      sym (comp_stays (λ t. back_of (f t)) a (λ t at. back_at t (ha t at)))
      ∙ sym (comp-map back_of f a) ∙ ap (map_comp back_of) e ∙ comp-map back_of f d
      ∙ comp_stays (λ t. back_of (f t)) d (λ t at. back_at t (hd t at))

  -- what a type names is there
  named_live : (t u : ℕ) (x : TypeDef) → w.types t ≡ Some x → Contains (type_names x) (type_item u) → IsLive w (Types, u)
  named_live t u x at has = ran.lives.written (Types, t) (Types, u) (subst (λ z. Contains (named_by type_names z) (type_item u)) (sym at) has)

  group_live : (t u : ℕ) (x : TypeDef) → w.types t ≡ Some x → Contains x.group u → IsLive w (Types, u)
  group_live t u x at has = named_live t u x at (Contains-append_1 (type_item u) (map type_item x.group) (map type_item (sub_names x.sub)) (Contains-map type_item u x.group has))

  comp_live : (t u : ℕ) (x : TypeDef) → w.types t ≡ Some x → Contains (comp_names x.sub.comp) u → IsLive w (Types, u)
  comp_live t u x at has = named_live t u x at (Contains-append_2 (type_item u) (map type_item x.group) (map type_item (sub_names x.sub)) (Contains-map type_item u (sub_names x.sub) (Contains-append_2 u x.sub.supertypes (comp_names x.sub.comp) has)))

  -- ---- a lone type stays so

  abbrev pub w_of_v : (t : ℕ) → J (Types, t) → w.types t ≡ v.types t
  w_of_v t k = l.types t k

  v_of_w : (t : ℕ) (x : TypeDef) → w.types t ≡ Some x → v.types t ≡ Some x
  v_of_w t x at = sym (l.types t (l.left (Types, t) (ap is_some at))) ∙ at

  not_named : (comp : CompType ℕ) (t : ℕ) → NamesLive comp → IsLive w (Types, t) → (Contains (comp_names comp) t → ⊥) → Contains (comp_names (map_comp f comp)) (f t) → ⊥
  not_named comp t names live away at =
      let h = from_map f (f t) (comp_names comp) (subst (λ z. Contains z (f t)) (comp-names f comp) at) in
      away (subst (Contains (comp_names comp)) (apart h.0 t (names h.0 h.1) live h.2) h.1)

  stands_on : (comp : CompType ℕ) (t : ℕ) → NamesLive comp → J (Types, t) → IsLoneTypeAt comp p.all_types t → IsLoneType n (map_comp f comp) (f t)
  stands_on comp t names k s =
      let at : w.types t ≡ Some (alone t comp) = w_of_v t k ∙ p.types_made t ∙ s.0 in
      let y = there t (alone t comp) at in
      let is : y.0 ≡ alone (f t) (map_comp f comp) = ap₂ (λ (gs : List ℕ) (z : SubType ℕ). let x : TypeDef = record { group = gs; sub = z } in x) y.2.group (same_sub f t (alone t comp) y.0 y.2) in (
        y.1 ∙ ap Some is,
        not_named comp t names (ap is_some at) s.1,
      )

  -- and a lone type of n was one
  stood_back : (comp : CompType ℕ) (t : ℕ) → NamesLive comp → IsLive w (Types, t) → IsLoneType n (map_comp f comp) (f t) → IsLoneTypeAt comp p.all_types t
  stood_back comp t names live s =
      let x = some_of (w.types t) live in
      let y = there t x.0 x.1 in
      let is : y.0 ≡ alone (f t) (map_comp f comp) = let both : Some y.0 ≡ Some (alone (f t) (map_comp f comp)) = sym y.1 ∙ s.0 in cc in
      let gs = one_list f x.0.group (f t) (sym y.2.group ∙ ap (λ (z : TypeDef). z.group) is) in
      let own : gs.0 ≡ t = apart gs.0 t (group_live t gs.0 x.0 x.1 (sole x.0.group gs.0 gs.1)) live gs.2 in
      let subs : map_sub f x.0.sub ≡ record { is_final = true; supertypes = []; comp = map_comp f comp } = sym (same_sub f t x.0 y.0 y.2) ∙ ap (λ (z : TypeDef). z.sub) is in
      let comps : x.0.sub.comp ≡ comp = comp_back x.0.sub.comp comp (λ u has. comp_live t u x.0 x.1 has) names (ap (λ (z : SubType ℕ). z.comp) subs) in
      let made : x.0 ≡ alone t comp = made_alone f t comp x.0 gs.0 gs.1 own subs comps in (
        sym (p.types_made t) ∙ v_of_w t x.0 x.1 ∙ ap Some made,
        λ at. s.1 (subst (λ z. Contains z (f t)) (sym (comp-names f comp)) (Contains-map f t (comp_names comp) at)),
      )

  first_on : (comp : CompType ℕ) (t : ℕ) → NamesLive comp → J (Types, t) → IsFirst comp p.all_types t → (j : ℕ) → j < f t → IsLoneType n (map_comp f comp) j → ⊥
  first_on comp t names k s j less at =
      let old = old_type j (ap is_some at.0) in
      let stood : IsLoneTypeAt comp p.all_types old.0 = stood_back comp old.0 names old.1 (subst (IsLoneType n (map_comp f comp)) (sym old.2) at) in
      by old.0 old.1 old.2 stood (compared old.0 t)
    where
      live_t : IsLive w (Types, t)
      live_t = ap is_some (w_of_v t k ∙ p.types_made t ∙ s.0.0)

      by : (i : ℕ) → IsLive w (Types, i) → f i ≡ j → IsLoneTypeAt comp p.all_types i → Compared i t → ⊥
      by i live e stood (inl before) = s.1 i before stood
      by i live e stood (inr (inl is)) = let h : f i ≡ f t = ap f is in omega (arith, less, e, h)
      by i live e stood (inr (inr behind)) = let h : f t < f i = ran.pinned.types_rise t i live_t live behind in omega (arith, less, e, h)

  stays_first : (comp : CompType ℕ) (t : ℕ) → NamesLive comp → J (Types, t) → IsFirst comp p.all_types t → IsFirstLoneType n (map_comp f comp) (f t)
  stays_first comp t names k s = (stands_on comp t names k s.0, first_on comp t names k s)

  -- ---- functions of w and of n

  pub old_function : (j : ℕ) → IsSome (n.functions j) → (i : ℕ) × IsLive w (Functions, i) × (g i ≡ j)
  old_function j there = ⊎_elim (λ found. found) (λ none. absurd none) (o.carried.functions.onto j there)

  pub function_kept : (i : ℕ) → IsLive w (Functions, i) → K (Functions, i)
  function_kept i live = ⊎_elim
      (λ k. k)
      (λ (h : IsHandlerPlace c m v p K (Functions, i)). let e : Functions ≡ Types = ap (λ (y : Item). y.0) h.is in absurd (cc))
      (ran.chosen.either (Functions, i) (l.left (Functions, i) live))

  handlers_by_body : (i : ℕ) → K (Functions, i) → (q : Option Body) → body_of m i ≡ q → (z : Option Body) → body_of n (g i) ≡ z → handlers_by n z ≡ map (map_comp f) (handlers_by m q)
  handlers_by_body i k (Some d) at z is =
      let pair = body_pair_on r i (m.functions i) (n.functions (g i)) (carried.functions.same i k) d at in
      ap (handlers_by n) (sym is ∙ pair.1)
      ∙ handlers_follow K Added r m n ran.closed carried i d pair.0 pair.2 (ran.plain.catches i d at) (λ y has. ran.closed (Functions, i) y k (function_has m K ran.closed (m.functions i) d at y has))
  handlers_by_body i k None at (Some d) is =
      let pair = body_pair_back r i (m.functions i) (n.functions (g i)) (carried.functions.same i k) d is in
      let no : None ≡ Some pair.0 = sym at ∙ pair.1 in absurd (cc)
  handlers_by_body i k None at None is = refl

  handlers_on : (i : ℕ) → K (Functions, i) → handlers_by n (body_of n (g i)) ≡ map (map_comp f) (handlers_by m (body_of m i))
  handlers_on i k = handlers_by_body i k (body_of m i) refl (body_of n (g i)) refl

  names_by_body : (i : ℕ) → K (Functions, i) → (q : Option Body) → body_of m i ≡ q → (comp : CompType ℕ) → Contains (handlers_by m q) comp → NamesLive comp
  names_by_body i k None at comp has t named = absurd (Contains-none comp has)
  names_by_body i k (Some d) at comp has t named =
      let km : K (Types, t) = handlers_fine m K ran.closed i d at (ran.plain.catches i d at) (λ y in_f. ran.closed (Functions, i) y k in_f) comp has t named in
      let kv : J (Types, t) = ran.chosen.stays (Types, t) km in
      subst IsSome (sym (w_of_v t kv)) (live_forth c m v p (Types, t) (ran.chosen.there (Types, t) km))

  -- ---- the types that the handlers of n need

  firsts : (i : ℕ) → K (Functions, i) → AreFirst p.all_types (handlers_by m (body_of m i)) (v.handler_types i)
  firsts i k = are_first c m v p ran.plain ran.holds i (ran.chosen.there (Functions, i) k)

  -- one of them, by the function that it is for
  found_on : (i : ℕ) → K (Functions, i) → (comp : CompType ℕ) → Contains (handlers_by n (body_of n (g i))) comp → (j : ℕ) × IsFirstLoneType n comp j
  found_on i k comp has =
      let old = from_map (map_comp f) comp (handlers_by m (body_of m i)) (subst (λ l. Contains l comp) (handlers_on i k) has) in
      let place = place_of p.all_types (handlers_by m (body_of m i)) (v.handler_types i) (firsts i k) old.0 old.1 in
      (f place.0, subst (λ z. IsFirstLoneType n z (f place.0)) old.2 (stays_first old.0 place.0 (names_by_body i k (body_of m i) refl old.0 old.1) (ran.chosen.places i place.0 k place.1) place.2))

  pub handlers_found : (comp : CompType ℕ) → IsHandlerType (IsLive n) n comp → (j : ℕ) × IsFirstLoneType n comp j
  handlers_found comp (h, d, live, at, has) =
      let old = old_function h live in
      let is : body_of n (g old.0) ≡ Some d = ap (body_of n) old.2 ∙ at in
      found_on old.0 (function_kept old.0 old.1) comp (subst (λ o. Contains (handlers_by n o) comp) (sym is) has)

  -- a type that is listed for a chosen function stands for its handlers
  pub place_stays : (i : ℕ) (b : Body) → K (Functions, i) → body_of m i ≡ Some b → Kept n (Functions, g i) → (t : ℕ) → Contains (v.handler_types i) t → IsForHandlers n (Types, f t)
  place_stays i b k at kept t listed =
      let one = comp_of p.all_types (handlers_by m (body_of m i)) (v.handler_types i) (firsts i k) t listed in
      let pair = body_pair_on r i (m.functions i) (n.functions (g i)) (carried.functions.same i k) b at in
      let has : Contains (handlers_by n (body_of n (g i))) (map_comp f one.0) = subst (λ l. Contains l (map_comp f one.0)) (sym (handlers_on i k)) (Contains-map (map_comp f) one.0 (handlers_by m (body_of m i)) one.1) in (
        map_comp f one.0,
        (g i, pair.0, kept, pair.1, subst (λ o. Contains (handlers_by n o) (map_comp f one.0)) pair.1 has),
        stays_first one.0 t (names_by_body i k (body_of m i) refl one.0 one.1) (ran.chosen.places i t k listed) one.2,
      )
