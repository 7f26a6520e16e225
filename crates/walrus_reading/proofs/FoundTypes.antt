-- Types that are found or added, over slots and over a list of types.
use Rattle.std.proofs.Common.{◌≡◌, ℕ, true, false, List, [], ◌∷◌, ◌++◌, map, refl, sym, ap, subst, ◌∙◌, append_assoc}
use Rattle.std.specs.Prelude.{All, Option, Some, None}
use Rattle.std.proofs.lemmas.List.{length-map, map-append}
use Rattle.std.proofs.lemmas.List.Elements.{All-append, All-from_recursion}
use Rattle.walrus_base.specs.Types.{CompType, comp_names}
use Rattle.walrus_base.specs.Alone as slots
use Rattle.walrus_base.specs.Composite.{FunctionType, function_comp}
use Rattle.walrus_base.specs.PlaceList.{has}
use Rattle.walrus_base.specs.TypeDef.{TypeDef}
use Rattle.walrus_base.proofs.ShapesEnd.{has_contained}
use Rattle.walrus_functions.specs.ReadFunction.{AddsTypes, AndOne, Nothing, Slots, StaysInFront}
use Rattle.walrus_items.specs.Functions.{FunctionValue}
use Rattle.walrus_model.specs.Sections.{Said}
use Rattle.walrus_theorem.specs.Chain as chain
use Rattle.walrus_theorem.specs.Chain.{AndThen, AreFoundOrAdded, NoMore}
use Rattle.walrus_contents.proofs.ExportedRefs.{contained_has}
use Rattle.walrus_model.proofs.PlacedTypes.{item_there}
use Rattle.walrus_reading.specs.Placed.{InTurn}
use Rattle.walrus_reading.specs.Taken.{AddsHandlersOf, HoldsHandlers}
use Rattle.std.proofs.lemmas.Bool.{false_from_ne_true as by_value}
use Rattle.walrus_functions.proofs.HandlerLemmas.{stays_same}

-- ---- what stays in front

stays_trans : {T : Type 0} (old middle new : List T) → StaysInFront old middle → StaysInFront middle new → StaysInFront old new
stays_trans {T} old middle new first next = (first.0 ++ next.0, next.1 ∙ ap (λ (xs : List T). xs ++ next.0) first.1 ∙ append_assoc old first.0 next.0)

-- ---- one type

module _ (f : FunctionType) (ts : List TypeDef) (p : ℕ) where
  in_list : slots.StandsAt f (map Some ts) p → chain.IsLoneTypeAt (function_comp f) ts p
  in_list h = (sym (item_there ts p) ∙ h.0, λ at. let yes : has (comp_names (function_comp f)) p ≡ true = has_contained (comp_names (function_comp f)) p at in let no : has (comp_names (function_comp f)) p ≡ false = h.1 in absurd (cc))

  in_slots : chain.IsLoneTypeAt (function_comp f) ts p → slots.StandsAt f (map Some ts) p
  in_slots h = (item_there ts p ∙ h.0, by_value (has (comp_names (function_comp f)) p) (λ yes. h.1 (contained_has (comp_names (function_comp f)) p yes)))

-- a list of types that is found, or one longer
abbrev pub Grows : (ts : List TypeDef) (new : List (Option TypeDef)) → (List TypeDef → Type 0) → Type 0
Grows ts new P = (next : List TypeDef) × ((new ≡ map Some next) × P next)

one_found : (f : FunctionType) (ts : List TypeDef) (new : List (Option TypeDef)) (old_names new_names : List (Option (Option (List ℕ)))) (p : ℕ) → slots.FoundOrAdded f (map Some ts) new old_names new_names p
    → Grows ts new (λ next. chain.TypeIsFoundOrAdded (function_comp f) ts next p)
one_found f ts new old_names new_names p (slots.Found stands same names) = (ts, (same, chain.Found (in_list f ts p stands.0) (λ q lt at. stands.1 q lt (in_slots f ts q at)) refl))
one_found f ts new old_names new_names p (slots.Added none at made names) =
    let one : TypeDef = chain.alone p (function_comp f) in
    (ts ++ one ∷ [], (made ∙ sym (map-append Some ts (one ∷ [])), chain.Added (λ q at. none q (in_slots f ts q at)) (at ∙ length-map ts Some) refl))

-- ---- many types

pub many_found : (fs : List FunctionType) (old new : Slots) (ps : List ℕ) (ts : List TypeDef) → old.types ≡ map Some ts → AddsTypes fs old new ps → Grows ts new.types (λ next. AreFoundOrAdded (map function_comp fs) ts next ps)
many_found _ _ _ _ ts is (Nothing s) = (ts, (is, NoMore ts))
many_found _ _ _ _ ts is (AndOne f fs old middle new p ps one rest) =
    let a = one_found f ts middle.types old.names middle.names p (subst (λ (l : List (Option TypeDef)). slots.FoundOrAdded f l middle.types old.names middle.names p) is one) in
    let b = many_found fs middle new ps a.0 a.1.0 rest in
    (b.0, (b.1.0, AndThen (function_comp f) (map function_comp fs) ts a.0 b.0 p ps a.1.1 b.1.1))

one_stays : (f : FunctionType) (old new : Slots) (p : ℕ) → slots.FoundOrAdded f old.types new.types old.names new.names p → StaysInFront old.types new.types
one_stays f old new p (slots.Found stands same names) = stays_same old.types new.types same
one_stays f old new p (slots.Added none at made names) = (Some (slots.alone p f) ∷ [], made)

pub types_stay : (fs : List FunctionType) (old new : Slots) (ps : List ℕ) → AddsTypes fs old new ps → StaysInFront old.types new.types
types_stay _ _ _ _ (Nothing s) = stays_same s.types s.types refl
types_stay _ _ _ _ (AndOne f fs old middle new p ps one rest) = stays_trans old.types middle.types new.types (one_stays f old middle p one) (types_stay fs middle new ps rest)

one_longer : (comp : CompType ℕ) (old new : List TypeDef) (p : ℕ) → chain.TypeIsFoundOrAdded comp old new p → StaysInFront old new
one_longer comp old new p (chain.Found stands first same) = stays_same old new same
one_longer comp old new p (chain.Added none at made) = (chain.alone p comp ∷ [], made)

list_stays : (comps : List (CompType ℕ)) (old new : List TypeDef) (ps : List ℕ) → AreFoundOrAdded comps old new ps → StaysInFront old new
list_stays _ _ _ _ (NoMore types) = stays_same types types refl
list_stays _ _ _ _ (AndThen comp comps old middle new p ps one rest) = stays_trans old middle new (one_longer comp old middle p one) (list_stays comps middle new ps rest)

-- ---- nothing that is added has a name

abbrev pub Unnamed : List (Option (Option (List ℕ))) → Type 0
Unnamed names = All (λ (name : Option (Option (List ℕ))). name ≡ Some None) names

one_unnamed : (f : FunctionType) (old new : Slots) (p : ℕ) → slots.FoundOrAdded f old.types new.types old.names new.names p → Unnamed old.names → Unnamed new.names
one_unnamed f old new p (slots.Found stands same names) h = subst Unnamed (sym names) h
one_unnamed f old new p (slots.Added none at made names) h =
    subst Unnamed (sym names) (All-append (λ (name : Option (Option (List ℕ))). name ≡ Some None) old.names (Some None ∷ []) h (All-from_recursion (λ (name : Option (Option (List ℕ))). name ≡ Some None) (Some None ∷ []) (refl, tt)))

many_unnamed : (fs : List FunctionType) (old new : Slots) (ps : List ℕ) → AddsTypes fs old new ps → Unnamed old.names → Unnamed new.names
many_unnamed _ _ _ _ (Nothing s) h = h
many_unnamed _ _ _ _ (AndOne f fs old middle new p ps one rest) h = many_unnamed fs middle new ps rest (one_unnamed f old middle p one h)

-- ---- function by function

module _ (types : ℕ → Option TypeDef) (tags : ℕ → Option ℕ) where
  pub all_found : (fs : List (ℕ × Said)) (found : List (Option FunctionValue)) (old new : Slots) (ts : List TypeDef) → old.types ≡ map Some ts → InTurn (AddsHandlersOf types tags) fs found old new
      → Grows ts new.types (λ next. InTurn (HoldsHandlers types tags) fs found ts next)
  all_found [] [] old new ts is h = (ts, (ap (λ (s : Slots). s.types) h ∙ is, refl))
  all_found [] (slot ∷ found) old new ts is h = absurd h
  all_found (f ∷ fs) [] old new ts is h = absurd h
  all_found (f ∷ fs) (slot ∷ found) old new ts is h =
      let a = many_found _ old h.0 _ ts is h.1.0 in
      let b = all_found fs found h.0 new a.0 a.1.0 h.1.1 in
      (b.0, (b.1.0, (a.0, (a.1.1, b.1.1))))

  pub all_stay : (fs : List (ℕ × Said)) (found : List (Option FunctionValue)) (old new : Slots) → InTurn (AddsHandlersOf types tags) fs found old new → StaysInFront old.types new.types
  all_stay [] [] old new h = stays_same old.types new.types (ap (λ (s : Slots). s.types) h)
  all_stay [] (slot ∷ found) old new h = absurd h
  all_stay (f ∷ fs) [] old new h = absurd h
  all_stay (f ∷ fs) (slot ∷ found) old new h = stays_trans old.types h.0.types new.types (types_stay _ old h.0 _ h.1.0) (all_stay fs found h.0 new h.1.1)

  pub all_unnamed : (fs : List (ℕ × Said)) (found : List (Option FunctionValue)) (old new : Slots) → InTurn (AddsHandlersOf types tags) fs found old new → Unnamed old.names → Unnamed new.names
  all_unnamed [] [] old new h none = subst (λ (s : Slots). Unnamed s.names) (sym h) none
  all_unnamed [] (slot ∷ found) old new h none = absurd h
  all_unnamed (f ∷ fs) [] old new h none = absurd h
  all_unnamed (f ∷ fs) (slot ∷ found) old new h none = all_unnamed fs found h.0 new h.1.1 (many_unnamed _ old h.0 _ h.1.0 none)

  -- the list that was there stands in front
  pub all_grown : (fs : List (ℕ × Said)) (found : List (Option FunctionValue)) (old new : List TypeDef) → InTurn (HoldsHandlers types tags) fs found old new → StaysInFront old new
  all_grown [] [] old new h = stays_same old new h
  all_grown [] (slot ∷ found) old new h = absurd h
  all_grown (f ∷ fs) [] old new h = absurd h
  all_grown (f ∷ fs) (slot ∷ found) old new h = stays_trans old h.0 new (list_stays _ old h.0 _ h.1.0) (all_grown fs found h.0 new h.1.1)
