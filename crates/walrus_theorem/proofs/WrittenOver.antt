-- What a module in memory is written as takes it over, with the declared segment where there is one.
use Rattle.std.proofs.Common.{◌≡◌, ℕ, ◌<◌, List, [], ◌∷◌, map, refl, sym, ap, ◌∙◌, subst, inr}
use Rattle.std.specs.Prelude.{Option, Some, None, Contains}
use Rattle.std.proofs.lemmas.Option.{same_Some}
use Rattle.walrus_base.specs.Operators.{Space, Types, Functions, Tables, Memories, Tags, Globals, Elements, DataSegments, Item, function_item}
use Rattle.walrus_model.specs.Abstract.{Abstract, Element, DeclaredElements, ListedFunctions}
use Rattle.walrus_model.specs.Config.{Config}
use Rattle.walrus_model.specs.Declared.{HasDeclaredSegment}
use Rattle.walrus_model.specs.Live.{IsLive}
use Rattle.walrus_model.specs.Order.{ByImport}
use Rattle.walrus_model.specs.Out.{IsTheSegment}
use Rattle.walrus_model.specs.Refers.{named_by, written_in, element_names}
use Rattle.walrus_model.specs.Renaming.{Renaming}
use Rattle.walrus_model.specs.Same.{SameFunction}
use Rattle.walrus_model.specs.RulesCarried.{TakenOver}
use Rattle.walrus_model.proofs.Compose.{second_there}
use Rattle.walrus_model.proofs.TakingOver.{Contains-map_back}
use Rattle.walrus_theorem.specs.Once.{Premises}
use Rattle.walrus_theorem.proofs.SegmentStep.{live_undeclared}
use Rattle.walrus_theorem.proofs.Shaped.{Side}

module _ (c : Config) (v n : Abstract) (premises : Premises v) (s : Side c v n) where
  abbrev pub r : Renaming
  r = s.is.written.renaming

  abbrev segment : Option ℕ
  segment = s.is.written.segment

  abbrev declared : List ℕ
  declared = s.is.written.declares.functions

  abbrev listing : List ℕ → Element
  listing fs = record { kind = DeclaredElements; items = ListedFunctions (map (r.numbers Functions) fs) }

  segment_at : (j : ℕ) → segment ≡ Some j → (fs : List ℕ) → HasDeclaredSegment (IsLive v) r v n fs segment → n.elements j ≡ Some (listing fs)
  segment_at j at [] is = absurd (let none : None ≡ Some j = sym is ∙ at in cc)
  segment_at j at (f ∷ fs) (k, here, is) = subst (λ i. n.elements i ≡ Some (listing (f ∷ fs))) (same_Some k j (sym here ∙ at)) is.is

  segment_is : (j : ℕ) → segment ≡ Some j → n.elements j ≡ Some (listing declared)
  segment_is j at = segment_at j at declared s.is.written.declares.declared

  -- the functions that the segment lists are there
  listed_live : (y : Item) → Contains (map function_item (map (r.numbers Functions) declared)) y → IsLive n y
  listed_live y at =
      let g : (g : ℕ) × Contains (map (r.numbers Functions) declared) g × (function_item g ≡ y) = Contains-map_back function_item (map (r.numbers Functions) declared) y at in
      let f : (f : ℕ) × Contains declared f × (r.numbers Functions f ≡ g.0) = Contains-map_back (r.numbers Functions) declared g.0 g.1 in
      let live : IsLive v (Functions, f.0) = live_undeclared v premises.written f.0 ((s.is.written.declares.undeclared.are f.0).0 f.1) in
      let there : IsLive n (Functions, r.numbers Functions f.0) = second_there (SameFunction r f.0) (v.functions f.0) (n.functions (r.numbers Functions f.0)) (s.is.written.carried.functions.same f.0 live) in
      subst (IsLive n) (ap function_item f.2 ∙ g.2) there

  added_names : (space : Space) (j : ℕ) (y : Item) → IsTheSegment segment (space, j) → Contains (written_in n (space, j)) y → IsLive n y
  added_names Elements j y h at = listed_live y (subst (λ (o : Option Element). Contains (named_by element_names o) y) (segment_is j h) at)
  added_names Types j y h at = absurd h
  added_names Functions j y h at = absurd h
  added_names Tables j y h at = absurd h
  added_names Memories j y h at = absurd h
  added_names Tags j y h at = absurd h
  added_names Globals j y h at = absurd h
  added_names DataSegments j y h at = absurd h

  is_element : (space : Space) (j : ℕ) → IsTheSegment segment (space, j) → space ≡ Elements
  is_element Elements j h = refl
  is_element Types j h = absurd h
  is_element Functions j h = absurd h
  is_element Tables j h = absurd h
  is_element Memories j h = absurd h
  is_element Tags j h = absurd h
  is_element Globals j h = absurd h
  is_element DataSegments j h = absurd h

  is_declared : (j : ℕ) (e : Element) → segment ≡ Some j → n.elements j ≡ Some e → e.kind ≡ DeclaredElements
  is_declared j e h at = sym (ap (λ (x : Element). x.kind) (same_Some (listing declared) e (sym (segment_is j h) ∙ at)))

  pub written_over : TakenOver (IsLive v) (λ x. IsTheSegment segment x) (ByImport v) (λ space i j. i < j) r v n
  written_over = record {
    carried = s.is.written.carried;
    named = λ x y k at. premises.written x y at;
    exported = premises.exports;
    started = premises.start;
    types_rise = λ i j a b lt. s.is.pinned.types_rise i j a b lt;
    globals_rise = λ i j a b before. s.is.written.rises.items Globals (λ e. cc) i j a b before;
    kinds = λ space j h. inr (is_element space j h);
    added = λ x y h at. added_names x.0 x.1 y h at;
    added_types = λ j y h at. absurd h;
    declared = is_declared;
  }
