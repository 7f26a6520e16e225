-- The module with the declared segment against the one without it.
use Rattle.std.proofs.Common.{◌≡◌, ℕ, ◌<◌, List, [], ◌∷◌, refl, sym, ap, ◌∙◌, subst, arith, inl, inr, ⊎_elim, ◌⊎◌}
use Rattle.std.proofs.lemmas.Bool.Decides.{eqb_tells}
use Rattle.std.specs.Prelude.{Option, Some, None, IsSome, is_some, Contains}
use Rattle.std.proofs.lemmas.Option.{same_Some}
use Rattle.walrus_base.specs.Operators.{Elements, Item}
use Rattle.walrus_model.specs.Abstract.{Abstract, Element, AnItem, DeclaredElements, ListedFunctions}
use Rattle.walrus_model.specs.Live.{IsLive}
use Rattle.walrus_model.specs.Names.{own_name}
use Rattle.walrus_model.specs.Renaming.{Renaming, unchanged, renamed_element}
use Rattle.walrus_model.specs.Same.{BothAnd}
use Rattle.walrus_model.specs.Carried.{Carried}
use Rattle.walrus_model.specs.Declared.{IsUndeclared, AreUndeclared, HasDeclaredSegment}
use Rattle.walrus_model.specs.Out.{IsTheSegment}
use Rattle.walrus_theorem.specs.Chain.{AddsSegment, Leaves}
use Rattle.walrus_base.proofs.Lists.{Contains-head, Contains-none}
use Rattle.walrus_model.proofs.Compose.{second_there}

abbrev pub declared_segment : List ℕ → Option Element
declared_segment fs = Some (record { kind = DeclaredElements; items = ListedFunctions fs })

-- the segment, if there are functions to declare
abbrev pub SegmentIs : (ℕ → Option Element) → List ℕ → Option ℕ → Type 0
SegmentIs elements [] segment = segment ≡ None
SegmentIs elements (f ∷ fs) segment = (id : ℕ) × (segment ≡ Some id) × (elements id ≡ declared_segment (f ∷ fs))

pub record Between (w u : Abstract) (fs : List ℕ) : Type 0 where
  pub segment : Option ℕ
  pub same : u ≡ record w { elements = u.elements }
  pub is : SegmentIs u.elements fs segment
  pub last : (i j : ℕ) → IsSome (w.elements i) → segment ≡ Some j → i < j
  pub others : (i : ℕ) → (segment ≡ Some i → ⊥) → u.elements i ≡ w.elements i
  pub unnamed : (j : ℕ) → segment ≡ Some j → own_name w (AnItem (Elements, j)) ≡ None

none_some : {X P : Type 0} (x : X) → ◌≡◌ {A = Option X} None (Some x) → P
none_some x e = absurd (cc)

between_of : (w u : Abstract) (fs : List ℕ) → AddsSegment w u fs → Between w u fs
between_of w u [] e = record {
  segment = None;
  same = e ∙ ap (λ (x : Abstract). record w { elements = x.elements }) (sym e);
  is = refl;
  last = λ i j live none. none_some j none;
  others = λ i h. ap (λ (x : Abstract). x.elements i) e;
  unnamed = λ j none. none_some j none;
}
between_of w u (f ∷ fs) (s, e) = record {
  segment = Some s.id;
  same = e;
  is = (s.id, refl, s.is);
  last = λ i j live is. subst (λ k. i < k) (same_Some s.id j is) (s.last i live);
  others = λ i apart. s.others i (λ is. apart (ap Some (sym is)));
  unnamed = λ j is. subst (λ k. own_name w (AnItem (Elements, k)) ≡ None) (same_Some s.id j is) s.unnamed;
}

pub between : (w u : Abstract) (l : Leaves w u) → Between w u l.functions
between w u l = between_of w u l.functions l.added

-- whether a number is the segment's
pub is_segment : (s : Option ℕ) (j : ℕ) → (s ≡ Some j) ⊎ (s ≡ Some j → ⊥)
is_segment None j = inr (λ e. none_some j e)
is_segment (Some k) j = ⊎_elim (λ h. inl (ap Some h.1)) (λ h. inr (λ e. h.1 (same_Some k j e))) (eqb_tells k j)

no_members : (fs : List ℕ) → ((f : ℕ) → Contains fs f → ⊥) → fs ≡ []
no_members [] none = refl
no_members (f ∷ fs) none = absurd (none f (Contains-head f fs))

pub declares_none : (K : Item → Type 0) (r : Renaming) (m n : Abstract) (fs : List ℕ) (segment : Option ℕ) → ((f : ℕ) → Contains fs f → ⊥) → HasDeclaredSegment K r m n fs segment → segment ≡ None
declares_none K r m n fs segment none h = subst (λ l. HasDeclaredSegment K r m n l segment) (no_members fs none) h

module _ (w : Abstract) (elements : ℕ → Option Element) (fs : List ℕ) (b : Between w (record w { elements = elements }) fs) where
  abbrev pub with_elements : Abstract
  with_elements = record w { elements = elements }

  pub not_segment : (i : ℕ) → IsSome (w.elements i) → b.segment ≡ Some i → ⊥
  not_segment i live is = let lt : i < i = b.last i i live is in omega arith

  pub old_elements : (i : ℕ) → IsSome (w.elements i) → elements i ≡ w.elements i
  old_elements i live = b.others i (not_segment i live)

  -- with the segment nothing is undeclared
  undeclared_before : (f : ℕ) → IsUndeclared (IsLive with_elements) with_elements f → IsUndeclared (IsLive w) w f
  undeclared_before f h = record {
    named = h.named;
    not_exported = h.not_exported;
    not_listed = λ i e live at lists. h.not_listed i e (subst IsSome (sym (old_elements i live)) live) (old_elements i live ∙ at) lists;
  }

  listed_there : (gs : List ℕ) (f : ℕ) → SegmentIs elements gs b.segment → Contains gs f → IsUndeclared (IsLive with_elements) with_elements f → ⊥
  listed_there [] f is at h = Contains-none f at
  listed_there (g ∷ gs) f (id, here, is) at h = h.not_listed id (record { kind = DeclaredElements; items = ListedFunctions (g ∷ gs) }) (ap is_some is) is at

  pub nothing_undeclared : AreUndeclared (IsLive w) w fs → (f : ℕ) → IsUndeclared (IsLive with_elements) with_elements f → ⊥
  nothing_undeclared are f h = listed_there fs f b.is ((are.are f).1 (undeclared_before f h)) h

  -- what is kept, and the segment
  module _ (K : Item → Type 0) (v : Abstract) (c : Carried K (λ x. ⊥) unchanged v w) where
    kept_live : (i : ℕ) → K (Elements, i) → IsSome (w.elements i)
    kept_live i k = second_there (λ x y. y ≡ renamed_element unchanged x) (v.elements i) (w.elements i) (c.elements.same i k)

    pub carried_between : Carried K (IsTheSegment b.segment) unchanged v with_elements
    carried_between = record {
      types = c.types;
      imports = c.imports;
      functions = c.functions;
      tables = c.tables;
      memories = c.memories;
      tags = c.tags;
      globals = c.globals;
      elements = record {
        same = λ i k. subst (λ o. BothAnd (λ x y. y ≡ renamed_element unchanged x) (v.elements i) o) (sym (old_elements i (kept_live i k))) (c.elements.same i k);
        onto = λ j there. ⊎_elim
            (λ is. inr is)
            (λ other. ⊎_elim (λ found. inl found) (λ none. absurd none) (c.elements.onto j (subst IsSome (b.others j other) there)))
            (is_segment b.segment j);
      };
      data_segments = c.data_segments;
      imports_apart = c.imports_apart;
      apart = c.apart;
      exports = c.exports;
      start = c.start;
    }
