-- Edits in one index space, or in none: what they keep, and the imports that come or go with an item.
use Rattle.std.proofs.Common.{◌≡◌, ◌≢◌, ℕ, List, refl, sym, ap, ◌∙◌, subst, inl, inr, ⊎_elim, arith}
use Rattle.std.specs.Prelude.{Option, Some, None, AllPairs, Contains, ◌⊎◌}
use Rattle.walrus_base.specs.Operators.{Space, Types, Functions, Tables, Memories, Tags, Globals, Elements, DataSegments, Item}
use Rattle.walrus_model.specs.Abstract.{Abstract, Function, Import, Export, Custom}
use Rattle.walrus_model.specs.Config.{Config}
use Rattle.walrus_model.specs.Live.{IsLive}
use Rattle.walrus_model.specs.Pipeline.{ReachedIsLive}
use Rattle.walrus_model.specs.Reached.{root}
use Rattle.walrus_model.specs.Refers.{KeepsToo, written_in}
use Rattle.walrus_model.specs.Roots.{IsRoot, asked_for, exported}
use Rattle.walrus_model.specs.Spaces.{Thing, look}
use Rattle.walrus_model.specs.WellMade.{import_in, import_of}
use Rattle.walrus_base.proofs.Standing.{some_inj}
use Rattle.walrus_theorem.specs.Edits.{with_imported, with_space}
use Rattle.walrus_theorem.specs.EditLaws.{AddsLive, IsUnnamed, LeadsToLive}
use Rattle.walrus_theorem.specs.WellMade.{IsWellMade}
use Rattle.walrus_base.proofs.Agree.{Compared, compared}
use Rattle.walrus_theorem.proofs.EditKept.{IsKept, Keeps, KeepsOutline, by_space, keeps_same, live_on, none_isnt, outline_kept}
use Rattle.walrus_theorem.proofs.EditWhole.{Imports, IsSegment, Items, Roots, Tops}

pub equal_or : (i j : ℕ) → (i ≡ j) ⊎ (i ≢ j)
equal_or i j = by (compared i j) where
  by : Compared i j → (i ≡ j) ⊎ (i ≢ j)
  by (inl lt) = inr (λ e. omega (arith, lt, e))
  by (inr (inl e)) = inl e
  by (inr (inr lt)) = inr (λ e. omega (arith, lt, e))

-- ---- what but one space stays

-- all of a module but items and imports that an edit here doesn't touch
abbrev pub TopParts : Type 0
TopParts = List Export × Option ℕ × List Custom × List Item

abbrev pub tops : Abstract → TopParts
tops m = (m.exports, m.start, m.customs, m.section_roots)

tops_same : (v w : Abstract) (s : Space) → tops (with_space s v w) ≡ tops v
tops_same v w = by_space (λ s. tops (with_space s v w) ≡ tops v) refl refl refl refl refl refl refl refl

pub imports_same : (v w : Abstract) (s : Space) → (with_space s v w).imports ≡ v.imports
imports_same v w = by_space (λ s. (with_space s v w).imports ≡ v.imports) refl refl refl refl refl refl refl refl

module _ (v w : Abstract) where
  -- the items of t are those of v, or t is that space
  abbrev Other : Space → Space → Type 0
  Other s t = (look (with_space s v w) t ≡ look v t) ⊎ (t ≡ s)

  other_space : (s t : Space) → Other s t
  other_space = by_space (λ s. (t : Space) → Other s t)
      (by_space (Other Types) (inr refl) (inl refl) (inl refl) (inl refl) (inl refl) (inl refl) (inl refl) (inl refl))
      (by_space (Other Functions) (inl refl) (inr refl) (inl refl) (inl refl) (inl refl) (inl refl) (inl refl) (inl refl))
      (by_space (Other Tables) (inl refl) (inl refl) (inr refl) (inl refl) (inl refl) (inl refl) (inl refl) (inl refl))
      (by_space (Other Memories) (inl refl) (inl refl) (inl refl) (inr refl) (inl refl) (inl refl) (inl refl) (inl refl))
      (by_space (Other Tags) (inl refl) (inl refl) (inl refl) (inl refl) (inr refl) (inl refl) (inl refl) (inl refl))
      (by_space (Other Globals) (inl refl) (inl refl) (inl refl) (inl refl) (inl refl) (inr refl) (inl refl) (inl refl))
      (by_space (Other Elements) (inl refl) (inl refl) (inl refl) (inl refl) (inl refl) (inl refl) (inr refl) (inl refl))
      (by_space (Other DataSegments) (inl refl) (inl refl) (inl refl) (inl refl) (inl refl) (inl refl) (inl refl) (inr refl))

  imported_look : (s t : Space) → look (with_imported s v w) t ≡ look (with_space s v w) t
  imported_look s = by_space (λ t. look (with_imported s v w) t ≡ look (with_space s v w) t) refl refl refl refl refl refl refl refl

  -- but for one space, and what stands beside the items
  pub record InSpace (s : Space) : Type 0 where
    pub items : (t : Space) → (look w t ≡ look v t) ⊎ (t ≡ s)
    pub same : tops w ≡ tops v

  pub in_space : (s : Space) → w ≡ with_space s v w → InSpace s
  in_space s others = record {
    items = λ t. ⊎_elim (λ e. inl (ap (λ (m : Abstract). look m t) others ∙ e)) (λ e. inr e) (other_space s t);
    same = ap tops others ∙ tops_same v w s;
  }

  pub in_imported : (s : Space) → w ≡ with_imported s v w → InSpace s
  in_imported s others = record {
    items = λ t. ⊎_elim (λ e. inl (ap (λ (m : Abstract). look m t) others ∙ imported_look s t ∙ e)) (λ e. inr e) (other_space s t);
    same = ap tops others ∙ tops_same v w s;
  }

  -- the chosen items of that space
  abbrev pub Of : (s : Space) → (ℕ → Type 0) → Item → Type 0
  Of s N x = (i : ℕ) × N i × (x ≡ (s, i))

  pub fate_in : (s : Space) (N : ℕ → Type 0) → InSpace s → ((i : ℕ) → Keeps s (look v s i) (look w s i) ⊎ N i) → (x : Item) → IsKept v w x ⊎ Of s N x
  fate_in s N one slots x = ⊎_elim
      (λ e. inl (keeps_same x.0 (look v x.0 x.1) (look w x.0 x.1) (ap (λ (f : ℕ → Option (Thing x.0)). f x.1) e)))
      (λ (e : x.0 ≡ s). ⊎_elim
      (λ k. inl (subst (λ (t : Space). Keeps t (look v t x.1) (look w t x.1)) (sym e) k))
      (λ n. inr (x.1, n, ap (λ (t : Space). (t, x.1)) e))
      (slots x.1))
      (one.items x.0)

-- ---- imports

-- nothing brings a segment
pub segment_own : (m : Abstract) (s : Space) (i : ℕ) → IsSegment s → import_of m (s, i) ≡ None
segment_own m s i is = ⊎_elim (λ e. ap (λ (t : Space). import_of m (t, i)) e) (λ e. ap (λ (t : Space). import_of m (t, i)) e) is

-- what brings an item that isn't there: nothing
pub import_none : (m : Abstract) (i : ℕ) (s : Space) → look m s i ≡ None → import_of m (s, i) ≡ None
import_none m i = by_space (λ s. look m s i ≡ None → import_of m (s, i) ≡ None)
    (λ e. refl) (λ e. ap (import_in _) e) (λ e. ap (import_in _) e) (λ e. ap (import_in _) e) (λ e. ap (import_in _) e) (λ e. ap (import_in _) e) (λ e. refl) (λ e. refl)

module _ (c : Config) (v w : Abstract) (made : IsWellMade c v) (New : Item → Type 0) (fate : (x : Item) → IsKept v w x ⊎ New x) where
  -- the imports are those of v, and what is new is brought as it was
  pub same_imports : w.imports ≡ v.imports → ((x : Item) → New x → import_of w x ≡ import_of v x) → Imports v w New
  same_imports same own = record {
    forth = λ i y at. inl (y, ap (λ (f : ℕ → Option Import). f i) same ∙ at, refl);
    back = λ i z at.
        let was : v.imports i ≡ Some z = ap (λ (f : ℕ → Option Import). f i) (sym same) ∙ at in
        ⊎_elim (λ kept. inl (z, was, refl, kept)) (λ new. inr (own z.item new ∙ made.imports.imports i z was)) (fate z.item);
    new = λ x i new e.
        let was = made.imports.items x i (sym (own x new) ∙ e) in
        (was.0, ap (λ (f : ℕ → Option Import). f i) same ∙ was.1, was.2);
  }

  module _ (x : Item) (one : (y : Item) → New y → y ≡ x) (i : ℕ) (others : (k : ℕ) → k ≢ i → w.imports k ≡ v.imports k) where
    -- import i comes, which brings x
    pub import_comes : (y : Import) → v.imports i ≡ None → w.imports i ≡ Some y → y.item ≡ x → import_of v x ≡ None → import_of w x ≡ Some i → Imports v w New
    import_comes y free comes brings none brought = record {
      forth = λ k z at. ⊎_elim
          (λ (e : k ≡ i). absurd (none_isnt (sym free ∙ ap v.imports (sym e) ∙ at)))
          (λ not. inl (z, others k not ∙ at, refl))
          (equal_or k i);
      back = λ k z at. ⊎_elim
          (λ (e : k ≡ i).
          let same : y ≡ z = some_inj _ _ (sym comes ∙ ap w.imports (sym e) ∙ at) in
          inr (ap (import_of w) (ap (λ (u : Import). u.item) (sym same) ∙ brings) ∙ brought ∙ ap Some (sym e)))
          (λ not.
          let was : v.imports k ≡ Some z = sym (others k not) ∙ at in
          ⊎_elim
          (λ kept. inl (z, was, refl, kept))
          (λ new. absurd (none_isnt (sym none ∙ ap (import_of v) (sym (one z.item new)) ∙ made.imports.imports k z was)))
          (fate z.item))
          (equal_or k i);
      new = λ z k new e.
          let same : i ≡ k = some_inj _ _ (sym brought ∙ ap (import_of w) (sym (one z new)) ∙ e) in
          (y, ap w.imports (sym same) ∙ comes, brings ∙ sym (one z new));
    }

    -- import i goes, which brought x
    pub import_goes : New x → w.imports i ≡ None → import_of v x ≡ Some i → import_of w x ≡ None → Imports v w New
    import_goes is_new gone brought none = record {
      forth = λ k z at. ⊎_elim
          (λ (e : k ≡ i).
          let was = made.imports.items x i brought in
          let same : was.0 ≡ z = some_inj _ _ (sym was.1 ∙ ap v.imports (sym e) ∙ at) in
          inr (subst New (sym was.2 ∙ ap (λ (u : Import). u.item) same) is_new))
          (λ not. inl (z, others k not ∙ at, refl))
          (equal_or k i);
      back = λ k z at.
          let not : k ≢ i = λ e. none_isnt (sym gone ∙ ap w.imports (sym e) ∙ at) in
          let was : v.imports k ≡ Some z = sym (others k not) ∙ at in
          ⊎_elim
          (λ kept. inl (z, was, refl, kept))
          (λ new. absurd (not (some_inj _ _ (sym (made.imports.imports k z was) ∙ ap (import_of v) (one z.item new) ∙ brought))))
          (fate z.item);
      new = λ z k new e. absurd (none_isnt (sym none ∙ ap (import_of w) (sym (one z new)) ∙ e));
    }

-- ---- items come, change or go

module _ (c : Config) (v w : Abstract) (made : IsWellMade c v) (s : Space) (N : ℕ → Type 0) (one : InSpace v w s) (slots : (i : ℕ) → Keeps s (look v s i) (look w s i) ⊎ N i) where
  abbrev pub New : Item → Type 0
  New = Of v w s N

  pub fate : (x : Item) → IsKept v w x ⊎ New x
  fate = fate_in v w s N one slots

  -- what is new keeps its outline, where it was; or it is gone, and nothing named it
  abbrev pub Stays : Item → Type 0
  Stays y = KeepsOutline v w y ⊎ (IsUnnamed v y × (IsLive w y → ⊥))

  module _ (stays : (y : Item) → New y → Stays y)
      (starts : (i : ℕ) (f : Function) → New (Functions, i) → v.start ≡ Some i → v.functions i ≡ Some f → (g : Function) × (w.functions i ≡ Some g) × (g.ty ≡ f.ty)) where
    named_stays : (x y : Item) → New y → IsLive w x → Contains (written_in v x) y → KeepsOutline v w y
    named_stays x y new here at = ⊎_elim
        (λ k. k)
        (λ gone. absurd (gone.0.written x (λ e. gone.1 (subst (IsLive w) e here)) at))
        (stays y new)

    pub items_in : Items v w New
    items_in = record { fate = fate; named = named_stays; starts = starts }

    -- what was there stays, unless nothing named it
    stays_live : (y : Item) → IsLive v y → (IsUnnamed v y → ⊥) → IsLive w y
    stays_live y was named = ⊎_elim
        (λ kept. live_on v w y (outline_kept v w y.0 y.1 kept) was)
        (λ new. ⊎_elim (λ k. live_on v w y k was) (λ gone. absurd (named gone.0)) (stays y new))
        (fate y)

    pub tops_in : Tops v w New
    tops_in =
        let exports : w.exports ≡ v.exports = ap (λ (p : TopParts). p.0) one.same in
        record {
          distinct = subst (λ (l : List Export). AllPairs (λ (d : Export) (e : Export). d.name ≢ e.name) l) (sym exports) made.rules.exports.distinct;
          exports = λ e at.
              let was : Contains v.exports e = subst (λ (l : List Export). Contains l e) exports at in
              stays_live e.item (made.rules.indices.exports e was) (λ un. un.exported e was refl);
          start = ap (λ (p : TopParts). p.1) one.same;
          customs = λ t at. made.customs t (subst (λ (l : List Custom). Contains l t) (ap (λ (p : TopParts). p.2) one.same) at);
        }

    module _ (live : ReachedIsLive v) (segments : (x : Item) → New x → IsRoot w x → IsLive w x → IsSegment x.0 → LeadsToLive w x) (keeps : (x y : Item) → KeepsToo w x y → KeepsToo v x y ⊎ New x) (adds : (x : Item) → New x → IsLive v x → IsLive w x → AddsLive v w x) where
      pub roots_in : Roots v w New
      roots_in = record {
        exports = λ e at. inl (exported e (subst (λ (l : List Export). Contains l e) (ap (λ (p : TopParts). p.0) one.same) at) refl);
        asked = λ x at.
            let was : Contains v.section_roots x = subst (λ (l : List Item). Contains l x) (ap (λ (p : TopParts). p.3) one.same) at in
            inl (asked_for was, stays_live x (live x (root x (asked_for was))) (λ un. un.asked_for was));
        segments = segments;
        keeps = keeps;
        adds = adds;
        stays = λ x y new here r was. ⊎_elim
            (λ k. live_on v w y k was)
            (λ gone.
            let not : x ≢ y = λ e. gone.1 (subst (IsLive w) e here) in
            absurd (⊎_elim (λ at. gone.0.written x not at) (λ q. gone.0.kept x not q) r))
            (stays y new);
      }
