-- Edits of exports, imports and custom sections, which leave all items as they are.
use Rattle.std.proofs.Common.{◌≡◌, ◌≢◌, ℕ, List, [], ◌∷◌, ◌++◌, refl, sym, ap, ◌∙◌, subst, get_or, inl, inr, ⊎_elim, arith}
use Rattle.std.proofs.lemmas.List.Elements.{All-contains, All-contains_itself, Contains-append_cases}
use Rattle.std.proofs.lemmas.List.Kept.{AllPairs-cons}
use Rattle.std.specs.Prelude.{Option, AllPairs, Contains, ◌⊎◌, ⊤}
use Rattle.walrus_base.specs.Operators.{Space, Item}
use Rattle.walrus_model.specs.Abstract.{Abstract, Name, Subject, Export, Import, Custom}
use Rattle.walrus_model.specs.Config.{Config}
use Rattle.walrus_model.specs.Live.{IsLive}
use Rattle.walrus_model.specs.Names.{body_of}
use Rattle.walrus_model.specs.Reached.{root}
use Rattle.walrus_model.specs.Refers.{KeepsToo}
use Rattle.walrus_model.specs.Roots.{IsRoot, asked_for, exported}
use Rattle.walrus_model.specs.Spaces.{Thing, look}
use Rattle.walrus_base.proofs.Lists.{Contains-append_1, Contains-append_2, Contains-head, Contains-none, Contains-tail, Contains-uncons}
use Rattle.walrus_model.proofs.OrderOfPlaces.{pairs_both, pairs_head, pairs_tail}
use Rattle.walrus_base.proofs.Standing.{some_inj}
use Rattle.walrus_theorem.specs.Edits.{GainsExport, Loses, Swaps, SwapsExport}
use Rattle.walrus_theorem.specs.EditLaws.{CustomGained, CustomLost, CustomSwapped, ExportGained, ExportLost, ExportRenamed, ExportTurned, ImportRenamed, IsFresh, LeadsToLive, StaysWhole}
use Rattle.walrus_theorem.specs.Sound.{IsFreeName}
use Rattle.walrus_theorem.specs.WellMade.{IsWellMade}
use Rattle.walrus_theorem.proofs.EditKept.{IsKept, by_space, keeps_same, live_on, outline_kept}
use Rattle.walrus_theorem.proofs.EditSpace.{equal_or, same_imports}
use Rattle.walrus_theorem.proofs.EditWhole.{Imports, Items, edit_stays}

-- ---- lists in which each two things are apart

module _ {X : Type 0} (R : X → X → Type 0) where
  apart_head : (y : X) (ys : List X) → AllPairs R (y ∷ ys) → (z : X) → Contains ys z → R y z
  apart_head y ys h z at = All-contains (R y) ys z (pairs_head R y ys h) at

  apart_cons : (y : X) (ys : List X) → ((z : X) → Contains ys z → R y z) → AllPairs R ys → AllPairs R (y ∷ ys)
  apart_cons y ys first rest = AllPairs-cons R y ys (λ i d lt. first (get_or ys i d) (All-contains_itself ys i d lt)) rest

  apart_front : (xs ys : List X) → AllPairs R (xs ++ ys) → AllPairs R xs
  apart_front [] ys h = λ i j d lt below. absurd (omega (arith, below))
  apart_front (x ∷ xs) ys h = apart_cons x xs (λ z at. apart_head x (xs ++ ys) h z (Contains-append_1 z xs ys at)) (apart_front xs ys (pairs_tail R x (xs ++ ys) h))

  apart_back : (xs ys : List X) → AllPairs R (xs ++ ys) → AllPairs R ys
  apart_back [] ys h = h
  apart_back (x ∷ xs) ys h = apart_back xs ys (pairs_tail R x (xs ++ ys) h)

  apart_across : (xs ys : List X) → AllPairs R (xs ++ ys) → (x y : X) → Contains xs x → Contains ys y → R x y
  apart_across [] ys h x y at has = absurd (Contains-none x at)
  apart_across (z ∷ xs) ys h x y at has = ⊎_elim
      (λ (e : z ≡ x). subst (λ (u : X). R u y) e (apart_head z (xs ++ ys) h y (Contains-append_2 y xs ys has)))
      (λ later. apart_across xs ys (pairs_tail R z (xs ++ ys) h) x y later has)
      (Contains-uncons z x xs at)

-- what is in a list of which one thing is gone, or another stands in its place
pub of_lost : {X : Type 0} (x : X) (before after : List X) → Loses x before after → (y : X) → Contains after y → Contains before y
of_lost x before after edit y at = subst (λ l. Contains l y) (sym edit.was) (⊎_elim
    (λ front. Contains-append_1 y edit.front (x ∷ edit.back) front)
    (λ back. Contains-append_2 y edit.front (x ∷ edit.back) (Contains-tail x y edit.back back))
    (Contains-append_cases edit.front edit.back y (subst (λ l. Contains l y) edit.is at)))

pub of_swapped : {X : Type 0} (x z : X) (before after : List X) → Swaps x z before after → (y : X) → Contains after y → Contains before y ⊎ (z ≡ y)
of_swapped x z before after edit y at = ⊎_elim
    (λ front. inl (subst (λ l. Contains l y) (sym edit.was) (Contains-append_1 y edit.front (x ∷ edit.back) front)))
    (λ rest. ⊎_elim (λ e. inr e)
    (λ back. inl (subst (λ l. Contains l y) (sym edit.was) (Contains-append_2 y edit.front (x ∷ edit.back) (Contains-tail x y edit.back back))))
    (Contains-uncons z y edit.back rest))
    (Contains-append_cases edit.front (z ∷ edit.back) y (subst (λ l. Contains l y) edit.is at))

pub was_in : {X : Type 0} (x z : X) (before after : List X) → Swaps x z before after → Contains before x
was_in x z before after edit = subst (λ l. Contains l x) (sym edit.was) (Contains-append_2 x edit.front (x ∷ edit.back) (Contains-head x edit.back))

-- ---- a module of the same items

abbrev pub with_tops : Abstract → List Export → (ℕ → Option Import) → List Custom → List Item → (Subject → List Name) → Abstract
with_tops v exports imports customs roots named = record v { exports = exports; imports = imports; customs = customs; section_roots = roots; named = named }

module _ (c : Config) (v w : Abstract) (made : IsWellMade c v) (E : List Export) (I : ℕ → Option Import) (C : List Custom) (R : List Item) (N : Subject → List Name) (is : w ≡ with_tops v E I C R N) where
  abbrev V : Abstract
  V = with_tops v E I C R N

  tops_look : (s : Space) → look V s ≡ look v s
  tops_look = by_space (λ s. look V s ≡ look v s) refl refl refl refl refl refl refl refl

  tops_keep : (s : Space) (i : ℕ) (y : Item) → KeepsToo V (s, i) y → KeepsToo v (s, i) y
  tops_keep = by_space (λ s. (i : ℕ) (y : Item) → KeepsToo V (s, i) y → KeepsToo v (s, i) y)
      (λ i y q. q) (λ i y q. q) (λ i y q. q) (λ i y q. q) (λ i y q. q) (λ i y q. q) (λ i y q. q) (λ i y q. q)

  abbrev None_new : Item → Type 0
  None_new x = ⊥

  kept : (x : Item) → IsKept v w x
  kept x = keeps_same x.0 (look v x.0 x.1) (look w x.0 x.1) (ap (λ (f : ℕ → Option (Thing x.0)). f x.1) (ap (λ (m : Abstract). look m x.0) is ∙ tops_look x.0))

  pub fate_tops : (x : Item) → IsKept v w x ⊎ None_new x
  fate_tops x = inl (kept x)

  live_still : (x : Item) → IsLive v x → IsLive w x
  live_still x h = live_on v w x (outline_kept v w x.0 x.1 (kept x)) h

  items_tops : Items v w None_new
  items_tops = record { fate = fate_tops; named = λ x y none here at. absurd none; starts = λ i f none at is. absurd none }

  pub tops_stay : {Asked : Type 0} → Imports v w None_new → AllPairs (λ (d : Export) (e : Export). d.name ≢ e.name) w.exports → ((e : Export) → Contains w.exports e → IsLive v e.item)
      → ((s : Custom) → Contains w.customs s → IsFreeName s.name) → ((e : Export) → Contains w.exports e → Asked → IsRoot v e.item ⊎ LeadsToLive w e.item)
      → ((x : Item) → Contains w.section_roots x → Asked → Contains v.section_roots x ⊎ LeadsToLive w x) → StaysWhole c v w Asked
  tops_stay imports distinct exports customs exported_so asked_so = edit_stays v w None_new c made items_tops (λ x none. absurd none) imports
      (record { distinct = distinct; exports = λ e at. live_still e.item (exports e at); start = ap (λ (m : Abstract). m.start) is; customs = customs })
      (λ typed f b at. made.counted f b (ap (λ (m : Abstract). body_of m f) (sym is) ∙ at))
      (λ asked live. record {
        exports = λ e at. exported_so e at asked;
        asked = λ x at. ⊎_elim (λ was. inl (asked_for was, live_still x (live x (root x (asked_for was))))) (λ leads. inr leads) (asked_so x at asked);
        segments = λ x none r here is. absurd none;
        keeps = λ x y q. inl (tops_keep x.0 x.1 y (subst (λ (m : Abstract). KeepsToo m x y) is q));
        adds = λ x none was here. absurd none;
        stays = λ x y none here r was. absurd none;
      })

  -- the imports are those that were
  pub imports_still : w.imports ≡ v.imports → Imports v w None_new
  imports_still same = same_imports c v w made None_new fate_tops same (λ x none. absurd none)

-- ---- exports

abbrev Apart : Export → Export → Type 0
Apart d e = d.name ≢ e.name

module _ (c : Config) (v w : Abstract) (made : IsWellMade c v) (others : w ≡ record v { exports = w.exports; named = w.named }) where
  exports_stay : {Asked : Type 0} → AllPairs Apart w.exports → ((e : Export) → Contains w.exports e → IsLive v e.item) → ((e : Export) → Contains w.exports e → Asked → IsRoot v e.item ⊎ LeadsToLive w e.item) → StaysWhole c v w Asked
  exports_stay distinct lives roots = tops_stay c v w made w.exports v.imports v.customs v.section_roots w.named others
      (imports_still c v w made w.exports v.imports v.customs v.section_roots w.named others (ap (λ (m : Abstract). m.imports) others))
      distinct lives
      (λ s at. made.customs s (subst (λ (l : List Custom). Contains l s) (ap (λ (m : Abstract). m.customs) others) at))
      roots
      (λ x at asked. inl (subst (λ (l : List Item). Contains l x) (ap (λ (m : Abstract). m.section_roots) others) at))

-- an export that was there
was_root : (v : Abstract) (e : Export) → Contains v.exports e → IsRoot v e.item
was_root v e at = exported e at refl

of_gained : (v w : Abstract) (e d : Export) → GainsExport e v w → Contains w.exports d → Contains v.exports d ⊎ (e ≡ d)
of_gained v w e d edit at = ⊎_elim
    (λ was. inl was)
    (λ new. ⊎_elim (λ is. inr is) (λ none. absurd (Contains-none d none)) (Contains-uncons e d [] new))
    (Contains-append_cases v.exports (e ∷ []) d (subst (λ (l : List Export). Contains l d) edit.exports at))

pub export_gained : ExportGained
export_gained c v w e edit made fresh live = exports_stay c v w made edit.others
    (subst (λ (l : List Export). AllPairs Apart l) (sym edit.exports)
    (pairs_both Apart v.exports (e ∷ []) made.rules.exports.distinct (apart_cons Apart e [] (λ z none. absurd (Contains-none z none)) (λ i j d lt below. absurd (omega (arith, below))))
    (λ d z at has. ⊎_elim (λ is. subst (λ (y : Export). d.name ≢ y.name) is (fresh d at)) (λ none. absurd (Contains-none z none)) (Contains-uncons e z [] has))))
    (λ d at. ⊎_elim (λ was. made.rules.indices.exports d was) (λ is. subst (λ (y : Export). IsLive v y.item) is live) (of_gained v w e d edit at))
    (λ d at leads. ⊎_elim (λ was. inl (was_root v d was)) (λ is. inr (subst (λ (y : Export). LeadsToLive w y.item) is leads)) (of_gained v w e d edit at))

pub export_lost : ExportLost
export_lost c v w e edit made =
    let l = edit.exports in
    let before : AllPairs Apart (l.front ++ e ∷ l.back) = subst (λ (xs : List Export). AllPairs Apart xs) l.was made.rules.exports.distinct in
    exports_stay c v w made edit.others
    (subst (λ (xs : List Export). AllPairs Apart xs) (sym l.is)
    (pairs_both Apart l.front l.back (apart_front Apart l.front (e ∷ l.back) before) (pairs_tail Apart e l.back (apart_back Apart l.front (e ∷ l.back) before))
    (λ x y at has. apart_across Apart l.front (e ∷ l.back) before x y at (Contains-tail e y l.back has))))
    (λ d at. made.rules.indices.exports d (of_lost e v.exports w.exports l d at))
    (λ d at asked. inl (was_root v d (of_lost e v.exports w.exports l d at)))

-- another export in the place of d, apart from all others
module _ (c : Config) (v w : Abstract) (d e : Export) (edit : SwapsExport d e v w) (made : IsWellMade c v) where
  abbrev before_d : List Export
  before_d = edit.exports.front

  abbrev behind_d : List Export
  behind_d = edit.exports.back

  apart_was : AllPairs Apart (before_d ++ d ∷ behind_d)
  apart_was = subst (λ (xs : List Export). AllPairs Apart xs) edit.exports.was made.rules.exports.distinct

  swapped_apart : ((x : Export) → Contains before_d x → Apart x e) → ((x : Export) → Contains behind_d x → Apart e x) → AllPairs Apart w.exports
  swapped_apart front back = subst (λ (xs : List Export). AllPairs Apart xs) (sym edit.exports.is)
      (pairs_both Apart before_d (e ∷ behind_d) (apart_front Apart before_d (d ∷ behind_d) apart_was)
      (apart_cons Apart e behind_d back (pairs_tail Apart d behind_d (apart_back Apart before_d (d ∷ behind_d) apart_was)))
      (λ x y at has. ⊎_elim
      (λ (is : e ≡ y). subst (λ (z : Export). Apart x z) is (front x at))
      (λ later. apart_across Apart before_d (d ∷ behind_d) apart_was x y at (Contains-tail d y behind_d later))
      (Contains-uncons e y behind_d has)))

  swapped_stay : {Asked : Type 0} → AllPairs Apart w.exports → IsLive v e.item → (Asked → IsRoot v e.item ⊎ LeadsToLive w e.item) → StaysWhole c v w Asked
  swapped_stay apart live roots = exports_stay c v w made edit.others apart
      (λ x at. ⊎_elim (λ was. made.rules.indices.exports x was) (λ is. subst (λ (y : Export). IsLive v y.item) is live) (of_swapped d e v.exports w.exports edit.exports x at))
      (λ x at asked. ⊎_elim (λ was. inl (was_root v x was)) (λ is. subst (λ (y : Export). IsRoot v y.item ⊎ LeadsToLive w y.item) is (roots asked)) (of_swapped d e v.exports w.exports edit.exports x at))

  d_was : Contains v.exports d
  d_was = was_in d e v.exports w.exports edit.exports

  in_front : (x : Export) → Contains before_d x → Contains v.exports x
  in_front x at = subst (λ (xs : List Export). Contains xs x) (sym edit.exports.was) (Contains-append_1 x before_d (d ∷ behind_d) at)

  behind : (x : Export) → Contains behind_d x → Contains v.exports x
  behind x at = subst (λ (xs : List Export). Contains xs x) (sym edit.exports.was) (Contains-append_2 x before_d (d ∷ behind_d) (Contains-tail d x behind_d at))

  pub renamed : e.item ≡ d.item → IsFresh v e → StaysWhole c v w ⊤
  renamed same fresh = swapped_stay
      (swapped_apart (λ x at. fresh x (in_front x at)) (λ x at e. fresh x (behind x at) (sym e)))
      (subst (IsLive v) (sym same) (made.rules.indices.exports d d_was))
      (λ asked. inl (subst (IsRoot v) (sym same) (was_root v d d_was)))

  pub turned : e.name ≡ d.name → IsLive v e.item → StaysWhole c v w (LeadsToLive w e.item)
  turned same live = swapped_stay
      (swapped_apart
      (λ x at. subst (λ (name : Name). x.name ≢ name) (sym same) (apart_across Apart before_d (d ∷ behind_d) apart_was x d at (Contains-head d behind_d)))
      (λ x at. subst (λ (name : Name). name ≢ x.name) (sym same) (apart_head Apart d behind_d (apart_back Apart before_d (d ∷ behind_d) apart_was) x at)))
      live
      (λ leads. inr leads)

pub export_renamed : ExportRenamed
export_renamed c v w d e edit same made fresh = renamed c v w d e edit made same fresh

pub export_turned : ExportTurned
export_turned c v w d e edit same made live = turned c v w d e edit made same live

-- ---- imports

pub import_renamed : ImportRenamed
import_renamed c v w i x y edit made =
    let set = edit.imports in
    tops_stay c v w made v.exports w.imports v.customs v.section_roots w.named edit.others
    (record {
      forth = λ k z at. ⊎_elim
          (λ (e : k ≡ i). inl (y, ap w.imports e ∙ set.is, edit.brings ∙ ap (λ (u : Import). u.item) (some_inj _ _ (sym set.was ∙ ap v.imports (sym e) ∙ at))))
          (λ not. inl (z, set.others k not ∙ at, refl))
          (equal_or k i);
      back = λ k z at. ⊎_elim
          (λ (e : k ≡ i).
          let is : y ≡ z = some_inj _ _ (sym set.is ∙ ap w.imports (sym e) ∙ at) in
          inl (x, ap v.imports e ∙ set.was, ap (λ (u : Import). u.item) (sym is) ∙ edit.brings, kept c v w made v.exports w.imports v.customs v.section_roots w.named edit.others z.item))
          (λ not. inl (z, sym (set.others k not) ∙ at, refl, kept c v w made v.exports w.imports v.customs v.section_roots w.named edit.others z.item))
          (equal_or k i);
      new = λ z k none e. absurd none;
    })
    (subst (λ (l : List Export). AllPairs Apart l) (sym (ap (λ (m : Abstract). m.exports) edit.others)) made.rules.exports.distinct)
    (λ e at. made.rules.indices.exports e (subst (λ (l : List Export). Contains l e) (ap (λ (m : Abstract). m.exports) edit.others) at))
    (λ s at. made.customs s (subst (λ (l : List Custom). Contains l s) (ap (λ (m : Abstract). m.customs) edit.others) at))
    (λ e at asked. inl (was_root v e (subst (λ (l : List Export). Contains l e) (ap (λ (m : Abstract). m.exports) edit.others) at)))
    (λ z at asked. inl (subst (λ (l : List Item). Contains l z) (ap (λ (m : Abstract). m.section_roots) edit.others) at))

-- ---- custom sections

module _ (c : Config) (v w : Abstract) (made : IsWellMade c v) (others : w ≡ record v { customs = w.customs; section_roots = w.section_roots }) where
  pub customs_stay : {Asked : Type 0} → ((s : Custom) → Contains w.customs s → IsFreeName s.name) → ((x : Item) → Contains w.section_roots x → Asked → Contains v.section_roots x ⊎ LeadsToLive w x) → StaysWhole c v w Asked
  customs_stay names roots =
      let same : w.exports ≡ v.exports = ap (λ (m : Abstract). m.exports) others in
      tops_stay c v w made v.exports v.imports w.customs w.section_roots v.named others
      (imports_still c v w made v.exports v.imports w.customs w.section_roots v.named others (ap (λ (m : Abstract). m.imports) others))
      (subst (λ (l : List Export). AllPairs Apart l) (sym same) made.rules.exports.distinct)
      (λ e at. made.rules.indices.exports e (subst (λ (l : List Export). Contains l e) same at))
      names
      (λ e at asked. inl (was_root v e (subst (λ (l : List Export). Contains l e) same at)))
      roots

pub custom_gained : CustomGained
custom_gained c v w s roots edit made free = customs_stay c v w made edit.others
    (λ t at. ⊎_elim (λ was. made.customs t was) (λ new. ⊎_elim (λ is. subst (λ (u : Custom). IsFreeName u.name) is free) (λ none. absurd (Contains-none t none)) (Contains-uncons s t [] new))
    (Contains-append_cases v.customs (s ∷ []) t (subst (λ (l : List Custom). Contains l t) edit.customs at)))
    (λ x at leads. ⊎_elim (λ was. inl was) (λ new. inr (leads x new)) (Contains-append_cases v.section_roots roots x (subst (λ (l : List Item). Contains l x) edit.roots_left at)))

pub custom_lost : CustomLost
custom_lost c v w s edit made = customs_stay c v w made edit.others (λ t at. made.customs t (of_lost s v.customs w.customs edit.customs t at)) (λ x at asked. inl (edit.roots_left x at))

pub custom_swapped : CustomSwapped
custom_swapped c v w s t roots edit made free = customs_stay c v w made edit.others
    (λ u at. ⊎_elim (λ was. made.customs u was) (λ is. subst (λ (z : Custom). IsFreeName z.name) is free) (of_swapped s t v.customs w.customs edit.customs u at))
    (λ x at leads. ⊎_elim (λ was. inl was) (λ new. inr (leads x new)) (edit.roots_left x at))
