-- An item that comes or goes, alone or with the import that brings it.
use Rattle.std.proofs.Common.{◌≡◌, ◌≢◌, ℕ, refl, sym, ap, ◌∙◌, subst, inl, inr, ⊎_elim}
use Rattle.std.specs.Prelude.{Option, Some, None, ◌⊎◌, ⊤}
use Rattle.walrus_base.specs.Operators.{Space, Functions, Item}
use Rattle.walrus_model.specs.Abstract.{Abstract, Body, Function}
use Rattle.walrus_model.specs.Config.{Config}
use Rattle.walrus_model.specs.Live.{IsLive}
use Rattle.walrus_model.specs.Names.{body_of, body_of_function}
use Rattle.walrus_model.specs.Refers.{KeepsToo}
use Rattle.walrus_model.specs.Roots.{IsRoot}
use Rattle.walrus_model.specs.Spaces.{Thing, look}
use Rattle.walrus_model.specs.WellMade.{import_of}
use Rattle.walrus_model.proofs.Spaces.{live_to}
use Rattle.walrus_base.proofs.Standing.{some_of}
use Rattle.walrus_theorem.specs.Edits.{KeepsNoMore}
use Rattle.walrus_theorem.specs.EditLaws.{CountsLocals, ImportedGained, ImportedLost, IsUnnamed, ItemGained, ItemLost, LeadsToLive, StaysWhole}
use Rattle.walrus_theorem.specs.Sound.{IsSound}
use Rattle.walrus_theorem.specs.WellMade.{IsWellMade}
use Rattle.walrus_theorem.proofs.EditKept.{IsKept, Keeps, KeepsOutline, keeps_same, kept_none, none_isnt, outline_kept, some_there}
use Rattle.walrus_theorem.proofs.EditSpace.{InSpace, equal_or, fate, import_comes, import_goes, import_none, imports_same, in_imported, in_space, items_in, roots_in, same_imports, segment_own, tops_in}
use Rattle.walrus_theorem.proofs.EditStays.{absent_sound}
use Rattle.walrus_theorem.proofs.EditWhole.{Imports, IsSegment, edit_stays}
use Rattle.walrus_theorem.proofs.Things.{body_at}

no_item : (m : Abstract) (s : Space) (n : ℕ) → look m s n ≡ None → IsLive m (s, n) → ⊥
no_item m s n none here = let t = some_of (look m s n) (live_to m s n here) in none_isnt (sym none ∙ t.1)

module _ (c : Config) (v w : Abstract) (made : IsWellMade c v) (s : Space) (n : ℕ) (one : InSpace v w s) (others : (i : ℕ) → i ≢ n → look w s i ≡ look v s i) (keeps : KeepsNoMore (s, n) v w) where
  abbrev x : Item
  x = (s, n)

  abbrev N : ℕ → Type 0
  N i = i ≡ n

  slots : (i : ℕ) → Keeps s (look v s i) (look w s i) ⊎ N i
  slots i = ⊎_elim (λ e. inr e) (λ not. inl (keeps_same s (look v s i) (look w s i) (others i not))) (equal_or i n)

  abbrev New : Item → Type 0
  New y = (i : ℕ) × N i × (y ≡ (s, i))

  is_x : (y : Item) → New y → y ≡ x
  is_x y new = new.2 ∙ ap (λ (i : ℕ). (s, i)) new.1

  is_new : New x
  is_new = (n, refl, refl)

  fates : (y : Item) → IsKept v w y ⊎ New y
  fates = fate c v w made s N one slots

  keeps_but : (IsKept v w x → ⊥) → (y z : Item) → KeepsToo w y z → KeepsToo v y z ⊎ New y
  keeps_but differ y z q = ⊎_elim (λ kept. inl (keeps y z (λ e. differ (subst (IsKept v w) e kept)) q)) (λ new. inr new) (fates y)

  -- ---- it comes

  module _ (t : Thing s) (free : look v s n ≡ None) (comes : look w s n ≡ Some t) (sound : IsSound c w x) (counts : CountsLocals w) where
    -- nothing stood there
    absent : (y : Item) → New y → (u : Thing y.0) → look v y.0 y.1 ≡ Some u → ⊥
    absent y new = subst (λ (z : Item). (u : Thing z.0) → look v z.0 z.1 ≡ Some u → ⊥) (sym (is_x y new)) (λ u at. none_isnt (sym free ∙ at))

    pub not_live : (y : Item) → New y → IsLive v y → ⊥
    not_live y new here = let u = some_of (look v y.0 y.1) (live_to v y.0 y.1 here) in absent y new u.0 u.1

    pub gains : {Asked : Type 0} → Imports v w New → (Asked → IsRoot w x → IsSegment s → LeadsToLive w x) → StaysWhole c v w Asked
    gains imports segments =
        let stays : (y : Item) → New y → KeepsOutline v w y ⊎ (IsUnnamed v y × (IsLive w y → ⊥)) = λ y new. inl (λ u at. absurd (absent y new u at)) in
        let starts : (i : ℕ) (f : Function) → New (Functions, i) → v.start ≡ Some i → v.functions i ≡ Some f → (g : Function) × (w.functions i ≡ Some g) × (g.ty ≡ f.ty) = λ i f new at is. absurd (absent (Functions, i) new f is) in
        edit_stays v w New c made (items_in c v w made s N one slots stays starts) (λ y new. subst (IsSound c w) (sym (is_x y new)) sound) imports
        (tops_in c v w made s N one slots stays starts) counts
        (λ asked live. roots_in c v w made s N one slots stays starts live
        (λ y new r here is. subst (LeadsToLive w) (sym (is_x y new)) (segments asked (subst (IsRoot w) (is_x y new) r) (subst (λ (z : Item). IsSegment z.0) (is_x y new) is)))
        (keeps_but (λ kept. none_isnt (sym (kept_none s (look v s n) (look w s n) kept free) ∙ comes)))
        (λ y new was here. absurd (not_live y new was)))

  -- ---- it goes

  module _ (t : Thing s) (was : look v s n ≡ Some t) (gone : look w s n ≡ None) (unnamed : IsUnnamed v x) where
    left : (y : Item) → New y → IsLive w y → ⊥
    left y new here = no_item w s n gone (subst (IsLive w) (is_x y new) here)

    -- each function that is there is as it was
    body_was : (f : ℕ) (b : Body) → body_of w f ≡ Some b → body_of v f ≡ Some b
    body_was f b at = ⊎_elim
        (λ (e : w.functions ≡ v.functions). ap (λ (fs : ℕ → Option Function). body_of_function (fs f)) (sym e) ∙ at)
        (λ (e : Functions ≡ s). ⊎_elim
        (λ (here : f ≡ n). let g = body_at (w.functions f) b at in absurd (left (Functions, f) (f, here, ap (λ (z : Space). (z, f)) e) (some_there (w.functions f) g.1)))
        (λ not. ap body_of_function (sym (subst (λ (z : Space). look w z f ≡ look v z f) (sym e) (others f not))) ∙ at)
        (equal_or f n))
        (one.items Functions)

    pub loses : Imports v w New → StaysWhole c v w ⊤
    loses imports =
        let stays : (y : Item) → New y → KeepsOutline v w y ⊎ (IsUnnamed v y × (IsLive w y → ⊥)) = λ y new. inr (subst (IsUnnamed v) (sym (is_x y new)) unnamed, left y new) in
        let starts : (i : ℕ) (f : Function) → New (Functions, i) → v.start ≡ Some i → v.functions i ≡ Some f → (g : Function) × (w.functions i ≡ Some g) × (g.ty ≡ f.ty) = λ i f new at is. absurd (unnamed.started i at (is_x (Functions, i) new)) in
        edit_stays v w New c made (items_in c v w made s N one slots stays starts) (λ y new. subst (IsSound c w) (sym (is_x y new)) (absent_sound c w s n gone)) imports
        (tops_in c v w made s N one slots stays starts) (λ typed f b at. made.counted f b (body_was f b at))
        (λ asked live. roots_in c v w made s N one slots stays starts live
        (λ y new r here is. absurd (left y new here))
        (keeps_but (λ kept. none_isnt (sym gone ∙ (outline_kept v w s n kept t was).1)))
        (λ y new before here. absurd (left y new here)))

-- ---- the laws

pub item_gained : ItemGained
item_gained c v w s n t edit made sound counts =
    let one : InSpace v w s = in_space v w s edit.others in
    let same : w.imports ≡ v.imports = ap (λ (m : Abstract). m.imports) edit.others ∙ imports_same v w s in
    gains c v w made s n one edit.item.others edit.keeps t edit.item.was edit.item.is sound counts
    (same_imports c v w made (New c v w made s n one edit.item.others edit.keeps) (fates c v w made s n one edit.item.others edit.keeps) same
    (λ y new. let e = is_x c v w made s n one edit.item.others edit.keeps y new in ap (import_of w) e ∙ edit.own ∙ sym (import_none v n s edit.item.was) ∙ ap (import_of v) (sym e)))
    (λ asked r is. asked r)

pub imported_gained : ImportedGained
imported_gained c v w s n i t y edit made sound counts =
    let one : InSpace v w s = in_imported v w s edit.others in
    gains c v w made s n one edit.item.others edit.keeps t edit.item.was edit.item.is sound counts
    (import_comes c v w made (New c v w made s n one edit.item.others edit.keeps) (fates c v w made s n one edit.item.others edit.keeps) (s, n)
    (is_x c v w made s n one edit.item.others edit.keeps) i edit.imports.others y edit.imports.was edit.imports.is edit.brings (import_none v n s edit.item.was) edit.brought)
    (λ asked r is. absurd (none_isnt (sym (segment_own w s n is) ∙ edit.brought)))

pub item_lost : ItemLost
item_lost c v w s n t edit made unnamed =
    let one : InSpace v w s = in_space v w s edit.others in
    let same : w.imports ≡ v.imports = ap (λ (m : Abstract). m.imports) edit.others ∙ imports_same v w s in
    loses c v w made s n one edit.item.others edit.keeps t edit.item.was edit.item.is unnamed
    (same_imports c v w made (New c v w made s n one edit.item.others edit.keeps) (fates c v w made s n one edit.item.others edit.keeps) same
    (λ y new. let e = is_x c v w made s n one edit.item.others edit.keeps y new in ap (import_of w) e ∙ import_none w n s edit.item.is ∙ sym edit.own ∙ ap (import_of v) (sym e)))

pub imported_lost : ImportedLost
imported_lost c v w s n i t y edit made unnamed =
    let one : InSpace v w s = in_imported v w s edit.others in
    loses c v w made s n one edit.item.others edit.keeps t edit.item.was edit.item.is unnamed
    (import_goes c v w made (New c v w made s n one edit.item.others edit.keeps) (fates c v w made s n one edit.item.others edit.keeps) (s, n)
    (is_x c v w made s n one edit.item.others edit.keeps) i edit.imports.others (is_new c v w made s n one edit.item.others edit.keeps) edit.imports.is edit.brought (import_none w n s edit.item.is))
