-- Functions that become local or imported, or have other bodies.
use Rattle.std.proofs.Common.{◌≡◌, ◌≢◌, ℕ, Bool, true, [], refl, sym, ap, ◌∙◌, subst, inl, inr, ⊎_elim}
use Rattle.std.specs.Prelude.{Option, Some, IsSome, Contains, ◌⊎◌}
use Rattle.walrus_base.specs.Operators.{Functions, Item, function_item, type_item}
use Rattle.walrus_model.specs.Abstract.{Abstract, TypeDef, Body, Function, FunctionKind, ImportedFunction, LocalFunction}
use Rattle.walrus_model.specs.Config.{Config}
use Rattle.walrus_model.specs.Live.{IsLive}
use Rattle.walrus_model.specs.Refers.{KeepsToo, function_names, kind_names, named_by}
use Rattle.walrus_model.specs.Rules.{IsFunctionType}
use Rattle.walrus_model.specs.WellMade.{heaps_by, import_in, import_of, kind_heaps, kind_import}
use Rattle.walrus_base.proofs.Lists.{Contains-head, Contains-none, Contains-uncons}
use Rattle.walrus_base.proofs.Standing.{some_inj}
use Rattle.walrus_theorem.specs.Edits.{KeepsFunction, KeepsNoMore, SetsFunction, SwapsBodies}
use Rattle.walrus_theorem.specs.EditLaws.{AddsLive, BodiesSwapped, CountsLocals, IsUnnamed, MadeImported, MadeLocal, StaysWhole}
use Rattle.walrus_theorem.specs.Sound.{FunctionHolds, IsSound}
use Rattle.walrus_theorem.specs.WellMade.{IsWellMade}
use Rattle.walrus_theorem.proofs.EditKept.{IsKept, KeepsOutline, import_kept, none_isnt, written_there}
use Rattle.walrus_theorem.proofs.EditSpace.{InSpace, equal_or, fate, import_comes, import_goes, in_imported, in_space, items_in, roots_in, same_imports, tops_in}
use Rattle.walrus_theorem.proofs.EditWhole.{Imports, IsSegment, edit_stays}

no_segment : IsSegment Functions → ⊥
no_segment (inl e) = cc
no_segment (inr e) = cc

-- functions that are there before and behind, each of its type
module _ (c : Config) (v w : Abstract) (made : IsWellMade c v) (one : InSpace v w Functions) (N : ℕ → Type 0) (slots : (i : ℕ) → KeepsFunction (v.functions i) (w.functions i) ⊎ N i)
    (typed : (i : ℕ) (f : Function) → N i → v.functions i ≡ Some f → (g : Function) × (w.functions i ≡ Some g) × (g.ty ≡ f.ty)) where
  abbrev New : Item → Type 0
  New y = (i : ℕ) × N i × (y ≡ (Functions, i))

  fates : (y : Item) → IsKept v w y ⊎ New y
  fates = fate c v w made Functions N one slots

  outlines : (y : Item) → New y → KeepsOutline v w y
  outlines y new = subst (KeepsOutline v w) (sym new.2) (λ f at. let g = typed new.0 f new.1 at in (g.0, g.1, tt))

  number_of : (i k : ℕ) → ◌≡◌ {A = Item} (Functions, i) (Functions, k) → i ≡ k
  number_of i k e = ap (λ (z : Item). z.1) e

  module _ (sound : (i : ℕ) → N i → IsSound c w (function_item i)) (counts : CountsLocals w) (keeps : (x y : Item) → KeepsToo w x y → KeepsToo v x y ⊎ New x) where
    pub functions_stay : Imports v w New → StaysWhole c v w ((i : ℕ) → N i → AddsLive v w (function_item i))
    functions_stay imports =
        let stays : (y : Item) → New y → KeepsOutline v w y ⊎ (IsUnnamed v y × (IsLive w y → ⊥)) = λ y new. inl (outlines y new) in
        let starts : (i : ℕ) (f : Function) → New (Functions, i) → v.start ≡ Some i → v.functions i ≡ Some f → (g : Function) × (w.functions i ≡ Some g) × (g.ty ≡ f.ty) =
        λ i f new at is. typed i f (subst N (sym (number_of i new.0 new.2)) new.1) is in
        edit_stays v w New c made (items_in c v w made Functions N one slots stays starts) (λ y new. subst (IsSound c w) (sym new.2) (sound new.0 new.1)) imports
        (tops_in c v w made Functions N one slots stays starts) counts
        (λ asked live. roots_in c v w made Functions N one slots stays starts live
        (λ y new r here is. absurd (no_segment (subst (λ (z : Item). IsSegment z.0) new.2 is)))
        keeps
        (λ y new was here. subst (AddsLive v w) (sym new.2) (asked new.0 new.1)))

-- ---- one function, and an import that goes or comes

import_at : (m : Abstract) (i : ℕ) {f : Function} → m.functions i ≡ Some f → import_of m (function_item i) ≡ kind_import f.kind
import_at m i at = ap (import_in (λ (f : Function). kind_import f.kind)) at

module _ (c : Config) (v w : Abstract) (made : IsWellMade c v) (one : InSpace v w Functions) (j ty : ℕ) (k l : FunctionKind) (sets : SetsFunction j (Some (record { ty = ty; kind = k })) (Some (record { ty = ty; kind = l })) v.functions w.functions)
    (keeps : KeepsNoMore (function_item j) v w) (differ : kind_import l ≢ kind_import k) where
  abbrev At : ℕ → Type 0
  At i = i ≡ j

  slots_at : (i : ℕ) → KeepsFunction (v.functions i) (w.functions i) ⊎ At i
  slots_at i = ⊎_elim (λ e. inr e) (λ not. inl (sets.others i not)) (equal_or i j)

  typed_at : (i : ℕ) (f : Function) → At i → v.functions i ≡ Some f → (g : Function) × (w.functions i ≡ Some g) × (g.ty ≡ f.ty)
  typed_at i f e at = (record { ty = ty; kind = l }, ap w.functions e ∙ sets.is, ap (λ (g : Function). g.ty) (some_inj _ _ (sym sets.was ∙ ap v.functions (sym e) ∙ at)))

  abbrev pub NewAt : Item → Type 0
  NewAt y = (i : ℕ) × At i × (y ≡ (Functions, i))

  pub is_j : (y : Item) → NewAt y → y ≡ function_item j
  is_j y new = new.2 ∙ ap function_item new.1

  pub fates_j : (y : Item) → IsKept v w y ⊎ NewAt y
  fates_j = fates c v w made one At slots_at typed_at

  -- it is brought otherwise than it was
  not_kept : IsKept v w (function_item j) → ⊥
  not_kept kept = differ (sym (import_at w j sets.is) ∙ import_kept v w Functions j kept ∙ import_at v j sets.was)

  keeps_but : (y z : Item) → KeepsToo w y z → KeepsToo v y z ⊎ NewAt y
  keeps_but y z q = ⊎_elim (λ kept. inl (keeps y z (λ e. not_kept (subst (IsKept v w) e kept)) q)) (λ new. inr new) (fates_j y)

  pub function_stays : IsSound c w (function_item j) → CountsLocals w → Imports v w NewAt → StaysWhole c v w (AddsLive v w (function_item j))
  function_stays sound counts imports =
      let all = functions_stay c v w made one At slots_at typed_at (λ i e. subst (λ (k : ℕ). IsSound c w (function_item k)) (sym e) sound) counts keeps_but imports in
      record { made = all.made; reached = λ asked live. all.reached (λ i e. subst (λ (k : ℕ). AddsLive v w (function_item k)) (sym e) asked) live }

pub made_local : MadeLocal
made_local c v w j i b edit made sound counts =
    let one : InSpace v w Functions = in_imported v w Functions edit.others in
    let differ : kind_import (LocalFunction b) ≢ kind_import (ImportedFunction i) = λ e. none_isnt e in
    let fates : (y : Item) → IsKept v w y ⊎ NewAt c v w made one j edit.ty (ImportedFunction i) (LocalFunction b) edit.functions edit.keeps differ y = fates_j c v w made one j edit.ty (ImportedFunction i) (LocalFunction b) edit.functions edit.keeps differ in
    function_stays c v w made one j edit.ty (ImportedFunction i) (LocalFunction b) edit.functions edit.keeps differ sound counts
    (import_goes c v w made _ fates (function_item j) (is_j c v w made one j edit.ty (ImportedFunction i) (LocalFunction b) edit.functions edit.keeps differ) i edit.imports (j, refl, refl) edit.gone (import_at v j edit.functions.was) (import_at w j edit.functions.is))

-- a function that came from an import names its type alone
module _ (c : Config) (v w : Abstract) (j i ty : ℕ) (b : Body) (made : IsWellMade c v) (was : v.functions j ≡ Some (record { ty = ty; kind = LocalFunction b })) (is : w.functions j ≡ Some (record { ty = ty; kind = ImportedFunction i }))
    (same : w.types ≡ v.types) where
  type_live : IsLive v (type_item ty)
  type_live = made.rules.indices.written (function_item j) (type_item ty) (written_there v Functions j (record { ty = ty; kind = LocalFunction b }) (type_item ty) was (Contains-head (type_item ty) (kind_names (LocalFunction b))))

  brought_sound : IsSound c w (function_item j)
  brought_sound = record {
    names = λ y at. ⊎_elim
        (λ (e : type_item ty ≡ y). subst (IsLive w) e (subst (λ (types : ℕ → Option TypeDef). IsSome (types ty)) (sym same) type_live))
        (λ none. absurd (Contains-none y none))
        (Contains-uncons (type_item ty) y [] (subst (λ (o : Option Function). Contains (named_by function_names o) y) is at));
    heaps = λ h at. absurd (Contains-none h (subst (λ (o : Option Function). Contains (heaps_by (λ (f : Function). kind_heaps f.kind) o) h) is at));
    consts = λ ops at. absurd (Contains-none ops at);
    const_heaps = λ ops h at has. absurd (Contains-none ops at);
    holds = λ f at. subst (λ (g : Function). FunctionHolds c w g) (some_inj _ _ (sym is ∙ at))
        (let typed : IsFunctionType v ty = made.rules.function_types.functions j (record { ty = ty; kind = LocalFunction b }) was in
        record { typed = (typed.0, ap (λ (types : ℕ → Option TypeDef). types ty) same ∙ typed.1, typed.2); kind = tt });
  }

pub made_imported : MadeImported
made_imported c v w j i b y edit made counts =
    let one : InSpace v w Functions = in_imported v w Functions edit.others in
    let differ : kind_import (ImportedFunction i) ≢ kind_import (LocalFunction b) = λ e. none_isnt (sym e) in
    let fates : (x : Item) → IsKept v w x ⊎ NewAt c v w made one j edit.ty (LocalFunction b) (ImportedFunction i) edit.functions edit.keeps differ x = fates_j c v w made one j edit.ty (LocalFunction b) (ImportedFunction i) edit.functions edit.keeps differ in
    function_stays c v w made one j edit.ty (LocalFunction b) (ImportedFunction i) edit.functions edit.keeps differ
    (brought_sound c v w j i edit.ty b made edit.functions.was edit.functions.is (ap (λ (m : Abstract). m.types) edit.others)) counts
    (import_comes c v w made _ fates (function_item j) (is_j c v w made one j edit.ty (LocalFunction b) (ImportedFunction i) edit.functions edit.keeps differ) i edit.imports.others y edit.imports.was edit.imports.is edit.brings (import_at v j edit.functions.was) (import_at w j edit.functions.is))

-- ---- other bodies

module _ (c : Config) (v w : Abstract) (chosen : ℕ → Bool) (edit : SwapsBodies chosen v w) (made : IsWellMade c v) where
  abbrev Chosen : ℕ → Type 0
  Chosen i = chosen i ≡ true

  one : InSpace v w Functions
  one = in_space v w Functions edit.others

  slots_c : (i : ℕ) → KeepsFunction (v.functions i) (w.functions i) ⊎ Chosen i
  slots_c i = ⊎_elim (λ kept. inl kept) (λ swapped. inr swapped.0) (edit.functions i)

  typed_c : (i : ℕ) (f : Function) → Chosen i → v.functions i ≡ Some f → (g : Function) × (w.functions i ≡ Some g) × (g.ty ≡ f.ty)
  typed_c i f is at = ⊎_elim
      (λ kept. let k : KeepsFunction (Some f) (w.functions i) = subst (λ (o : Option Function). KeepsFunction o (w.functions i)) at kept in (_, k.1, refl))
      (λ swapped. (_, swapped.1.is, ap (λ (g : Function). g.ty) (some_inj _ _ (sym swapped.1.was ∙ at))))
      (edit.functions i)

  brought_so : (i : ℕ) → import_of w (Functions, i) ≡ import_of v (Functions, i)
  brought_so i = ⊎_elim
      (λ kept. import_kept v w Functions i kept)
      (λ swapped. import_at w i swapped.1.is ∙ sym (import_at v i swapped.1.was))
      (edit.functions i)

  swapped_stay : ((i : ℕ) → Chosen i → IsSound c w (function_item i)) → CountsLocals w → StaysWhole c v w ((i : ℕ) → Chosen i → AddsLive v w (function_item i))
  swapped_stay sound counts = functions_stay c v w made one Chosen slots_c typed_c sound counts edit.keeps
      (same_imports c v w made _ (fates c v w made one Chosen slots_c typed_c) (ap (λ (m : Abstract). m.imports) edit.others)
      (λ y new. ap (import_of w) new.2 ∙ brought_so new.0 ∙ ap (import_of v) (sym new.2)))

pub bodies_swapped : BodiesSwapped
bodies_swapped c v w chosen edit made = swapped_stay c v w chosen edit made
