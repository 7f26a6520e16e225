-- One function more that traps.
use Rattle.std.proofs.Common.{◌≡◌, ◌≢◌, ℕ, Bool, true, false, List, [], Option, Some, None, IsSome, slice_set, refl, sym, ap, ◌∙◌, subst, ⊎_elim}
use Rattle.std.specs.Prelude.{if◌then◌else◌}
use Rattle.walrus.specs.Base.Arena.{item_at}
use Rattle.walrus.specs.Base.Id.{place}
use Rattle.walrus.specs.Base.Operators.{Item, function_item}
use Rattle.walrus.specs.Items.Function.{body_of, function_type, handlers_in}
use Rattle.walrus.specs.Items.LocalFunction.{LocalFunction}
use Rattle.walrus.specs.Items.Kinds.{imported}
use Rattle.walrus.specs.Items.FunctionKind.TheVariants.{Import}
use Rattle.walrus.specs.Items.ImportedFunction.{ImportedFunction}
use Rattle.walrus.specs.Items.Functions.{FunctionValue}
use Rattle.walrus.specs.Items.Imports.{ImportValue}
use Rattle.walrus.specs.Modules.Replaced.{with_body}
use Rattle.walrus.proofs.Modules.EditedSlots.{set_elsewhere, set_here}
use Rattle.walrus.proofs.Theorem.EditKept.{none_isnt, some_is, some_there}
use Rattle.walrus.proofs.Theorem.EditSpace.{equal_or}
use Rattle.walrus_tools.specs.Stub.{StubsWhere, Traps, import_place}
use Rattle.walrus_tools.specs.Trap.{trap_ops}

-- an imported function and its import name each other
abbrev pub Theirs : List (Option FunctionValue) → List (Option ImportValue) → Type 0
Theirs fs is = (j p : ℕ) (f : FunctionValue) → item_at fs j ≡ Some f → import_place f.kind ≡ Some p → (x : ImportValue) × (item_at is p ≡ Some x) × (imported x.kind ≡ function_item j)

-- where nothing was done, all is as it was
pub stubs_none : (fs : List (Option FunctionValue)) (is : List (Option ImportValue)) → StubsWhere (λ p. false) fs fs is is
stubs_none fs is = record { traps = λ j p f at by hit. absurd (let no_such : false ≡ true = hit in cc); others = λ j h. refl; gone = λ i. refl }

module _ (hits more : ℕ → Bool) (fs gs hs : List (Option FunctionValue)) (is js ks : List (Option ImportValue)) (n j : ℕ) (g : FunctionValue) (brought : ImportedFunction) (local : LocalFunction)
    (state : StubsWhere hits fs gs is js) (theirs : Theirs fs is) (not_yet : hits n ≡ false) (hit : more n ≡ true) (same_hits : (p : ℕ) → p ≢ n → more p ≡ hits p)
    (there : item_at gs j ≡ Some g) (kind : g.kind ≡ Import brought) (at_place : place brought.«import» ≡ n) (typed : function_type local ≡ brought.ty) (traps : body_of local ≡ trap_ops) (no_handlers : handlers_in local ≡ [])
    (set : hs ≡ slice_set gs j (Some (with_body local g))) (live : IsSome (item_at js n)) (gone : ks ≡ slice_set js n None) where
  by_import : import_place g.kind ≡ Some n
  by_import = ap import_place kind ∙ ap Some at_place

  here : (f : FunctionValue) → item_at fs j ≡ Some f → (o : Option ℕ) → import_place f.kind ≡ o → item_at fs j ≡ Some g
  here f at None by = at ∙ sym at ∙ sym (state.others j (λ p e is_e from. absurd (none_isnt (sym by ∙ ap (λ (x : FunctionValue). import_place x.kind) (some_is (sym at ∙ is_e)) ∙ from)))) ∙ there
  here f at (Some p) by = which (hits p) refl where
    not_local : Traps f (item_at gs j) → ⊥
    not_local t = none_isnt (ap (λ (x : FunctionValue). import_place x.kind) (some_is (sym t.is ∙ there)) ∙ by_import)

    which : (b : Bool) → hits p ≡ b → item_at fs j ≡ Some g
    which true h = absurd (not_local (state.traps j p f at by h))
    which false h = sym (state.others j (λ q e is_e from. ap hits (some_is (sym from ∙ ap (λ (x : FunctionValue). import_place x.kind) (some_is (sym is_e ∙ at)) ∙ by)) ∙ h)) ∙ there

  -- the function was there as it is
  was_there : item_at fs j ≡ Some g
  was_there = by (item_at fs j) refl where
    by : (o : Option FunctionValue) → item_at fs j ≡ o → item_at fs j ≡ Some g
    by None at = absurd (none_isnt (sym at ∙ sym (state.others j (λ p e is_e from. absurd (none_isnt (sym at ∙ is_e)))) ∙ there))
    by (Some f) at = here f at (import_place f.kind) refl

  stays_at : (k : ℕ) → k ≢ j → item_at hs k ≡ item_at gs k
  stays_at k not = ap (λ xs. item_at xs k) set ∙ set_elsewhere gs j k (Some (with_body local g)) not

  -- import n brings this function alone
  only : (k : ℕ) (f : FunctionValue) → item_at fs k ≡ Some f → import_place f.kind ≡ Some n → k ≡ j
  only k f at by =
      let one = theirs k n f at by in
      let two = theirs j n g was_there by_import in
      let same : one.0 ≡ two.0 = some_is (sym one.1 ∙ two.1) in
      ap (λ (x : Item). x.1) (sym one.2 ∙ ap (λ (x : ImportValue). imported x.kind) same ∙ two.2)

  trap_here : Traps g (item_at hs j)
  trap_here = record { imported = brought; was = kind; function = local; is = ap (λ xs. item_at xs j) set ∙ set_here gs j (Some (with_body local g)) (some_there (item_at gs j) there); typed = typed; body = traps; no_handlers = no_handlers }

  pub stubs_more : StubsWhere more fs hs is ks
  stubs_more = record {
    traps = λ k p f at by h. ⊎_elim
        (λ (e : k ≡ j).
        let same : g ≡ f = some_is (sym was_there ∙ ap (λ i. item_at fs i) (sym e) ∙ at) in
        subst (λ (x : FunctionValue). Traps x (item_at hs k)) same (subst (λ i. Traps g (item_at hs i)) (sym e) trap_here))
        (λ (e : k ≢ j). ⊎_elim
        (λ (q : p ≡ n). absurd (e (only k f at (by ∙ ap Some q))))
        (λ (q : p ≢ n). subst (λ (o : Option FunctionValue). Traps f o) (sym (stays_at k e)) (state.traps k p f at by (sym (same_hits p q) ∙ h)))
        (equal_or p n))
        (equal_or k j);
    others = λ k h. ⊎_elim
        (λ (e : k ≡ j). absurd (let no_such : true ≡ false = sym hit ∙ h n g (ap (λ i. item_at fs i) e ∙ was_there) by_import in cc))
        (λ (e : k ≢ j). stays_at k e ∙ state.others k (λ p f at by. ⊎_elim (λ (q : p ≡ n). ap hits q ∙ not_yet) (λ (q : p ≢ n). sym (same_hits p q) ∙ h p f at by) (equal_or p n)))
        (equal_or k j);
    gone = λ i. ⊎_elim
        (λ (e : i ≡ n). subst (λ k. item_at ks k ≡ (if more k then None else item_at is k)) (sym e)
        (ap (λ xs. item_at xs n) gone ∙ set_here js n None live ∙ ap (λ (b : Bool). if b then None else item_at is n) (sym hit)))
        (λ (e : i ≢ n). ap (λ xs. item_at xs i) gone ∙ set_elsewhere js n i None e ∙ state.gone i ∙ ap (λ (b : Bool). if b then None else item_at is i) (sym (same_hits i e)))
        (equal_or i n);
  }
