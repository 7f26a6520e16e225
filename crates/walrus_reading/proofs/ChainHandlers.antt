-- The types of handlers, function by function: from the slots of functions to their numbers.
use Rattle.std.proofs.Common.{◌≡◌, ℕ, suc, ◌+◌, List, [], ◌∷◌, length, map, refl, sym, ap, subst, ◌∙◌}
use Rattle.std.specs.Prelude.{Option, None, slice_get}
use Rattle.std.specs.List.{AllByRecursion, range_with_len}
use Rattle.walrus_base.specs.Arena.{item_at}
use Rattle.walrus_base.specs.declared.locals.ModuleLocals.{ModuleLocals}
use Rattle.walrus_items.specs.Functions.{FunctionValue}
use Rattle.walrus_items.specs.declared.function_kind.FunctionKind.{FunctionKind}
use Rattle.walrus_items.specs.declared.function_kind.FunctionKind.TheVariants as variants
use Rattle.walrus_model.specs.Abstract.{Abstract, Body, Function, ImportedFunction, TypeDef}
use Rattle.walrus_model.specs.Names.{body_of, body_of_function, body_of_kind}
use Rattle.walrus_model.specs.Sections.{Said, function_with, types_of}
use Rattle.walrus_theorem.specs.Chain.{AddsHandlers, AndThose, AreFoundOrAdded, NoFunction, NoMore, handlers_by}
use Rattle.walrus_theorem.specs.Sections.{module_of}
use Rattle.walrus_contents.specs.View.{handlers_at, kind_handlers, kind_of}
use Rattle.walrus_reading.specs.Held.{HoldsImportedFunction}
use Rattle.walrus_reading.specs.Placed.{AllPlaced, InTurn}
use Rattle.walrus_reading.specs.Taken.{HoldsHandlers, tag_types_of}
use Rattle.walrus_reading.proofs.AllHeld.{IsImported}
use Rattle.walrus_reading.proofs.Rows.{nothing_more}
use Rattle.wasm_frames.specs.Record as wire
use Rattle.walrus_reading.proofs.Becoming.{one_later}

-- a slot has the types that the handlers of a function need
abbrev pub HasHandlers : Abstract → Function → Option FunctionValue → (old new : List TypeDef) → Type 0
HasHandlers m g slot old new = AreFoundOrAdded (handlers_by m (body_of_kind g.kind)) old new (handlers_at slot)

module _ (m : Abstract) (places : ℕ → List ℕ) where
  pub by_numbers : (gs : List Function) (slots : List (Option FunctionValue)) (k : ℕ) (old new : List TypeDef) → ((i : ℕ) → body_of m (k + i) ≡ body_of_function (slice_get gs i)) → ((i : ℕ) → places (k + i) ≡ handlers_at (item_at slots i))
      → InTurn (HasHandlers m) gs slots old new → AddsHandlers m places (range_with_len k (length gs)) old new
  by_numbers [] [] k old new has at h = subst (λ (l : List TypeDef). AddsHandlers m places [] old l) (sym h) (NoFunction old)
  by_numbers [] (s ∷ slots) k old new has at h = absurd h
  by_numbers (g ∷ gs) [] k old new has at h = absurd h
  by_numbers (g ∷ gs) (s ∷ slots) k old new has at h =
      let here : body_of m k ≡ body_of_kind g.kind = ap (body_of m) (nothing_more k) ∙ has 0 in
      let places_here : places k ≡ handlers_at s = ap places (nothing_more k) ∙ at 0 in
      AndThose k (range_with_len (k + 1) (length gs)) old h.0 new
      (subst (λ (b : Option Body). AreFoundOrAdded (handlers_by m b) old h.0 (places k)) (sym here) (subst (λ (ps : List ℕ). AreFoundOrAdded (handlers_by m (body_of_kind g.kind)) old h.0 ps) (sym places_here) h.1.0))
      (by_numbers gs slots (k + 1) h.0 new (λ i. ap (body_of m) (one_later k i) ∙ has (suc i)) (λ i. ap places (one_later k i) ∙ at (suc i)) h.1.1)

pub import_none : (all : ModuleLocals) (k : FunctionKind) (p : ℕ) → kind_of all k ≡ ImportedFunction p → kind_handlers k ≡ []
import_none all (variants.Import i) p e = refl
import_none all (variants.Local f) p e = absurd (cc)
import_none all (variants.Uninitialized ty) p e = refl

-- what imports bring needs none
pub imported_turn : (m : Abstract) (all : ModuleLocals) (k : ℕ) (gs : List Function) (slots : List (Option FunctionValue)) (types : List TypeDef) → AllByRecursion IsImported gs → AllPlaced HoldsImportedFunction k gs slots → InTurn (HasHandlers m) gs slots types types
imported_turn m all k [] [] types by h = refl
imported_turn m all k [] (s ∷ slots) types by h = absurd h
imported_turn m all k (g ∷ gs) [] types by h = absurd h
imported_turn m all k (g ∷ gs) (s ∷ slots) types by h =
    let no_body : body_of_kind g.kind ≡ None = ap body_of_kind by.0.1 in
    let none : handlers_at s ≡ [] = ap handlers_at h.0.is ∙ import_none all h.0.value.kind by.0.0 (ap (λ (f : Function). f.kind) (h.0.read all) ∙ by.0.1) in (
      types,
      (
        subst (λ (b : Option Body). AreFoundOrAdded (handlers_by m b) types types (handlers_at s)) (sym no_body) (subst (λ (ps : List ℕ). AreFoundOrAdded [] types types ps) (sym none) (NoMore types)),
        imported_turn m all (k + 1) gs slots types by.1 h.1,
      ),
    )

-- what has a body needs those of its body
pub own_turn : (r : wire.Module) (bodies : List Said) (ps : List (ℕ × Said)) (slots : List (Option FunctionValue)) (old new : List TypeDef) → InTurn (HoldsHandlers (types_of r) (tag_types_of r)) ps slots old new
    → InTurn (HasHandlers (module_of r bodies [] [])) (map (function_with r) ps) slots old new
own_turn r bodies [] [] old new h = h
own_turn r bodies [] (s ∷ slots) old new h = absurd h
own_turn r bodies (p ∷ ps) [] old new h = absurd h
own_turn r bodies (p ∷ ps) (s ∷ slots) old new h = (h.0, (h.1.0, own_turn r bodies ps slots h.0 new h.1.1))
