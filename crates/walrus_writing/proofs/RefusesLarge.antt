-- What passes 32 bits.
use Rattle.std.proofs.Common.{inl, inr, ℕ, List, sym, ap, subst, arith}
use Rattle.std.specs.Prelude.{◌≢◌, Option, All, AllPairs, Contains, slice_index_or}
use Rattle.std.proofs.lemmas.List.{get_or_default}
use Rattle.walrus_base.specs.Types.{ValType}
use Rattle.walrus_base.specs.Operators.{locals_of, Item}
use Rattle.walrus_items.specs.Function.{body_of as ops_of_local, args_of}
use Rattle.walrus_functions.specs.DeclaredLocals.{GoesBefore, AreDeclared}
use Rattle.walrus_functions.proofs.LawOrder.{turn}
use Rattle.walrus_functions.specs.EmittedBody.{HasTooManyLocals}
use Rattle.walrus_contents.specs.View.{body, parts_view}
use Rattle.walrus_contents.specs.declared.parts.Parts.{Parts}
use Rattle.wasm_frames.specs.Record as wire
use Rattle.walrus_code.specs.Names.{Lookup}
use Rattle.walrus_model.specs.Abstract.{Abstract, Custom}
use Rattle.walrus_model.specs.Config.{Config}
use Rattle.walrus_model.specs.Names.{body_of_function}
use Rattle.walrus_theorem.specs.Features.{features_of}
use Rattle.walrus_theorem.specs.Refused.{PassesLimits, ManyItems, ManyLocals}
use Rattle.walrus_model.proofs.Indices.{planned_rising}
use Rattle.walrus_plan.specs.Refusals.{HasTooManyItems}
use Rattle.walrus_writing.specs.Customs.{task}
use Rattle.walrus_writing.specs.Parts.{slots_of}
use Rattle.walrus_writing.specs.Records.{DoesNotFit}
use Rattle.walrus_writing.specs.Refusals as refusals
use Rattle.walrus_writing.specs.Refusals.{HasBody}
use Rattle.walrus_writing.proofs.Emitted.{choices_of}
use Rattle.walrus_theorem.proofs.SameItems.{live_on, with_own}

-- ---- declared locals

module _ (slots : List (Option (ValType ℕ))) (used parameters order : List ℕ) (declared : AreDeclared slots used parameters order) where
  order_used : All (λ x. Contains used x) order
  order_used k d low =
      let x = slice_index_or order k d in
      ((declared.which x).0 (k, low, get_or_default order k x d low)).is_used

  order_apart : All (λ x. Contains parameters x → ⊥) order
  order_apart k d low =
      let x = slice_index_or order k d in
      ((declared.which x).0 (k, low, get_or_default order k x d low)).no_parameter

  order_differs : AllPairs (λ (x : ℕ) (y : ℕ). x ≢ y) order
  order_differs i j d less low same =
      let x = slice_index_or order i d in
      let own : GoesBefore slots used parameters x x = subst (λ (z : ℕ). GoesBefore slots used parameters x z) (sym same) (declared.sorted i j d less low) in
      turn slots used parameters x x own own

module _ (c : Config) (p : Parts) (own : List Custom) (roots : List Item) where
  abbrev V : Abstract
  V = parts_view p

  abbrev W : Abstract
  W = with_own V own roots

  -- ---- too many items or locals

  pub too_many_items : HasTooManyItems p → PassesLimits c W
  too_many_items (plan, (is_plan, (s, many))) = let n = planned_rising V plan is_plan s in ManyItems s n.0 n.1 (λ k d low. live_on V own roots (s, slice_index_or n.0 k d) (n.2 k d low)) (omega (arith, many, n.3))

  many_locals : HasBody p (features_of c) HasTooManyLocals → PassesLimits c W
  many_locals (names, (n, (f, (is, (order, (declared, many)))))) =
      let used = locals_of (ops_of_local f) in
      let parameters = args_of f in
      ManyLocals n (body p.locals.now f) order (ap body_of_function is) (order_differs (slots_of p) used parameters order declared) (order_used (slots_of p) used parameters order declared) (order_apart (slots_of p) used parameters order declared) many

  -- a count or a size passes 32 bits
  pub passes : (names : Lookup) (sections : List wire.Custom) → (DoesNotFit p (task (choices_of c) names sections) → PassesLimits c W) → refusals.TaskIsTooLarge p (task (choices_of c) names sections) → PassesLimits c W
  passes names sections unfit (inl h) = many_locals h
  passes names sections unfit (inr h) = unfit h
