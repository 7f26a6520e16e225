use Rattle.std.proofs.Common.{◌≡◌, ◌↔◌, ℕ, IsTrue, List, Some, length, map, sym, ap, ◌∙◌, subst, arith}
use Rattle.std.specs.List.{range_with_len}
use Rattle.std.proofs.lemmas.List.{length-map}
use Rattle.walrus_base.specs.Arena.{item_at}
use Rattle.walrus_base.specs.Composite.{function_type as signature_of}
use Rattle.walrus_base.specs.Id.{place}
use Rattle.walrus_base.specs.Locals.{locals}
use Rattle.walrus_base.specs.ModuleTypes.{type_slots}
use Rattle.walrus_base.specs.Types.{ValType}
use Rattle.walrus_base.specs.Value.{val_type}
use Rattle.walrus_bodies.specs.Function.{function_type, args_of}
use Rattle.walrus_functions.specs.EmittedBody.{types_of, takes, comp_takes}
use Rattle.walrus_functions.proofs.FitLemmas.{fit}
use Rattle.walrus_functions.proofs.InPlaceLemmas.{as_many_fit}
use Rattle.walrus_functions.proofs.emit.parameters_fit_from.Goals as goal

pub returns-then-many-params : goal.returns-then-many-params
returns-then-many-params c = (
  λ h. absurd cc,
  λ s.
      let defs = type_slots c.args.types.now in
      let wanted = (signature_of c.in-Some.signature.now).params in
      let taken = ap (λ t. takes (item_at defs (place t))) (sym c.ty-2.ensures) ∙ ap takes c.get.ensures.value ∙ ap comp_takes c.in-Some.ensures in
      let same = as_many_fit (item_at defs (place (function_type c.args.function.now))) (types_of (locals c.args.module_locals.now)) (args_of c.args.function.now) wanted c.args.first c.args.params taken c.requires.parameters s in
      let long = sym (length-map c.params-wanted.result.now val_type) ∙ ap length c.params-wanted.ensures in
      absurd (omega (arith, same, long, c.if-many-params.true)),
)

pub returns : goal.returns
returns c =
    let defs = type_slots c.args.types.now in
    let slots = types_of (locals c.args.module_locals.now) in
    let wanted = (signature_of c.in-Some.signature.now).params in
    let places = range_with_len c.args.first (length c.params-wanted.result.now) in
    let over : IsTrue c.are_of_types_from.result ↔ (map (item_at slots) places ≡ map Some wanted) = subst (λ (vs : List (ValType ℕ)). IsTrue c.are_of_types_from.result ↔ (map (item_at slots) places ≡ map Some vs)) c.params-wanted.ensures c.are_of_types_from.ensures in
    let many : length c.params-wanted.result.now ≡ c.args.params = omega (arith, c.if-many-params.false) in
    fit (item_at defs (place (function_type c.args.function.now))) slots (args_of c.args.function.now) wanted c.are_of_types_from.result
    (ap (λ t. takes (item_at defs (place t))) (sym c.ty-2.ensures) ∙ ap takes c.get.ensures.value ∙ ap comp_takes c.in-Some.ensures)
    (subst (λ (ps : List ℕ). IsTrue c.are_of_types_from.result ↔ (map (item_at slots) ps ≡ map Some wanted)) (ap (range_with_len c.args.first) many ∙ sym c.requires.parameters) over)
