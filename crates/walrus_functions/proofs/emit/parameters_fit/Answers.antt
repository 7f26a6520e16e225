use Rattle.std.proofs.Common.{◌≡◌, ◌↔◌, ℕ, IsTrue, List, Some, map, sym, ap, ◌∙◌, subst}
use Rattle.walrus_base.specs.Arena.{item_at}
use Rattle.walrus_base.specs.Composite.{function_type as signature_of}
use Rattle.walrus_base.specs.Id.{place}
use Rattle.walrus_base.specs.Locals.{locals}
use Rattle.walrus_base.specs.ModuleTypes.{type_slots}
use Rattle.walrus_base.specs.Types.{ValType}
use Rattle.walrus_bodies.specs.Function.{function_type, args_of}
use Rattle.walrus_functions.specs.EmittedBody.{types_of, takes, comp_takes}
use Rattle.walrus_functions.proofs.FitLemmas.{fit}
use Rattle.walrus_functions.proofs.emit.parameters_fit.Goals as goal

pub returns : goal.returns
returns c =
    let defs = type_slots c.args.types.now in
    let slots = types_of (locals c.args.module_locals.now) in
    let wanted = (signature_of c.in-Some.signature.now).params in
    let places = map place c.args.args.now in
    let over : IsTrue c.are_of_types.result ↔ (map (item_at slots) places ≡ map Some wanted) = subst (λ (vs : List (ValType ℕ)). IsTrue c.are_of_types.result ↔ (map (item_at slots) places ≡ map Some vs)) c.params.ensures c.are_of_types.ensures in
    fit (item_at defs (place (function_type c.args.function.now))) slots (args_of c.args.function.now) wanted c.are_of_types.result
    (ap (λ t. takes (item_at defs (place t))) (sym c.ty-2.ensures) ∙ ap takes c.get.ensures.value ∙ ap comp_takes c.in-Some.ensures)
    (subst (λ (ps : List ℕ). IsTrue c.are_of_types.result ↔ (map (item_at slots) ps ≡ map Some wanted)) c.requires over)
