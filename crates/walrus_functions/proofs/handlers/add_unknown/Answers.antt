use Rattle.std.proofs.Common.{◌≡◌, ◌∷◌, [], List, map, Option, option_to_list, ap, ◌∙◌, sym, subst}
use Rattle.std.proofs.lemmas.List.{append-nil}
use Rattle.walrus_base.specs.Id.{place}
use Rattle.walrus_base.specs.Composite.{FunctionType, function_type}
use Rattle.walrus_base.specs.ModuleTypes.{type_slots}
use Rattle.walrus_base.specs.declared.composite.FunctionType.{FunctionType as DeclaredFunctionType}
use Rattle.walrus_functions.specs.Known.{AddsIds}
use Rattle.walrus_functions.specs.Signatures.{pair_of, pair_type, slots_of, types_below}
use Rattle.walrus_functions.proofs.HandlerLemmas.{adds_none}
use Rattle.walrus_functions.proofs.KnownLemmas.{known_next}
use Rattle.walrus_functions.proofs.handlers.add_unknown.Goals as goal

pub returns-in_ok-add_type-in-Some-clause-added : goal.returns-in_ok-add_type-in-Some-clause-added
returns-in_ok-add_type-in-Some-clause-added c =
    let types = types_below c.args.bound (type_slots c.args.types.now) in
    let is : pair_type types (pair_of c.args.handler) ≡ function_type c.in-Some.needed ∷ [] = sym c.in_ok-needed.ensures ∙ ap (λ (f : Option DeclaredFunctionType). map function_type (option_to_list f)) c.in-Some.is in
    subst (λ (fs : List FunctionType). AddsIds fs (slots_of c.args.types.now) (slots_of c.add_type.new.types) c.args.ids.now.items c.add_type.new.ids.items) (sym is) c.in_ok-add_type-in-Some.ensures.added

pub returns-in_ok-add_type-in-Some-clause-kept : goal.returns-in_ok-add_type-in-Some-clause-kept
returns-in_ok-add_type-in-Some-clause-kept c =
    let types = types_below c.args.bound (type_slots c.args.types.now) in
    let is : pair_type types (pair_of c.args.handler) ≡ function_type c.in-Some.needed ∷ [] = sym c.in_ok-needed.ensures ∙ ap (λ (f : Option DeclaredFunctionType). map function_type (option_to_list f)) c.in-Some.is in
    known_next c.args.bound types (type_slots c.args.types.now) (type_slots c.add_type.new.types) c.args.known.now c.add_type.new.known c.args.handler (function_type c.in-Some.needed) c.requires is c.in_ok-add_type-in-Some.ensures.noted c.in_ok-add_type-in-Some.ensures.stays

pub returns-in-None-clause-added : goal.returns-in-None-clause-added
returns-in-None-clause-added c =
    let types = types_below c.args.bound (type_slots c.args.types.now) in
    let none : pair_type types (pair_of c.args.handler) ≡ [] = sym c.in_ok-needed.ensures ∙ ap (λ (f : Option DeclaredFunctionType). map function_type (option_to_list f)) c.in-None.is in
    ([], (sym (append-nil (map place c.args.ids.now.items)), adds_none _ (slots_of c.args.types.now) none))
