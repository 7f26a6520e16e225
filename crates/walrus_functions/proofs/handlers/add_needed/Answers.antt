use Rattle.std.proofs.Common.{◌≡◌, [], List, map, Option, option_map, ap, ◌∙◌, sym, subst}
use Rattle.std.proofs.lemmas.List.{append-nil}
use Rattle.walrus_base.specs.Id.{place}
use Rattle.walrus_base.specs.Composite.{FunctionType}
use Rattle.walrus_base.specs.ModuleTypes.{type_slots}
use Rattle.walrus_functions.specs.Known.{AddsIds}
use Rattle.walrus_functions.specs.Signatures.{needed_by, pair_of, pair_type, slots_of, types_below}
use Rattle.walrus_functions.specs.declared.tag_and_try.TagAndTry.{TagAndTry}
use Rattle.walrus_functions.proofs.HandlerLemmas.{adds_none}
use Rattle.walrus_functions.proofs.handlers.add_needed.Goals as goal

pub returns-clause-added : goal.returns-clause-added
returns-clause-added c =
    let types = types_below c.args.bound (type_slots c.args.types.now) in
    let begun : needed_by types (option_map pair_of c.args.begun) ≡ pair_type types (pair_of c.in-Some.handler) = ap (λ (b : Option TagAndTry). needed_by types (option_map pair_of b)) c.in-Some.is in
    subst (λ (fs : List FunctionType). AddsIds fs (slots_of c.args.types.now) (slots_of c.add_handler.new.types) c.args.ids.now.items c.add_handler.new.ids.items) (c.in_ok-first.ensures.same ∙ sym begun) c.in_ok-add_handler.ensures.added

pub returns-clause-kept : goal.returns-clause-kept
returns-clause-kept c = record {
  known = c.in_ok-add_handler.ensures.kept;
  params = c.in_ok-first.ensures.kept.params;
  results = c.in_ok-first.ensures.kept.results;
}

pub returns-in_default-clause-added : goal.returns-in_default-clause-added
returns-in_default-clause-added c =
    let types = types_below c.args.bound (type_slots c.args.types.now) in
    let none : needed_by types (option_map pair_of c.args.begun) ≡ [] = ap (λ (b : Option TagAndTry). needed_by types (option_map pair_of b)) c.in_default.is in
    ([], (sym (append-nil (map place c.args.ids.now.items)), adds_none _ (slots_of c.args.types.now) none))
