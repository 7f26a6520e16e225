use Rattle.std.proofs.Common.{◌≡◌, ◌∷◌, [], map, Some, ap, ◌∙◌, sym}
use Rattle.std.proofs.lemmas.List.{map-append}
use Rattle.std.specs.Option.{option_copied}
use Rattle.walrus_base.specs.Id.{place}
use Rattle.walrus_base.specs.ModuleTypes.{type_slots}
use Rattle.walrus_functions.specs.Known.{id_at}
use Rattle.walrus_functions.specs.Signatures.{pair_of, slots_of, types_below}
use Rattle.walrus_functions.proofs.KnownLemmas.{known_adds}
use Rattle.walrus_functions.proofs.handlers.add_handler.Goals as goal

pub returns-in_ok-push-in-Some-clause-added : goal.returns-in_ok-push-in-Some-clause-added
returns-in_ok-push-in-Some-clause-added c =
    let types = types_below c.args.bound (type_slots c.args.types.now) in
    let handler = c.args.handler in
    let id = c.in-Some.id.now in
    let at : id_at c.args.known.now handler ≡ Some id = sym c.get.ensures.value ∙ ap (λ r. option_copied r) c.in-Some.is in
    let adds = known_adds types (slots_of c.args.types.now) (pair_of handler) (place id) (c.requires handler id at).1 in
    (place id ∷ [], (ap (map place) c.in_ok-push-in-Some.ensures.items ∙ map-append place c.args.ids.now.items (id ∷ []), adds))
