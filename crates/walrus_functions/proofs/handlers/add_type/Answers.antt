use Rattle.std.proofs.Common.{◌∷◌, [], map, ap, ◌∙◌}
use Rattle.std.proofs.lemmas.List.{map-append}
use Rattle.walrus_base.specs.Id.{place}
use Rattle.walrus_base.specs.Composite.{function_type}
use Rattle.walrus_base.specs.ModuleTypes.{type_names, type_slots}
use Rattle.walrus_functions.specs.Signatures.{slots_of}
use Rattle.walrus_functions.proofs.HandlerLemmas.{adds_one}
use Rattle.walrus_functions.proofs.KnownLemmas.{noted_first}
use Rattle.walrus_functions.proofs.handlers.add_type.Goals as goal

pub returns-clause-added : goal.returns-clause-added
returns-clause-added c =
    let id = c.in_ok-id.id in
    let one = rw (c.params.ensures, c.results.ensures) at c.in_ok-id.ensures in
    (place id ∷ [], (ap (map place) c.in_ok-push.ensures.items ∙ map-append place c.args.ids.now.items (id ∷ []), adds_one (function_type c.args.needed.now) (slots_of c.args.types.now) (slots_of c.add.new.self) (place id) one))

pub returns-clause-noted : goal.returns-clause-noted
returns-clause-noted c =
    let one = rw (c.params.ensures, c.results.ensures) at c.in_ok-id.ensures in
    noted_first c.args.bound (function_type c.args.needed.now) (type_slots c.args.types.now) (type_slots c.add.new.self) (type_names c.args.types.now) (type_names c.add.new.self) (place c.in_ok-id.id) (place c.next_id-next.result) one c.next_id-next.ensures
    c.args.handler c.args.known.now c.note_settled.new.known c.in_ok-note_settled.ensures
