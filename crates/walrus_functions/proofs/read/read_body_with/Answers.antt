use Rattle.std.proofs.Common.{◌≡◌, length, ap, ◌∙◌, sym, rules}
use Rattle.std.specs.Fn.{FnReturnsAt}
use Rattle.std.proofs.lemmas.List.{length-map}
use Rattle.walrus_base.specs.Arena.{item_at}
use Rattle.walrus_base.specs.Id.{place}
use Rattle.walrus_base.specs.Locals.{locals}
use Rattle.walrus_base.specs.ModuleTypes.{type_slots}
use Rattle.walrus_base.specs.Value.{val_type}
use Rattle.walrus_code.specs.Indices.{ids_at}
use Rattle.walrus_bodies.specs.FunctionTypes.{is_function_at}
use Rattle.walrus_bodies.specs.PlainCode.{limits_in}
use Rattle.walrus_bodies.specs.Scanned.{AreInPlace, IsPlace}
use Rattle.walrus_functions.specs.Handlers.{params_of}
use Rattle.walrus_functions.specs.Plain.{IfPlain, IsPlainRead}
use Rattle.walrus_functions.specs.ReadFunction.{Given}
use Rattle.walrus_functions.specs.Signatures.{tag_places}
use Rattle.walrus_functions.proofs.GivenLemmas.{given, given_place, on_any, result_located}
use Rattle.walrus_functions.proofs.PlainLemmas.{read_of}
use Rattle.walrus_functions.proofs.read.read_body_with.Goals as goal

pub returns-in-Some : goal.returns-in-Some
returns-in-Some g c =
    let asked = params_of (item_at (type_slots c.args.types.now) (place c.args.ty)) in
    let old = locals c.args.module_locals.now in
    let params = c.params-params.result.now in
    let holds = is_function_at c.args.types.now in
    let start = c.args.start in
    let bytes = c.args.bytes.now in
    let is_given = FnReturnsAt g.L.Fn c.args.locate.now in
    let found : IfPlain c.args.texts.now (λ code plain. IsPlainRead (limits_in code.value) holds c.index-first.result (length params) start bytes plain) c.in-Some.plain = rw c.in-Some.is at c.in_ok-found.ensures in
    let limits = limits_in found.0.value in
    let placed : AreInPlace limits (ids_at c.args.indices.now) = rw found.1.0 at c.requires.in_place in
    let count : length params ≡ length asked = sym (length-map params val_type) ∙ ap length (c.params-params.ensures ∙ ap params_of (sym c.get.ensures.value)) in
    let known = read_of limits holds c.index-first.result (length old) (length params) (length asked) start bytes c.in-Some.plain (c.index-first.ensures ∙ c.next_id.ensures) count found.1.1 in
    let taken = c.take_plain.ensures.taken limits start bytes c.args.features.now (tag_places c.args.tag_types.now) placed known in
    record {
      read = taken.0;
      located = result_located IsPlace (Given c.args.texts.now is_given) (given_place c.args.texts.now found.0 found.1.0 is_given) start bytes c.take_plain.result taken.1;
      types_stay = search rules;
      known = on_any c.take_plain.result _ c.requires.known;
      locals_stay = c.take_plain.ensures.locals_stay;
    }

pub returns-clause-located : goal.returns-clause-located
returns-clause-located g c =
    let is_given = FnReturnsAt g.L.Fn c.args.locate.now in
    result_located is_given (Given c.args.texts.now is_given) (given c.args.texts.now is_given) c.args.start c.args.bytes.now c.read_list.result c.read_list.ensures.located
