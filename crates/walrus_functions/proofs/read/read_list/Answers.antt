use Rattle.std.proofs.Common.{◌≡◌, ℕ, ◌+◌, ◌++◌, List, Option, length, map, ap, ◌∙◌, sym, subst, refl, Err}
use Rattle.std.proofs.lemmas.Result.{err_from_is_err_and}
use Rattle.std.specs.Fn.{FnReturnsAt}
use Rattle.walrus_base.specs.Arena.{item_at}
use Rattle.walrus_base.specs.Id.{place}
use Rattle.walrus_base.specs.declared.id.Id.{Id}
use Rattle.walrus_base.specs.declared.keys.LocalKey.{LocalKey}
use Rattle.walrus_base.specs.Locals.{locals}
use Rattle.walrus_base.specs.ModuleTypes.{type_slots}
use Rattle.walrus_base.specs.Operators.{Op}
use Rattle.walrus_base.specs.Value.{val_type}
use Rattle.walrus_code.specs.Code.{ops_of}
use Rattle.walrus_code.specs.Indices.{ids_at}
use Rattle.walrus_code.specs.declared.location.InstrLocId.{InstrLocId}
use Rattle.walrus_bodies.specs.Body.{Context, BodyReads, context}
use Rattle.walrus_bodies.specs.BodyRead.{BodyIsRead, BodyLocated, ReadsBody}
use Rattle.walrus_bodies.specs.FunctionTypes.{is_function_at}
use Rattle.walrus_bodies.specs.Function.{body_of}
use Rattle.walrus_functions.specs.Handlers.{handlers_of, params_of}
use Rattle.walrus_functions.specs.ReadFunction.{AddsTypes, locals_from}
use Rattle.walrus_functions.specs.Signatures.{slots_of, tag_places}
use Rattle.walrus_functions.proofs.HandlerLemmas.{stays_same, stays_trans}
use Rattle.walrus_bodies.proofs.AddedLemmas.{adds_others}
use Rattle.walrus_functions.proofs.ParameterLemmas.{no_body, one_range}
use Rattle.walrus_functions.proofs.read.read_list.Goals as goal

pub returns-in_err-body-clause-read : goal.returns-in_err-body-clause-read
returns-in_err-body-clause-read g c =
    let d : Context = context (ids_at c.args.indices.now) (is_function_at c.args.types.now) c.args.features.now in
    let takes = c.params.ensures ∙ ap params_of (sym c.get.ensures.value) in
    let types = slots_of c.args.types.now in
    let middle = locals c.add_locals.new.module_locals in
    let none = subst (λ (ids : List (Id LocalKey)). ReadsBody d (map place ids) middle (locals c.read_body_over.new.module_locals) c.args.bytes.now (Err c.in_err-body.field-0.0)) c.as_slice.ensures.value c.in_err-body.ensures.read in
    no_body d (tag_places c.args.tag_types.now) (place c.args.ty) types types (locals c.args.module_locals.now) middle (locals c.read_body_over.new.module_locals) c.in_ok-args.args.items c.params.result.now c.args.bytes.now c.from_residual-in_err-body.result c.in_err-body.field-0.0 c.in_ok-args.ensures.added takes c.from_residual-in_err-body.ensures.1 none

pub returns-clause-read : goal.returns-clause-read
returns-clause-read g c =
    let d : Context = context (ids_at c.args.indices.now) (is_function_at c.args.types.now) c.args.features.now in
    let bytes = c.args.bytes.now in
    let old = locals c.args.module_locals.now in
    let middle = locals c.add_locals.new.module_locals in
    let new = locals c.read_body_over.new.module_locals in
    let args = c.in_ok-args.args.items in
    let params = c.params.result.now in
    let body = c.in_ok-body.body in
    let keeps = c.in_ok-set_handler_types.ensures.others in
    let added = c.in_ok-args.ensures.added in
    let read : BodyIsRead d (map place args) middle new bytes body = subst (λ (ids : List (Id LocalKey)). BodyIsRead d (map place ids) middle new bytes body) c.as_slice.ensures.value c.in_ok-body.ensures.read in
    let ops_are : body_of c.set_handler_types.new.self ≡ ops_of body.operators.items = keeps.body ∙ c.in_ok-function.ensures.body in
    let old_types = item_at (type_slots c.args.types.now) in
    let handler_places = map place c.in_ok-handler_types.handler_types.items in
    record {
      own_type = ap place (keeps.head.typed ∙ c.in_ok-function.ensures.ty);
      unnamed = keeps.head.name ∙ c.in_ok-function.ensures.name;
      params = params;
      declared = read.types;
      takes = c.params.ensures ∙ ap params_of (sym c.get.ensures.value);
      parameters = keeps.head.args ∙ c.in_ok-function.ensures.args ∙ added.places;
      ids = args ++ body.declared.items;
      added = adds_others old middle args params added new body.declared.items read.types read.added;
      reads = subst (λ (ops : List Op). BodyReads d (locals_from (length old) (length params + length read.types)) bytes (map val_type read.types) ops) (sym ops_are)
          (subst (λ (l : ℕ → Option ℕ). BodyReads d l bytes (map val_type read.types) (ops_of body.operators.items)) (one_range old middle args params added (length read.types)) read.reads);
      handlers = subst (λ (ps : List ℕ). AddsTypes (handlers_of old_types (tag_places c.args.tag_types.now) (body_of c.set_handler_types.new.self)) (slots_of c.args.types.now) (slots_of c.add_handler_types.new.types) ps) (sym c.in_ok-set_handler_types.ensures.handlers)
          (subst (λ (ops : List Op). AddsTypes (handlers_of old_types (tag_places c.args.tag_types.now) ops) (slots_of c.args.types.now) (slots_of c.add_handler_types.new.types) handler_places) (ap ops_of c.as_slice-2.ensures.value ∙ sym ops_are) c.in_ok-handler_types.ensures.added);
    }

pub returns-clause-located : goal.returns-clause-located
returns-clause-located g c =
    subst (λ (locs : List InstrLocId). BodyLocated (FnReturnsAt g.L.Fn c.args.locate.now) c.args.start c.args.bytes.now locs) (sym (c.in_ok-set_handler_types.ensures.others.locations ∙ c.in_ok-function.ensures.locations)) c.in_ok-body.ensures.located

pub returns-in_err-args-clause-read : goal.returns-in_err-args-clause-read
returns-in_err-args-clause-read g c = let p = err_from_is_err_and c.from_residual.result c.from_residual.ensures.1 in rw (p.1, p.2) tt

pub returns-in_err-args-clause-located : goal.returns-in_err-args-clause-located
returns-in_err-args-clause-located g c = let p = err_from_is_err_and c.from_residual.result c.from_residual.ensures.1 in rw p.1 tt

pub returns-in_err-args-clause-types_stay : goal.returns-in_err-args-clause-types_stay
returns-in_err-args-clause-types_stay g c = stays_same (type_slots c.args.types.now) (type_slots c.args.types.now) refl

pub returns-in_err-args-clause-locals_stay : goal.returns-in_err-args-clause-locals_stay
returns-in_err-args-clause-locals_stay g c = c.add_locals.ensures.stays

pub returns-in_err-body-clause-located : goal.returns-in_err-body-clause-located
returns-in_err-body-clause-located g c = let p = err_from_is_err_and c.from_residual-in_err-body.result c.from_residual-in_err-body.ensures.1 in rw p.1 tt

pub returns-in_err-body-clause-types_stay : goal.returns-in_err-body-clause-types_stay
returns-in_err-body-clause-types_stay g c = stays_same (type_slots c.args.types.now) (type_slots c.args.types.now) refl

pub returns-in_err-body-clause-locals_stay : goal.returns-in_err-body-clause-locals_stay
returns-in_err-body-clause-locals_stay g c = stays_trans (locals c.args.module_locals.now) (locals c.add_locals.new.module_locals) (locals c.read_body_over.new.module_locals) c.add_locals.ensures.stays c.read_body_over.ensures.stays

pub returns-in_err-handler_types-clause-read : goal.returns-in_err-handler_types-clause-read
returns-in_err-handler_types-clause-read g c = let p = err_from_is_err_and c.from_residual-in_err-handler_types.result c.from_residual-in_err-handler_types.ensures.1 in rw (p.1, p.2) tt

pub returns-in_err-handler_types-clause-located : goal.returns-in_err-handler_types-clause-located
returns-in_err-handler_types-clause-located g c = let p = err_from_is_err_and c.from_residual-in_err-handler_types.result c.from_residual-in_err-handler_types.ensures.1 in rw p.1 tt

pub returns-in_err-handler_types-clause-types_stay : goal.returns-in_err-handler_types-clause-types_stay
returns-in_err-handler_types-clause-types_stay g c = c.add_handler_types.ensures.stays

pub returns-in_err-handler_types-clause-locals_stay : goal.returns-in_err-handler_types-clause-locals_stay
returns-in_err-handler_types-clause-locals_stay g c = stays_trans (locals c.args.module_locals.now) (locals c.add_locals.new.module_locals) (locals c.read_body_over.new.module_locals) c.add_locals.ensures.stays c.read_body_over.ensures.stays

pub returns-clause-types_stay : goal.returns-clause-types_stay
returns-clause-types_stay g c = c.add_handler_types.ensures.stays

pub returns-clause-locals_stay : goal.returns-clause-locals_stay
returns-clause-locals_stay g c = stays_trans (locals c.args.module_locals.now) (locals c.add_locals.new.module_locals) (locals c.read_body_over.new.module_locals) c.add_locals.ensures.stays c.read_body_over.ensures.stays

pub returns-in_err-function-clause-read : goal.returns-in_err-function-clause-read
returns-in_err-function-clause-read g c = let p = err_from_is_err_and c.from_residual-in_err-function.result c.from_residual-in_err-function.ensures.1 in rw (p.1, p.2) tt

pub returns-in_err-function-clause-located : goal.returns-in_err-function-clause-located
returns-in_err-function-clause-located g c = let p = err_from_is_err_and c.from_residual-in_err-function.result c.from_residual-in_err-function.ensures.1 in rw p.1 tt

pub returns-in_err-function-clause-types_stay : goal.returns-in_err-function-clause-types_stay
returns-in_err-function-clause-types_stay g c = c.add_handler_types.ensures.stays

pub returns-in_err-function-clause-locals_stay : goal.returns-in_err-function-clause-locals_stay
returns-in_err-function-clause-locals_stay g c = stays_trans (locals c.args.module_locals.now) (locals c.add_locals.new.module_locals) (locals c.read_body_over.new.module_locals) c.add_locals.ensures.stays c.read_body_over.ensures.stays

pub returns-in_err-set_handler_types-clause-read : goal.returns-in_err-set_handler_types-clause-read
returns-in_err-set_handler_types-clause-read g c = let p = err_from_is_err_and c.from_residual-in_err-set_handler_types.result c.from_residual-in_err-set_handler_types.ensures.1 in rw (p.1, p.2) tt

pub returns-in_err-set_handler_types-clause-located : goal.returns-in_err-set_handler_types-clause-located
returns-in_err-set_handler_types-clause-located g c = let p = err_from_is_err_and c.from_residual-in_err-set_handler_types.result c.from_residual-in_err-set_handler_types.ensures.1 in rw p.1 tt

pub returns-in_err-set_handler_types-clause-types_stay : goal.returns-in_err-set_handler_types-clause-types_stay
returns-in_err-set_handler_types-clause-types_stay g c = c.add_handler_types.ensures.stays

pub returns-in_err-set_handler_types-clause-locals_stay : goal.returns-in_err-set_handler_types-clause-locals_stay
returns-in_err-set_handler_types-clause-locals_stay g c = stays_trans (locals c.args.module_locals.now) (locals c.add_locals.new.module_locals) (locals c.read_body_over.new.module_locals) c.add_locals.ensures.stays c.read_body_over.ensures.stays

pub returns-clause-known : goal.returns-clause-known
returns-clause-known g c = c.in_ok-handler_types.ensures.kept

pub returns-in_err-args-clause-known : goal.returns-in_err-args-clause-known
returns-in_err-args-clause-known g c = let p = err_from_is_err_and c.from_residual.result c.from_residual.ensures.1 in rw p.1 tt

pub returns-in_err-body-clause-known : goal.returns-in_err-body-clause-known
returns-in_err-body-clause-known g c = let p = err_from_is_err_and c.from_residual-in_err-body.result c.from_residual-in_err-body.ensures.1 in rw p.1 tt

pub returns-in_err-handler_types-clause-known : goal.returns-in_err-handler_types-clause-known
returns-in_err-handler_types-clause-known g c = let p = err_from_is_err_and c.from_residual-in_err-handler_types.result c.from_residual-in_err-handler_types.ensures.1 in rw p.1 tt

pub returns-in_err-function-clause-known : goal.returns-in_err-function-clause-known
returns-in_err-function-clause-known g c = let p = err_from_is_err_and c.from_residual-in_err-function.result c.from_residual-in_err-function.ensures.1 in rw p.1 tt

pub returns-in_err-set_handler_types-clause-known : goal.returns-in_err-set_handler_types-clause-known
returns-in_err-set_handler_types-clause-known g c = let p = err_from_is_err_and c.from_residual-in_err-set_handler_types.result c.from_residual-in_err-set_handler_types.ensures.1 in rw p.1 tt
