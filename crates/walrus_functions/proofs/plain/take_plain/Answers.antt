use Rattle.std.proofs.Common.{◌≡◌, ℕ, ◌+◌, ◌++◌, List, [], Err, length, map, ap, ◌∙◌, sym, subst}
use Rattle.std.specs.List.{range_with_len}
use Rattle.std.proofs.lemmas.List.{length-map}
use Rattle.walrus_base.specs.Arena.{item_at}
use Rattle.walrus_base.specs.Id.{place}
use Rattle.walrus_base.specs.Locals.{locals}
use Rattle.walrus_base.specs.ModuleTypes.{type_slots}
use Rattle.walrus_base.specs.Operators.{Op}
use Rattle.walrus_base.specs.Value.{val_type}
use Rattle.walrus_code.specs.Indices.{ids_at}
use Rattle.walrus_code.specs.declared.location.InstrLocId.{InstrLocId}
use Rattle.walrus_bodies.specs.Function.{body_of, locations_of}
use Rattle.walrus_bodies.specs.Body.{Context, BodyReads, context}
use Rattle.walrus_bodies.specs.BodyRead.{AreDeclared, BodyLocated, Declares}
use Rattle.walrus_bodies.specs.Declarations.{declarations_of}
use Rattle.walrus_bodies.specs.FunctionTypes.{is_function_at}
use Rattle.walrus_bodies.specs.declared.declarations.Declaration.{Declaration}
use Rattle.walrus_bodies.specs.Scanned.{IsPlace}
use Rattle.walrus_bodies.specs.Text.{first_local_of, local_count_of, ops_in}
use Rattle.walrus_functions.specs.Handlers.{handlers_of, params_of}
use Rattle.walrus_functions.specs.ReadFunction.{AddsTypes, locals_from}
use Rattle.walrus_functions.specs.Signatures.{slots_of}
use Rattle.walrus_functions.proofs.HandlerLemmas.{adds_none}
use Rattle.walrus_bodies.proofs.AddedLemmas.{adds_others}
use Rattle.walrus_functions.proofs.PlainLemmas.{no_handlers, none_read, plain_located, plain_reads}
use Rattle.walrus_functions.proofs.plain.take_plain.Goals as goal

pub returns-in_err-add_declared-clause-taken : goal.returns-in_err-add_declared-clause-taken
returns-in_err-add_declared-clause-taken c = λ limits start bytes features tags placed known.
    let d : Context = context (ids_at c.args.indices.now) (is_function_at c.args.types.now) features in
    let types = slots_of c.args.types.now in
    let old = locals c.args.module_locals.now in
    let middle = locals c.add_types.new.module_locals in
    let new = locals c.add_declared.new.module_locals in
    let e = c.in_err-add_declared.field-0.0 in
    let ids = c.in_err-add_declared.ensures.declared.0 in
    let declares = subst (λ (xs : List Declaration). Declares {X = Unit {0}} d.names (declarations_of xs) middle new (λ _. ids) (Err e)) c.as_slice.ensures.value c.in_err-add_declared.ensures.declared.1 in
    none_read d tags (place c.args.ty) types types old middle new limits (length old) (length (params_of (item_at (type_slots c.args.types.now) (place c.args.ty)))) start bytes c.args.plain {X = Unit {0}} (λ _. ids) (λ f. BodyLocated IsPlace start bytes (locations_of f)) c.from_residual-in_err-add_declared.result e known c.from_residual-in_err-add_declared.ensures.1 declares

pub returns-clause-taken : goal.returns-clause-taken
returns-clause-taken c = λ limits start bytes features tags placed known.
    let d : Context = context (ids_at c.args.indices.now) (is_function_at c.args.types.now) features in
    let slots = slots_of c.args.types.now in
    let types = item_at (type_slots c.args.types.now) in
    let holds = is_function_at c.args.types.now in
    let old = locals c.args.module_locals.now in
    let middle = locals c.add_types.new.module_locals in
    let new = locals c.add_declared.new.module_locals in
    let plain = c.args.plain in
    let params = c.params.result.now in
    let asked = params_of (types (place c.args.ty)) in
    let function = c.of_text.result in
    let args = c.in_ok-add_types.ensures.added in
    let ids = c.in_ok-add_declared.ensures.declared.0 in
    let declared : AreDeclared d.names (declarations_of plain.declarations.items) middle new ids = subst (λ (xs : List Declaration). AreDeclared d.names (declarations_of xs) middle new ids) c.as_slice.ensures.value c.in_ok-add_declared.ensures.declared.1 in
    let takes : map val_type params ≡ asked = c.params.ensures ∙ ap params_of (sym c.get.ensures.value) in
    let count : length asked ≡ length params = ap length (sym takes) ∙ length-map params val_type in
    let many : length (map val_type declared.types) ≡ length declared.types = length-map declared.types val_type in
    let ops_are : body_of function ≡ ops_in plain.text = c.of_text.ensures.body in
    let reads = plain_reads d limits (length old) (length asked) start bytes plain (map val_type declared.types) placed known declared.typed in
    let none : handlers_of types tags (body_of function) ≡ [] = ap (handlers_of types tags) ops_are ∙ no_handlers types tags (first_local_of plain.text) (local_count_of plain.text) (ops_in plain.text) c.is_plain.ensures in (
      record {
        own_type = ap place c.of_text.ensures.ty;
        unnamed = c.of_text.ensures.name;
        params = params;
        declared = declared.types;
        takes = takes;
        parameters = c.of_text.ensures.args ∙ ap (λ (n : ℕ). range_with_len n plain.params) known.scanned.begins ∙ ap (range_with_len (length old)) (known.count ∙ count);
        ids = args.0 ++ ids;
        added = adds_others old middle args.0 params args.1 new ids declared.types declared.added;
        reads = subst (λ (ops : List Op). BodyReads d (locals_from (length old) (length params + length declared.types)) bytes (map val_type declared.types) ops) (sym ops_are)
            (subst (λ (n : ℕ). BodyReads d (locals_from (length old) (length params + n)) bytes (map val_type declared.types) (ops_in plain.text)) many
            (subst (λ (n : ℕ). BodyReads d (locals_from (length old) (n + length (map val_type declared.types))) bytes (map val_type declared.types) (ops_in plain.text)) count reads));
        handlers = subst (λ (ps : List ℕ). AddsTypes (handlers_of types tags (body_of function)) slots slots ps) (sym c.of_text.ensures.handler_types) (adds_none (handlers_of types tags (body_of function)) slots none);
      },
      subst (λ (locs : List InstrLocId). BodyLocated IsPlace start bytes locs) (sym c.of_text.ensures.locations) (plain_located limits holds (length old) (length asked) start bytes plain known),
    )
