use Rattle.std.proofs.Common.{◌≡◌, [], ◌∷◌, ◌++◌, get_or, ap, ◌∙◌}
use Rattle.std.specs.Prelude.{length}
use Rattle.std.specs.Fn.{FnReturnsAt}
use Rattle.walrus_functions.specs.ReadFunction.{Given, StaysInFront}
use Rattle.std.proofs.lemmas.Result.{err_from_is_err_and}
use Rattle.walrus_base.specs.Locals.{locals}
use Rattle.walrus_base.specs.ModuleTypes.{type_slots}
use Rattle.walrus_bodies.specs.FunctionTypes.{is_function_def}
use Rattle.walrus_code.specs.Indices.{ids_at}
use Rattle.walrus_functions.specs.Signatures.{slots_of}
use Rattle.walrus_items.specs.Functions.{functions}
use Rattle.walrus_reading.specs.Taken.{context_under, tags_under, types_in}
use Rattle.walrus_reading.proofs.FoundTypes.{all_stay}
use Rattle.walrus_reading.proofs.Grown.{same_there}
use Rattle.walrus_reading.proofs.TakenBefore.{refused_before, taken_before}
use Rattle.walrus_reading.proofs.TakenBody.{none_taken, one_more, all_taken, one_refused}
use Rattle.walrus_reading.proofs.Locating.{none_located, more_located, all_located}
use Rattle.wasm_frames.specs.Record.{body_record}
use Rattle.walrus_reading.proofs.functions.add_functions.Goals as goal

pub add_function-requires-clause-typed : goal.add_function-requires-clause-typed
add_function-requires-clause-typed g c =
    let done = c.loop-place.invariant.taken in
    let stays : StaysInFront (type_slots c.args.types.now) (type_slots c.loop-place.types) = all_stay (types_in c.args.types.now) (tags_under c.args.under.now) done.said done.functions.added (slots_of c.args.types.now) (slots_of c.loop-place.types) done.handlers in
    let declared = c.requires.declared c.loop-place.place _ c.loop-place-test.true in
    ap is_function_def (same_there (type_slots c.args.types.now) (type_slots c.loop-place.types) stays _ (c.requires.there.indexed _ _ declared)) ∙ c.requires.typed c.loop-place.place _ c.loop-place-test.true

pub returns-in_err-add_function-clause-taken : goal.returns-in_err-add_function-clause-taken
returns-in_err-add_function-clause-taken g c =
    let done = c.loop-place.invariant.taken in
    let stays : StaysInFront (type_slots c.args.types.now) (type_slots c.loop-place.types) = all_stay (types_in c.args.types.now) (tags_under c.args.under.now) done.said done.functions.added (slots_of c.args.types.now) (slots_of c.loop-place.types) done.handlers in
    let p = err_from_is_err_and c.from_residual-in_err-add_function.result c.from_residual-in_err-add_function.ensures.1 in
    rw (p.1, p.2) (one_refused (context_under c.args.under.now c.args.types.now) (types_in c.args.types.now) (tags_under c.args.under.now) c.args.of_types.now c.args.bodies.now c.requires.as_many
    c.loop-place.place _ _ (slots_of c.loop-place.types) (slots_of c.add_function.new.types) (locals c.loop-place.all) (locals c.add_function.new.all) c.add_function.new.all (slots_of c.args.types.now) (slots_of c.add_function.new.types)
    (functions c.loop-place.funcs) (functions c.add_function.new.funcs) (functions c.args.funcs.now) (functions c.add_function.new.funcs) c.loop-place.starts.items _ c.loop-place-test.true done
    (refused_before (ids_at c.args.under.now.indices.now) c.args.under.now.features.now (tags_under c.args.under.now) (slots_of c.args.types.now) (slots_of c.loop-place.types) (slots_of c.add_function.new.types) c.requires.there stays
    (get_or c.args.of_types.now c.loop-place.place _, body_record (get_or c.args.bodies.now c.loop-place.place _)) (c.requires.declared c.loop-place.place _ c.loop-place-test.true)
    (locals c.loop-place.all) (locals c.add_function.new.all) (functions c.loop-place.funcs) (functions c.add_function.new.funcs) _ c.in_err-add_function.ensures.taken))

pub loop-place-init : goal.loop-place-init
loop-place-init g c = record {
  taken = none_taken (context_under c.args.under.now c.args.types.now) (types_in c.args.types.now) (tags_under c.args.under.now) c.args.of_types.now c.args.bodies.now c.requires.as_many
      (slots_of c.args.types.now) (locals c.args.all.now) (functions c.args.funcs.now) (functions c.reserve.new.self) c.requires.no_locals c.reserve.ensures.same _ c.in_ok-starts.ensures.begun;
  known = c.new-handlers.ensures (type_slots c.args.types.now);
  located = none_located (Given c.args.under.now.texts (FnReturnsAt g.L.Fn c.args.under.now.locate.now)) c.args.of_types.now c.args.bodies.now c.requires.as_many (functions c.args.funcs.now) (functions c.reserve.new.self) c.reserve.ensures.same;
}

pub loop-place-preserved : goal.loop-place-preserved
loop-place-preserved g c =
    let done = c.loop-place.invariant.taken in
    let stays : StaysInFront (type_slots c.args.types.now) (type_slots c.loop-place.types) = all_stay (types_in c.args.types.now) (tags_under c.args.under.now) done.said done.functions.added (slots_of c.args.types.now) (slots_of c.loop-place.types) done.handlers in
    let t = c.in_ok-add_function.ensures.taken in
    let l = c.in_ok-add_function.ensures.located in
    let end : c.index-end.result ≡ length (locals c.add_function.new.all) = c.index-end.ensures ∙ c.next_id.ensures in
    record {
      taken = one_more (context_under c.args.under.now c.args.types.now) (types_in c.args.types.now) (tags_under c.args.under.now) c.args.of_types.now c.args.bodies.now c.requires.as_many
          c.loop-place.place _ _ (slots_of c.args.types.now) (slots_of c.loop-place.types) (slots_of c.add_function.new.types) (locals c.loop-place.all) (locals c.add_function.new.all)
          (functions c.args.funcs.now) (functions c.loop-place.funcs) (functions c.add_function.new.funcs) c.loop-place.starts.items _ c.loop-place-test.true done t.0 t.1.0
          (taken_before (ids_at c.args.under.now.indices.now) c.args.under.now.features.now (tags_under c.args.under.now) (slots_of c.args.types.now) (slots_of c.loop-place.types) (slots_of c.add_function.new.types) c.requires.there stays
          (get_or c.args.of_types.now c.loop-place.place _, body_record (get_or c.args.bodies.now c.loop-place.place _)) (c.requires.declared c.loop-place.place _ c.loop-place-test.true)
          (locals c.loop-place.all) (locals c.add_function.new.all) (length (functions c.loop-place.funcs)) t.0 t.1.1) (c.in_ok-push.ensures.items ∙ ap (λ n. c.loop-place.starts.items ++ n ∷ []) end);
      known = c.in_ok-add_function.ensures.known;
      located = more_located (Given c.args.under.now.texts (FnReturnsAt g.L.Fn c.args.under.now.locate.now)) c.args.of_types.now c.args.bodies.now c.requires.as_many c.loop-place.place _ (functions c.args.funcs.now) (functions c.loop-place.funcs) (functions c.add_function.new.funcs) c.loop-place-test.true c.loop-place.invariant.located l.0 l.1.0 l.1.1;
    }

pub returns-clause-taken : goal.returns-clause-taken
returns-clause-taken g c =
    all_taken (context_under c.args.under.now c.args.types.now) (types_in c.args.types.now) (tags_under c.args.under.now) c.args.of_types.now c.args.bodies.now c.requires.as_many
    c.loop-place.place (slots_of c.args.types.now) (slots_of c.loop-place.types) (locals c.loop-place.all) (functions c.args.funcs.now) (functions c.loop-place.funcs) c.loop-place.starts.items c.loop-place-test.false c.loop-place.invariant.taken

pub returns-clause-located : goal.returns-clause-located
returns-clause-located g c = all_located (Given c.args.under.now.texts (FnReturnsAt g.L.Fn c.args.under.now.locate.now)) c.args.of_types.now c.args.bodies.now c.requires.as_many c.loop-place.place (functions c.args.funcs.now) (functions c.loop-place.funcs) c.loop-place-test.false c.loop-place.invariant.located
