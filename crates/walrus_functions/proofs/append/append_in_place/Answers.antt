use Rattle.std.proofs.Common.{◌≡◌, ◌<◌, ◌^◌, ◌+◌, ◌-◌, [], inl, inr, None, Ok, Err, length, map, sym, ap, ap₂, ◌∙◌, arith}
use Rattle.std.specs.Prelude.{Vec}
use Rattle.std.specs.Global.{Global}
use Rattle.std.specs.List.{range_with_len}
use Rattle.std.proofs.lemmas.List.{length-map}
use Rattle.std.proofs.lemmas.Result.{err_from_is_err_and}
use Rattle.walrus_base.specs.Id.{place}
use Rattle.walrus_bodies.specs.Blocks.{blocks_hold}
use Rattle.walrus_bodies.specs.Declarations.{declaration, declarations_of}
use Rattle.walrus_bodies.specs.FunctionTypes.{is_function_at}
use Rattle.walrus_bodies.specs.declared.declarations.Declaration.{Declaration}
use Rattle.walrus_bodies.specs.Function.{arg_count_of, args_of, as_text}
use Rattle.walrus_bodies.specs.Text.{first_local_of, local_count_of, ops_in}
use Rattle.walrus_functions.specs.EmittedBody.{FitsType, index_in, source_of}
use Rattle.walrus_functions.specs.declared.append.AppendedBody.{AppendedBody}
use Rattle.walrus_functions.proofs.AppendLemmas.{refused_behind, same_ground}
use Rattle.walrus_functions.proofs.FitLemmas.{untrue}
use Rattle.walrus_functions.proofs.InPlaceWritten as placed
use Rattle.walrus_functions.proofs.InPlaceWritten.{first_args, same_places}
use Rattle.walrus_functions.proofs.append.append_in_place.Goals as goal

pub parameters_fit_from-fits-requires-clause-parameters : goal.parameters_fit_from-fits-requires-clause-parameters
parameters_fit_from-fits-requires-clause-parameters c =
    let f = c.args.function.now in
    let t = c.args.text.now in
    first_args (as_text f) t (args_of f) (arg_count_of f) c.requires.text c.args_are_first.ensures ∙ ap₂ range_with_len (sym c.first_local-first.ensures) (sym c.arg_count-params.ensures)

pub returns-then-not-fits : goal.returns-then-not-fits
returns-then-not-fits c =
    let s = source_of c.args.indices.now c.args.module_locals.now c.args.types.now c.args.function.now c.args.features.now in
    let unfit : FitsType s.def s.slots s.parameters → ⊥ = (λ fits. untrue _ (c.parameters_fit_from-fits.ensures.1 (fits.types, (fits.taken, fits.typed))) c.if-not-fits.true) in
    ([], [], (λ _. None), [], [], (inr (inr (inl unfit)), tt))

pub returns-in_err-hold : goal.returns-in_err-hold
returns-in_err-hold c = let p = err_from_is_err_and c.from_residual.result c.from_residual.ensures.1 in rw (p.1, p.2) ([], [], (λ _. None), [], [], (tt, tt))

pub returns-then-not-hold : goal.returns-then-not-hold
returns-then-not-hold c =
    let unheld = ap (blocks_hold (is_function_at c.args.types.now)) c.requires.body ∙ sym c.in_ok-hold.ensures ∙ c.if-not-hold.true in
    ([], [], (λ _. None), [], [], (inr (inl unheld), tt))

pub declare_from-requires-clause-there : goal.declare_from-requires-clause-there
declare_from-requires-clause-there c = λ x from low.
    let f = c.args.function.now in
    let t = c.args.text.now in
    let s = source_of c.args.indices.now c.args.module_locals.now c.args.types.now f c.args.features.now in
    let first = first_local_of t in
    let params = arg_count_of f in
    let count = local_count_of t in
    let few : count < 2 ^ 32 = omega (arith, c.local_count-count.ensures) in
    let args_are = first_args (as_text f) t (args_of f) params c.requires.text c.args_are_first.ensures in
    placed.there s (ops_in t) first params count c.requires.body c.is_plain.ensures c.requires.kept few args_are x (omega (arith, from, c.first_local-first.ensures, c.arg_count-params.ensures)) (omega (arith, low, c.first_local-first.ensures, c.local_count-count.ensures))

pub returns-in_err-declarations : goal.returns-in_err-declarations
returns-in_err-declarations c =
    let f = c.args.function.now in
    let t = c.args.text.now in
    let s = source_of c.args.indices.now c.args.module_locals.now c.args.types.now f c.args.features.now in
    let first = first_local_of t in
    let params = arg_count_of f in
    let count = local_count_of t in
    let few : count < 2 ^ 32 = omega (arith, c.local_count-count.ensures) in
    let args_are = first_args (as_text f) t (args_of f) params c.requires.text c.args_are_first.ensures in
    let coded = range_with_len (c.first_local-first.result + c.arg_count-params.result) ((c.first_local-first.result + c.local_count-count.result) - (c.first_local-first.result + c.arg_count-params.result)) in
    let is : coded ≡ range_with_len (first + params) (count - params) = same_places c.first_local-first.result c.arg_count-params.result c.local_count-count.result first params count c.first_local-first.ensures c.arg_count-params.ensures c.local_count-count.ensures in
    let p = err_from_is_err_and c.from_residual-in_err-declarations.result c.from_residual-in_err-declarations.ensures.1 in
    ([], [], (λ _. None), [], [], (placed.refused s (ops_in t) first params count c.requires.body c.is_plain.ensures c.requires.kept few args_are coded is {X = AppendedBody} (λ (ds : Vec Declaration Global). declarations_of ds.items) c.from_residual-in_err-declarations.result c.in_err-declarations.field-0.0 c.from_residual-in_err-declarations.ensures.1 c.in_err-declarations.ensures, rw p.1 tt))

pub write_kept-requires : goal.write_kept-requires
write_kept-requires c =
    let f = c.args.function.now in
    let t = c.args.text.now in
    let s = source_of c.args.indices.now c.args.module_locals.now c.args.types.now f c.args.features.now in
    let first = first_local_of t in
    let params = arg_count_of f in
    let count = local_count_of t in
    let few : count < 2 ^ 32 = omega (arith, c.local_count-count.ensures) in
    let args_are = first_args (as_text f) t (args_of f) params c.requires.text c.args_are_first.ensures in
    let coded = range_with_len (c.first_local-first.result + c.arg_count-params.result) ((c.first_local-first.result + c.local_count-count.result) - (c.first_local-first.result + c.arg_count-params.result)) in
    let is : coded ≡ range_with_len (first + params) (count - params) = same_places c.first_local-first.result c.arg_count-params.result c.local_count-count.result first params count c.first_local-first.ensures c.arg_count-params.ensures c.local_count-count.ensures in
    let ds = c.in_ok-declarations.declarations.items in
    let small = placed.few_written s (ops_in t) first params count c.requires.body c.is_plain.ensures c.requires.kept few args_are coded is (declarations_of ds) c.in_ok-declarations.ensures in
    let same = length-map ds declaration in
    let slice = ap length c.as_slice.ensures.value in
    omega (arith, small, same, slice)

pub returns-in_err-write_kept : goal.returns-in_err-write_kept
returns-in_err-write_kept c =
    let f = c.args.function.now in
    let t = c.args.text.now in
    let s = source_of c.args.indices.now c.args.module_locals.now c.args.types.now f c.args.features.now in
    let first = first_local_of t in
    let params = arg_count_of f in
    let count = local_count_of t in
    let few : count < 2 ^ 32 = omega (arith, c.local_count-count.ensures) in
    let args_are = first_args (as_text f) t (args_of f) params c.requires.text c.args_are_first.ensures in
    let coded = range_with_len (c.first_local-first.result + c.arg_count-params.result) ((c.first_local-first.result + c.local_count-count.result) - (c.first_local-first.result + c.arg_count-params.result)) in
    let is : coded ≡ range_with_len (first + params) (count - params) = same_places c.first_local-first.result c.arg_count-params.result c.local_count-count.result first params count c.first_local-first.ensures c.arg_count-params.ensures c.local_count-count.ensures in
    let p = err_from_is_err_and c.from_residual-in_err-write_kept.result c.from_residual-in_err-write_kept.ensures.1 in
    let numbers = index_in s (range_with_len (first + params) (count - params)) in
    let ds = declarations_of c.in_ok-declarations.declarations.items in
    let all = c.in_err-write_kept.ensures numbers s.features (placed.agree s (ops_in t) first params count c.requires.body c.is_plain.ensures c.requires.kept few args_are) in
    let cause = same_ground {Y = Unit {0}} s.names numbers s.features s.ops (ops_in t) c.in_ok-declarations.declarations.items c.as_slice.result.now (λ _. all.0) (λ _. all.1) (Err c.in_err-write_kept.field-0.0) c.requires.body c.as_slice.ensures.value all.2.0 in
    placed.made s (ops_in t) first params count c.requires.body c.is_plain.ensures c.requires.kept few args_are coded is ds c.in_ok-declarations.ensures (c.parameters_fit_from-fits.ensures.0 c.if-not-fits.false) (ap (blocks_hold (is_function_at c.args.types.now)) c.requires.body ∙ sym c.in_ok-hold.ensures ∙ c.if-not-hold.false)
    c.write_kept.new.to.items c.args.to.now.items (λ (body : AppendedBody). map place body.order.items) (λ (body : AppendedBody). body.used.items) c.from_residual-in_err-write_kept.result
    (all.0, all.1, (refused_behind {Y = AppendedBody} {Z = Unit {0}} s.names numbers s.features s.ops ds (λ _. all.0) (λ _. all.1) (λ _. all.0) (λ _. all.1) c.from_residual-in_err-write_kept.result c.in_err-write_kept.field-0.0 c.from_residual-in_err-write_kept.ensures.1 cause, rw p.1 tt))

pub returns : goal.returns
returns c =
    let f = c.args.function.now in
    let t = c.args.text.now in
    let s = source_of c.args.indices.now c.args.module_locals.now c.args.types.now f c.args.features.now in
    let first = first_local_of t in
    let params = arg_count_of f in
    let count = local_count_of t in
    let few : count < 2 ^ 32 = omega (arith, c.local_count-count.ensures) in
    let args_are = first_args (as_text f) t (args_of f) params c.requires.text c.args_are_first.ensures in
    let coded = range_with_len (c.first_local-first.result + c.arg_count-params.result) ((c.first_local-first.result + c.local_count-count.result) - (c.first_local-first.result + c.arg_count-params.result)) in
    let is : coded ≡ range_with_len (first + params) (count - params) = same_places c.first_local-first.result c.arg_count-params.result c.local_count-count.result first params count c.first_local-first.ensures c.arg_count-params.ensures c.local_count-count.ensures in
    let numbers = index_in s (range_with_len (first + params) (count - params)) in
    let ds = declarations_of c.in_ok-declarations.declarations.items in
    let all = c.in_ok-write_kept.ensures numbers s.features (placed.agree s (ops_in t) first params count c.requires.body c.is_plain.ensures c.requires.kept few args_are) in
    let behind = same_ground {Y = Unit {0}} s.names numbers s.features s.ops (ops_in t) c.in_ok-declarations.declarations.items c.as_slice.result.now (λ _. all.0) (λ _. all.1) (Ok tt) c.requires.body c.as_slice.ensures.value all.2.0 in
    placed.made s (ops_in t) first params count c.requires.body c.is_plain.ensures c.requires.kept few args_are coded is ds c.in_ok-declarations.ensures (c.parameters_fit_from-fits.ensures.0 c.if-not-fits.false) (ap (blocks_hold (is_function_at c.args.types.now)) c.requires.body ∙ sym c.in_ok-hold.ensures ∙ c.if-not-hold.false)
    c.write_kept.new.to.items c.args.to.now.items (λ (body : AppendedBody). map place body.order.items) (λ (body : AppendedBody). body.used.items) (Ok (record { order = c.new.result; used = c.new-2.result }))
    (all.0, all.1, (behind, all.2.1))
