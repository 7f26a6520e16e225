use Rattle.std.proofs.Common.{◌≡◌, ◌<◌, ◌^◌, ◌+◌, ◌++◌, ◌-◌, [], inl, inr, ℕ, Bool, true, List, Option, None, Result, Ok, Err, IfOk, length, map, take, drop, sym, ap, ◌∙◌, subst, refl, arith}
use Rattle.std.specs.Prelude.{All, IsSome, Vec}
use Rattle.std.specs.Global.{Global}
use Rattle.std.specs.List.{range_with_len}
use Rattle.std.proofs.lemmas.List.{length-map}
use Rattle.std.proofs.lemmas.Result.{err_from_is_err_and}
use Rattle.wasm_forms.specs.declared.types.RawVal.{RawVal}
use Rattle.walrus_base.specs.Arena.{item_at}
use Rattle.walrus_base.specs.Id.{place}
use Rattle.walrus_base.specs.declared.id.Id.{Id}
use Rattle.walrus_base.specs.declared.keys.LocalKey.{LocalKey}
use Rattle.walrus_base.specs.Operators.{Op, locals_of}
use Rattle.walrus_code.specs.declared.error.IrError.{IrError}
use Rattle.walrus_bodies.specs.Blocks.{blocks_hold}
use Rattle.walrus_bodies.specs.Declarations.{declaration, declarations_of}
use Rattle.walrus_bodies.specs.FunctionTypes.{is_function_at}
use Rattle.walrus_bodies.specs.declared.declarations.Declaration.{Declaration}
use Rattle.walrus_bodies.specs.Function.{arg_count_of, args_of, as_text}
use Rattle.walrus_bodies.specs.Locals.{AreMarked}
use Rattle.walrus_bodies.specs.Text.{first_local_of, local_count_of, ops_in}
use Rattle.walrus_functions.specs.EmittedBody.{EmitsBody, FitsType, Source, index_in, source_of}
use Rattle.walrus_functions.specs.Kept.{KeepsIndices}
use Rattle.walrus_functions.specs.declared.append.AppendedBody.{AppendedBody}
use Rattle.walrus_functions.specs.Writing.{DeclaresLocals, HasSignature, LocalsDeclared, WritesBehind}
use Rattle.walrus_functions.proofs.AppendLemmas.{refused_behind, same_ground}
use Rattle.walrus_functions.proofs.FitLemmas.{untrue}
use Rattle.walrus_functions.proofs.InPlaceWritten.{first_args}
use Rattle.walrus_functions.proofs.KeptWritten as written
use Rattle.walrus_functions.proofs.WrittenLemmas.{all_there, few_declarations, refused_declared}
use Rattle.walrus_functions.proofs.append.append_kept.Goals as goal

abbrev Local : Type 0
Local = Id LocalKey

pub returns-in_err-order : goal.returns-in_err-order
returns-in_err-order c = let p = err_from_is_err_and c.from_residual.result c.from_residual.ensures.1 in rw (p.1, p.2) ([], [], (λ _. None), (tt, tt))

pub split_at-requires : goal.split_at-requires
split_at-requires c =
    let f = c.args.function.now in
    let within = c.requires.kept.within in
    let many = written.as_many place c.in_ok-order.order.items (first_local_of c.args.text.now) (local_count_of c.args.text.now) (arg_count_of f) c.in_ok-order.ensures within in
    let slice = ap length c.as_slice.ensures.value in
    omega (arith, within, many, slice, c.arg_count.ensures)

pub parameters_fit-fits-requires : goal.parameters_fit-fits-requires
parameters_fit-fits-requires c =
    let f = c.args.function.now in
    let t = c.args.text.now in
    let ids = c.in_ok-order.order.items in
    let args_are = first_args (as_text f) t (args_of f) (arg_count_of f) c.requires.text c.args_are_first.ensures in
    ap (map place) c.split_at.ensures.front
    ∙ ap (λ (xs : List Local). map place (take c.arg_count.result xs)) c.as_slice.ensures.value
    ∙ ap (λ (n : ℕ). map place (take n ids)) c.arg_count.ensures
    ∙ written.front place ids (first_local_of t) (local_count_of t) (arg_count_of f) c.in_ok-order.ensures c.requires.kept.within
    ∙ sym args_are

pub returns-then-not-fits : goal.returns-then-not-fits
returns-then-not-fits c =
    let s = source_of c.args.indices.now c.args.module_locals.now c.args.types.now c.args.function.now c.args.features.now in
    let unfit : FitsType s.def s.slots s.parameters → ⊥ = (λ fits. untrue _ (c.parameters_fit-fits.ensures.1 (fits.types, (fits.taken, fits.typed))) c.if-not-fits.true) in
    ([], [], (λ _. None), (inr (inr (inl unfit)), tt))

pub returns-in_err-hold : goal.returns-in_err-hold
returns-in_err-hold c = let p = err_from_is_err_and c.from_residual-in_err-hold.result c.from_residual-in_err-hold.ensures.1 in rw (p.1, p.2) ([], [], (λ _. None), (tt, tt))

pub returns-then-not-hold : goal.returns-then-not-hold
returns-then-not-hold c =
    let unheld = ap (blocks_hold (is_function_at c.args.types.now)) c.requires.body ∙ sym c.in_ok-hold.ensures ∙ c.if-not-hold.true in
    ([], [], (λ _. None), (inr (inl unheld), tt))

-- what is known of the locals, and of those that are declared
module _ (s : Source) (flags : List Bool) (first params count : ℕ) (k : KeepsIndices s.slots flags first params count) (marked : AreMarked first flags (locals_of s.ops)) (many : length flags ≡ count) (few : count < 2 ^ 32) (args_are : s.parameters ≡ range_with_len first params) where
  abbrev order : List ℕ
  order = range_with_len (first + params) (count - params)

  module _ (ids slice declared : List Local) (mid : ℕ) (are : map place ids ≡ range_with_len first count) (whole : slice ≡ ids) (middle : mid ≡ params) (behind : declared ≡ drop mid slice) where
    declared_are : map place declared ≡ order
    declared_are =
        ap (map place) behind
        ∙ ap (λ (xs : List Local). map place (drop mid xs)) whole
        ∙ ap (λ (n : ℕ). map place (drop n ids)) middle
        ∙ written.back place ids first count params are k.within

    there : All (λ id. IsSome (item_at s.slots (place id))) declared
    there = all_there s order (written.declared s flags first params count marked many k few args_are) place declared declared_are

    few_declared : length declared < 2 ^ 32
    few_declared =
        let size = ap length declared_are in
        let long = length-map declared place in
        let small = written.few_order s flags first params count marked many k few args_are in
        omega (arith, size, long, small)

    -- the answers below are these, for the values of the function
    module _ (ds : List (ℕ × RawVal)) (are_declared : LocalsDeclared s.names s.slots (map place declared) ds) where
      locals_declared : LocalsDeclared s.names s.slots order ds
      locals_declared = subst (λ (ps : List ℕ). LocalsDeclared s.names s.slots ps ds) declared_are are_declared

      few_written : length ds < 2 ^ 32
      few_written = few_declarations s order (written.declared s flags first params count marked many k few args_are) ds locals_declared (written.few_order s flags first params count marked many k few args_are)

      module _ (fits : HasSignature s.def s.slots s.parameters) (blocks : blocks_hold s.is_function_type s.ops ≡ true) {X : Type 0} (new old : List ℕ) (i : X → List ℕ) (u : X → List Bool) where
        made : (r : Result X IrError) → IfOk r (λ x. (i x ≡ map place ids) × (u x ≡ flags))
            → (bytes places : List ℕ) × (WritesBehind s.names (index_in s order) s.features s.ops ds (λ _. bytes) (λ _. places) r × IfOk r (λ _. new ≡ old ++ bytes))
            → (bytes places : List ℕ) × (numbers : ℕ → Option ℕ) × (EmitsBody s (λ _. bytes) (λ _. places) (λ _. numbers) i u r × IfOk r (λ _. new ≡ old ++ bytes))
        made r same w = (w.0, w.1, index_in s order, (written.emitted s flags first params count marked many k few args_are (map place ids) are ds locals_declared fits blocks w.0 w.1 i u r same w.2.0, w.2.1))

pub declare-requires-clause-there : goal.declare-requires-clause-there
declare-requires-clause-there c =
    let f = c.args.function.now in
    let t = c.args.text.now in
    let s = source_of c.args.indices.now c.args.module_locals.now c.args.types.now f c.args.features.now in
    let first = first_local_of t in
    let params = arg_count_of f in
    let count = local_count_of t in
    let flags = c.args.used.items in
    let k = c.requires.kept in
    let args_are = first_args (as_text f) t (args_of f) params c.requires.text c.args_are_first.ensures in
    let marked : AreMarked first flags (locals_of s.ops) = subst (λ (ops : List Op). AreMarked first flags (locals_of ops)) (sym c.requires.body) c.requires.used in
    there s flags first params count k marked c.requires.many c.requires.few args_are c.in_ok-order.order.items c.as_slice.result.now c.split_at.result.1.now c.arg_count.result c.in_ok-order.ensures c.as_slice.ensures.value c.arg_count.ensures c.split_at.ensures.back

pub declare-requires-clause-few : goal.declare-requires-clause-few
declare-requires-clause-few c =
    let f = c.args.function.now in
    let t = c.args.text.now in
    let s = source_of c.args.indices.now c.args.module_locals.now c.args.types.now f c.args.features.now in
    let first = first_local_of t in
    let params = arg_count_of f in
    let count = local_count_of t in
    let flags = c.args.used.items in
    let k = c.requires.kept in
    let args_are = first_args (as_text f) t (args_of f) params c.requires.text c.args_are_first.ensures in
    let marked : AreMarked first flags (locals_of s.ops) = subst (λ (ops : List Op). AreMarked first flags (locals_of ops)) (sym c.requires.body) c.requires.used in
    few_declared s flags first params count k marked c.requires.many c.requires.few args_are c.in_ok-order.order.items c.as_slice.result.now c.split_at.result.1.now c.arg_count.result c.in_ok-order.ensures c.as_slice.ensures.value c.arg_count.ensures c.split_at.ensures.back

pub returns-in_err-declarations : goal.returns-in_err-declarations
returns-in_err-declarations c =
    let f = c.args.function.now in
    let t = c.args.text.now in
    let s = source_of c.args.indices.now c.args.module_locals.now c.args.types.now f c.args.features.now in
    let first = first_local_of t in
    let params = arg_count_of f in
    let count = local_count_of t in
    let flags = c.args.used.items in
    let k = c.requires.kept in
    let args_are = first_args (as_text f) t (args_of f) params c.requires.text c.args_are_first.ensures in
    let marked : AreMarked first flags (locals_of s.ops) = subst (λ (ops : List Op). AreMarked first flags (locals_of ops)) (sym c.requires.body) c.requires.used in
    let p = err_from_is_err_and c.from_residual-in_err-declarations.result c.from_residual-in_err-declarations.ensures.1 in
    let order = range_with_len (first + params) (count - params) in
    let cause = subst (λ (ps : List ℕ). DeclaresLocals s.names s.slots ps (λ (ds : Vec Declaration Global). declarations_of ds.items) (Err c.in_err-declarations.field-0.0)) (declared_are s flags first params count k marked c.requires.many c.requires.few args_are c.in_ok-order.order.items c.as_slice.result.now c.split_at.result.1.now c.arg_count.result c.in_ok-order.ensures c.as_slice.ensures.value c.arg_count.ensures c.split_at.ensures.back) c.in_err-declarations.ensures in
    ([], [], (λ _. None), (refused_declared s order (written.declared s flags first params count marked c.requires.many k c.requires.few args_are) _ _ _ _ _ (λ (ds : Vec Declaration Global). declarations_of ds.items) c.from_residual-in_err-declarations.result c.in_err-declarations.field-0.0 c.from_residual-in_err-declarations.ensures.1 cause, rw p.1 tt))

pub write_kept-requires : goal.write_kept-requires
write_kept-requires c =
    let f = c.args.function.now in
    let t = c.args.text.now in
    let s = source_of c.args.indices.now c.args.module_locals.now c.args.types.now f c.args.features.now in
    let first = first_local_of t in
    let params = arg_count_of f in
    let count = local_count_of t in
    let flags = c.args.used.items in
    let k = c.requires.kept in
    let args_are = first_args (as_text f) t (args_of f) params c.requires.text c.args_are_first.ensures in
    let marked : AreMarked first flags (locals_of s.ops) = subst (λ (ops : List Op). AreMarked first flags (locals_of ops)) (sym c.requires.body) c.requires.used in
    let ds = c.in_ok-declarations.declarations.items in
    let small = few_written s flags first params count k marked c.requires.many c.requires.few args_are c.in_ok-order.order.items c.as_slice.result.now c.split_at.result.1.now c.arg_count.result c.in_ok-order.ensures c.as_slice.ensures.value c.arg_count.ensures c.split_at.ensures.back (declarations_of ds) c.in_ok-declarations.ensures in
    let same = length-map ds declaration in
    let slice = ap length c.as_slice-2.ensures.value in
    omega (arith, small, same, slice)

pub returns-in_err-write_kept : goal.returns-in_err-write_kept
returns-in_err-write_kept c =
    let f = c.args.function.now in
    let t = c.args.text.now in
    let s = source_of c.args.indices.now c.args.module_locals.now c.args.types.now f c.args.features.now in
    let first = first_local_of t in
    let params = arg_count_of f in
    let count = local_count_of t in
    let flags = c.args.used.items in
    let k = c.requires.kept in
    let args_are = first_args (as_text f) t (args_of f) params c.requires.text c.args_are_first.ensures in
    let marked : AreMarked first flags (locals_of s.ops) = subst (λ (ops : List Op). AreMarked first flags (locals_of ops)) (sym c.requires.body) c.requires.used in
    let p = err_from_is_err_and c.from_residual-in_err-write_kept.result c.from_residual-in_err-write_kept.ensures.1 in
    let numbers = index_in s (range_with_len (first + params) (count - params)) in
    let ds = declarations_of c.in_ok-declarations.declarations.items in
    let all = c.in_err-write_kept.ensures numbers s.features (written.agree s flags first params count marked c.requires.many k c.requires.few args_are) in
    let cause = same_ground {Y = Unit {0}} s.names numbers s.features s.ops (ops_in t) c.in_ok-declarations.declarations.items c.as_slice-2.result.now (λ _. all.0) (λ _. all.1) (Err c.in_err-write_kept.field-0.0) c.requires.body c.as_slice-2.ensures.value all.2.0 in
    made s flags first params count k marked c.requires.many c.requires.few args_are c.in_ok-order.order.items c.as_slice.result.now c.split_at.result.1.now c.arg_count.result c.in_ok-order.ensures c.as_slice.ensures.value c.arg_count.ensures c.split_at.ensures.back ds c.in_ok-declarations.ensures (c.parameters_fit-fits.ensures.0 c.if-not-fits.false) (ap (blocks_hold (is_function_at c.args.types.now)) c.requires.body ∙ sym c.in_ok-hold.ensures ∙ c.if-not-hold.false)
    c.write_kept.new.to.items c.args.to.now.items (λ (body : AppendedBody). map place body.order.items) (λ (body : AppendedBody). body.used.items) c.from_residual-in_err-write_kept.result (rw p.1 tt)
    (all.0, all.1, (refused_behind {Y = AppendedBody} {Z = Unit {0}} s.names numbers s.features s.ops ds (λ _. all.0) (λ _. all.1) (λ _. all.0) (λ _. all.1) c.from_residual-in_err-write_kept.result c.in_err-write_kept.field-0.0 c.from_residual-in_err-write_kept.ensures.1 cause, rw p.1 tt))

pub returns : goal.returns
returns c =
    let f = c.args.function.now in
    let t = c.args.text.now in
    let s = source_of c.args.indices.now c.args.module_locals.now c.args.types.now f c.args.features.now in
    let first = first_local_of t in
    let params = arg_count_of f in
    let count = local_count_of t in
    let flags = c.args.used.items in
    let k = c.requires.kept in
    let args_are = first_args (as_text f) t (args_of f) params c.requires.text c.args_are_first.ensures in
    let marked : AreMarked first flags (locals_of s.ops) = subst (λ (ops : List Op). AreMarked first flags (locals_of ops)) (sym c.requires.body) c.requires.used in
    let numbers = index_in s (range_with_len (first + params) (count - params)) in
    let ds = declarations_of c.in_ok-declarations.declarations.items in
    let all = c.in_ok-write_kept.ensures numbers s.features (written.agree s flags first params count marked c.requires.many k c.requires.few args_are) in
    let behind = same_ground {Y = Unit {0}} s.names numbers s.features s.ops (ops_in t) c.in_ok-declarations.declarations.items c.as_slice-2.result.now (λ _. all.0) (λ _. all.1) (Ok tt) c.requires.body c.as_slice-2.ensures.value all.2.0 in
    made s flags first params count k marked c.requires.many c.requires.few args_are c.in_ok-order.order.items c.as_slice.result.now c.split_at.result.1.now c.arg_count.result c.in_ok-order.ensures c.as_slice.ensures.value c.arg_count.ensures c.split_at.ensures.back ds c.in_ok-declarations.ensures (c.parameters_fit-fits.ensures.0 c.if-not-fits.false) (ap (blocks_hold (is_function_at c.args.types.now)) c.requires.body ∙ sym c.in_ok-hold.ensures ∙ c.if-not-hold.false)
    c.write_kept.new.to.items c.args.to.now.items (λ (body : AppendedBody). map place body.order.items) (λ (body : AppendedBody). body.used.items) (Ok (record { order = c.in_ok-order.order; used = c.args.used })) (refl, refl)
    (all.0, all.1, (behind, all.2.1))
