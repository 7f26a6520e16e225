use Rattle.std.proofs.Common.{◌≡◌, ◌<◌, ◌+◌, [], inl, inr, ℕ, true, List, Option, Some, None, Ok, Err, map, sym, ap, ◌∙◌, subst, refl, arith}
use Rattle.std.specs.Prelude.{IfSome}
use Rattle.std.specs.List.{range_with_len}
use Rattle.std.proofs.lemmas.Result.{err_from_is_err_and}
use Rattle.walrus_base.specs.Arena.{item_at}
use Rattle.walrus_base.specs.Id.{place}
use Rattle.walrus_base.specs.declared.id.Id.{Id}
use Rattle.walrus_base.specs.declared.keys.TypeKey.{TypeKey}
use Rattle.walrus_base.specs.ModuleTypes.{type_slots}
use Rattle.walrus_base.specs.Operators.{Op, locals_of}
use Rattle.walrus_base.specs.TypeDef.{TypeDef}
use Rattle.walrus_bodies.specs.Blocks.{blocks_hold}
use Rattle.walrus_bodies.specs.FunctionTypes.{is_function_at}
use Rattle.walrus_bodies.specs.Function.{arg_count_of, args_of, as_text, body_of, function_type}
use Rattle.walrus_bodies.specs.Plain.{are_plain}
use Rattle.walrus_bodies.specs.Text.{first_local_of, local_count_of, ops_in}
use Rattle.walrus_bodies.specs.declared.text.Text.{Text}
use Rattle.walrus_functions.specs.EmittedBody.{FitsType, index_in, source_of, takes}
use Rattle.walrus_functions.specs.declared.append.AppendedBody.{AppendedBody}
use Rattle.walrus_functions.proofs.AppendLemmas.{refused_behind, same_ground}
use Rattle.walrus_functions.proofs.BareWritten as bare
use Rattle.walrus_functions.proofs.KeptLemmas.{no_locals}
use Rattle.walrus_functions.proofs.FitLemmas.{untrue}
use Rattle.walrus_functions.proofs.append.append_bare.Goals as goal

without : (o : Option Text) (t : Text) (args : List ℕ) (params : ℕ) → o ≡ Some t → IfSome o (λ text. args ≡ range_with_len (first_local_of text) params) → params ≡ 0 → args ≡ []
without o t args params is h none = subst (λ (p : Option Text). IfSome p (λ text. args ≡ range_with_len (first_local_of text) params)) is h ∙ ap (range_with_len (first_local_of t)) none

no_names : (first count : ℕ) (ops given : List Op) → are_plain first count ops ≡ true → count ≡ 0 → given ≡ ops → locals_of given ≡ []
no_names first count ops given plain none same = ap locals_of same ∙ no_locals first ops (subst (λ (n : ℕ). are_plain first n ops ≡ true) none plain)

at_type : (defs : List (Option TypeDef)) (ty other : Id TypeKey) → ty ≡ other → takes (item_at defs (place ty)) ≡ Some [] → takes (item_at defs (place other)) ≡ Some []
at_type defs ty other same h = subst (λ (t : Id TypeKey). takes (item_at defs (place t)) ≡ Some []) same h

pub returns-then-not-fits : goal.returns-then-not-fits
returns-then-not-fits c =
    let f = c.args.function.now in
    let t = c.args.text.now in
    let s = source_of c.args.indices.now c.args.module_locals.now c.args.types.now f c.args.features.now in
    let no_args = without (as_text f) t (args_of f) (arg_count_of f) c.requires.text c.args_are_first.ensures c.requires.no_parameters in
    let unfit : FitsType s.def s.slots s.parameters → ⊥ = (λ fits. untrue _ (c.takes_nothing-fits.ensures.1 (at_type (type_slots c.args.types.now) (function_type f) c.ty.result (sym c.ty.ensures) (bare.takes_none s no_args fits))) c.if-not-fits.true) in
    ([], [], (λ _. None), (inr (inr (inl unfit)), tt))

pub returns-in_err-hold : goal.returns-in_err-hold
returns-in_err-hold c = let p = err_from_is_err_and c.from_residual.result c.from_residual.ensures.1 in rw (p.1, p.2) ([], [], (λ _. None), (tt, tt))

pub returns-then-not-hold : goal.returns-then-not-hold
returns-then-not-hold c =
    let unheld = ap (blocks_hold (is_function_at c.args.types.now)) c.requires.body ∙ sym c.in_ok-hold.ensures ∙ c.if-not-hold.true in
    ([], [], (λ _. None), (inr (inl unheld), tt))

pub returns-in_err-write_kept : goal.returns-in_err-write_kept
returns-in_err-write_kept c =
    let f = c.args.function.now in
    let t = c.args.text.now in
    let s = source_of c.args.indices.now c.args.module_locals.now c.args.types.now f c.args.features.now in
    let no_args = without (as_text f) t (args_of f) (arg_count_of f) c.requires.text c.args_are_first.ensures c.requires.no_parameters in
    let unnamed = no_names (first_local_of t) (local_count_of t) (ops_in t) (body_of f) c.is_plain.ensures c.requires.bare c.requires.body in
    let taken = at_type (type_slots c.args.types.now) c.ty.result (function_type f) c.ty.ensures (c.takes_nothing-fits.ensures.0 c.if-not-fits.false) in
    let hold = ap (blocks_hold (is_function_at c.args.types.now)) c.requires.body ∙ sym c.in_ok-hold.ensures ∙ c.if-not-hold.false in
    let agree : (i : ℕ) → i < local_count_of t → index_in s [] (first_local_of t + i) ≡ Some i = λ i low. absurd (omega (arith, low, c.requires.bare)) in
    let p = err_from_is_err_and c.from_residual-in_err-write_kept.result c.from_residual-in_err-write_kept.ensures.1 in
    let all = c.in_err-write_kept.ensures (index_in s []) s.features agree in
    let cause = same_ground {Y = Unit {0}} s.names (index_in s []) s.features s.ops (ops_in t) [] [] (λ _. all.0) (λ _. all.1) (Err c.in_err-write_kept.field-0.0) c.requires.body refl all.2.0 in
    bare.made s no_args unnamed taken hold c.write_kept.new.to.items c.args.to.now.items (λ (body : AppendedBody). map place body.order.items) (λ (body : AppendedBody). body.used.items) c.from_residual-in_err-write_kept.result (rw p.1 tt)
    (all.0, all.1, (refused_behind {Y = AppendedBody} {Z = Unit {0}} s.names (index_in s []) s.features s.ops [] (λ _. all.0) (λ _. all.1) (λ _. all.0) (λ _. all.1) c.from_residual-in_err-write_kept.result c.in_err-write_kept.field-0.0 c.from_residual-in_err-write_kept.ensures.1 cause, rw p.1 tt))

pub returns : goal.returns
returns c =
    let f = c.args.function.now in
    let t = c.args.text.now in
    let s = source_of c.args.indices.now c.args.module_locals.now c.args.types.now f c.args.features.now in
    let no_args = without (as_text f) t (args_of f) (arg_count_of f) c.requires.text c.args_are_first.ensures c.requires.no_parameters in
    let unnamed = no_names (first_local_of t) (local_count_of t) (ops_in t) (body_of f) c.is_plain.ensures c.requires.bare c.requires.body in
    let taken = at_type (type_slots c.args.types.now) c.ty.result (function_type f) c.ty.ensures (c.takes_nothing-fits.ensures.0 c.if-not-fits.false) in
    let hold = ap (blocks_hold (is_function_at c.args.types.now)) c.requires.body ∙ sym c.in_ok-hold.ensures ∙ c.if-not-hold.false in
    let agree : (i : ℕ) → i < local_count_of t → index_in s [] (first_local_of t + i) ≡ Some i = λ i low. absurd (omega (arith, low, c.requires.bare)) in
    let all = c.in_ok-write_kept.ensures (index_in s []) s.features agree in
    let behind = same_ground {Y = Unit {0}} s.names (index_in s []) s.features s.ops (ops_in t) [] [] (λ _. all.0) (λ _. all.1) (Ok tt) c.requires.body refl all.2.0 in
    bare.made s no_args unnamed taken hold c.write_kept.new.to.items c.args.to.now.items (λ (body : AppendedBody). map place body.order.items) (λ (body : AppendedBody). body.used.items) (Ok (record { order = c.new.result; used = c.new-2.result }))
    (ap (map place) c.new.ensures.items, c.new-2.ensures.items) (all.0, all.1, (behind, all.2.1))
