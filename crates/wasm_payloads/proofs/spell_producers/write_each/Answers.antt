use Rattle.std.proofs.Common.{◌++◌, length, take, refl, ap, subst, ◌∙◌, arith}
use Rattle.std.proofs.lemmas.List.{take_all, take_at}
use Rattle.std.proofs.lemmas.Result.{err_from_is_err_and}
use Rattle.wasm_forms.specs.Spelling.{row_bytes}
use Rattle.wasm_forms.specs.Writing.{EachFits}
use Rattle.wasm_forms.proofs.Keeping.{keeps_behind}
use Rattle.wasm_payloads.specs.Producers.{value_record}
use Rattle.wasm_payloads.specs.Spelling.{value_bytes, ValueFits}
use Rattle.wasm_forms.proofs.Writing.{written_at, fits_at, room_at, adds_at}
use Rattle.wasm_payloads.proofs.spell_producers.write_each.Goals as goal

pub values-preserved : goal.values-preserved
values-preserved c = record {
  written = written_at (λ v. value_bytes (value_record v)) (λ v. ValueFits (value_record v)) c.args.values.now c.values.value-index _ c.values-test.true c.args.to.now.items c.values.to.items c.write_value.new.to.items c.values.invariant.written c.in_ok-write_value.ensures.adds.0;
  fit = fits_at (λ v. value_bytes (value_record v)) (λ v. ValueFits (value_record v)) c.args.values.now c.values.value-index _ c.values-test.true c.values.invariant.fit c.in_ok-write_value.ensures.adds.1;
  room = omega (arith, c.in_ok-write_value.ensures.room);
}

pub returns-in_err-write_value-clause-room : goal.returns-in_err-write_value-clause-room
returns-in_err-write_value-clause-room c =
    let p = err_from_is_err_and c.from_residual.result c.from_residual.ensures.1 in
    rw (p.1, p.2)
    (room_at (λ v. value_bytes (value_record v)) (λ v. ValueFits (value_record v)) c.args.values.now c.values.value-index _ c.values-test.true c.in_err-write_value.field-0.0 c.args.to.now c.values.to c.write_value.new.to c.values.invariant.written c.values.invariant.room
    c.in_err-write_value.ensures.room)

pub returns-in_err-write_value-clause-keeps : goal.returns-in_err-write_value-clause-keeps
returns-in_err-write_value-clause-keeps c = keeps_behind c.args.to.now.items c.values.to.items c.write_value.new.to.items _ c.values.invariant.written c.write_value.ensures.keeps

pub returns-in_err-write_value-clause-adds : goal.returns-in_err-write_value-clause-adds
returns-in_err-write_value-clause-adds c =
    let p = err_from_is_err_and c.from_residual.result c.from_residual.ensures.1 in
    rw (p.1, p.2)
    (adds_at (λ v. value_bytes (value_record v)) (λ v. ValueFits (value_record v)) c.args.values.now c.values.value-index _ c.values-test.true c.in_err-write_value.field-0.0 c.args.to.now.items c.values.to.items c.write_value.new.to.items c.in_err-write_value.ensures.adds)

pub returns-clause-adds : goal.returns-clause-adds
returns-clause-adds c =
    let all = take_all c.values.value-index c.args.values.now c.values-test.false in
    (c.values.invariant.written ∙ ap (λ l. c.args.to.now.items ++ row_bytes (λ v. value_bytes (value_record v)) l) all, subst (EachFits (λ v. ValueFits (value_record v))) all c.values.invariant.fit)

pub returns-clause-keeps : goal.returns-clause-keeps
returns-clause-keeps c =
    let old = c.args.to.now.items in
    ap (take (length old)) c.values.invariant.written ∙ take_at old (row_bytes (λ v. value_bytes (value_record v)) (take c.values.value-index c.args.values.now)) (length old) refl
