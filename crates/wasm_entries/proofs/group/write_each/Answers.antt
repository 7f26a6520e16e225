use Rattle.std.proofs.Common.{◌++◌, take, ap, ◌∙◌, append_assoc, arith}
use Rattle.wasm_forms.specs.Spelling.{row_bytes}
use Rattle.wasm_forms.proofs.Items.{row_push, each_push}
use Rattle.wasm_forms.proofs.Room.{row_refused}
use Rattle.std.proofs.lemmas.Result.{err_from_is_err_and}
use Rattle.wasm_entries.specs.Record.{group}
use Rattle.wasm_entries.specs.TypeSpelling.{group_bytes, GroupFits}
use Rattle.wasm_forms.proofs.Keeping.{keeps_behind}
use Rattle.wasm_entries.proofs.Steps.{keeps_put}
use Rattle.wasm_entries.proofs.group.write_each.Goals as goal

pub groups-preserved : goal.groups-preserved
groups-preserved c =
    let xs = c.args.groups.now in
    let i = c.groups.types-index in
    let x = c.types-item.result in
    record {
      written = c.in_ok-write_group.ensures.adds.0 ∙ ap (λ l. l ++ group_bytes (group x)) c.groups.invariant.written ∙ append_assoc c.args.to.now.items (row_bytes (λ g. group_bytes (group g)) (take i xs)) (group_bytes (group x))
          ∙ ap (λ l. c.args.to.now.items ++ l) (row_push (λ g. group_bytes (group g)) xs i x c.groups-test.true c.types-item.is);
      fit = each_push (λ g. GroupFits (group g)) xs i x c.groups-test.true c.types-item.is c.groups.invariant.fit c.in_ok-write_group.ensures.adds.1;
      room = omega (arith, c.in_ok-write_group.ensures.room);
    }

pub returns-in_err-write_group-clause-room : goal.returns-in_err-write_group-clause-room
returns-in_err-write_group-clause-room c =
    let p = err_from_is_err_and c.from_residual.result c.from_residual.ensures.1 in
    rw (p.1, p.2)
    (row_refused (λ g. group_bytes (group g)) c.args.groups.now c.groups.types-index c.types-item.result c.in_err-write_group.field-0.0 c.args.to.now c.groups.to c.write_group.new.to c.groups-test.true c.types-item.is c.groups.invariant.written
    c.groups.invariant.room c.in_err-write_group.ensures.room)

pub returns-in_err-write_group-clause-keeps : goal.returns-in_err-write_group-clause-keeps
returns-in_err-write_group-clause-keeps c = keeps_behind c.args.to.now.items c.groups.to.items c.write_group.new.to.items _ c.groups.invariant.written c.in_err-write_group.ensures.keeps

pub returns-clause-keeps : goal.returns-clause-keeps
returns-clause-keeps c = keeps_put c.args.to.now.items c.groups.to.items _ c.groups.invariant.written
