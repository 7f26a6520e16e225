use Rattle.std.proofs.Common.{true, false, sym, ap, ◌∙◌}
use Rattle.std.proofs.lemmas.List.{append-nil}
use Rattle.wasm_writer.specs.Writing.{written}
use Rattle.wasm_wire.proofs.ModuleWritten.{custom_stopped, group_more}
use Rattle.wasm_wire.proofs.written.write_customs.Goals.{then-has+in_ok-custom, else-has}
use Rattle.wasm_wire.proofs.written.write_customs.Goals as goal

pub returns-in_err-custom : goal.returns-in_err-custom
returns-in_err-custom c =
    custom_stopped c.from_residual.result c.in_err-custom.field-0.0 c.args.customs.now c.sections.section-index _ (written c.sections.writer) (written c.custom.new.self) _ (written c.args.writer.now) (written c.custom.new.self) _
    c.sections-test.true c.requires.fits c.in_err-custom.ensures.appends c.from_residual.ensures.1

pub sections-preserved : goal.sections-preserved
sections-preserved c =
    elim c.if-has.branch [
      | then-has+in_ok-custom w ↦
          group_more c.args.group c.args.customs.now c.sections.section-index _ true (written c.args.writer.now) (written c.sections.writer) (written c.if-has.writer)
          c.sections-test.true (sym c.has.ensures ∙ w.if-has.true) c.sections.invariant (ap written w.writer-is ∙ w.in_ok-custom.ensures.appends.0)
      | else-has w ↦
          group_more c.args.group c.args.customs.now c.sections.section-index _ false (written c.args.writer.now) (written c.sections.writer) (written c.if-has.writer)
          c.sections-test.true (sym c.has.ensures ∙ w.if-has.false) c.sections.invariant (ap written w.writer-is ∙ sym (append-nil (written c.sections.writer)))
    ]
