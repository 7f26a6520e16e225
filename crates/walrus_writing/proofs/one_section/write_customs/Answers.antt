use Rattle.std.proofs.Common.{true, false, sym, ap, ◌∙◌}
use Rattle.std.proofs.lemmas.List.{append-nil}
use Rattle.wasm_writer.specs.Writing.{written}
use Rattle.wasm_wire.proofs.ModuleWritten.{group_more}
use Rattle.walrus_writing.proofs.one_section.write_customs.Goals.{then-has+in_ok-custom, else-has}
use Rattle.walrus_writing.proofs.one_section.write_customs.Goals as goal

pub sections-preserved : goal.sections-preserved
sections-preserved c =
    elim c.if-has.branch [
      | then-has+in_ok-custom w ↦
          group_more c.args.group c.args.customs.now c.sections.section-index _ true (written c.args.to.now) (written c.sections.to) (written c.if-has.to)
          c.sections-test.true (sym c.has.ensures ∙ w.if-has.true) c.sections.invariant (ap written w.to-is ∙ w.in_ok-custom.ensures.appends.0)
      | else-has w ↦
          group_more c.args.group c.args.customs.now c.sections.section-index _ false (written c.args.to.now) (written c.sections.to) (written c.if-has.to)
          c.sections-test.true (sym c.has.ensures ∙ w.if-has.false) c.sections.invariant (ap written w.to-is ∙ sym (append-nil (written c.sections.to)))
    ]
