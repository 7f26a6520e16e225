use Rattle.std.proofs.Common.{ℕ, true, false, sym, ap, ◌∙◌}
use Rattle.std.specs.Global.{Vec}
use Rattle.std.proofs.lemmas.List.{append-nil}
use Rattle.wasm_wire.proofs.ModuleWritten.{group_more}
use Rattle.walrus_writing.proofs.behind.append_customs.Goals.{then-has+in_ok-append_custom, else-has}
use Rattle.walrus_writing.proofs.behind.append_customs.Goals as goal

pub sections-preserved : goal.sections-preserved
sections-preserved c =
    elim c.if-has.branch [
      | then-has+in_ok-append_custom w ↦
          group_more c.args.group c.args.customs.now c.sections.section-index _ true c.args.to.now.items c.sections.to.items c.if-has.to.items
          c.sections-test.true (sym c.has.ensures ∙ w.if-has.true) c.sections.invariant (ap (λ (v : Vec ℕ). v.items) w.to-is ∙ w.in_ok-append_custom.ensures)
      | else-has w ↦
          group_more c.args.group c.args.customs.now c.sections.section-index _ false c.args.to.now.items c.sections.to.items c.if-has.to.items
          c.sections-test.true (sym c.has.ensures ∙ w.if-has.false) c.sections.invariant (ap (λ (v : Vec ℕ). v.items) w.to-is ∙ sym (append-nil c.sections.to.items))
    ]
