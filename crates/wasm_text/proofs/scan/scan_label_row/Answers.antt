use Rattle.std.proofs.Common.{◌∷◌, [], refl, ◌∙◌}
use Rattle.wasm_operators.specs.declared.kind.Kind.TheVariants as kinds
use Rattle.wasm_operators.specs.Forms.{args_form}
use Rattle.wasm_text.proofs.Bodies.{room_behind}
use Rattle.wasm_text.proofs.Scans.{got}
use Rattle.wasm_text.proofs.Together.{no_labels, one_more_label}
use Rattle.wasm_text.proofs.scan.scan_label_row.Goals as goal

pub labels-init : goal.labels-init
labels-init c = record {
  args = no_labels c.args.limits.now c.args.bytes.now c.args.at c.args.marks.now.items c.requires.room.0;
  capacity = refl;
  room = c.requires.room;
}

pub labels-preserved : goal.labels-preserved
labels-preserved c =
    let found = got c.scan_label-place.result c.scan_label-place.ensures.scans c.if-place.false in
    record {
      args = one_more_label c.labels._taken c.args.limits.now c.args.bytes.now c.args.at c.labels.place c.scan_label-place.result c.args.marks.now.items c.labels.marks.items c.scan_label-place.new.marks.items c.labels.invariant.args found;
      capacity = c.scan_label-place.ensures.capacity ∙ c.labels.invariant.capacity;
      room = room_behind (args_form (kinds.Label ∷ [])) c.args.limits.now c.labels.marks c.scan_label-place.new.marks c.args.bytes.now c.labels.place c.scan_label-place.result c.labels.invariant.room c.scan_label-place.ensures.capacity found;
    }
