use Rattle.std.proofs.Common.{◌≡◌}
use Rattle.std.specs.Prelude.{vec_capacity}
use Rattle.wasm_text.specs.Scans.{HasArgs, HasRoom, labels_form}
use Rattle.wasm_text.proofs.scan.scan_label_row.Given as goal

abbrev pub invariant-labels : goal.invariant-labels
invariant-labels l =
    record {
      args : HasArgs (labels_form l._taken) l.limits l.bytes l.at l.place l.fn.marks.items l.marks.items;
      capacity : vec_capacity l.marks ≡ vec_capacity l.fn.marks;
      room : HasRoom l.marks l.bytes l.place;
    }
