use Rattle.wasm_text.specs.Scans.{count_form, labels_form}
use Rattle.wasm_text.proofs.Bodies.{room_behind}
use Rattle.wasm_text.proofs.Scans.{got, place_as, count_scans}
use Rattle.wasm_text.proofs.Together.{all_labels}
use Rattle.wasm_text.proofs.scan.scan_labels.Goals as goal

pub scan_label_row-last-requires : goal.scan_label_row-last-requires
scan_label_row-last-requires c = record {
  room = room_behind (count_form c.number_at-count.result) c.args.limits.now c.args.marks.now c.put_mark_if_padded-behind.new.marks c.args.bytes.now c.args.at c.put_mark_if_padded-behind.result c.requires.room c.put_mark_if_padded-behind.ensures.capacity
      (got c.put_mark_if_padded-behind.result (count_scans c.args.limits.now c.args.bytes.now c.args.at c.past_number-first.result c.number_at-count.result c.args.marks.now.items c.put_mark_if_padded-behind.new.marks.items c.put_mark_if_padded-behind.result
      c.if-count.false c.number_at-count.ensures c.past_number-first.ensures c.put_mark_if_padded-behind.ensures.marked) c.if-behind.false);
}

pub scan_label-requires : goal.scan_label-requires
scan_label-requires c = record {
  room = room_behind (labels_form c.number_at-count.result) c.args.limits.now c.put_mark_if_padded-behind.new.marks c.scan_label_row-last.new.marks c.args.bytes.now c.put_mark_if_padded-behind.result c.scan_label_row-last.result
      (room_behind (count_form c.number_at-count.result) c.args.limits.now c.args.marks.now c.put_mark_if_padded-behind.new.marks c.args.bytes.now c.args.at c.put_mark_if_padded-behind.result c.requires.room c.put_mark_if_padded-behind.ensures.capacity
      (got c.put_mark_if_padded-behind.result (count_scans c.args.limits.now c.args.bytes.now c.args.at c.past_number-first.result c.number_at-count.result c.args.marks.now.items c.put_mark_if_padded-behind.new.marks.items c.put_mark_if_padded-behind.result
      c.if-count.false c.number_at-count.ensures c.past_number-first.ensures c.put_mark_if_padded-behind.ensures.marked) c.if-behind.false))
      c.scan_label_row-last.ensures.capacity (got c.scan_label_row-last.result c.scan_label_row-last.ensures.scans c.if-last.false);
}

pub returns-clause-scans : goal.returns-clause-scans
returns-clause-scans c =
    place_as c.scan_label.result (all_labels c.number_at-count.result c.args.limits.now c.args.bytes.now c.args.at c.put_mark_if_padded-behind.result c.scan_label_row-last.result c.scan_label.result
    c.args.marks.now.items c.put_mark_if_padded-behind.new.marks.items c.scan_label_row-last.new.marks.items c.scan_label.new.marks.items
    (got c.put_mark_if_padded-behind.result (count_scans c.args.limits.now c.args.bytes.now c.args.at c.past_number-first.result c.number_at-count.result c.args.marks.now.items c.put_mark_if_padded-behind.new.marks.items c.put_mark_if_padded-behind.result
    c.if-count.false c.number_at-count.ensures c.past_number-first.ensures c.put_mark_if_padded-behind.ensures.marked) c.if-behind.false)
    (got c.scan_label_row-last.result c.scan_label_row-last.ensures.scans c.if-last.false))
    c.scan_label.ensures.scans
