use Rattle.std.proofs.Common.{refl}
use Rattle.std.proofs.lemmas.Result.{on_ok_weaker}
use Rattle.walrus_base.specs.Id.{place}
use Rattle.walrus_items.specs.Functions.{function_value}
use Rattle.walrus_items.specs.Memories.{memory_value}
use Rattle.walrus_items.specs.Tables.{table_value}
use Rattle.walrus_contents.specs.View.{lent}
use Rattle.walrus_contents.proofs.KeptNames.{function_keeps, memory_keeps, table_keeps}
use Rattle.walrus_contents.proofs.names.push_kept_names.Goals as goal

pub returns-in-Function : goal.returns-in-Function
returns-in-Function c =
    let p = c.args.parts in
    rw c.in-Function.is (on_ok_weaker c.push_handler_types.result
    (function_keeps (lent p) (place c.in-Function.id) (function_value c.get.result.now) c.args.to.now c.push_handler_types.new.to c.get.ensures)
    c.push_handler_types.ensures)

pub returns-in-Table : goal.returns-in-Table
returns-in-Table c =
    let p = c.args.parts in
    let t = c.get-in-Table.result.now in
    rw c.in-Table.is (on_ok_weaker c.push_element_ids.result
    (table_keeps (lent p) (place c.in-Table.id) (table_value t) t.elem_segments c.args.to.now c.push_element_ids.new.to c.get-in-Table.ensures refl)
    c.push_element_ids.ensures)

pub returns-in-Memory : goal.returns-in-Memory
returns-in-Memory c =
    let p = c.args.parts in
    let m = c.get-in-Memory.result.now in
    rw c.in-Memory.is (on_ok_weaker c.push_data_ids.result
    (memory_keeps (lent p) (place c.in-Memory.id) (memory_value m) m.data_segments c.args.to.now c.push_data_ids.new.to c.get-in-Memory.ensures refl)
    c.push_data_ids.ensures)
