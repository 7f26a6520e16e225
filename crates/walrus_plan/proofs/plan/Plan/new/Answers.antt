use Rattle.walrus_plan.specs.Planned.{ListsItems}
use Rattle.walrus_plan.specs.declared.plan.Plan.{Plan}
use Rattle.walrus_plan.proofs.BroughtBy.{own_behind}
use Rattle.walrus_plan.proofs.Planning.{plan_is}
use Rattle.walrus_plan.proofs.plan.Plan.new.Goals as goal

pub returns-clause-planned : goal.returns-clause-planned
returns-clause-planned c =
    let plan : Plan = record {
      types = c.in_ok-types_in_order.field-0;
      brought_functions = c.in_ok-brought.brought.functions;
      own_functions = c.in_ok-functions_by_size.field-0;
      tables = c.in_ok-tables_by_import.field-0;
      memories = c.in_ok-memories_by_import.field-0;
      tags = c.in_ok-tags_by_import.field-0;
      globals = c.in_ok-globals_by_import.field-0;
      elements = c.in_ok-elements_in_order.field-0;
      data_ = c.in_ok-data_in_order.field-0;
    } in
    let lists : ListsItems c.args.parts plan = record {
      types = c.in_ok-types_in_order.ensures.value;
      brought = c.in_ok-brought.ensures.functions;
      own = c.in_ok-functions_by_size.ensures.value;
      tables = own_behind _ _ _ _ c.in_ok-tables_by_import.ensures.value c.in_ok-brought.ensures.tables;
      memories = own_behind _ _ _ _ c.in_ok-memories_by_import.ensures.value c.in_ok-brought.ensures.memories;
      tags = own_behind _ _ _ _ c.in_ok-tags_by_import.ensures.value c.in_ok-brought.ensures.tags;
      globals = own_behind _ _ _ _ c.in_ok-globals_by_import.ensures.value c.in_ok-brought.ensures.globals;
      elements = c.in_ok-elements_in_order.ensures.value;
      data_segments = c.in_ok-data_in_order.ensures.value;
    } in
    record { lists = lists; is_plan = plan_is c.args.parts plan lists }
