use Rattle.walrus_module.proofs.EditedDeleted.{data_deleted, element_deleted, function_deleted, global_deleted, memory_deleted, table_deleted, tag_deleted}
use Rattle.walrus_module.proofs.edits.items_are_deleted.Goals as goal

pub returns-clause-function : goal.returns-clause-function
returns-clause-function c = function_deleted

pub returns-clause-table : goal.returns-clause-table
returns-clause-table c = table_deleted

pub returns-clause-memory : goal.returns-clause-memory
returns-clause-memory c = memory_deleted

pub returns-clause-tag : goal.returns-clause-tag
returns-clause-tag c = tag_deleted

pub returns-clause-global : goal.returns-clause-global
returns-clause-global c = global_deleted

pub returns-clause-element : goal.returns-clause-element
returns-clause-element c = element_deleted

pub returns-clause-segment : goal.returns-clause-segment
returns-clause-segment c = data_deleted
