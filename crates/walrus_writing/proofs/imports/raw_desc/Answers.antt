use Rattle.walrus_base.specs.Id.{place}
use Rattle.walrus_code.specs.Indices.{index_of}
use Rattle.walrus_items.specs.Globals.{global_value}
use Rattle.walrus_items.specs.Memories.{memory_value}
use Rattle.walrus_items.specs.Tables.{table_value}
use Rattle.walrus_items.specs.Tags.{tag_value}
use Rattle.walrus_items.specs.Functions.{function_value}
use Rattle.walrus_writing.proofs.ImportedEntries.{function_indexed, global_indexed, memory_indexed, table_indexed, tag_indexed}
use Rattle.walrus_writing.proofs.imports.raw_desc.Goals as goal

pub returns-in-Function : goal.returns-in-Function
returns-in-Function c = rw c.in-Function.is (function_indexed (index_of c.args.indices.now) c.args.parts (place c.in-Function.id) c.function_desc.result (function_value c.get.result.now) c.get.ensures (c.function_desc.ensures c.args.parts.locals.now))

pub returns-in-Table : goal.returns-in-Table
returns-in-Table c = rw c.in-Table.is (table_indexed (index_of c.args.indices.now) c.args.parts (place c.in-Table.id) c.table_desc.result (table_value c.get-in-Table.result.now) c.get-in-Table.ensures c.table_desc.ensures)

pub returns-in-Memory : goal.returns-in-Memory
returns-in-Memory c = rw c.in-Memory.is (memory_indexed (index_of c.args.indices.now) c.args.parts (place c.in-Memory.id) _ (memory_value c.get-in-Memory.result.now) c.get-in-Memory.ensures (c.memory_desc.ensures (index_of c.args.indices.now)))

pub returns-in-Global : goal.returns-in-Global
returns-in-Global c = rw c.in-Global.is (global_indexed (index_of c.args.indices.now) c.args.parts (place c.in-Global.id) c.global_desc.result (global_value c.get-in-Global.result.now) c.get-in-Global.ensures c.global_desc.ensures)

pub returns-in-Tag : goal.returns-in-Tag
returns-in-Tag c = rw c.in-Tag.is (tag_indexed (index_of c.args.indices.now) c.args.parts (place c.in-Tag.id) c.tag_desc.result (tag_value c.get-in-Tag.result.now) c.get-in-Tag.ensures c.tag_desc.ensures)
