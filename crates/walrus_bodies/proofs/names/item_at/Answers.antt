use Rattle.walrus_bodies.proofs.AtMarks.{function_at, global_at, type_at, table_at, memory_at, none_at}
use Rattle.walrus_bodies.proofs.names.item_at.Goals as goal

pub returns-in-1 : goal.returns-in-1
returns-in-1 c = function_at c.args.bytes.now c.args.mark c.number_at.result _ c.in-1.is c.number_at.ensures c.at.ensures

pub returns-in-2 : goal.returns-in-2
returns-in-2 c = global_at c.args.bytes.now c.args.mark c.number_at-in-2.result _ c.in-2.is c.number_at-in-2.ensures c.at-in-2.ensures

pub returns-in-3 : goal.returns-in-3
returns-in-3 c = type_at c.args.bytes.now c.args.mark c.number_at-in-3.result _ c.in-3.is c.number_at-in-3.ensures c.at-in-3.ensures

pub returns-in-4 : goal.returns-in-4
returns-in-4 c = table_at c.args.bytes.now c.args.mark c.number_at-in-4.result _ c.in-4.is c.number_at-in-4.ensures c.at-in-4.ensures

pub returns-in-5 : goal.returns-in-5
returns-in-5 c = memory_at c.args.bytes.now c.args.mark c.number_at-in-5.result _ c.in-5.is c.number_at-in-5.ensures c.at-in-5.ensures

pub returns-in_default : goal.returns-in_default
returns-in_default c = none_at c.args.bytes.now c.args.mark (search) (search) (search) (search) (search) c.requires.accesses c.requires.blocks
