use Rattle.walrus_base.specs.Id.{place}
use Rattle.walrus_items.specs.Functions.{function_value}
use Rattle.walrus_contents.specs.View.{lent}
use Rattle.walrus_contents.proofs.NamedLemmas.{function_named}
use Rattle.walrus_contents.proofs.names.push_written_names.Goals as goal

pub returns-in-Function : goal.returns-in-Function
returns-in-Function c =
    let p = c.args.parts in
    rw c.in-Function.is (function_named (lent p) (place c.in-Function.id) (function_value c.get.result.now) c.get.ensures c.push_function_names.result c.args.to.now c.push_function_names.new.to c.push_function_names.ensures)
