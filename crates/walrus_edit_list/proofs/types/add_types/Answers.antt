use Rattle.std.proofs.Common.{map}
use Rattle.std.proofs.lemmas.Result.{err_from_is_err_and}
use Rattle.wasm_entries.specs.Record.{group}
use Rattle.walrus_base.specs.ModuleTypes.{type_slots}
use Rattle.walrus_edit_list.specs.Held.{held}
use Rattle.walrus_edit_list.proofs.FunctionEdits.{untyped}
use Rattle.walrus_edit_list.proofs.types.add_types.Goals as goal

pub returns-in_err-read_types : goal.returns-in_err-read_types
returns-in_err-read_types g c =
    let p = err_from_is_err_and c.from_residual-in_err-read_types.result c.from_residual-in_err-read_types.ensures.1 in
    rw (p.1, p.2) (untyped (map group c.args.groups.now) (held c.args.module.now c.args.beside.now) (type_slots c.read_types.new.types) _ c.in_err-read_types.ensures.read)
