use Rattle.std.specs.Prelude.{map}
use Rattle.std.specs.Global.{Vec}
use Rattle.std.proofs.lemmas.Result.{err_from_is_err_and}
use Rattle.wasm_entries.specs.Record.{group}
use Rattle.wasm_entries.specs.declared.record.RawSub.{RawSub}
use Rattle.walrus_base.specs.ModuleTypes.{type_slots}
use Rattle.walrus_code.specs.Indices.{index_of}
use Rattle.walrus_writing.proofs.TypeRefusals.{index_refused}
use Rattle.walrus_writing.proofs.types.raw_types.Goals as goal

pub returns-in_err-groups-clause-fails : goal.returns-in_err-groups-clause-fails
returns-in_err-groups-clause-fails c =
    let p = err_from_is_err_and c.from_residual.result c.from_residual.ensures.1 in
    rw (p.1, p.2) (index_refused (λ (raw : Vec (Vec RawSub)). map group raw.items) (index_of c.args.indices.now) (type_slots c.args.types.now) _ c.requires.indexed c.in_err-groups.ensures.indexed)
