use Rattle.std.proofs.Common.{subst}
use Rattle.std.specs.Prelude.{MatchResult}
use Rattle.walrus_module.specs.View.{contents_of}
use Rattle.wasm_entries.specs.declared.record.RawDesc.{RawDesc}
use Rattle.walrus_edit_list.specs.Imports.{Brings, RefusesDesc}
use Rattle.walrus_edit_list.proofs.imports.add_import.Goals as goal

pub returns : goal.returns
returns g c =
    subst (λ (d : RawDesc). MatchResult c.bring.result
    (λ x. Brings d c.args.raw.now.from.now c.args.raw.now.name.now (contents_of c.args.module.now) (contents_of c.bring.new.module))
    (RefusesDesc d (contents_of c.args.module.now))) c.desc.ensures c.bring.ensures
