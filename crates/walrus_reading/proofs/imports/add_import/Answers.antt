use Rattle.std.proofs.Common.{rules, subst}
use Rattle.wasm_entries.specs.Record as entries
use Rattle.wasm_entries.specs.declared.record.RawDesc.{RawDesc}
use Rattle.walrus_contents.specs.declared.parts.Contents.{Contents}
use Rattle.walrus_reading.specs.Imported.{AddsImport}
use Rattle.walrus_reading.proofs.imports.add_import.Goals as goal

pub returns-clause-added : goal.returns-clause-added
returns-clause-added c =
    let entry : RawDesc → entries.Import = λ desc. record { from = c.args.raw.now.from.now; name = c.args.raw.now.name.now; desc = desc } in
    let new : Contents = record c.import_item.new.contents { imports = c.add.new.self } in
    let added : AddsImport (entry c.desc.result) c.args.contents.now new = search rules in
    subst (λ (desc : RawDesc). AddsImport (entry desc) c.args.contents.now new) c.desc.ensures added
