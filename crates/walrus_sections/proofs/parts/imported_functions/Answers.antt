use Rattle.std.proofs.Common.{ap, length, ◌∙◌}
use Rattle.std.proofs.lemmas.Result.{err_from_is_err_and}
use Rattle.std.specs.Prelude.{filter}
use Rattle.wasm_entries.specs.Record.{import_entry}
use Rattle.wasm_frames.specs.Record.{sections}
use Rattle.walrus_sections.specs.Parts.{brings_function}
use Rattle.walrus_sections.proofs.PartRows.{filter_seen, frames_nothing}
use Rattle.walrus_sections.proofs.parts.imported_functions.Goals as goal

pub returns-in_err-module-clause-refused : goal.returns-in_err-module-clause-refused
returns-in_err-module-clause-refused c =
    let p = err_from_is_err_and c.from_residual.result c.from_residual.ensures.1 in
    rw (p.1, p.2) (frames_nothing c.args.bytes.now _ c.in_err-module.ensures.only c.in_err-module.ensures.not_large)

pub returns-clause-value : goal.returns-clause-value
returns-clause-value c = (
  sections c.in_ok-module.module,
  (
    c.in_ok-module.ensures.found,
    c.count_imported.ensures
        ∙ ap (λ is. length (filter (λ i. brings_function (import_entry i)) is)) c.deref.ensures.value
        ∙ filter_seen brings_function import_entry c.in_ok-module.module.imports.items,
  ),
)
