use Rattle.std.proofs.Common.{◌≡◌, ◌++◌, take}
use Rattle.walrus.specs.Forms.Spelling.{row_bytes}
use Rattle.wasm_forms.specs.Writing.{EachFits}
use Rattle.wasm_entries.specs.Record.{expression}
use Rattle.walrus_edits.specs.ItemRecords.{SizedFits, sized}
use Rattle.walrus_edits.proofs.section_records.write_each_sized.Given as goal

abbrev pub invariant-expressions : goal.invariant-expressions
invariant-expressions l = record {
  written : l.to.items ≡ l.fn.to.items ++ row_bytes (λ e. sized (expression e)) (take l.raw-index l.all);
  fit : EachFits (λ e. SizedFits (expression e)) (take l.raw-index l.all);
}
