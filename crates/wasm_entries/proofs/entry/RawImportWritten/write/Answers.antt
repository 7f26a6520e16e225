use Rattle.wasm_forms.proofs.Keeping.{keeps_behind}
use Rattle.wasm_entries.proofs.Steps.{put_behind}
use Rattle.wasm_entries.proofs.entry.RawImportWritten.write.Goals as goal

pub returns-clause-keeps : goal.returns-clause-keeps
returns-clause-keeps c = keeps_behind c.args.to.now.items c.write_name-2.new.to.items c.write_desc.new.to.items _ (put_behind c.args.to.now.items c.write_name.new.to.items c.write_name-2.new.to.items _ _ c.in_ok-write_name.ensures.written.0 c.in_ok-write_name-2.ensures.written.0) c.write_desc.ensures.keeps
