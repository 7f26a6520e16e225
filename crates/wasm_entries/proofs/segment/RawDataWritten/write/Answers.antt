use Rattle.wasm_entries.proofs.Steps.{adds_exit}
use Rattle.wasm_entries.specs.Record.{data_mode, data_entry}
use Rattle.wasm_entries.specs.Spelling.{data_bytes, data_mode_bytes, DataFits}
use Rattle.wasm_entries.proofs.segment.RawDataWritten.write.Goals as goal

pub returns-in_err-write_data_mode-clause-adds : goal.returns-in_err-write_data_mode-clause-adds
returns-in_err-write_data_mode-clause-adds c = adds_exit (Unit {0}) c.from_residual.result c.in_err-write_data_mode.field-0.0 c.args.to.now.items c.write_data_mode.new.to.items (data_mode_bytes (data_mode c.args.self.now.mode)) c.args.to.now.items c.write_data_mode.new.to.items (data_bytes (data_entry c.args.self.now)) (Unit {0}) (DataFits (data_entry c.args.self.now)) c.from_residual.ensures.1 (λ _. tt) c.in_err-write_data_mode.ensures.adds

pub returns-in_err-write_data_mode-clause-keeps : goal.returns-in_err-write_data_mode-clause-keeps
returns-in_err-write_data_mode-clause-keeps c = c.in_err-write_data_mode.ensures.keeps
