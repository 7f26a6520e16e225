use Rattle.std.proofs.Common.{◌≡◌, map, take}
use Rattle.wasm_entries.specs.Record.{import_entry}
use Rattle.wasm_wire.specs.Context.{imported}
use Rattle.wasm_wire.proofs.rules.declared.gather_imported.Given as goal

abbrev pub invariant-loop-import : goal.invariant-loop-import
invariant-loop-import g l = l.found.items ≡ imported g.K.Kind.of (map import_entry (take l.import-index l.imports))
