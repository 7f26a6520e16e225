use Rattle.std.proofs.Common.{◌≡◌, true, map, drop, All}
use Rattle.wasm_entries.specs.Record.{expression}
use Rattle.walrus_base.specs.ConstOps.{const_ops}
use Rattle.walrus_code.specs.Indices.{ids_at}
use Rattle.walrus_groups.specs.Named.{each}
use Rattle.walrus_model.specs.Constants.{consts_of}
use Rattle.walrus_constants.specs.Named.{named_const}
use Rattle.walrus_constants.specs.Short.{is_short}
use Rattle.walrus_groups.proofs.Loops.{behind}
use Rattle.walrus_constants.proofs.read.read_consts.Given as goal

-- what was found so far and what is left are what is found for all; each that was found is in its shortest form
abbrev pub invariant-loop-one : goal.invariant-loop-one
invariant-loop-one l = record {
  named : behind (map const_ops l.found.items) (each (named_const (ids_at l.indices)) (map consts_of (map expression (drop l.one-index l.raw)))) ≡ each (named_const (ids_at l.indices)) (map consts_of (map expression l.raw));
  short : All (λ expr. is_short expr ≡ true) l.found.items;
}
