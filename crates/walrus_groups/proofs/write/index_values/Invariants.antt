use Rattle.wasm_forms.specs.Types.{ValueStands}
use Rattle.walrus_base.specs.Value.{val_type}
use Rattle.walrus_code.specs.FromRaw.{val_of}
use Rattle.walrus_code.specs.Indices.{index_of}
use Rattle.walrus_code.specs.Names.{named_val}
use Rattle.walrus_code.specs.Results.{val_is_exact}
use Rattle.walrus_groups.proofs.WrittenEach.{EachSoFar}
use Rattle.walrus_groups.proofs.write.index_values.Given as goal

abbrev pub invariant-loop-value : goal.invariant-loop-value
invariant-loop-value l = EachSoFar (named_val (index_of l.indices)) val_is_exact ValueStands val_type val_of l.values l.value-index l.raw.items
