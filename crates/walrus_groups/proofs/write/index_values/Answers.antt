use Rattle.wasm_forms.specs.Types.{ValueStands}
use Rattle.walrus_base.specs.Value.{val_type}
use Rattle.walrus_code.specs.FromRaw.{val_of}
use Rattle.walrus_code.specs.Indices.{index_of}
use Rattle.walrus_code.specs.Names.{named_val}
use Rattle.walrus_code.specs.Results.{val_is_exact}
use Rattle.walrus_groups.proofs.WrittenEach.{each-next}
use Rattle.walrus_groups.proofs.write.index_values.Goals as goal

pub loop-value-preserved : goal.loop-value-preserved
loop-value-preserved c = each-next (named_val (index_of c.args.indices.now)) val_is_exact ValueStands val_type val_of c.args.values.now c.loop-value.value-index _ c.loop-value.raw.items c.push.new.self.items _ c.loop-value-test.true c.in_ok-push.ensures.items c.in_ok-index_value.ensures.indexed c.in_ok-index_value.ensures.spelled c.loop-value.invariant
