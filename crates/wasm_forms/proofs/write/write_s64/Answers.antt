use Rattle.std.proofs.Common.{◌++◌, ap, ◌∙◌}
use Rattle.std.specs.Prelude.{is_ok, if◌then◌else◌}
use Rattle.wasm_forms.specs.Spelling.{integer_bytes}
use Rattle.wasm_forms.proofs.Room.{needs_as}
use Rattle.wasm_forms.proofs.Signs.{long_written_low, long_written_high}
use Rattle.wasm_forms.proofs.write.write_s64.Goals as goal

pub returns-then-value-lt0-clause-written : goal.returns-then-value-lt0-clause-written
returns-then-value-lt0-clause-written c =
    c.write_groups.ensures.written ∙ ap (λ l. if is_ok c.write_groups.result then c.args.to.now.items ++ l else c.args.to.now.items) (long_written_low c.args.value c.ranges.value c.if-value-lt0.true)

pub returns-then-value-lt0-clause-room : goal.returns-then-value-lt0-clause-room
returns-then-value-lt0-clause-room c = needs_as c.write_groups.result _ _ _ (integer_bytes c.args.value) (long_written_low c.args.value c.ranges.value c.if-value-lt0.true) c.write_groups.ensures.room

pub returns-else-value-lt0-clause-written : goal.returns-else-value-lt0-clause-written
returns-else-value-lt0-clause-written c =
    c.write_groups-else-value-lt0.ensures.written
    ∙ ap (λ l. if is_ok c.write_groups-else-value-lt0.result then c.args.to.now.items ++ l else c.args.to.now.items) (long_written_high c.args.value c.ranges.value c.if-value-lt0.false)

pub returns-else-value-lt0-clause-room : goal.returns-else-value-lt0-clause-room
returns-else-value-lt0-clause-room c = needs_as c.write_groups-else-value-lt0.result _ _ _ (integer_bytes c.args.value) (long_written_high c.args.value c.ranges.value c.if-value-lt0.false) c.write_groups-else-value-lt0.ensures.room
