use Rattle.std.proofs.Common.{◌++◌, ap, ◌∙◌, true, false}
use Rattle.std.specs.Prelude.{is_ok, if◌then◌else◌}
use Rattle.wasm_forms.specs.Spelling.{groups, integer_bytes}
use Rattle.wasm_forms.proofs.Room.{needs_as}
use Rattle.wasm_forms.proofs.Signs.{written_low, written_high}
use Rattle.wasm_forms.proofs.write.write_s32.Goals as goal

pub returns-then-value-lt0-clause-written : goal.returns-then-value-lt0-clause-written
returns-then-value-lt0-clause-written c =
    c.write_groups.ensures.written
    ∙ ap (λ l. if is_ok c.write_groups.result then c.args.to.now.items ++ l else c.args.to.now.items) (ap (groups true 64 9) c.from.ensures ∙ written_low c.args.value c.ranges.value c.if-value-lt0.true)

pub returns-then-value-lt0-clause-room : goal.returns-then-value-lt0-clause-room
returns-then-value-lt0-clause-room c =
    needs_as c.write_groups.result _ _ _ (integer_bytes c.args.value) (ap (groups true 64 9) c.from.ensures ∙ written_low c.args.value c.ranges.value c.if-value-lt0.true) c.write_groups.ensures.room

pub returns-else-value-lt0-clause-written : goal.returns-else-value-lt0-clause-written
returns-else-value-lt0-clause-written c =
    c.write_groups-else-value-lt0.ensures.written
    ∙ ap (λ l. if is_ok c.write_groups-else-value-lt0.result then c.args.to.now.items ++ l else c.args.to.now.items) (ap (groups false 64 9) c.from-else-value-lt0.ensures ∙ written_high c.args.value c.ranges.value c.if-value-lt0.false)

pub returns-else-value-lt0-clause-room : goal.returns-else-value-lt0-clause-room
returns-else-value-lt0-clause-room c =
    needs_as c.write_groups-else-value-lt0.result _ _ _ (integer_bytes c.args.value) (ap (groups false 64 9) c.from-else-value-lt0.ensures ∙ written_high c.args.value c.ranges.value c.if-value-lt0.false) c.write_groups-else-value-lt0.ensures.room
