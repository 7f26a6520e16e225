use Rattle.std.proofs.Common.{ap, ◌∙◌, false, ◌++◌}
use Rattle.std.specs.Prelude.{is_ok, if◌then◌else◌}
use Rattle.wasm_forms.specs.Spelling.{groups, index_bytes}
use Rattle.wasm_forms.proofs.Groups.{integer-groups}
use Rattle.wasm_forms.proofs.Room.{needs_as}
use Rattle.wasm_forms.proofs.write.write_index.Goals as goal

pub returns-clause-written : goal.returns-clause-written
returns-clause-written c =
    c.write_groups.ensures.written ∙ ap (λ l. if is_ok c.write_groups.result then c.args.to.now.items ++ l else c.args.to.now.items) (ap (groups false 64 9) c.from.ensures ∙ (integer-groups c.args.index).0)

pub returns-clause-room : goal.returns-clause-room
returns-clause-room c = needs_as c.write_groups.result _ _ _ (index_bytes c.args.index) (ap (groups false 64 9) c.from.ensures ∙ (integer-groups c.args.index).0) c.write_groups.ensures.room
