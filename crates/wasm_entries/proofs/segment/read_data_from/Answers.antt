use Rattle.std.proofs.Common.{refl, ◌∙◌}
use Rattle.wasm_forms.specs.Grammar.{Block, Made, ◌then◌, U32, at}
use Rattle.wasm_forms.specs.Grammar as grammar
use Rattle.wasm_entries.specs.Record.{ActiveData, PassiveData, data_entry, expression}
use Rattle.wasm_entries.specs.Forms.{expression_form, data_from}
use Rattle.wasm_entries.proofs.Steps.{passes, made_none}
use Rattle.wasm_entries.proofs.DataSteps.{data_at0, data_at1, data_at2, data_gives, data_first, data_second, active0_gives, active_gives, active_first, active_second}
use Rattle.wasm_entries.proofs.segment.read_data_from.Goals as goal

pub returns-in_err-offset-in-0 : goal.returns-in_err-offset-in-0
returns-in_err-offset-in-0 c = passes c.from_residual.result (λ r. (data_entry r.0, r.1.now)) c.in_err-offset-in-0.field-0.0 (at expression_form c.args.bytes.now) (at (data_from c.args.flags) c.args.bytes.now) c.from_residual.ensures.1 c.in_err-offset-in-0.ensures (λ n. data_at0 c.args.flags c.args.bytes.now c.in-0.is ∙ data_first (Made (ActiveData 0) expression_form) c.args.bytes.now (made_none (ActiveData 0) expression_form c.args.bytes.now n))

pub returns-in_err-bytes-in-0 : goal.returns-in_err-bytes-in-0
returns-in_err-bytes-in-0 c = passes c.from_residual-in_err-bytes-in-0.result (λ r. (data_entry r.0, r.1.now)) c.in_err-bytes-in-0.field-0.0 (at Block c.in_ok-offset-in-0.after.now) (at (data_from c.args.flags) c.args.bytes.now) c.from_residual-in_err-bytes-in-0.ensures.1 c.in_err-bytes-in-0.ensures.gives (λ n. data_at0 c.args.flags c.args.bytes.now c.in-0.is ∙ data_second (Made (ActiveData 0) expression_form) c.args.bytes.now c.in_ok-offset-in-0.after.now (ActiveData 0 (expression c.in_ok-offset-in-0.offset)) (active0_gives c.args.bytes.now c.in_ok-offset-in-0.after.now (expression c.in_ok-offset-in-0.offset) c.in_ok-offset-in-0.ensures) n)

pub returns-in_ok-bytes-in-0 : goal.returns-in_ok-bytes-in-0
returns-in_ok-bytes-in-0 c = rw c.in_ok-new-in-0.ensures.ok (data_at0 c.args.flags c.args.bytes.now c.in-0.is ∙ data_gives (Made (ActiveData 0) expression_form) c.args.bytes.now c.in_ok-offset-in-0.after.now c.in_ok-bytes-in-0.rest.now c.in_ok-bytes-in-0.bytes.now (ActiveData 0 (expression c.in_ok-offset-in-0.offset)) (active0_gives c.args.bytes.now c.in_ok-offset-in-0.after.now (expression c.in_ok-offset-in-0.offset) c.in_ok-offset-in-0.ensures) c.in_ok-bytes-in-0.ensures.gives)

pub returns-in_err-bytes-in-1 : goal.returns-in_err-bytes-in-1
returns-in_err-bytes-in-1 c = passes c.from_residual-in_err-bytes-in-1.result (λ r. (data_entry r.0, r.1.now)) c.in_err-bytes-in-1.field-0.0 (at Block c.args.bytes.now) (at (data_from c.args.flags) c.args.bytes.now) c.from_residual-in_err-bytes-in-1.ensures.1 c.in_err-bytes-in-1.ensures.gives (λ n. data_at1 c.args.flags c.args.bytes.now c.in-1.is ∙ data_second (grammar.Gives PassiveData) c.args.bytes.now c.args.bytes.now PassiveData refl n)

pub returns-in_ok-bytes-in-1 : goal.returns-in_ok-bytes-in-1
returns-in_ok-bytes-in-1 c = data_at1 c.args.flags c.args.bytes.now c.in-1.is ∙ data_gives (grammar.Gives PassiveData) c.args.bytes.now c.args.bytes.now c.in_ok-bytes-in-1.rest.now c.in_ok-bytes-in-1.bytes.now PassiveData refl c.in_ok-bytes-in-1.ensures.gives

pub returns-in_err-memory-in-2 : goal.returns-in_err-memory-in-2
returns-in_err-memory-in-2 c = passes c.from_residual-in_err-memory-in-2.result (λ r. (data_entry r.0, r.1.now)) c.in_err-memory-in-2.field-0.0 (at U32 c.args.bytes.now) (at (data_from c.args.flags) c.args.bytes.now) c.from_residual-in_err-memory-in-2.ensures.1 c.in_err-memory-in-2.ensures.gives (λ n. data_at2 c.args.flags c.args.bytes.now c.in-2.is ∙ data_first (Made (λ x. ActiveData x.0 x.1) (U32 then expression_form)) c.args.bytes.now (active_first c.args.bytes.now n))

pub returns-in_err-offset-in-2 : goal.returns-in_err-offset-in-2
returns-in_err-offset-in-2 c = passes c.from_residual-in_err-offset-in-2.result (λ r. (data_entry r.0, r.1.now)) c.in_err-offset-in-2.field-0.0 (at expression_form c.in_ok-memory-in-2.behind.now) (at (data_from c.args.flags) c.args.bytes.now) c.from_residual-in_err-offset-in-2.ensures.1 c.in_err-offset-in-2.ensures (λ n. data_at2 c.args.flags c.args.bytes.now c.in-2.is ∙ data_first (Made (λ x. ActiveData x.0 x.1) (U32 then expression_form)) c.args.bytes.now (active_second c.args.bytes.now c.in_ok-memory-in-2.behind.now c.in_ok-memory-in-2.memory c.in_ok-memory-in-2.ensures.gives n))

pub returns-in_err-bytes-in-2 : goal.returns-in_err-bytes-in-2
returns-in_err-bytes-in-2 c = passes c.from_residual-in_err-bytes-in-2.result (λ r. (data_entry r.0, r.1.now)) c.in_err-bytes-in-2.field-0.0 (at Block c.in_ok-offset-in-2.after.now) (at (data_from c.args.flags) c.args.bytes.now) c.from_residual-in_err-bytes-in-2.ensures.1 c.in_err-bytes-in-2.ensures.gives (λ n. data_at2 c.args.flags c.args.bytes.now c.in-2.is ∙ data_second (Made (λ x. ActiveData x.0 x.1) (U32 then expression_form)) c.args.bytes.now c.in_ok-offset-in-2.after.now (ActiveData c.in_ok-memory-in-2.memory (expression c.in_ok-offset-in-2.offset)) (active_gives c.args.bytes.now c.in_ok-memory-in-2.behind.now c.in_ok-offset-in-2.after.now c.in_ok-memory-in-2.memory (expression c.in_ok-offset-in-2.offset) c.in_ok-memory-in-2.ensures.gives c.in_ok-offset-in-2.ensures) n)

pub returns-in_ok-bytes-in-2 : goal.returns-in_ok-bytes-in-2
returns-in_ok-bytes-in-2 c = rw c.in_ok-new-in-2.ensures.ok (data_at2 c.args.flags c.args.bytes.now c.in-2.is ∙ data_gives (Made (λ x. ActiveData x.0 x.1) (U32 then expression_form)) c.args.bytes.now c.in_ok-offset-in-2.after.now c.in_ok-bytes-in-2.rest.now c.in_ok-bytes-in-2.bytes.now (ActiveData c.in_ok-memory-in-2.memory (expression c.in_ok-offset-in-2.offset)) (active_gives c.args.bytes.now c.in_ok-memory-in-2.behind.now c.in_ok-offset-in-2.after.now c.in_ok-memory-in-2.memory (expression c.in_ok-offset-in-2.offset) c.in_ok-memory-in-2.ensures.gives c.in_ok-offset-in-2.ensures) c.in_ok-bytes-in-2.ensures.gives)
