use Rattle.std.proofs.Common.{ap, ◌∙◌}
use Rattle.wasm_forms.specs.Grammar.{Byte, at}
use Rattle.wasm_entries.specs.Forms.{kind_form, kind_from}
use Rattle.wasm_entries.proofs.Steps.{passes, led_gives, led_none}
use Rattle.wasm_entries.proofs.entry.read_kind.Goals as goal

pub returns-in_err-first : goal.returns-in_err-first
unfolding kind_form kind_from
returns-in_err-first c = passes c.from_residual.result (λ r. (r.0, r.1.now)) c.in_err-first.field-0.0 (at Byte c.args.bytes.now) (at kind_form c.args.bytes.now) c.from_residual.ensures.1 c.in_err-first.ensures.gives (led_none Byte kind_from c.args.bytes.now)

pub returns-in-0 : goal.returns-in-0
unfolding kind_form kind_from
returns-in-0 c = led_gives Byte kind_from c.args.bytes.now c.in_ok-first.rest.now c.in_ok-first.first c.in_ok-first.ensures.gives ∙ ap (λ n. at (kind_from n) c.in_ok-first.rest.now) c.in-0.is

pub returns-in-1 : goal.returns-in-1
unfolding kind_form kind_from
returns-in-1 c = led_gives Byte kind_from c.args.bytes.now c.in_ok-first.rest.now c.in_ok-first.first c.in_ok-first.ensures.gives ∙ ap (λ n. at (kind_from n) c.in_ok-first.rest.now) c.in-1.is

pub returns-in-2 : goal.returns-in-2
unfolding kind_form kind_from
returns-in-2 c = led_gives Byte kind_from c.args.bytes.now c.in_ok-first.rest.now c.in_ok-first.first c.in_ok-first.ensures.gives ∙ ap (λ n. at (kind_from n) c.in_ok-first.rest.now) c.in-2.is

pub returns-in-3 : goal.returns-in-3
unfolding kind_form kind_from
returns-in-3 c = led_gives Byte kind_from c.args.bytes.now c.in_ok-first.rest.now c.in_ok-first.first c.in_ok-first.ensures.gives ∙ ap (λ n. at (kind_from n) c.in_ok-first.rest.now) c.in-3.is

pub returns-in-4 : goal.returns-in-4
unfolding kind_form kind_from
returns-in-4 c = led_gives Byte kind_from c.args.bytes.now c.in_ok-first.rest.now c.in_ok-first.first c.in_ok-first.ensures.gives ∙ ap (λ n. at (kind_from n) c.in_ok-first.rest.now) c.in-4.is
