use Rattle.std.proofs.Common.{sym, subst, ◌∙◌}
use Rattle.std.specs.Bool.{Decides}
use Rattle.std.proofs.lemmas.List.{take_rest}
use Rattle.walrus_sections.specs.Beginnings.{OpensText}
use Rattle.walrus_sections.proofs.Fronts.{text_here, text_next}
use Rattle.walrus_sections.proofs.beginnings.is_text.Goals as goal

pub space-init : goal.space-init
space-init c = (λ t. t, λ t. t)

pub returns-then-not-is_space : goal.returns-then-not-is_space
returns-then-not-is_space c =
    text_here c.space.at c.args.bytes.now c.space-test.true (sym c.is_space.ensures ∙ c.if-not-is_space.true) c.space.invariant c.opens_text.result
    (subst (λ l. Decides c.opens_text.result (OpensText l)) (take_rest c.args.bytes.now c.space.at) c.opens_text.ensures)

pub space-preserved : goal.space-preserved
space-preserved c = text_next c.space.at c.args.bytes.now c.space-test.true (sym c.is_space.ensures ∙ c.if-not-is_space.false) c.space.invariant
