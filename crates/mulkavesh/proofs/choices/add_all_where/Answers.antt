use Rattle.std.proofs.Common.{◌≡◌, Bool, [], ◌∷◌, ◌++◌, codes, sym, ap, ◌∙◌}
use Rattle.mulkavesh.specs.Choices.{all_choices, going, staying, where_said}
use Rattle.walrus_sections.specs.Choice.{choices_seen}
use Rattle.mulkavesh.proofs.ChoiceLemmas.{first_more, then_more}
use Rattle.mulkavesh.proofs.choices.add_all_where.Goals as goal

pub returns-in_ok-push-4 : goal.returns-in_ok-push-4
returns-in_ok-push-4 c =
    let before = choices_seen c.args.choices.now.items in
    let first = first_more c.args.choices.now.items c.push.new.self.items c.going.result (going (codes "*")) c.going.ensures c.in_ok-push.ensures.items in
    let second = then_more c.push.new.self.items c.push-then-is_said.new.self.items before (going (codes "*") ∷ []) c.staying.result (staying (codes "dylink")) first c.staying.ensures c.in_ok-push-2.ensures.items in
    let third = then_more c.push-then-is_said.new.self.items c.push-then-is_said-2.new.self.items before (going (codes "*") ∷ staying (codes "dylink") ∷ []) c.staying-then-is_said.result (staying (codes "dylink.0")) second c.staying-then-is_said.ensures c.in_ok-push-3.ensures.items in
    let all : choices_seen c.push-then-is_said-3.new.self.items ≡ before ++ all_choices = then_more c.push-then-is_said-2.new.self.items c.push-then-is_said-3.new.self.items before (going (codes "*") ∷ staying (codes "dylink") ∷ staying (codes "dylink.0") ∷ []) c.staying-then-is_said-2.result (staying (codes "target_features")) third c.staying-then-is_said-2.ensures c.in_ok-push-4.ensures.items in
    all ∙ ap (λ (b : Bool). before ++ where_said b all_choices) (sym c.if-is_said.true)
