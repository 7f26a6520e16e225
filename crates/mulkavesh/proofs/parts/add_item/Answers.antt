use Rattle.std.proofs.Common.{List, ℕ, ◌++◌, ap, ◌∙◌}
use Rattle.mulkavesh.proofs.SectionLines.{item_joined}
use Rattle.mulkavesh.proofs.parts.add_item.Goals as goal

pub returns : goal.returns
returns c =
    item_joined c.args.word.now c.args.item _ _ _ _ _ _ _ _ _ _ c.in_ok-extend_from_slice.ensures.items c.in_ok-add_decimal.ensures c.in_ok-push.ensures.items c.in_ok-add_decimal-2.ensures
    c.in_ok-push-2.ensures.items (c.in_ok-extend_from_slice-2.ensures.items ∙ ap (λ (w : List ℕ). c.push-2.new.self.items ++ w) c.as_bytes.ensures.value)
    c.in_ok-push-3.ensures.items c.in_ok-add_decimal-3.ensures c.in_ok-push-4.ensures.items
