use Rattle.std.proofs.Common.{◌≡◌, ◌+◌, ◌-◌, ◌++◌, ◌∷◌, [], map, sym, ap, ◌∙◌, arith}
use Rattle.std.proofs.lemmas.Result.{err_from_is_err_and}
use Rattle.wasm_frames.proofs.Results.{refuses_through}
use Rattle.walrus_sections.specs.Parts.{part_record}
use Rattle.walrus_sections.specs.PartSteps.{items_from}
use Rattle.walrus_sections.proofs.PartItems.{item_shorter, items_over, items_stuck, items_turn, parts_pushed}
use Rattle.walrus_sections.proofs.parts.add_row.Goals as goal

pub returns-in_err-part : goal.returns-in_err-part
returns-in_err-part c =
    let p = err_from_is_err_and c.from_residual.result c.from_residual.ensures.1 in
    rw (p.1, p.2) (refuses_through _ _ _
    (λ none. sym c.items.invariant.left ∙ items_stuck c.args.is_code c.args.end _ _ _ _ (omega arith) none) c.in_err-part.ensures)

pub overflow_add-next : goal.overflow_add-next
overflow_add-next c = omega (arith, c.items.invariant.room, item_shorter _ _ _ _ _ _ c.in_ok-part.ensures, c.requires.room)

pub items-preserved : goal.items-preserved
items-preserved c =
    let shorter = item_shorter _ _ _ _ _ _ c.in_ok-part.ensures in
    let k = c.args.is_code in
    let rest = c.in_ok-part.behind.now in
    let left : c.args.count - (c.items._taken + 1) ≡ c.args.count - c.items._taken - 1 = omega arith in
    record {
      within = omega (arith, c.items.invariant.within, shorter);
      room = omega (arith, c.items.invariant.room, shorter);
      left = ap (λ ps. items_from k (c.args.count - (c.items._taken + 1)) (c.items.next + 1) c.args.end ps rest) (parts_pushed _ _ _ c.in_ok-push.ensures.items)
          ∙ ap (λ n. items_from k n (c.items.next + 1) c.args.end (map part_record c.items.to.items ++ part_record c.in_ok-part.part ∷ []) rest) left
          ∙ sym (items_turn k c.args.end (c.args.count - c.items._taken) _ _ _ _ _ (omega arith) c.in_ok-part.ensures)
          ∙ c.items.invariant.left;
    }

pub returns : goal.returns
returns c = sym c.items.invariant.left ∙ items_over c.args.is_code c.args.end _ _ _ _ (omega arith)
