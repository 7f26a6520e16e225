use Rattle.std.proofs.Common.{◌≡◌, ◌+◌, ◌++◌, ◌∷◌, [], length, Some, ap, sym, ◌∙◌, arith}
use Rattle.std.proofs.lemmas.List.{map-append}
use Rattle.std.specs.Vec.Iter.{into_iter_items}
use Rattle.walrus_base.specs.TypeDef.{type_place}
use Rattle.walrus_base.specs.TypeSlots.{defs, names, no_names}
use Rattle.walrus_base.proofs.Members.{shift, new_members}
use Rattle.walrus_base.proofs.OwnIdLemmas.{under_own_ids-push}
use Rattle.walrus_base.proofs.slots.placed.Goals as goal

pub loop-member-preserved : goal.loop-member-preserved
loop-member-preserved c =
    let first = c.args.first in
    let end = c.in-Some.end in
    let before = c.loop-member.added.items in
    let left = into_iter_items c.next.new.self in
    let item = c.in-Some-member.ensures.steps.0 in
    let more = c.in_ok-push.ensures.items in
    let own : type_place c.new.result ≡ first + length before =
    c.new.ensures.own ∙ c.at.ensures ∙ omega (arith, c.in-Some-checked_add.ensures, c.len-in-loop-member.ensures, c.loop-member.added.ok.0) in (
      tt,
      tt,
      shift _ _ (new_members first end left) _ _ (ap (λ ms. defs before ++ new_members first end ms) (sym item) ∙ c.loop-member.invariant.2)
          (ap (λ xs. defs xs) more ∙ map-append _ before (Some c.new.result ∷ []) ∙ ap (λ x. defs before ++ Some x ∷ []) c.new.ensures.def),
      shift _ _ (no_names left) _ _ (ap (λ ms. names before ++ no_names ms) (sym item) ∙ c.loop-member.invariant.3)
          (ap (λ xs. names xs) more ∙ map-append _ before (Some c.new.result ∷ []) ∙ ap (λ x. names before ++ Some x ∷ []) c.new.ensures.unnamed),
      rw more (under_own_ids-push first before c.new.result c.loop-member.invariant.4 own),
    )
