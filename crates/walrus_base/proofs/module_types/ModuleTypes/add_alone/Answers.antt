use Rattle.std.proofs.Common.{◌≡◌, ◌≤◌, ◌+◌, ◌++◌, ◌∷◌, [], length, Some, IsTrue, is_ok, ◌∙◌, arith}
use Rattle.walrus_base.specs.Alone.{IsIndexed}
use Rattle.walrus_base.specs.OwnIds.{under_own_ids}
use Rattle.walrus_base.specs.TypeDef.{type_place}
use Rattle.walrus_base.specs.TypeSlots.{defs, new_group}
use Rattle.walrus_base.specs.Whole.{AreWhole}
use Rattle.std.proofs.lemmas.List.{length-append}
use Rattle.walrus_base.proofs.WholeLemmas.{whole-append, whole-same}
use Rattle.walrus_base.proofs.Indexed.{indexed-append, either}
use Rattle.walrus_base.proofs.OneGroup.{one_more}
use Rattle.walrus_base.proofs.OwnIdLemmas.{under_own_ids-push}
use Rattle.walrus_base.proofs.module_types.ModuleTypes.add_alone.Goals as goal

pub invariant_of-self : goal.invariant_of-self
invariant_of-self c =
    let self = c.args.self.now in
    let old = self.places.items in
    let member = c.args.member in
    let ty = c.new.result in
    let all = old ++ Some ty ∷ [] in
    let first = c.len-first.result in
    let at : first ≡ length old = c.len-first.ensures ∙ self.places.ok.0 in
    let one : c.in-Some.end ≡ first + 1 = omega (arith, c.in-Some.ensures) in
    let own : type_place ty ≡ 0 + length old = let is : type_place ty ≡ first = c.new.ensures.own ∙ c.at-id.ensures in omega (arith, is, at) in
    let slots : defs all ≡ defs old ++ new_group (length (defs old)) (member ∷ []) = one_more old ty member first c.in-Some.end at c.new.ensures.def one in
    let within : self.noted ≤ length old = self.within in
    let more : self.noted ≤ length all = rw length-append (omega (arith, within)) in
    let new = c.push.new.self.items in
    let one_of = c.push.ensures.items in
    record {
      whole = either (λ places. AreWhole (defs places)) (is_ok c.push.result) new all old one_of
          (whole-same (defs old ++ new_group (length (defs old)) (member ∷ [])) (defs all) slots (whole-append (defs old) (member ∷ []) self.whole)) self.whole;
      under_own_ids = either (λ places. IsTrue (under_own_ids 0 places)) (is_ok c.push.result) new all old one_of
          (under_own_ids-push 0 old ty self.under_own_ids own) self.under_own_ids;
      indexed = either (λ places. IsIndexed self.index self.noted places) (is_ok c.push.result) new all old one_of
          (indexed-append self.index self.noted old (Some ty ∷ []) self.within self.indexed) self.indexed;
      within = either (λ places. self.noted ≤ length places) (is_ok c.push.result) new all old one_of more self.within;
      in_order = self.in_order;
      not_named = self.not_named;
    }
