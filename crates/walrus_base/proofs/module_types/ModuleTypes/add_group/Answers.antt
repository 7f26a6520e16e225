use Rattle.std.proofs.Common.{◌≡◌, ◌≤◌, ◌+◌, ◌++◌, length, IsTrue, is_ok, ap, sym, ◌∙◌, arith}
use Rattle.walrus_base.specs.Alone.{IsIndexed}
use Rattle.walrus_base.specs.OwnIds.{under_own_ids}
use Rattle.walrus_base.specs.TypeSlots.{defs, new_group}
use Rattle.walrus_base.specs.Whole.{AreWhole}
use Rattle.std.proofs.lemmas.List.{map-append, length-append}
use Rattle.walrus_base.proofs.WholeLemmas.{whole-append, whole-same}
use Rattle.walrus_base.proofs.Indexed.{added_places, indexed-append, either, length-defs}
use Rattle.walrus_base.proofs.OwnIdLemmas.{under_own_ids-append}
use Rattle.walrus_base.proofs.module_types.ModuleTypes.add_group.Goals as goal

pub invariant_of-self : goal.invariant_of-self
invariant_of-self c =
    let self = c.args.self.now in
    let old = self.places.items in
    let added = c.in_ok-added.added.items in
    let first_is : c.len-first.result ≡ length old = c.len-first.ensures ∙ self.places.ok.0 in
    let in_all : c.len-first.result ≡ 0 + length old = omega (arith, first_is) in
    let all : defs (old ++ added) ≡ defs old ++ new_group (length (defs old)) c.args.members.items =
    map-append _ old added ∙ ap (λ xs. defs old ++ xs) (c.in_ok-added.ensures.group ∙ ap (λ n. new_group n c.args.members.items) (first_is ∙ sym (length-defs old))) in
    let more : self.noted ≤ length (old ++ added) = let within : self.noted ≤ length old = self.within in rw length-append (omega (arith, within)) in
    let new = c.append.new.self.items in
    let one_of = c.append.ensures.items in
    record {
      whole = either (λ places. AreWhole (defs places)) (is_ok c.append.result) new (old ++ added) old one_of
          (whole-same (defs old ++ new_group (length (defs old)) c.args.members.items) (defs (old ++ added)) all (whole-append (defs old) c.args.members.items self.whole)) self.whole;
      under_own_ids = either (λ places. IsTrue (under_own_ids 0 places)) (is_ok c.append.result) new (old ++ added) old one_of
          (under_own_ids-append 0 c.len-first.result old added in_all self.under_own_ids c.in_ok-added.ensures.own) self.under_own_ids;
      indexed = either (λ places. IsIndexed self.index self.noted places) (is_ok c.append.result) new (old ++ added) old one_of
          (indexed-append self.index self.noted old added self.within self.indexed) self.indexed;
      within = either (λ places. self.noted ≤ length places) (is_ok c.append.result) new (old ++ added) old one_of more self.within;
      in_order = self.in_order;
      not_named = self.not_named;
    }

pub returns-clause-ids : goal.returns-clause-ids
returns-clause-ids c =
    let new = c.append.new.self in
    let places : new.items ≡ c.args.self.now.places.items ++ c.in_ok-added.added.items = c.in_ok-append.ensures.items in
    c.between.ensures
    ∙ added_places c.args.self.now.places.items c.in_ok-added.added.items c.args.members.items c.len-first.result c.len.result
    (c.len-first.ensures ∙ c.args.self.now.places.ok.0) (c.len.ensures ∙ new.ok.0 ∙ ap (λ items. length items) places) c.in_ok-added.ensures.group
