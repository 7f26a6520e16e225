use Rattle.std.proofs.Common.{ℕ, arith, subst}
use Rattle.std.specs.Bool.{OnFalse}
use Rattle.std.proofs.lemmas.List.{length-map}
use Rattle.std.proofs.lemmas.Result.{err_from_is_err_and}
use Rattle.walrus_base.specs.Id.{place}
use Rattle.walrus_base.specs.ModuleTypes.{type_slots}
use Rattle.walrus_base.specs.Operators.{DataSegments}
use Rattle.walrus_groups.specs.Indexed.{IsOutOfOrder}
use Rattle.walrus_contents.specs.View.{parts_view}
use Rattle.walrus_theorem.specs.Spelling.{IsCount}
use Rattle.walrus_plan.specs.Places.{places}
use Rattle.walrus_plan.proofs.RefusesIndex.{out_of_order}
use Rattle.walrus_plan.proofs.RefusesPlanned.{counts_refused, unmatched_refused}
use Rattle.walrus_plan.proofs.prepared.prepare.Goals as goal

pub returns-in_err-check_matched-clause-refused : goal.returns-in_err-check_matched-clause-refused
returns-in_err-check_matched-clause-refused c =
    let p = err_from_is_err_and c.from_residual.result c.from_residual.ensures.1 in
    rw (p.1, p.2) (unmatched_refused c.args.parts _ c.in_err-check_matched.ensures)

pub returns-then-not-branch-clause-refused : goal.returns-then-not-branch-clause-refused
returns-then-not-branch-clause-refused c = c.in_ok-are_reads_in_order.ensures.lacks c.if-not-branch.true

pub returns-then-not-are_in_order-clause-refused : goal.returns-then-not-are_in_order-clause-refused
returns-then-not-are_in_order-clause-refused c =
    out_of_order c.args.parts c.requires.there (subst (λ b. OnFalse b (IsOutOfOrder (type_slots c.args.parts.types.now))) c.if-not-are_in_order.true c.are_in_order.ensures.cause)

pub indices-requires : goal.indices-requires
indices-requires c = record { distinct = λ s. ((c.in_ok-plan.ensures.planned.is_plan c.requires.there c.in_ok-check_matched.ensures).holds s).differ }

pub count_of-data_count-requires : goal.count_of-data_count-requires
count_of-data_count-requires c = record { there = c.requires.there; few = omega (arith, c.in_ok-indices.ensures.few DataSegments, length-map c.in_ok-plan.plan.data_.items place, c.len.ensures) }

pub returns-in_err-indices-clause-refused : goal.returns-in_err-indices-clause-refused
returns-in_err-indices-clause-refused c =
    let p = err_from_is_err_and c.from_residual-in_err-indices.result c.from_residual-in_err-indices.ensures.1 in
    rw (p.1, p.2) (counts_refused c.args.parts c.in_ok-check_matched.ensures
    (c.in_ok-are_reads_in_order.ensures.in_order c.if-not-branch.false) (c.are_in_order.ensures.in_order.0 c.if-not-are_in_order.false)
    (places c.in_ok-plan.plan) _ (c.in_ok-plan.ensures.planned.is_plan c.requires.there c.in_ok-check_matched.ensures) c.in_err-indices.ensures.fails)

pub returns-clause-prepared : goal.returns-clause-prepared
returns-clause-prepared c =
    record {
      matched = c.in_ok-check_matched.ensures;
      reads = c.in_ok-are_reads_in_order.ensures.in_order c.if-not-branch.false;
      in_order = c.are_in_order.ensures.in_order.0 c.if-not-are_in_order.false;
      is_plan = c.in_ok-plan.ensures.planned.is_plan c.requires.there c.in_ok-check_matched.ensures;
      numbered = c.in_ok-indices.ensures.value;
      few = c.in_ok-indices.ensures.few;
      lists = c.in_ok-plan.ensures.planned.lists;
      data_count = subst (λ (n : ℕ). IsCount (parts_view c.args.parts) n c.count_of-data_count.result)
          (omega (arith, c.len.ensures, length-map c.in_ok-plan.plan.data_.items place)) c.count_of-data_count.ensures;
    }
