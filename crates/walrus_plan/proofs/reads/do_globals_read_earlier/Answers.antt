use Rattle.std.proofs.Common.{◌≡◌, ℕ, refl, ap, sym, subst, ◌∙◌}
use Rattle.std.specs.Prelude.{IsSome}
use Rattle.walrus_base.specs.Id.{place}
use Rattle.walrus_items.specs.Globals.{GlobalValue, globals, global_entries_left, global_value}
use Rattle.walrus_contents.specs.View.{origin_of}
use Rattle.walrus_model.proofs.Walked.{next_there, walk_begins, walk_goes, walk_ends}
use Rattle.walrus_model.specs.Abstract.{Defined}
use Rattle.walrus_base.proofs.Standing.{some_inj}
use Rattle.walrus_plan.proofs.ReadsBefore.{GlobalPasses, global_lacks, globals_read, kind_own}
use Rattle.walrus_plan.proofs.reads.do_globals_read_earlier.Goals as goal

pub loop-id-init : goal.loop-id-init
loop-id-init c =
    let p = c.args.parts in
    (tt, tt, walk_begins (GlobalPasses p) (globals p.globals.now) _ (ap global_entries_left c.into_iter-id-iterator.ensures.into_iter_gives ∙ c.iter_entries-id-items.ensures))

pub does_global_read_earlier-requires : goal.does_global_read_earlier-requires
does_global_read_earlier-requires c =
    let p = c.args.parts in
    let e : ℕ × GlobalValue = (place c.in-Some.id, global_value c.in-Some.global.now) in
    record { there = record { value = e.1; there = next_there (GlobalPasses p) (globals p.globals.now) _ _ e c.in-Some.ensures.steps c.loop-id.invariant.2; initialiser = refl } }

pub returns-then-not-branch-clause-lacks : goal.returns-then-not-branch-clause-lacks
returns-then-not-branch-clause-lacks c = λ is.
    let p = c.args.parts in
    let e : ℕ × GlobalValue = (place c.in-Some.id, global_value c.in-Some.global.now) in
    global_lacks p e.0 e.1 (next_there (GlobalPasses p) (globals p.globals.now) _ _ e c.in-Some.ensures.steps c.loop-id.invariant.2) (sym c.in_ok-does_global_read_earlier.ensures.value ∙ c.if-not-branch.true)

pub loop-id-preserved : goal.loop-id-preserved
loop-id-preserved c =
    let p = c.args.parts in
    let e : ℕ × GlobalValue = (place c.in-Some.id, global_value c.in-Some.global.now) in
    let at = next_there (GlobalPasses p) (globals p.globals.now) _ _ e c.in-Some.ensures.steps c.loop-id.invariant.2 in
    let good : GlobalPasses p e.0 = record {
      names = sym c.in_ok-does_global_read_earlier.ensures.value ∙ c.if-not-branch.false;
      own = λ w is has. subst (λ (v : GlobalValue). IsSome v.initialiser → origin_of v.imported_by ≡ Defined) (some_inj e.1 w (sym at ∙ is)) (kind_own p c.in-Some.global.now.kind) has;
    } in
    (tt, tt, walk_goes (GlobalPasses p) (globals p.globals.now) _ _ e c.in-Some.ensures.steps good c.loop-id.invariant.2)

pub returns-clause-in_order : goal.returns-clause-in_order
returns-clause-in_order c = λ is.
    let p = c.args.parts in
    globals_read p (walk_ends (GlobalPasses p) (globals p.globals.now) _ c.in-None.ensures.steps.0 c.loop-id.invariant.2)
