use Rattle.std.proofs.Common.{ℕ, List, ◌≤◌, length, sym, subst, take, arith}
use Rattle.std.proofs.lemmas.List.{take_all}
use Rattle.walrus_base.specs.declared.value.ValType.{ValType as DeclaredValType}
use Rattle.walrus_functions.specs.Declaring.{AreLowest, lowest_of}
use Rattle.walrus_base.proofs.Turns.{one_more}
use Rattle.walrus_functions.proofs.LowestLemmas.{lowest-more}
use Rattle.walrus_functions.proofs.ValueLemmas.{lowest_alike}
use Rattle.walrus_functions.proofs.declared.lowest_locals.Goals as goal

pub loop-local-preserved : goal.loop-local-preserved
loop-local-preserved c =
    let i = c.loop-local.local-index in
    subst (λ es. AreLowest es (lowest_of c.note.new.self)) (sym (one_more c.args.found.now i _ c.loop-local-test.true))
    (lowest-more (take i c.args.found.now) _ _ (lowest_of c.loop-local.lowest) (lowest_of c.note.new.self) c.in_ok-note.ensures c.loop-local.invariant (lowest_alike c.loop-local.lowest))

pub returns : goal.returns
returns c =
    let past : length c.args.found.now ≤ c.loop-local.local-index = omega arith in
    subst (λ (es : List (ℕ × DeclaredValType)). AreLowest es (lowest_of c.loop-local.lowest)) (take_all c.loop-local.local-index c.args.found.now past) c.loop-local.invariant
