use Rattle.std.proofs.Common.{◌≡◌, length, arith}
use Rattle.walrus_sections.specs.Choice.{choice_seen}
use Rattle.walrus_sections.proofs.GoingLists.{going_ends, going_kept, going_next, going_none}
use Rattle.walrus_sections.proofs.Records.{are_left, none_left}
use Rattle.walrus_sections.proofs.choice.all_go.Goals as goal

pub returns-in_default : goal.returns-in_default
returns-in_default c = going_none c.args.bytes.now c.records.left.now c.records.invariant (are_left c.records.left.now c.is_empty.result c.is_empty.ensures c.records-test.true) c.in_default.ensures

pub returns-then-choice : goal.returns-then-choice
returns-then-choice c = going_kept c.args.bytes.now c.records.left.now c.in-Some.behind.now (choice_seen c.in-Some.choice) c.in-Some.ensures c.if-choice.true c.records.invariant

pub records-preserved : goal.records-preserved
records-preserved c =
    going_next c.args.bytes.now c.records.left.now c.in-Some.behind.now (choice_seen c.in-Some.choice) c.in-Some.ensures c.if-choice.false c.records.invariant

pub returns : goal.returns
returns c =
    let short : length c.records.left.now ≡ 0 = grind (arith, c.records-test.ensures) in
    going_ends c.args.bytes.now c.records.left.now c.records.invariant (none_left c.records.left.now short)
