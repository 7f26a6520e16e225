use Rattle.std.proofs.Common.{List, ap, sym, subst, arith, ◌∙◌, ◌++◌, ◌∷◌, [], ◌≡◌, length}
use Rattle.std.proofs.lemmas.List.{map-append}
use Rattle.walrus_sections.specs.Choice.{Choice, choice_seen, choices_seen}
use Rattle.walrus_sections.proofs.Records.{SoFar, so_far_turn, so_far_end, so_far_none, are_left, none_left}
use Rattle.walrus_sections.proofs.choice.read_choices.Goals as goal

pub returns-in_default : goal.returns-in_default
returns-in_default c =
    so_far_none c.args.bytes.now (choices_seen c.records.choices.items) c.records.left.now c.records.invariant (are_left c.records.left.now c.is_empty.result c.is_empty.ensures c.records-test.true) c.in_default.ensures

pub records-preserved : goal.records-preserved
records-preserved c =
    let items : choices_seen c.push.new.self.items ≡ choices_seen c.records.choices.items ++ choice_seen c.in-Some.choice ∷ [] = ap choices_seen c.in_ok-push.ensures.items ∙ map-append choice_seen c.records.choices.items (c.in-Some.choice ∷ []) in
    subst (λ (done : List Choice). SoFar c.args.bytes.now done c.in-Some.behind.now) (sym items)
    (so_far_turn c.args.bytes.now (choices_seen c.records.choices.items) c.records.left.now c.in-Some.behind.now (choice_seen c.in-Some.choice) c.records.invariant c.in-Some.ensures)

pub returns : goal.returns
returns c =
    let short : length c.records.left.now ≡ 0 = grind (arith, c.records-test.ensures) in
    so_far_end c.args.bytes.now (choices_seen c.records.choices.items) c.records.left.now c.records.invariant (none_left c.records.left.now short)
