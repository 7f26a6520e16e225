use Rattle.std.proofs.Common.{rules, ◌≡◌, false, true, map}
use Rattle.wasm_wire.proofs.Keys.{run_done, run_more, run_refused}
use Rattle.wasm_wire.proofs.rules.exports.runs_differ.Goals as goal

pub returns-then-not-differ : goal.returns-then-not-differ
returns-then-not-differ c =
    let no : c.in_ok-differ.differ ≡ false = search rules in
    run_refused (map (λ e. e.name.now) c.args.exports.now) c.args.keys.now c.runs.begin c.end_of_run-end.result c.in_ok-differ.differ
    c.end_of_run-end.ensures.beyond c.end_of_run-end.ensures.within c.in_ok-differ.ensures no

pub runs-preserved : goal.runs-preserved
runs-preserved c =
    let yes : c.in_ok-differ.differ ≡ true = search rules in
    run_more (map (λ e. e.name.now) c.args.exports.now) c.args.keys.now c.runs.begin c.end_of_run-end.result c.requires.held c.requires.sorted
    c.end_of_run-end.ensures.beyond c.end_of_run-end.ensures.within c.end_of_run-end.ensures.apart (c.in_ok-differ.ensures.0 yes) c.runs.invariant

pub returns : goal.returns
returns c = run_done (map (λ e. e.name.now) c.args.exports.now) c.args.keys.now c.runs.begin c.runs-test.false c.runs.invariant
