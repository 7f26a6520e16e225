use Rattle.std.proofs.Common.{ℕ, ◌≤◌, ◌^◌, Bool, List, length, map, arith}
use Rattle.std.specs.Bool.{Decides}
use Rattle.std.proofs.lemmas.List.{length-map}
use Rattle.std.proofs.lemmas.Result.{IfOk-weaker}
use Rattle.wasm_wire.specs.Keys.{AllDiffer, name_at}
use Rattle.wasm_wire.proofs.Keys.{keys_held, told_by_keys}
use Rattle.wasm_wire.proofs.rules.exports.names_differ.Goals as goal

pub runs_differ-requires-clause-held : goal.runs_differ-requires-clause-held
runs_differ-requires-clause-held c =
    let names : List (List ℕ) = map (λ e. e.name.now) c.args.exports.now in
    let long = length-map c.args.exports.now (λ e. e.name.now) in
    let room : length names ≤ 2 ^ 32 = omega (arith, long, c.if-exports.false) in
    keys_held names c.in_ok-keys.keys.items c.as_slice.result.now room c.in_ok-keys.ensures.all c.as_slice.ensures.value

pub returns : goal.returns
returns c =
    let names : List (List ℕ) = map (λ e. e.name.now) c.args.exports.now in
    let long = length-map c.args.exports.now (λ e. e.name.now) in
    let room : length names ≤ 2 ^ 32 = omega (arith, long, c.if-exports.false) in
    IfOk-weaker c.runs_differ.result (λ (answer : Bool). Decides answer (AllDiffer (map (name_at names) c.as_slice.result.now)))
    (λ (answer : Bool). Decides answer (AllDiffer names))
    (λ answer decides. told_by_keys names c.in_ok-keys.keys.items c.as_slice.result.now answer room c.in_ok-keys.ensures.all c.as_slice.ensures.value decides)
    c.runs_differ.ensures
