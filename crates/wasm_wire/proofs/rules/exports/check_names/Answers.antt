use Rattle.std.proofs.Common.{rules, ◌≡◌, false, true}
use Rattle.wasm_wire.proofs.Names.{exports_alike, exports_differ}
use Rattle.wasm_wire.proofs.rules.exports.check_names.Goals as goal

pub returns-then-not-differ : goal.returns-then-not-differ
returns-then-not-differ c =
    let no : c.in_ok-differ.differ ≡ false = search rules in
    exports_alike c.args.exports.now c.in_ok-differ.differ c.in_ok-differ.ensures no

pub returns : goal.returns
returns c =
    let yes : c.in_ok-differ.differ ≡ true = search rules in
    exports_differ c.args.exports.now c.in_ok-differ.differ c.in_ok-differ.ensures yes
