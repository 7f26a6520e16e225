use Rattle.std.proofs.Common.{rules, ◌≡◌, true, false}
use Rattle.std.proofs.lemmas.Result.{err_from_is_err_and}
use Rattle.walrus.specs.Items.Imports.{imports}
use Rattle.walrus_tools.proofs.StubCall.{next_from, passes_from}
use Rattle.walrus_tools.specs.Stub.{comes_from}
use Rattle.walrus_examples.proofs.examples.stub_module.trap_at.Goals as goal

pub returns-then-not-is_from : goal.returns-then-not-is_from
returns-then-not-is_from g c =
    let none : comes_from c.args.from.now (imports c.args.module.now.imports) c.args.at ≡ false = search rules in
    λ config begun whole some. passes_from config c.args.from.now c.args.at begun c.args.module.now c.args.module.now whole some none

pub returns-in_err-trap_import : goal.returns-in_err-trap_import
returns-in_err-trap_import g c =
    let comes : comes_from c.args.from.now (imports c.args.module.now.imports) c.args.at ≡ true = search rules in
    let p = err_from_is_err_and c.from_residual.result c.from_residual.ensures.1 in
    rw (p.1, p.2) (λ config begun whole some. next_from config c.args.from.now c.args.at begun c.args.module.now _ whole some comes c.at-import.result c.at-import.ensures _ c.in_err-trap_import.ensures)

pub returns : goal.returns
returns g c =
    let comes : comes_from c.args.from.now (imports c.args.module.now.imports) c.args.at ≡ true = search rules in
    λ config begun whole some. next_from config c.args.from.now c.args.at begun c.args.module.now _ whole some comes c.at-import.result c.at-import.ensures _ c.in_ok-trap_import.ensures
