use Rattle.std.proofs.Common.{◌≡◌, length, refl, arith, []}
use Rattle.std.proofs.lemmas.Bool.Decides.{nat_tests}
use Rattle.std.proofs.lemmas.Result.{err_from_is_err_and}
use Rattle.wasm_payloads.specs.Names.{ModuleName}
use Rattle.wasm_payloads.specs.Steps.{module_at}
use Rattle.wasm_payloads.proofs.Found.{module_found}
use Rattle.wasm_payloads.proofs.Handing.{lone_refused}
use Rattle.wasm_payloads.proofs.names.tell_module.Goals as goal

pub returns-in_err-naming-clause-hands : goal.returns-in_err-naming-clause-hands
returns-in_err-naming-clause-hands g c =
    let p = err_from_is_err_and c.from_residual.result c.from_residual.ensures.1 in
    let none : length c.in-Some.rest.now ≡ 0 = grind (arith, nat_tests) in
    let e = module_found c.args.bytes.now c.in-Some.rest.now c.in-Some.name.now c.in-Some.ensures none in
    let x = ModuleName c.in-Some.name.now in
    rw (p.1, p.2) (lone_refused g.S.NameSink.seen g.S.NameSink.after g.S.NameSink.refuses c.args.sink.now c.naming.new.self c.in_err-naming.field-0.0 x x (module_at c.args.bytes.now) [] e refl c.in_err-naming.ensures.same_seen c.in_err-naming.ensures.refused)
