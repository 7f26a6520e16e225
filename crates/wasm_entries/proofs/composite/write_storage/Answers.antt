use Rattle.wasm_entries.proofs.Steps.{adds_spent, keeps_same, keeps_put}
use Rattle.wasm_entries.specs.TypeSpelling.{storage_bytes}
use Rattle.wasm_entries.proofs.composite.write_storage.Goals as goal

pub returns-in_err-push-in-I8-clause-adds : goal.returns-in_err-push-in-I8-clause-adds
returns-in_err-push-in-I8-clause-adds c = adds_spent c.from_residual-in_err-push-in-I8.result c.args.to.now.items c.push.new.self.items (storage_bytes c.args.storage.now) (Unit {0}) c.from_residual-in_err-push-in-I8.ensures.1

pub returns-in_err-push-in-I8-clause-keeps : goal.returns-in_err-push-in-I8-clause-keeps
returns-in_err-push-in-I8-clause-keeps c = keeps_same c.args.to.now.items c.push.new.self.items c.in_err-push-in-I8.ensures.items

pub returns-in_ok-push-in-I8-clause-keeps : goal.returns-in_ok-push-in-I8-clause-keeps
returns-in_ok-push-in-I8-clause-keeps c = keeps_put c.args.to.now.items c.push.new.self.items _ c.in_ok-push-in-I8.ensures.items

pub returns-in_err-push-in-I16-clause-adds : goal.returns-in_err-push-in-I16-clause-adds
returns-in_err-push-in-I16-clause-adds c = adds_spent c.from_residual-in_err-push-in-I16.result c.args.to.now.items c.push-in-I16.new.self.items (storage_bytes c.args.storage.now) (Unit {0}) c.from_residual-in_err-push-in-I16.ensures.1

pub returns-in_err-push-in-I16-clause-keeps : goal.returns-in_err-push-in-I16-clause-keeps
returns-in_err-push-in-I16-clause-keeps c = keeps_same c.args.to.now.items c.push-in-I16.new.self.items c.in_err-push-in-I16.ensures.items

pub returns-in_ok-push-in-I16-clause-keeps : goal.returns-in_ok-push-in-I16-clause-keeps
returns-in_ok-push-in-I16-clause-keeps c = keeps_put c.args.to.now.items c.push-in-I16.new.self.items _ c.in_ok-push-in-I16.ensures.items

pub returns-in_err-write-in-Val-clause-keeps : goal.returns-in_err-write-in-Val-clause-keeps
returns-in_err-write-in-Val-clause-keeps c = c.in_err-write-in-Val.ensures.keeps

pub returns-in_ok-write-in-Val-clause-keeps : goal.returns-in_ok-write-in-Val-clause-keeps
returns-in_ok-write-in-Val-clause-keeps c = c.in_ok-write-in-Val.ensures.keeps
