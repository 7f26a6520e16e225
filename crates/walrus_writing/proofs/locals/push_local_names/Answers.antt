use Rattle.std.proofs.Common.{map}
use Rattle.wasm_payloads.specs.Lent.{locals_entry}
use Rattle.walrus_base.specs.Id.{place}
use Rattle.walrus_base.specs.Locals.{locals}
use Rattle.walrus_writing.specs.Names.{used_listed}
use Rattle.walrus_writing.proofs.UsedNames.{none_pushed}
use Rattle.walrus_writing.proofs.locals.push_local_names.Goals as goal

pub returns-then-are_unnamed-clause-value : goal.returns-then-are_unnamed-clause-value
returns-then-are_unnamed-clause-value c =
    none_pushed (locals c.args.all.now) (used_listed (map place c.args.order.now) c.args.used.now) (map locals_entry c.args.to.now.items) c.args.function c.are_unnamed.result c.are_unnamed.ensures c.if-are_unnamed.true
