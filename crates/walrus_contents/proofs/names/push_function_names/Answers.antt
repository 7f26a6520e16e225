use Rattle.std.proofs.Common.{ap}
use Rattle.walrus_base.specs.Id.{place}
use Rattle.walrus_base.specs.Operators.{type_item}
use Rattle.walrus_base.specs.declared.id.Id.{Id}
use Rattle.walrus_base.specs.declared.keys.TypeKey.{TypeKey}
use Rattle.walrus_items.specs.Functions.{function_value}
use Rattle.walrus_contents.proofs.NamedLemmas.{type_and_body}
use Rattle.walrus_contents.proofs.names.push_function_names.Goals as goal

pub returns : goal.returns
returns c =
    type_and_body c.args.locals.now (function_value c.args.function.now) c.push_kind_names.result c.args.to.now c.push.new.self c.push_kind_names.new.to
    _ (ap (λ (id : Id TypeKey). type_item (place id)) c.ty.ensures) c.in_ok-push.ensures.items c.push_kind_names.ensures
