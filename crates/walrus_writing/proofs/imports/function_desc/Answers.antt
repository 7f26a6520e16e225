use Rattle.std.proofs.Common.{◌∙◌, ap}
use Rattle.walrus_base.specs.Id.{place}
use Rattle.walrus_base.specs.declared.id.Id.{Id}
use Rattle.walrus_base.specs.declared.keys.TypeKey.{TypeKey}
use Rattle.walrus_base.specs.Operators.{Types}
use Rattle.walrus_code.specs.Indices.{index_of}
use Rattle.walrus_contents.specs.View as seen
use Rattle.walrus_items.specs.Functions.{function_value}
use Rattle.walrus_writing.proofs.ImportedThings.{function_described}
use Rattle.walrus_writing.proofs.imports.function_desc.Goals as goal

pub returns : goal.returns
returns c = λ all. function_described (index_of c.args.indices.now) (seen.function all (function_value c.args.function.now)) c.in-Some.index
    (c.in-Some.ensures.same ∙ ap (λ (t : Id TypeKey). index_of c.args.indices.now Types (place t)) c.ty.ensures) c.in-Some.ensures.stands
