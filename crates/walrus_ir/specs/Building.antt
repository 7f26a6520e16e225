-- What a contract sees of a function that is being built.
use Rattle.std.specs.Prelude.{Option, Some, String}
use Rattle.std.specs.Global.{Global}
use Rattle.walrus_base.specs.declared.id.Id.{Id}
use Rattle.walrus_base.specs.declared.keys.TypeKey.{TypeKey}
use Rattle.walrus_ir.specs.declared.function.FunctionBuilder.{FunctionBuilder}
use Rattle.walrus_ir.specs.declared.sequence.InstrSeqBuilder.{InstrSeqBuilder}

abbrev pub builder_name : FunctionBuilder → Option (String Global)
builder_name b = b.name

abbrev pub builder_type : FunctionBuilder → Id TypeKey
builder_type b = b.ty

abbrev pub builder_body : FunctionBuilder → InstrSeqBuilder
builder_body b = b.body

-- the same under another name
abbrev pub with_name : FunctionBuilder → String Global → FunctionBuilder
with_name b name = record b { name = Some name }

-- the same with another body
abbrev pub with_body : FunctionBuilder → InstrSeqBuilder → FunctionBuilder
with_body b body = record b { body = body }
