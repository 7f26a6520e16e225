-- Arguments that bytes spell: each abstract heap type in them by one of its bytes, from 0x69 to 0x74 ("Binary Format > Types > Heap
-- Types").
use Rattle.wasm_forms.specs.Types.{HeapStands, ValueStands}
use Rattle.wasm_operators.specs.declared.operator.RawArg.{RawArg}
use Rattle.wasm_operators.specs.declared.operator.RawArg.TheVariants as raw
use Rattle.wasm_operators.specs.declared.operator.RawBlock.{RawBlock}
use Rattle.wasm_operators.specs.declared.operator.RawBlock.TheVariants.{NoResult, OneResult, OfType}

abbrev pub BlockStands : RawBlock → Type 0
BlockStands NoResult = Unit {0}
BlockStands (OneResult v) = ValueStands v
BlockStands (OfType t) = Unit {0}

abbrev pub ArgStands : RawArg → Type 0
ArgStands (raw.Value v) = ValueStands v
ArgStands (raw.Heap h) = HeapStands h
ArgStands (raw.Block b) = BlockStands b
ArgStands (raw.Function n) = Unit {0}
ArgStands (raw.«Type» n) = Unit {0}
ArgStands (raw.Table n) = Unit {0}
ArgStands (raw.Memory n) = Unit {0}
ArgStands (raw.Global n) = Unit {0}
ArgStands (raw.Tag n) = Unit {0}
ArgStands (raw.Element n) = Unit {0}
ArgStands (raw.Data n) = Unit {0}
ArgStands (raw.Local n) = Unit {0}
ArgStands (raw.Label n) = Unit {0}
ArgStands (raw.Count n) = Unit {0}
ArgStands (raw.Number n) = Unit {0}
ArgStands (raw.Byte b) = Unit {0}
ArgStands (raw.S32 z) = Unit {0}
ArgStands (raw.S64 z) = Unit {0}
ArgStands (raw.F32 bits) = Unit {0}
ArgStands (raw.F64 bits) = Unit {0}
ArgStands (raw.Access flags memory offset) = Unit {0}
