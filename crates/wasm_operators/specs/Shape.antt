-- The kinds of arguments that stand behind operators, by the shapes of the code's table.
use Rattle.std.specs.Prelude.{List, [], ◌∷◌, Option, Some, None}
use Rattle.wasm_operators.specs.declared.kind.Kind.{Kind}
use Rattle.wasm_operators.specs.declared.kind.Kind.TheVariants as kinds
use Rattle.wasm_operators.specs.declared.shape.Shape.{Shape}
use Rattle.wasm_operators.specs.declared.shape.Shape.TheVariants as shapes

abbrev pub kinds_of_shape : Shape → Option (List Kind)
kinds_of_shape shapes.Free = None
kinds_of_shape shapes.Bare = Some []
kinds_of_shape shapes.Block = Some (kinds.Block ∷ [])
kinds_of_shape shapes.Try = Some (kinds.Block ∷ kinds.Catches ∷ [])
kinds_of_shape shapes.Tag = Some (kinds.Tag ∷ [])
kinds_of_shape shapes.Label = Some (kinds.Label ∷ [])
kinds_of_shape shapes.Labels = Some (kinds.Labels ∷ kinds.Label ∷ [])
kinds_of_shape shapes.Function = Some (kinds.Function ∷ [])
kinds_of_shape shapes.«Type» = Some (kinds.«Type» ∷ [])
kinds_of_shape shapes.TypeTable = Some (kinds.«Type» ∷ kinds.Table ∷ [])
kinds_of_shape shapes.Values = Some (kinds.Values ∷ [])
kinds_of_shape shapes.Local = Some (kinds.Local ∷ [])
kinds_of_shape shapes.Global = Some (kinds.Global ∷ [])
kinds_of_shape shapes.Table = Some (kinds.Table ∷ [])
kinds_of_shape shapes.Tables = Some (kinds.Table ∷ kinds.Table ∷ [])
kinds_of_shape shapes.Element = Some (kinds.Element ∷ [])
kinds_of_shape shapes.ElemTable = Some (kinds.Element ∷ kinds.Table ∷ [])
kinds_of_shape shapes.Access = Some (kinds.Access ∷ [])
kinds_of_shape shapes.Lane = Some (kinds.Access ∷ kinds.Byte ∷ [])
kinds_of_shape shapes.Memory = Some (kinds.Memory ∷ [])
kinds_of_shape shapes.Memories = Some (kinds.Memory ∷ kinds.Memory ∷ [])
kinds_of_shape shapes.Data = Some (kinds.Data ∷ [])
kinds_of_shape shapes.DataMemory = Some (kinds.Data ∷ kinds.Memory ∷ [])
kinds_of_shape shapes.S32 = Some (kinds.S32 ∷ [])
kinds_of_shape shapes.S64 = Some (kinds.S64 ∷ [])
kinds_of_shape shapes.F32 = Some (kinds.F32 ∷ [])
kinds_of_shape shapes.F64 = Some (kinds.F64 ∷ [])
kinds_of_shape shapes.Heap = Some (kinds.Heap ∷ [])
kinds_of_shape shapes.Types = Some (kinds.«Type» ∷ kinds.«Type» ∷ [])
kinds_of_shape shapes.TypeNumber = Some (kinds.«Type» ∷ kinds.Number ∷ [])
kinds_of_shape shapes.TypeData = Some (kinds.«Type» ∷ kinds.Data ∷ [])
kinds_of_shape shapes.TypeElem = Some (kinds.«Type» ∷ kinds.Element ∷ [])
kinds_of_shape shapes.Cast = Some (kinds.Byte ∷ kinds.Label ∷ kinds.Heap ∷ kinds.Heap ∷ [])
kinds_of_shape shapes.Byte = Some (kinds.Byte ∷ [])
kinds_of_shape shapes.Sixteen = Some (kinds.SixteenBytes ∷ [])
