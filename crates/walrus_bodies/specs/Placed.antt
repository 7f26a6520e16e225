-- Operators over indices as operators over places: each index is the place of its item, and the locals of a function lie one behind another.
use Rattle.std.specs.Prelude.{ℕ, ◌+◌, List, map}
use Rattle.wasm_text.specs.Operators as wire
use Rattle.walrus_base.specs.Operators.{Arg, Index, Label, Local, Number, Count, Byte, S32, S64, Bits32, Bits64, Value, Heap, Block, Access, Op}
use Rattle.walrus_code.specs.FromRaw.{op_of}

-- an operator with each local in it so many places further
abbrev pub moved_arg : ℕ → Arg → Arg
moved_arg by (Local x) = Local (by + x)
moved_arg by (Index x) = Index x
moved_arg by (Label n) = Label n
moved_arg by (Number n) = Number n
moved_arg by (Count n) = Count n
moved_arg by (Byte n) = Byte n
moved_arg by (S32 z) = S32 z
moved_arg by (S64 z) = S64 z
moved_arg by (Bits32 n) = Bits32 n
moved_arg by (Bits64 n) = Bits64 n
moved_arg by (Value v) = Value v
moved_arg by (Heap h) = Heap h
moved_arg by (Block b) = Block b
moved_arg by (Access flags memory offset) = Access flags memory offset

abbrev pub moved_op : ℕ → Op → Op
moved_op by o = record { op = o.op; args = map (moved_arg by) o.args }

-- an operator over indices, where the locals of the function lie from a place on
abbrev pub placed_op : ℕ → wire.Op → Op
placed_op first o = moved_op first (op_of o)

abbrev pub placed_ops : ℕ → List wire.Op → List Op
placed_ops first os = map (placed_op first) os
