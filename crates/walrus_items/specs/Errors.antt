-- The text of each refusal, and which error of this crate stands for an error of a layer below.
use Rattle.std.specs.Prelude.{ℕ, List, alloc_error, codes, string_bytes}
use Rattle.wasm_forms.specs.declared.error.WireError.{WireError}
use Rattle.wasm_forms.specs.declared.error.WireError.TheVariants as Wire
use Rattle.walrus_code.specs.declared.error.IrError.{IrError}
use Rattle.walrus_code.specs.declared.error.IrError.TheVariants as Ir
use Rattle.walrus_items.specs.declared.error.Error.{Error}
use Rattle.walrus_items.specs.declared.error.Error.TheVariants.{Memory, InvalidWasm, TooLarge, NoIndex, NotWritable}
use Rattle.walrus_items.specs.declared.error.Error.TheVariants as errors
use Rattle.walrus_items.specs.declared.error.ErrorKind.TheVariants as Kind

-- a request for memory was refused
abbrev pub out_of_memory : Error
out_of_memory = Memory alloc_error

-- bytes that aren't in the grammar
abbrev pub invalid_wasm : Error
invalid_wasm = InvalidWasm Kind.InvalidWasm

abbrev pub error_of_wire : WireError → Error
error_of_wire Wire.Malformed = invalid_wasm
error_of_wire (Wire.Memory e) = Memory e
error_of_wire Wire.TooLarge = TooLarge

abbrev pub error_of_ir : IrError → Error
error_of_ir Ir.Malformed = invalid_wasm
error_of_ir (Ir.Memory e) = Memory e
error_of_ir Ir.NoIndex = NoIndex
error_of_ir Ir.NotWritable = NotWritable
error_of_ir Ir.TooLarge = TooLarge

-- what a refusal says
abbrev pub error_text : Error → List ℕ
error_text (errors.Memory e) = codes "out of memory"
error_text (errors.InvalidWasm kind) = codes "The input WebAssembly is invalid"
error_text errors.DeadItem = codes "reference to an item that is not live"
error_text errors.NoIndex = codes "an item has no index"
error_text errors.TwoIndices = codes "an item has two indices"
error_text errors.TooLarge = codes "a count or size passes 32 bits"
error_text errors.NotWritable = codes "a form that cannot be written"
error_text errors.NotFound = codes "not found"
error_text errors.SeveralMemories = codes "multiple memories unsupported"
error_text errors.NoMemory = codes "module does not export a memory"
error_text errors.SeveralFunctionTables = codes "module contains more than one function table"
error_text errors.NotExported = codes "no exported function with this id"
error_text errors.NotImported = codes "no imported function with this id"
error_text errors.NotReplaceable = codes "cannot replace function"
error_text (errors.Caller text) = string_bytes text
