-- A refusal of the lower crate as one of this crate.
use Rattle.wasm_forms.specs.declared.error.WireError.{WireError}
use Rattle.wasm_forms.specs.declared.error.WireError.TheVariants.{Malformed, Memory, TooLarge}
use Rattle.walrus_code.specs.declared.error.IrError.{IrError}
use Rattle.walrus_code.specs.declared.error.IrError.TheVariants.{Malformed as IrMalformed, Memory as IrMemory, TooLarge as IrTooLarge}

abbrev pub ir_error : WireError → IrError
ir_error Malformed = IrMalformed
ir_error (Memory e) = IrMemory e
ir_error TooLarge = IrTooLarge
