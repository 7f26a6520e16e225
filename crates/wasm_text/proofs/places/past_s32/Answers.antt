use Rattle.std.proofs.Common.{inr, arith}
use Rattle.wasm_forms.specs.Number.{last_of}
use Rattle.wasm_forms.specs.Grammar.{S32}
use Rattle.wasm_text.proofs.Forms.{stands_byte, signed_byte}
use Rattle.wasm_text.proofs.places.past_s32.Goals as goal

pub returns-in-Some : goal.returns-in-Some
returns-in-Some c =
    inr (last_of c.in-Some.byte, stands_byte S32 c.args.bytes.now c.args.at c.in-Some.byte (last_of c.in-Some.byte) c.in-Some.ensures.0 c.in-Some.ensures.1 (signed_byte 5 2147483648 c.in-Some.byte (omega arith) (omega arith) c.if-byte-lt128.true))
