use Rattle.std.proofs.Common.{arith}
use Rattle.wasm_forms.proofs.Groups.{len_one, len_two, len_three, len_four, len_five}
use Rattle.wasm_forms.proofs.Spelled.{least_of}
use Rattle.wasm_forms.proofs.write.leb128_len.Goals as goal

pub returns-then-value-lt128 : goal.returns-then-value-lt128
returns-then-value-lt128 c = let e = len_one c.args.value (omega arith) in record { written = e; least = least_of c.args.value _ e }

pub returns-then-value-lt16384 : goal.returns-then-value-lt16384
returns-then-value-lt16384 c = let e = len_two c.args.value (omega arith) (omega arith) in record { written = e; least = least_of c.args.value _ e }

pub returns-then-value-lt2097152 : goal.returns-then-value-lt2097152
returns-then-value-lt2097152 c = let e = len_three c.args.value (omega arith) (omega arith) in record { written = e; least = least_of c.args.value _ e }

pub returns-then-value-lt268435456 : goal.returns-then-value-lt268435456
returns-then-value-lt268435456 c = let e = len_four c.args.value (omega arith) (omega arith) in record { written = e; least = least_of c.args.value _ e }

pub returns-else-value-lt268435456 : goal.returns-else-value-lt268435456
returns-else-value-lt268435456 c = let e = len_five c.args.value (omega arith) (omega arith) in record { written = e; least = least_of c.args.value _ e }
