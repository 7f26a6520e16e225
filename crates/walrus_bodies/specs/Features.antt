-- Which proposals a body may use.
use Rattle.std.specs.Prelude.{ℕ, Bool, ◌&&◌, ◌||◌, not, nat_eq, nat_le, List}
use Rattle.wasm_opcodes.specs.declared.one_byte.TheConstants.{TRY, CATCH, RETHROW, DELEGATE, CATCH_ALL, PREFIX_FC}
use Rattle.wasm_opcodes.specs.declared.behind_fc.TheConstants.{I64_ADD128, I64_MUL_WIDE_U}
use Rattle.wasm_opcodes.specs.Prefixed.{opcode_behind}
use Rattle.std.specs.List.{list_all}
use Rattle.walrus_base.specs.Operators.{Op}
use Rattle.walrus_bodies.specs.declared.features.Features.{Features}

-- try, catch, rethrow, delegate, catch_all
abbrev pub is_legacy : ℕ → Bool
is_legacy op = nat_eq op TRY || nat_eq op CATCH || nat_eq op RETHROW || nat_eq op DELEGATE || nat_eq op CATCH_ALL

-- wide arithmetic: FC 13 to 16
abbrev pub is_wide_arithmetic : ℕ → Bool
is_wide_arithmetic op = nat_le (opcode_behind PREFIX_FC I64_ADD128) op && nat_le op (opcode_behind PREFIX_FC I64_MUL_WIDE_U)

-- legacy exceptions are taken where they are asked for, wide arithmetic unless only what is stable is
abbrev pub is_allowed : Features → ℕ → Bool
is_allowed features op = (not (is_legacy op) || features.legacy_exceptions) && not (is_wide_arithmetic op && features.only_stable)

-- each of the operators may be used: none of legacy exceptions unless these are asked for, none of wide arithmetic where only what is stable is taken
abbrev pub are_allowed : Features → List Op → Bool
are_allowed features ops = list_all (λ o. is_allowed features o.op) ops
