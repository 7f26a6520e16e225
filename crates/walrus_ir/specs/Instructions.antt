-- The operators that a builder has a call for ("Binary Format > Instructions").
use Rattle.std.specs.Prelude.{ℕ, ◌-◌, ◌^◌, ℤ, [], ◌∷◌}
use Rattle.wasm_opcodes.specs.declared.one_byte.TheConstants.{UNREACHABLE, BLOCK, LOOP, IF, ELSE, END, BR, BR_IF, RETURN, CALL, CALL_INDIRECT, DROP, SELECT, LOCAL_GET, LOCAL_SET, LOCAL_TEE, GLOBAL_GET, GLOBAL_SET, I32_CONST, I64_CONST, F32_CONST, F64_CONST, REF_FUNC}
use Rattle.walrus_base.specs.Operators.{Op, BlockType, S32, S64, Bits32, Bits64, Index, Local, Label, Block, Access, type_item, function_item, Globals, Tables}

-- an operator without arguments
abbrev pub bare_op : (number : ℕ) → Op
bare_op number = record { op = number; args = [] }

-- ---- "Control Instructions"

abbrev pub unreachable_op : Op
unreachable_op = bare_op UNREACHABLE

abbrev pub block_op : BlockType → Op
block_op ty = record { op = BLOCK; args = Block ty ∷ [] }

abbrev pub loop_op : BlockType → Op
loop_op ty = record { op = LOOP; args = Block ty ∷ [] }

abbrev pub if_op : BlockType → Op
if_op ty = record { op = IF; args = Block ty ∷ [] }

abbrev pub else_op : Op
else_op = bare_op ELSE

-- the operator that closes a block or a function
abbrev pub end_op : Op
end_op = bare_op END

abbrev pub br_op : (label : ℕ) → Op
br_op label = record { op = BR; args = Label label ∷ [] }

abbrev pub br_if_op : (label : ℕ) → Op
br_if_op label = record { op = BR_IF; args = Label label ∷ [] }

abbrev pub return_op : Op
return_op = bare_op RETURN

abbrev pub call_op : (function : ℕ) → Op
call_op function = record { op = CALL; args = Index (function_item function) ∷ [] }

abbrev pub call_indirect_op : (ty table : ℕ) → Op
call_indirect_op ty table = record { op = CALL_INDIRECT; args = Index (type_item ty) ∷ Index (Tables, table) ∷ [] }

-- ---- "Reference Instructions", "Parametric Instructions", "Variable Instructions"

abbrev pub ref_func_op : (function : ℕ) → Op
ref_func_op function = record { op = REF_FUNC; args = Index (function_item function) ∷ [] }

abbrev pub drop_op : Op
drop_op = bare_op DROP

abbrev pub select_op : Op
select_op = bare_op SELECT

abbrev pub local_get_op : (local : ℕ) → Op
local_get_op local = record { op = LOCAL_GET; args = Local local ∷ [] }

abbrev pub local_set_op : (local : ℕ) → Op
local_set_op local = record { op = LOCAL_SET; args = Local local ∷ [] }

abbrev pub local_tee_op : (local : ℕ) → Op
local_tee_op local = record { op = LOCAL_TEE; args = Local local ∷ [] }

abbrev pub global_get_op : (global : ℕ) → Op
global_get_op global = record { op = GLOBAL_GET; args = Index (Globals, global) ∷ [] }

abbrev pub global_set_op : (global : ℕ) → Op
global_set_op global = record { op = GLOBAL_SET; args = Index (Globals, global) ∷ [] }

-- ---- "Numeric Instructions", "Memory Instructions"

abbrev pub i32_const_op : ℤ → Op
i32_const_op value = record { op = I32_CONST; args = S32 value ∷ [] }

abbrev pub i64_const_op : ℤ → Op
i64_const_op value = record { op = I64_CONST; args = S64 value ∷ [] }

abbrev pub f32_const_op : (bits : ℕ) → Op
f32_const_op bits = record { op = F32_CONST; args = Bits32 bits ∷ [] }

abbrev pub f64_const_op : (bits : ℕ) → Op
f64_const_op bits = record { op = F64_CONST; args = Bits64 bits ∷ [] }

-- a load or a store, aligned to two to the power of `alignment` bytes
abbrev pub access_op : (number alignment memory offset : ℕ) → Op
access_op number alignment memory offset = record { op = number; args = Access alignment memory offset ∷ [] }

-- the location of what came from nowhere
abbrev pub nowhere : ℕ
nowhere = 2 ^ 32 - 1
