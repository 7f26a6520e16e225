-- How blocks open and close in a body ("Structure > Instructions > Control Instructions", "Binary Format > Instructions"), with the
-- blocks of legacy exceptions.
use Rattle.std.specs.Prelude.{ℕ, ◌-◌, Bool, true, false, ◌||◌, List, [], ◌∷◌, length, Option, Some, None, nat_eq, nat_lt, if◌then◌else◌}
use Rattle.wasm_opcodes.specs.declared.one_byte.TheConstants.{BLOCK, LOOP, IF, ELSE, TRY, CATCH, END, DELEGATE, CATCH_ALL, TRY_TABLE}
use Rattle.std.specs.List.{list_all}
use Rattle.walrus_base.specs.Operators.{Arg, Index, Label, Local, Number, Count, Byte, S32, S64, Bits32, Bits64, Value, Heap, Block, Access, Op, NoResult, OneResult, OfType}
use Rattle.walrus_bodies.specs.declared.blocks.Opened.{Opened}
use Rattle.walrus_bodies.specs.declared.blocks.Opened.TheVariants.{Plain, If, Try, Handled}

-- An open block is an If, which may still have its else; a Try, which may have handlers; a Handled, a try behind its catch_all, which
-- is its last handler; or a Plain, as all others, the function itself among them.

-- whether no block is open any more, the function itself included
abbrev pub is_none_open : List Opened → Bool
is_none_open [] = true
is_none_open (block ∷ around) = false

-- block, loop, try_table
abbrev pub opens_plain : ℕ → Bool
opens_plain op = nat_eq op BLOCK || nat_eq op LOOP || nat_eq op TRY_TABLE

-- the blocks open behind else: it stands directly in an if that has none yet; none where it may not stand
abbrev pub behind_else : List Opened → Option (List Opened)
behind_else [] = None
behind_else (If ∷ around) = Some (Plain ∷ around)
behind_else (Plain ∷ around) = None
behind_else (Try ∷ around) = None
behind_else (Handled ∷ around) = None

-- the blocks open behind catch: it stands directly in a try, before any catch_all; none where it may not stand
abbrev pub behind_catch : List Opened → Option (List Opened)
behind_catch [] = None
behind_catch (Try ∷ around) = Some (Try ∷ around)
behind_catch (Plain ∷ around) = None
behind_catch (If ∷ around) = None
behind_catch (Handled ∷ around) = None

-- the blocks open behind catch_all: it stands directly in a try, before any other; none where it may not stand
abbrev pub behind_catch_all : List Opened → Option (List Opened)
behind_catch_all [] = None
behind_catch_all (Try ∷ around) = Some (Handled ∷ around)
behind_catch_all (Plain ∷ around) = None
behind_catch_all (If ∷ around) = None
behind_catch_all (Handled ∷ around) = None

-- the blocks open behind delegate, which closes a try; none where it may not stand
abbrev pub behind_delegate : List Opened → Option (List Opened)
behind_delegate [] = None
behind_delegate (Try ∷ around) = Some around
behind_delegate (Handled ∷ around) = Some around
behind_delegate (Plain ∷ around) = None
behind_delegate (If ∷ around) = None

-- the blocks open behind end, which closes any block; none where none is open
abbrev pub behind_end : List Opened → Option (List Opened)
behind_end [] = None
behind_end (block ∷ around) = Some around

-- the open blocks behind an operator, the innermost first; none where it may not stand there
abbrev pub blocks_behind : ℕ → List Opened → Option (List Opened)
blocks_behind op blocks =
    if opens_plain op then Some (Plain ∷ blocks)
    else if nat_eq op IF then Some (If ∷ blocks)
    else if nat_eq op TRY then Some (Try ∷ blocks)
    else if nat_eq op ELSE then behind_else blocks
    else if nat_eq op CATCH then behind_catch blocks
    else if nat_eq op CATCH_ALL then behind_catch_all blocks
    else if nat_eq op DELEGATE then behind_delegate blocks
    else if nat_eq op END then behind_end blocks
    else Some blocks

-- how many blocks a label can mean: those open where the operator stands; delegate closes its own first
abbrev pub blocks_meant : ℕ → List Opened → ℕ
blocks_meant op blocks = if nat_eq op DELEGATE then length blocks - 1 else length blocks

-- an argument's label means an open block
abbrev pub label_below : ℕ → Arg → Bool
label_below count (Label l) = nat_lt l count
label_below count (Index x) = true
label_below count (Local n) = true
label_below count (Number n) = true
label_below count (Count n) = true
label_below count (Byte n) = true
label_below count (S32 z) = true
label_below count (S64 z) = true
label_below count (Bits32 n) = true
label_below count (Bits64 n) = true
label_below count (Value v) = true
label_below count (Heap h) = true
label_below count (Block b) = true
label_below count (Access flags memory offset) = true

-- each label among the arguments of an operator is below this count of blocks, and so means an open one
abbrev pub labels_below : ℕ → List Arg → Bool
labels_below count args = list_all (label_below count) args

-- the blocks open behind an operator with its labels in range; none where it stands in no block, or may not stand there
abbrev pub blocks_after : ℕ → List Arg → List Opened → Option (List Opened)
blocks_after op args [] = None
blocks_after op args (block ∷ around) = if labels_below (blocks_meant op (block ∷ around)) args then blocks_behind op (block ∷ around) else None

-- The operators stand in these open blocks, where there are such, and close all of them: each in an open block, each label in range,
-- and nothing behind the end of the outermost one.
abbrev pub nests : Option (List Opened) → List Op → Bool
nests None ops = false
nests (Some blocks) [] = is_none_open blocks
nests (Some blocks) (o ∷ ops) = nests (blocks_after o.op o.args blocks) ops

-- the operators of a function: it is the outermost block
abbrev pub are_nested : List Op → Bool
are_nested ops = nests (Some (Plain ∷ [])) ops

-- ---- the types of blocks are function types

-- an argument that is the type of a block, given by the number of a type, means a function type; any other argument is fine
abbrev pub block_holds : (ℕ → Bool) → Arg → Bool
block_holds is_function_type (Block (OfType t)) = is_function_type t
block_holds is_function_type (Block NoResult) = true
block_holds is_function_type (Block (OneResult v)) = true
block_holds is_function_type (Label l) = true
block_holds is_function_type (Index x) = true
block_holds is_function_type (Local n) = true
block_holds is_function_type (Number n) = true
block_holds is_function_type (Count n) = true
block_holds is_function_type (Byte n) = true
block_holds is_function_type (S32 z) = true
block_holds is_function_type (S64 z) = true
block_holds is_function_type (Bits32 n) = true
block_holds is_function_type (Bits64 n) = true
block_holds is_function_type (Value v) = true
block_holds is_function_type (Heap h) = true
block_holds is_function_type (Access flags memory offset) = true

-- among the arguments of an operator, the type of a block, where it is given by the number of a type, is a function type
abbrev pub args_hold : (ℕ → Bool) → List Arg → Bool
args_hold is_function_type args = list_all (block_holds is_function_type) args

-- the type of each block that the operators open, where it is given by the number of a type, is a function type
abbrev pub blocks_hold : (ℕ → Bool) → List Op → Bool
blocks_hold is_function_type ops = list_all (λ o. args_hold is_function_type o.args) ops
