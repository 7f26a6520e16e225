-- The functions on lists that the readers of bodies follow. Public clauses speak of `OperatorsRead` and `BodyReads` alone.
use Rattle.std.specs.Prelude.{◌≡◌, ℕ, zero, suc, ◌&&◌, List, [], ◌∷◌, ◌++◌, Option, Some, None, option_map, Result, Ok, Err, if◌then◌else◌}
use Rattle.wasm_forms.specs.Reading.{◌>>=◌}
use Rattle.wasm_forms.specs.Grammar.{at}
use Rattle.wasm_operators.specs.Forms.{operator}
use Rattle.walrus_base.specs.Operators.{Op}
use Rattle.walrus_code.specs.Names.{named_op}
use Rattle.walrus_code.specs.FromRaw.{op_of}
use Rattle.walrus_code.specs.declared.error.IrError.{IrError}
use Rattle.walrus_code.specs.declared.error.IrError.TheVariants.{Malformed, Memory, NoIndex, NotWritable, TooLarge}
use Rattle.walrus_bodies.specs.declared.blocks.Opened.{Opened}
use Rattle.walrus_bodies.specs.Blocks.{is_none_open, blocks_after, args_hold}
use Rattle.walrus_bodies.specs.Features.{is_allowed}
use Rattle.walrus_bodies.specs.Body.{Context}

-- what a refusal says of what stands there
abbrev pub Refuses : {Y : Type 0} → IrError → Option Y → Type 0
Refuses Malformed read = read ≡ None
Refuses (Memory e) read = Unit {0}
Refuses NoIndex read = ⊥
Refuses NotWritable read = ⊥
Refuses TooLarge read = ⊥

-- what a reader returned, seen by view, is what stands there, unless memory ran out
abbrev pub Gives : {X Y : Type 0} → (X → Y) → Result X IrError → Option Y → Type 0
Gives view (Ok x) read = read ≡ Some (view x)
Gives view (Err e) read = Refuses e read

-- the operator, if it is allowed and the types of its blocks are function types
abbrev pub taken : Context → List ℕ → Op → Option (Op × List ℕ)
taken c rest o = if is_allowed c.features o.op && args_hold c.is_function_type o.args then Some (o, rest) else None

-- one operator, with what it names looked up
abbrev pub op_at : Context → (ℕ → Option ℕ) → List ℕ → Option (Op × List ℕ)
op_at c locals bytes = at operator bytes >>= λ x. named_op c.names locals (op_of x.0) >>= taken c x.1

-- one operator that stands in these open blocks, and those behind it
abbrev pub next_at : Context → (ℕ → Option ℕ) → List Opened → List ℕ → Option (Op × List Opened × List ℕ)
next_at c locals blocks bytes = op_at c locals bytes >>= λ x. blocks_after x.0.op x.0.args blocks >>= λ behind. Some (x.0, behind, x.1)

-- the operators, if no byte is left
abbrev pub ended : List Op → List ℕ → Option (List Op)
ended ops [] = Some ops
ended ops (b ∷ rest) = None

-- operators that stand in these open blocks, up to the one that closes them all, with which the bytes end
unfoldable pub ops_at : Context → (ℕ → Option ℕ) → ℕ → List Opened → List ℕ → Option (List Op)
ops_at c locals zero blocks bytes = None
ops_at c locals (suc most) blocks bytes = next_at c locals blocks bytes >>= λ x.
    if is_none_open x.1 then ended (x.0 ∷ []) x.2 else (ops_at c locals most x.1 x.2 >>= λ rest. Some (x.0 ∷ rest))

-- further operators behind these
abbrev pub behind : List Op → Option (List Op) → Option (List Op)
behind done rest = option_map (λ ops. done ++ ops) rest
