-- What is answered where the operators of a body are written.
use Rattle.std.specs.Prelude.{◌≡◌, ◌⊎◌, ℕ, ◌+◌, true, false, Option, Some, None, List, [], ◌∷◌, ◌++◌, length, All, Contains, Result, Ok, Err}
use Rattle.wasm_forms.specs.Grammar.{Is}
use Rattle.wasm_forms.specs.Spelling.{row_bytes}
use Rattle.wasm_operators.specs.Operators as wire
use Rattle.wasm_operators.specs.Forms.{operator}
use Rattle.wasm_operators.specs.Spelling.{op_bytes}
use Rattle.walrus_base.specs.Operators.{Op}
use Rattle.walrus_code.specs.FromRaw.{op_of, ops_of}
use Rattle.walrus_code.specs.Names.{Lookup, LeadsBack, LocalsLeadBack, named_op, named_ops}
use Rattle.walrus_code.specs.Results.{args_are_exact}
use Rattle.walrus_code.specs.Stands.{ArgStands}
use Rattle.walrus_code.specs.declared.error.IrError.{IrError}
use Rattle.walrus_code.specs.declared.error.IrError.TheVariants.{Malformed, Memory, NoIndex, NotWritable, TooLarge}
use Rattle.walrus_bodies.specs.declared.features.Features.{Features}
use Rattle.walrus_bodies.specs.Blocks.{are_nested, blocks_hold}
use Rattle.walrus_bodies.specs.Features.{are_allowed}
use Rattle.walrus_bodies.specs.Body.{Context, OperatorsRead}
use Rattle.wasm_operators.specs.Standing.{spells}

-- the places of the first bytes of operators that are written one behind another, the first of them at start
abbrev pub places_from : ℕ → List wire.Op → List ℕ
places_from start [] = []
places_from start (o ∷ ops) = start ∷ places_from (start + length (op_bytes o)) ops

-- each of these operators over indices stands where it is spelled
abbrev pub AllStand : List wire.Op → Type 0
AllStand [] = Unit {0}
AllStand (text ∷ rest) = Is operator (op_bytes text) text × AllStand rest

-- The operators nest and are allowed. Behind the bytes that were there stands the one spelling of them over indices, and it reads as
-- the operators: under all look-ups to which the indices lead back, with the same features and with function types as the types of the
-- blocks. And these are the places of their first bytes.
pub record OperatorsWritten (names : Lookup) (locals : ℕ → Option ℕ) (features : Features) (ops : List Op) (old new : List ℕ) (places : List ℕ) : Type 0 where
  pub nested : are_nested ops ≡ true
  pub allowed : are_allowed features ops ≡ true
  pub texts : List wire.Op
  pub named : named_ops names locals ops ≡ Some (ops_of texts)
  pub stand : AllStand texts
  pub spelled : new ≡ old ++ row_bytes op_bytes texts
  pub placed : places ≡ places_from (length old) texts
  pub back : (c : Context) (locals_back : ℕ → Option ℕ) → LeadsBack names c.names → LocalsLeadBack locals locals_back → c.features ≡ features → blocks_hold c.is_function_type ops ≡ true → OperatorsRead c locals_back (row_bytes op_bytes texts) ops

-- the operator, over indices, isn't one of the table with the arguments that it takes
pub record IsNoOperator (names : Lookup) (locals : ℕ → Option ℕ) (o : Op) : Type 0 where
  pub text : wire.Op
  pub named : named_op names locals o ≡ Some (op_of text)
  pub stands : All ArgStands text.args
  pub unspelled : spells text ≡ false

-- no bytes spell the operator: an exact heap type stands in it, or it isn't one of the table
abbrev pub IsUnspelled : Lookup → (ℕ → Option ℕ) → Op → Type 0
IsUnspelled names locals o = (args_are_exact o.args ≡ true) ⊎ IsNoOperator names locals o

-- why operators can't be written: their blocks, what the features allow, or one that no bytes spell
abbrev pub IsNotWritable : Lookup → (ℕ → Option ℕ) → Features → List Op → Type 0
IsNotWritable names locals features ops = (are_nested ops ≡ false) ⊎ (are_allowed features ops ≡ false) ⊎ ((o : Op) × (Contains ops o × IsUnspelled names locals o))

-- Written: the spelling, at the places that are answered. No index: one of the items or locals has none. Not writable: as above.
abbrev pub EmitsOperators : {X : Type 0} → Lookup → (ℕ → Option ℕ) → Features → List Op → List ℕ → List ℕ → (X → List ℕ) → Result X IrError → Type 0
EmitsOperators names locals features ops old new places (Ok x) = OperatorsWritten names locals features ops old new (places x)
EmitsOperators names locals features ops old new places (Err NoIndex) = named_ops names locals ops ≡ None
EmitsOperators names locals features ops old new places (Err NotWritable) = IsNotWritable names locals features ops
EmitsOperators names locals features ops old new places (Err (Memory e)) = Unit {0}
EmitsOperators names locals features ops old new places (Err Malformed) = ⊥
EmitsOperators names locals features ops old new places (Err TooLarge) = ⊥
