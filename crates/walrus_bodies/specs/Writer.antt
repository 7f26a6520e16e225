-- What the steps of writing operators append. Public clauses speak of `OperatorsWritten` alone.
use Rattle.std.specs.Prelude.{◌≡◌, ℕ, false, Option, Some, None, List, ◌++◌, length, Contains, Result, Ok, Err}
use Rattle.wasm_forms.specs.Grammar.{Is}
use Rattle.wasm_forms.specs.Spelling.{row_bytes}
use Rattle.wasm_operators.specs.Operators as wire
use Rattle.wasm_operators.specs.Forms.{operator}
use Rattle.wasm_operators.specs.Spelling.{op_bytes}
use Rattle.walrus_base.specs.Operators.{Op}
use Rattle.walrus_code.specs.FromRaw.{op_of, ops_of}
use Rattle.walrus_code.specs.Names.{Lookup, named_op, named_ops}
use Rattle.walrus_code.specs.declared.error.IrError.{IrError}
use Rattle.walrus_code.specs.declared.error.IrError.TheVariants.{Malformed, Memory, NoIndex, NotWritable, TooLarge}
use Rattle.walrus_bodies.specs.Emitting.{places_from, AllStand, IsUnspelled}
use Rattle.wasm_operators.specs.Standing.{spells}

-- an operator over indices: its spelling is appended, and reads as it
abbrev pub WritesText : {X : Type 0} → wire.Op → List ℕ → List ℕ → Result X IrError → Type 0
WritesText text old new (Ok x) = (new ≡ old ++ op_bytes text) × Is operator (op_bytes text) text
WritesText text old new (Err NotWritable) = spells text ≡ false
WritesText text old new (Err (Memory e)) = Unit {0}
WritesText text old new (Err NoIndex) = ⊥
WritesText text old new (Err Malformed) = ⊥
WritesText text old new (Err TooLarge) = ⊥

-- the operator is appended
pub record Appends (names : Lookup) (locals : ℕ → Option ℕ) (o : Op) (old new : List ℕ) : Type 0 where
  pub text : wire.Op
  pub named : named_op names locals o ≡ Some (op_of text)
  pub spelled : new ≡ old ++ op_bytes text
  pub stands : Is operator (op_bytes text) text

abbrev pub Writes : {X : Type 0} → Lookup → (ℕ → Option ℕ) → Op → List ℕ → List ℕ → Result X IrError → Type 0
Writes names locals o old new (Ok x) = Appends names locals o old new
Writes names locals o old new (Err NoIndex) = named_op names locals o ≡ None
Writes names locals o old new (Err NotWritable) = IsUnspelled names locals o
Writes names locals o old new (Err (Memory e)) = Unit {0}
Writes names locals o old new (Err Malformed) = ⊥
Writes names locals o old new (Err TooLarge) = ⊥

-- the operators are appended, at these places
pub record AppendsAll (names : Lookup) (locals : ℕ → Option ℕ) (ops : List Op) (old new : List ℕ) (places : List ℕ) : Type 0 where
  pub texts : List wire.Op
  pub named : named_ops names locals ops ≡ Some (ops_of texts)
  pub spelled : new ≡ old ++ row_bytes op_bytes texts
  pub placed : places ≡ places_from (length old) texts
  pub stand : AllStand texts

-- operators one behind another
abbrev pub WritesAll : {X : Type 0} → Lookup → (ℕ → Option ℕ) → List Op → List ℕ → List ℕ → (X → List ℕ) → Result X IrError → Type 0
WritesAll names locals ops old new places (Ok x) = AppendsAll names locals ops old new (places x)
WritesAll names locals ops old new places (Err NoIndex) = named_ops names locals ops ≡ None
WritesAll names locals ops old new places (Err NotWritable) = (o : Op) × (Contains ops o × IsUnspelled names locals o)
WritesAll names locals ops old new places (Err (Memory e)) = Unit {0}
WritesAll names locals ops old new places (Err Malformed) = ⊥
WritesAll names locals ops old new places (Err TooLarge) = ⊥
