-- The bodies of functions ("Binary Format > Modules > Code Section", "Binary Format > Instructions > Expressions"): a list of local
-- declarations, and then operators. The `0B` that closes the function is the last one.
use Rattle.std.specs.Prelude.{◌≡◌, ℕ, ◌+◌, ◌-◌, ◌^◌, Bool, true, List, [], ◌∷◌, ◌++◌, length, min, Option, Some, replicate}
use Rattle.wasm_forms.specs.declared.types.RawVal.{RawVal}
use Rattle.wasm_forms.specs.Reading.{◌>>=◌}
use Rattle.wasm_forms.specs.Grammar.{Form, ◌then◌, Vector, U32, Is, IsRow}
use Rattle.wasm_forms.specs.Types.{value_type}
use Rattle.wasm_operators.specs.Operators as wire
use Rattle.wasm_operators.specs.Forms.{operator}
use Rattle.walrus_base.specs.Types.{ValType}
use Rattle.walrus_base.specs.Operators.{Op}
use Rattle.walrus_code.specs.Names.{Lookup, named_val, named_ops}
use Rattle.walrus_code.specs.FromRaw.{val_of, ops_of}
use Rattle.walrus_code.specs.declared.location.InstrLocId.{InstrLocId}
use Rattle.walrus_bodies.specs.declared.features.Features.{Features}
use Rattle.walrus_bodies.specs.Features.{are_allowed}
use Rattle.walrus_bodies.specs.Blocks.{are_nested, blocks_hold}

-- what the operators of a body may name: declared items by their indices, the function types among the types by their places, and
-- which proposals they may use
pub record Context : Type 0 where
  pub names : Lookup
  pub is_function_type : ℕ → Bool
  pub features : Features

-- what the operators of a body may name and use, of its three parts: the look-up of items, which types are function types, and the proposals
abbrev pub context : Lookup → (ℕ → Bool) → Features → Context
context names is_function_type features = record { names = names; is_function_type = is_function_type; features = features }

-- ---- operators

-- The bytes are these operators, one behind another and no byte left, with each index put through the look-ups: they nest, are
-- allowed, and the types of their blocks are function types.
pub record OperatorsRead (c : Context) (locals : ℕ → Option ℕ) (bytes : List ℕ) (ops : List Op) : Type 0 where
  pub texts : List wire.Op
  pub spelled : IsRow (Is operator) bytes texts
  pub named : named_ops c.names locals (ops_of texts) ≡ Some ops
  pub nested : are_nested ops ≡ true
  pub allowed : are_allowed c.features ops ≡ true
  pub blocks : blocks_hold c.is_function_type ops ≡ true

-- The bytes, which begin at a place of the input, are operators one behind another, and each has a location that is given to the
-- place of its first byte. Places end at 2^64 - 1.
abbrev pub Located : (ℕ → InstrLocId → Type 0) → ℕ → List ℕ → List InstrLocId → Type 0
Located IsGiven place bytes [] = bytes ≡ []
Located IsGiven place bytes (loc ∷ locs) = (text : wire.Op) × ((front : List ℕ) × ((back : List ℕ) × ((bytes ≡ front ++ back) × Is operator front text × IsGiven (min place (2 ^ 64 - 1)) loc × Located IsGiven (place + length front) back locs)))

-- ---- local declarations ("Code Section"): each a count and a type

-- how the binary format spells the local declarations of a body: a vector of counts (u32), each with its value type; their sum isn't limited here
unfoldable pub declarations : Form (List (ℕ × RawVal))
declarations = Vector (U32 then value_type)

-- the types of the declared locals, one for each; none where a type isn't declared, also one of which there are no locals
abbrev pub declared_types : Lookup → List (ℕ × RawVal) → Option (List (ValType ℕ))
declared_types names [] = Some []
declared_types names (d ∷ rest) = named_val names (val_of d.1) >>= λ v. declared_types names rest >>= λ others. Some (replicate d.0 v ++ others)

-- The bytes are declarations of locals of these types, and these operators. How many locals a module's bodies may declare is a rule on modules.
pub record BodyReads (c : Context) (locals : ℕ → Option ℕ) (bytes : List ℕ) (types : List (ValType ℕ)) (ops : List Op) : Type 0 where
  pub front : List ℕ
  pub back : List ℕ
  pub parts : bytes ≡ front ++ back
  pub declared : List (ℕ × RawVal)
  pub declares : Is declarations front declared
  pub typed : declared_types c.names declared ≡ Some types
  pub operators : OperatorsRead c locals back ops
