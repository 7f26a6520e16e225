-- What is answered where the body of a function is written ("Binary Format > Modules > Code Section").
use Rattle.std.specs.Prelude.{◌≡◌, ◌≢◌, ◌<◌, ◌≤◌, ◌^◌, ◌⊎◌, ℕ, Bool, true, false, List, ◌++◌, length, map, option_map, Option, Some, None, AllPairs, Result, Ok, Err, nat_eq}
use Rattle.std.specs.List.{list_any}
use Rattle.wasm_forms.specs.declared.types.RawVal.{RawVal}
use Rattle.wasm_forms.specs.Grammar.{Is}
use Rattle.wasm_forms.specs.Spelling.{number_bytes, row_bytes, vector_bytes}
use Rattle.wasm_forms.specs.Types.{value_bytes}
use Rattle.wasm_operators.specs.Operators as wire
use Rattle.wasm_operators.specs.Spelling.{op_bytes}
use Rattle.walrus_base.specs.Arena.{item_at}
use Rattle.walrus_base.specs.Id.{place}
use Rattle.walrus_base.specs.Types.{ValType, CompType, Func, Struct, Array}
use Rattle.walrus_base.specs.Locals.{local_type, locals}
use Rattle.walrus_base.specs.ModuleTypes.{type_slots}
use Rattle.walrus_base.specs.Operators.{Op, locals_of}
use Rattle.walrus_base.specs.Shape.{place_in}
use Rattle.walrus_base.specs.TypeDef.{TypeDef}
use Rattle.walrus_base.specs.Value.{val_type}
use Rattle.walrus_base.specs.declared.locals.Local.{Local}
use Rattle.walrus_base.specs.declared.locals.ModuleLocals.{ModuleLocals}
use Rattle.walrus_base.specs.declared.module_types.ModuleTypes.{ModuleTypes}
use Rattle.walrus_code.specs.FromRaw.{val_of, ops_of}
use Rattle.walrus_bodies.specs.Function.{function_type, body_of, args_of}
use Rattle.walrus_code.specs.Indices.{index_of}
use Rattle.walrus_code.specs.Names.{Lookup, LeadsBack, LocalsLeadBack, named_val, named_ops}
use Rattle.walrus_code.specs.Results.{val_is_exact}
use Rattle.walrus_bodies.specs.declared.function.LocalFunction.{LocalFunction}
use Rattle.walrus_code.specs.declared.numbering.IdsToIndices.{IdsToIndices}
use Rattle.walrus_code.specs.declared.error.IrError.{IrError}
use Rattle.walrus_code.specs.declared.error.IrError.TheVariants.{Malformed, Memory, NoIndex, NotWritable, TooLarge}
use Rattle.walrus_bodies.specs.declared.features.Features.{Features}
use Rattle.walrus_bodies.specs.Blocks.{blocks_hold}
use Rattle.walrus_bodies.specs.Body.{Context, BodyReads, declared_types}
use Rattle.walrus_bodies.specs.Body as bodies
use Rattle.walrus_bodies.specs.Emitting.{places_from, AllStand, IsNotWritable}
use Rattle.walrus_bodies.specs.FunctionTypes.{is_function_at}
use Rattle.walrus_functions.specs.DeclaredLocals.{HasType, IsDeclared, AreDeclared, AreGrouped}

-- the type of each local of a module, by its place
abbrev pub types_of : List (Option Local) → List (Option (ValType ℕ))
types_of locals = map (option_map (λ l. val_type (local_type l))) locals

-- what a function of the type takes; none where the type isn't there or is no function type
abbrev pub comp_takes : CompType ℕ → Option (List (ValType ℕ))
comp_takes (Func params results) = Some params
comp_takes (Struct fields) = None
comp_takes (Array element) = None

-- what a function of the type, where there is one, takes as parameters; none where there is none or it is no function type
abbrev pub takes : Option TypeDef → Option (List (ValType ℕ))
takes None = None
takes (Some x) = comp_takes x.sub.comp

-- the parameters are distinct locals, one for each parameter of the function's type and of its value type
pub record FitsType (def : Option TypeDef) (slots : List (Option (ValType ℕ))) (parameters : List ℕ) : Type 0 where
  pub types : List (ValType ℕ)
  pub taken : takes def ≡ Some types
  pub typed : map (item_at slots) parameters ≡ map Some types
  pub distinct : AllPairs (λ (x : ℕ) (y : ℕ). x ≢ y) parameters

-- the bytes of a declaration of locals: how many they are, and their value type ("Code Section")
abbrev pub declaration_bytes : ℕ × RawVal → List ℕ
declaration_bytes d = number_bytes d.0 ++ value_bytes d.1

-- the bytes of a body's local declarations: how many these are, and then each as a count of locals and their value type ("Code Section")
abbrev pub declarations_bytes : List (ℕ × RawVal) → List ℕ
declarations_bytes ds = vector_bytes declaration_bytes ds

-- a declaration over indices: how many locals, and their type
abbrev pub spelled_as : ℕ × RawVal → ℕ × Option (ValType ℕ)
spelled_as d = (d.0, Some (val_of d.1))

-- a declaration over ids put through the look-up: how many locals, and their type over indices, or none where it names a type that isn't found
abbrev pub looked_up : Lookup → ℕ × ValType ℕ → ℕ × Option (ValType ℕ)
looked_up names g = (g.0, named_val names g.1)

-- A body to be written: the indices of items, the types of locals, what the function's type is and which types are function types,
-- the function's parameters, its operators, and the proposals that they may use.
pub record Source : Type 0 where
  pub names : Lookup
  pub slots : List (Option (ValType ℕ))
  pub def : Option TypeDef
  pub is_function_type : ℕ → Bool
  pub features : Features
  pub parameters : List ℕ
  pub ops : List Op

-- the body of this function, under these indices and types
abbrev pub source_of : IdsToIndices → ModuleLocals → ModuleTypes → LocalFunction → Features → Source
source_of indices all types function features = record {
  names = index_of indices;
  slots = types_of (locals all);
  def = item_at (type_slots types) (place (function_type function));
  is_function_type = is_function_at types;
  features = features;
  parameters = args_of function;
  ops = body_of function;
}

module _ (s : Source) where
  -- these are the locals that it declares, in their order
  abbrev pub Declares : List ℕ → Type 0
  Declares order = AreDeclared s.slots (locals_of s.ops) s.parameters order

  -- the indices of its locals: the parameters, and then those that it declares
  abbrev pub index_in : List ℕ → ℕ → Option ℕ
  index_in order x = place_in (s.parameters ++ order) x

  -- whether its operators name the local
  abbrev pub is_used : ℕ → Bool
  is_used x = list_any (nat_eq x) (locals_of s.ops)

  -- The bytes are the one spelling of the body over indices: its declarations, one for each type, and its operators, whose first bytes
  -- have these places. They read as what the indices in them lead to, under all look-ups under which they lead to something; so as the
  -- same body again under look-ups to which the indices lead back. And these are the indices of its locals, its locals by their indices,
  -- and which of these its operators name.
  pub record BodyWritten (bytes places : List ℕ) (numbers : ℕ → Option ℕ) (ids : List ℕ) (used : List Bool) : Type 0 where
    pub fits : FitsType s.def s.slots s.parameters
    pub blocks : blocks_hold s.is_function_type s.ops ≡ true
    pub order : List ℕ
    pub declared : Declares order
    pub numbered : (x : ℕ) → numbers x ≡ index_in order x
    pub listed : ids ≡ s.parameters ++ order
    pub uses : used ≡ map is_used ids
    pub groups : List (ℕ × ValType ℕ)
    pub grouped : AreGrouped s.slots order groups
    pub declarations : List (ℕ × RawVal)
    pub typed : map spelled_as declarations ≡ map (looked_up s.names) groups
    pub declares : Is bodies.declarations (declarations_bytes declarations) declarations
    pub texts : List wire.Op
    pub named : named_ops s.names (index_in order) s.ops ≡ Some (ops_of texts)
    pub stand : AllStand texts
    pub spelled : bytes ≡ declarations_bytes declarations ++ row_bytes op_bytes texts
    pub placed : places ≡ places_from (length (declarations_bytes declarations)) texts
    pub reads : (c : Context) (locals : ℕ → Option ℕ) (found : List Op) (types : List (ValType ℕ))
        → c.features ≡ s.features → declared_types c.names declarations ≡ Some types → named_ops c.names locals (ops_of texts) ≡ Some found
        → blocks_hold c.is_function_type found ≡ true → BodyReads c locals bytes types found
    pub back : (c : Context) (locals : ℕ → Option ℕ) (types : List (ValType ℕ))
        → c.features ≡ s.features → LeadsBack s.names c.names → LocalsLeadBack (index_in order) locals
        → blocks_hold c.is_function_type s.ops ≡ true → map Some types ≡ map (item_at s.slots) order → BodyReads c locals bytes types s.ops

  -- an item, or a local, that the operators name has no index, or one in the type of a declared local has none
  abbrev pub LacksAnIndex : Type 0
  LacksAnIndex = ((order : List ℕ) × (Declares order × (named_ops s.names (index_in order) s.ops ≡ None)))
      ⊎ ((x : ℕ) × ((v : ValType ℕ) × (IsDeclared s.slots (locals_of s.ops) s.parameters x × HasType s.slots (locals_of s.ops) s.parameters x v × (named_val s.names v ≡ None))))

  -- no bytes are the body: its operators, by their blocks, features or arguments; a block's type is no function type; the parameters don't
  -- fit the function's type; or it uses a local of an exact type
  abbrev pub CantBeWritten : Type 0
  CantBeWritten = ((order : List ℕ) × (Declares order × IsNotWritable s.names (index_in order) s.features s.ops))
      ⊎ ((blocks_hold s.is_function_type s.ops ≡ false)
      ⊎ ((FitsType s.def s.slots s.parameters → ⊥)
      ⊎ ((x : ℕ) × ((v : ValType ℕ) × (IsDeclared s.slots (locals_of s.ops) s.parameters x × HasType s.slots (locals_of s.ops) s.parameters x v × (val_is_exact v ≡ true))))))

  -- more than 2 ^ 32 locals, or as many declared ones: an index or a count passes 32 bits
  abbrev pub HasTooManyLocals : Type 0
  HasTooManyLocals = (order : List ℕ) × (Declares order × ((2 ^ 32 ≤ length order) ⊎ (2 ^ 32 < length (s.parameters ++ order))))

  -- written, or refused with its cause
  abbrev pub EmitsBody : {X : Type 0} → (X → List ℕ) → (X → List ℕ) → (X → ℕ → Option ℕ) → (X → List ℕ) → (X → List Bool) → Result X IrError → Type 0
  EmitsBody bytes places numbers ids used (Ok x) = BodyWritten (bytes x) (places x) (numbers x) (ids x) (used x)
  EmitsBody bytes places numbers ids used (Err NoIndex) = LacksAnIndex
  EmitsBody bytes places numbers ids used (Err NotWritable) = CantBeWritten
  EmitsBody bytes places numbers ids used (Err TooLarge) = HasTooManyLocals
  EmitsBody bytes places numbers ids used (Err (Memory e)) = Unit {0}
  EmitsBody bytes places numbers ids used (Err Malformed) = ⊥
