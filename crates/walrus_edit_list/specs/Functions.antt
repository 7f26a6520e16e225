-- Functions whose bodies are given in the binary format, with ids as indices ("Binary Format > Modules > Code Section").
use Rattle.std.specs.Prelude.{ℕ, ◌+◌, ◌<◌, ◌≤◌, true, false, List, [], ◌∷◌, ◌++◌, length, Option, Some, None, slice_set, ◌≡◌, ◌⊎◌, ⊤}
use Rattle.wasm_forms.specs.Grammar.{Is, at}
use Rattle.wasm_forms.specs.declared.types.RawVal.{RawVal}
use Rattle.walrus_base.specs.Arena.{item_at}
use Rattle.walrus_base.specs.Id.{place}
use Rattle.walrus_base.specs.Locals.{locals}
use Rattle.walrus_base.specs.ModuleTypes.{type_slots}
use Rattle.walrus_base.specs.Operators.{Op}
use Rattle.walrus_base.specs.Types.{ValType}
use Rattle.walrus_base.specs.declared.locals.ModuleLocals.{ModuleLocals}
use Rattle.walrus_base.specs.declared.module_types.ModuleTypes.{ModuleTypes}
use Rattle.walrus_bodies.specs.Body.{BodyReads, context, declarations}
use Rattle.walrus_bodies.specs.FunctionTypes.{is_function_at}
use Rattle.walrus_bodies.specs.declared.features.Features.{Features}
use Rattle.walrus_code.specs.Names.{Lookup}
use Rattle.walrus_contents.specs.declared.parts.Contents.{Contents}
use Rattle.walrus_functions.specs.Handlers.{params_of}
use Rattle.walrus_functions.specs.Plain.{total}
use Rattle.walrus_functions.specs.ReadFunction.{FunctionIsRead, StaysInFront, locals_from}
use Rattle.walrus_functions.specs.Signatures.{slots_of}
use Rattle.walrus_items.specs.FunctionKinds.{kind_type}
use Rattle.walrus_items.specs.Functions.{FunctionValue, functions}
use Rattle.walrus_items.specs.Imports.{ImportValue, imports}
use Rattle.walrus_items.specs.LocalFunction.{LocalFunction}
use Rattle.walrus_items.specs.declared.error.Error.{Error}
use Rattle.walrus_items.specs.declared.error.Error.TheVariants.{DeadItem, InvalidWasm, Memory, TooLarge}
use Rattle.walrus_items.specs.declared.function_kind.FunctionKind.{FunctionKind}
use Rattle.walrus_items.specs.declared.function_kind.FunctionKind.TheVariants.{Import, Local, Uninitialized}
use Rattle.walrus_module.specs.Replaced.{with_body}
use Rattle.walrus_edit_list.specs.Held.{Held}
use Rattle.walrus_edit_list.specs.Ids.{HasTooMany, ids_of, tag_types}
use Rattle.walrus_edit_list.specs.declared.functions.TheConstants.{MOST_LOCALS}

-- ---- how many locals a body declares

abbrev pub count_in : Option (List (ℕ × RawVal) × List ℕ) → ℕ
count_in None = 0
count_in (Some read) = total read.0

-- how many locals the bytes of a body declare, where declarations stand in front of them
abbrev pub declared_count : List ℕ → ℕ
declared_count code = count_in (at declarations code)

-- memory ran out, or bytes aren't of a form
abbrev pub RefusesForm : (malformed : Type 0) → Error → Type 0
RefusesForm malformed (Memory e) = ⊤
RefusesForm malformed (InvalidWasm kind) = malformed
RefusesForm malformed _ = ⊥

-- no declarations stand in front of the bytes
abbrev pub HasNoDeclarations : List ℕ → Type 0
HasNoDeclarations code = (front rest : List ℕ) (declared : List (ℕ × RawVal)) → code ≡ front ++ rest → Is declarations front declared → ⊥

-- the bytes declare more locals than engines take, or no declarations stand in front of them
abbrev pub DeclaresNone : List ℕ → Type 0
DeclaresNone code = (MOST_LOCALS < declared_count code) ⊎ HasNoDeclarations code

-- ---- a body among types and locals

module _ (names : Lookup) (tags : ℕ → Option ℕ) (f : Features) (ty : ℕ) (code : List ℕ) where
  -- The bytes declare no more locals than engines take, and were read as the body of this function, whose type is a function type. Its locals, and the
  -- types that its handlers need, came behind those that were there.
  pub record IsBodyOf (old_types new_types : ModuleTypes) (old_locals new_locals : ModuleLocals) (made : LocalFunction) : Type 0 where
    pub typed : is_function_at old_types ty ≡ true
    pub few : declared_count code ≤ MOST_LOCALS
    pub read : FunctionIsRead (context names (is_function_at old_types) f) tags ty (slots_of old_types) (slots_of new_types) (locals old_locals) (locals new_locals) code made
    pub types_stay : StaysInFront (type_slots old_types) (type_slots new_types)

  -- the bytes are no body of a function of the type
  abbrev pub IsNoBody : ModuleTypes → ModuleLocals → Type 0
  IsNoBody types all =
      (declared : List (ValType ℕ)) (ops : List Op)
      → BodyReads (context names (is_function_at types) f) (locals_from (length (locals all)) (length (params_of (item_at (type_slots types) ty)) + length declared)) code declared ops → ⊥

  -- the type is no function type; the bytes declare more locals than engines take, or are no body; or memory ran out
  abbrev pub RefusesBody : ModuleTypes → ModuleLocals → Error → Type 0
  RefusesBody types all (Memory e) = ⊤
  RefusesBody types all DeadItem = is_function_at types ty ≡ false
  RefusesBody types all (InvalidWasm kind) = (MOST_LOCALS < declared_count code) ⊎ IsNoBody types all
  RefusesBody types all _ = ⊥

-- ---- the import of a function

-- the import that brings a function, by its place
abbrev pub brought_by : FunctionKind → Option ℕ
brought_by (Import i) = Some (place i.«import»)
brought_by (Local l) = None
brought_by (Uninitialized ty) = None

-- the imports without this one, if it is told
abbrev pub without : Option ℕ → List (Option ImportValue) → List (Option ImportValue)
without None all = all
without (Some i) all = slice_set all i None

-- ---- in a module

module _ (f : Features) where
  -- so the bytes were read in a module, where each id is its index
  abbrev pub IsReadAs : (ty : ℕ) (code : List ℕ) (old new : Contents) → LocalFunction → Type 0
  IsReadAs ty code old new made = IsBodyOf (ids_of old) (tag_types old.tags) f ty code old.types new.types old.locals new.locals made

  -- they aren't, or there are more ids than indices
  abbrev pub RefusesRead : (ty : ℕ) (code : List ℕ) → Contents → Error → Type 0
  RefusesRead ty code old TooLarge = HasTooMany old
  RefusesRead ty code old e = RefusesBody (ids_of old) (tag_types old.tags) f ty code old.types old.locals e

  -- ---- functions

  -- a function of this type with this body came, without a name, behind the others
  pub record AddsFunction (ty : ℕ) (code : List ℕ) (old new : Held) : Type 0 where
    pub made : LocalFunction
    pub read : IsReadAs ty code old.contents new.contents made
    pub added : functions new.contents.funcs ≡ functions old.contents.funcs ++ Some (record { id = length (functions old.contents.funcs); kind = Local made; name = None }) ∷ []
    pub others : new ≡ record old {
      contents = record old.contents { types = new.contents.types; locals = new.contents.locals; funcs = new.contents.funcs };
      has_read = true;
    }

  abbrev pub RefusesFunction : (ty : ℕ) (code : List ℕ) → Held → Error → Type 0
  RefusesFunction ty code old e = RefusesRead ty code old.contents e

  -- the function of this id has this body; its type and its name stay, and the import that brought it, if one did, is gone
  pub record SetsFunction (id : ℕ) (code : List ℕ) (old new : Held) : Type 0 where
    pub function : FunctionValue
    pub there : item_at (functions old.contents.funcs) id ≡ Some function
    pub made : LocalFunction
    pub read : IsReadAs (place (kind_type function.kind)) code old.contents new.contents made
    pub set : functions new.contents.funcs ≡ slice_set (functions old.contents.funcs) id (Some (with_body made function))
    pub own : imports new.contents.imports ≡ without (brought_by function.kind) (imports old.contents.imports)
    pub others : new ≡ record old {
      contents = record old.contents { types = new.contents.types; locals = new.contents.locals; funcs = new.contents.funcs; imports = new.contents.imports };
      has_read = true;
    }

  -- by what stands at the place of the id
  abbrev pub RefusesSlot : Option FunctionValue → (code : List ℕ) → Contents → Error → Type 0
  RefusesSlot (Some function) code old e = RefusesRead (place (kind_type function.kind)) code old e
  RefusesSlot None code old (Memory e) = ⊤
  RefusesSlot None code old DeadItem = ⊤
  RefusesSlot None code old _ = ⊥

  -- it isn't there, or the bytes are no body of its type
  abbrev pub RefusesSetFunction : (id : ℕ) (code : List ℕ) → Held → Error → Type 0
  RefusesSetFunction id code old e = RefusesSlot (item_at (functions old.contents.funcs) id) code old.contents e
