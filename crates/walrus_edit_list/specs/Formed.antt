-- A body that is read among the types and locals of a module is well formed there, and so are all bodies behind it.
use Rattle.std.specs.Prelude.{ℕ, List, Option, Some, true, ◌≡◌}
use Rattle.walrus_base.specs.Arena.{item_at}
use Rattle.walrus_base.specs.Locals.{locals}
use Rattle.walrus_base.specs.Operators.{Space}
use Rattle.walrus_base.specs.ModuleTypes.{type_slots}
use Rattle.walrus_base.specs.declared.locals.ModuleLocals.{ModuleLocals}
use Rattle.walrus_base.specs.declared.module_types.ModuleTypes.{ModuleTypes}
use Rattle.walrus_bodies.specs.Body.{context}
use Rattle.walrus_bodies.specs.FunctionTypes.{is_function_at}
use Rattle.walrus_code.specs.Names.{Lookup}
use Rattle.walrus_contents.specs.View.{body, contents_view}
use Rattle.walrus_functions.specs.ReadFunction.{FunctionIsRead, StaysInFront}
use Rattle.walrus_functions.specs.Signatures.{slots_of}
use Rattle.walrus_items.specs.LocalFunction.{LocalFunction}
use Rattle.walrus_model.specs.Abstract.{Abstract, Body, Function, LocalFunction as WithBody}
use Rattle.walrus_model.specs.Config.{Config}
use Rattle.walrus_theorem.specs.Features.{features_of}
use Rattle.walrus_theorem.specs.WellMade.{IsWellFormed}
use Rattle.walrus_edit_list.specs.Functions.{SetsFunction}
use Rattle.walrus_edit_list.specs.Held.{Held}

-- the body is well formed, and in bytes that read as it each index is the id of what it names
abbrev pub IsFormed : Config → Abstract → ℕ → Body → Type 0
IsFormed c m ty b = (well : IsWellFormed c m ty b) × ((space : Space) (index id : ℕ) → well.names space index ≡ Some id → id ≡ index)

-- so is each body
abbrev pub AreFormed : Config → Abstract → Type 0
AreFormed c m = (i : ℕ) (f : Function) (b : Body) → m.functions i ≡ Some f → f.kind ≡ WithBody b → IsFormed c m f.ty b

-- A function that was read is well formed in each module that has the types and locals behind the reading.
abbrev pub ReadIsFormed : Type 0
ReadIsFormed =
    (c : Config) (w : Abstract) (old new : ModuleLocals) (old_types new_types : ModuleTypes) (names : Lookup) (tags : ℕ → Option ℕ) (ty : ℕ) (bytes : List ℕ) (f : LocalFunction)
    → StaysInFront (type_slots old_types) (type_slots new_types) → ((t : ℕ) → w.types t ≡ item_at (type_slots new_types) t) → is_function_at old_types ty ≡ true
    → FunctionIsRead (context names (is_function_at old_types) (features_of c)) tags ty (slots_of old_types) (slots_of new_types) (locals old) (locals new) bytes f
    → IsWellFormed c w ty (body new f)

-- Where the body of a function is set, all bodies are well formed, if they were.
abbrev pub SetsFormed : Type 0
SetsFormed = (c : Config) (id : ℕ) (code : List ℕ) (old new : Held) → SetsFunction (features_of c) id code old new → AreFormed c (contents_view old.contents)
    → AreFormed c (contents_view new.contents)
