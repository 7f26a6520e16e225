-- Small modules, worked out.
use Rattle.std.specs.Prelude.{ℕ, List, [], ◌∷◌, ◌++◌, Some, None, codes, decimal, slice_get, true, false, pos, ◌≡◌}
use Rattle.wasm_entries.specs.declared.record.RawExportKind.TheVariants as kinds
use Rattle.wasm_entries.specs.Record as entries
use Rattle.wasm_frames.specs.Record as wire
use Rattle.walrus_base.specs.Types.{Func, Struct, ValType, I32, Ref, Concrete, SubType, Unpacked}
use Rattle.walrus_base.specs.Operators.{Types, Tags, Functions, Index, Block, OneResult, S32, Op}
use Rattle.walrus_model.specs.Abstract.{Abstract, TypeDef, Body, LocalFunction, Defined, AnItem, ALocal}
use Rattle.walrus_model.specs.Config.{Config}
use Rattle.walrus_model.specs.Kept.{Kept}
use Rattle.walrus_base.specs.Shape.{HasShape, Shape, OfGroup, NoShapes, AndShape, InGroup, Filled}
use Rattle.walrus_model.specs.Same.{SameType}
use Rattle.walrus_model.specs.Names.{name_of}
use Rattle.walrus_model.specs.Producers.{produced}
use Rattle.walrus_model.specs.Customs.{is_debug_name}
use Rattle.walrus_model.specs.Handlers.{handlers_of}
use Rattle.walrus_model.specs.Out.{Out}
use Rattle.walrus_model.specs.Rules.{Holds}
use Rattle.walrus_model.specs.Sections.{module_of}

-- ---- a module with two functions, of which gc drops the first

-- a type of functions with no parameters and no results, alone in its group
abbrev pub no_values : entries.Group
no_values = record { is_final = true; supers = []; comp = entries.Function (record { params = []; results = [] }) } ∷ []

-- an export "f" of the function with this index
abbrev pub export_f : ℕ → entries.Export
export_f index = record { name = codes "f"; kind = kinds.Function; index = index }

-- an empty body: no declared locals, and the end
abbrev pub empty_body : ℕ → wire.Body
empty_body start = record { start = start; bytes = 0x00 ∷ 0x0B ∷ [] }

abbrev pub just_end : List Op
just_end = record { op = 0x0B; args = [] } ∷ []

-- what the sections hold

abbrev pub two_functions_sections : wire.Module
two_functions_sections = record wire.no_sections { order = 1 ∷ 3 ∷ 7 ∷ 10 ∷ []; types = no_values ∷ []; functions = 0 ∷ 0 ∷ []; exports = export_f 1 ∷ []; bodies = empty_body 30 ∷ empty_body 33 ∷ [] }

abbrev pub one_function_sections : wire.Module
one_function_sections = record wire.no_sections { order = 1 ∷ 3 ∷ 7 ∷ 10 ∷ []; types = no_values ∷ []; functions = 0 ∷ []; exports = export_f 0 ∷ []; bodies = empty_body 29 ∷ [] }

-- the modules

abbrev pub two_functions : Abstract
two_functions = module_of two_functions_sections (([], just_end) ∷ ([], just_end) ∷ [])

abbrev pub one_function : Abstract
one_function = module_of one_function_sections (([], just_end) ∷ [])

-- names are written, producers aren't
abbrev pub plain : Config
plain = record { writes_names = true; synthetic_names = false; writes_producers = false; legacy_exceptions = true; only_stable_features = false }

-- The rules hold; gc keeps function 1 and its type, not function 0; the module of one function is what comes out. Which bytes read as
-- these modules stands in `walrus_theorem`.
pub record TwoFunctions : Type 0 where
  pub holds : Holds two_functions
  pub second_is_kept : Kept two_functions (Functions, 1)
  pub type_is_kept : Kept two_functions (Types, 0)
  pub first_is_not : Kept two_functions (Functions, 0) → ⊥
  pub comes_out : Out plain two_functions one_function

-- ---- single definitions

abbrev pub function_type : List (ValType ℕ) → List (ValType ℕ) → SubType ℕ
function_type params results = record { is_final = true; supertypes = []; comp = Func params results }

abbrev pub alone : ℕ → SubType ℕ → TypeDef
alone t sub = record { group = t ∷ []; sub = sub }

-- a legacy try with an i32 result, whose catch has a tag of one i32
abbrev pub catching : Body
catching = record {
  parameters = [];
  local_type = λ x. None;
  declared = 0;
  operators =
      record { op = 0x06; args = Block (OneResult I32) ∷ [] } ∷ record { op = 0x41; args = S32 (pos 0) ∷ [] }
      ∷ record { op = 0x07; args = Index (Tags, 0) ∷ [] } ∷ record { op = 0x0B; args = [] }
      ∷ record { op = 0x1A; args = [] } ∷ record { op = 0x0B; args = [] } ∷ [];
}

-- two types, a function of the first that catches, and a tag of the second
abbrev pub with_handler : Abstract
with_handler = record two_functions {
  types = slice_get (alone 0 (function_type [] []) ∷ alone 1 (function_type (I32 ∷ []) []) ∷ []);
  functions = slice_get (record { ty = 0; kind = LocalFunction catching } ∷ []);
  tags = slice_get (record { origin = Defined; ty = 1 } ∷ []);
  exports = [];
}

-- a struct type with one field that may be null, of the type t
abbrev pub struct_of : {R : Type 0} → R → SubType R
struct_of t = record { is_final = true; supertypes = []; comp = Struct (record { storage = Unpacked (Ref (record { nullable = true; heap = Concrete t })); mutable = false } ∷ []) }

abbrev pub empty_struct : {R : Type 0} → SubType R
empty_struct = record { is_final = true; supertypes = []; comp = Struct [] }

-- a group of an empty struct and a struct of it, and a struct of the latter in a group of its own
abbrev pub structs : Abstract
structs = record with_handler { types = slice_get (record { group = 0 ∷ 1 ∷ []; sub = empty_struct } ∷ record { group = 0 ∷ 1 ∷ []; sub = struct_of 0 } ∷ alone 2 (struct_of 1) ∷ []) }

abbrev pub pair_shape : ℕ → Shape
pair_shape position = OfGroup (empty_struct ∷ struct_of (InGroup 0) ∷ []) NoShapes position

abbrev pub with_synthetic_names : Config
with_synthetic_names = record plain { synthetic_names = true }

pub record SmallOnes : Type 0 where
  pub handlers : handlers_of with_handler catching ≡ Func (I32 ∷ []) (I32 ∷ []) ∷ []
  pub named : name_of with_synthetic_names with_handler (AnItem (Functions, 0)) ≡ Some (codes "f" ++ decimal 0)
  pub a_local : name_of with_synthetic_names with_handler (ALocal 0 2) ≡ Some (codes "l" ++ decimal 2)
  pub produced_first : produced [] ≡ record { name = codes "processed-by"; values = record { name = codes "walrus"; version = codes "0.28.0" } ∷ [] } ∷ []
  pub debug_name : is_debug_name (codes ".debug_info") ≡ true
  pub no_debug_name : is_debug_name (codes "a.debug") ≡ false
  pub shape : HasShape with_handler.types 1 (OfGroup (record { is_final = true; supertypes = []; comp = Func (I32 ∷ []) [] } ∷ []) NoShapes 0)
  pub in_group : HasShape structs.types 1 (pair_shape 1)
  pub outside : HasShape structs.types 2 (OfGroup (struct_of Filled ∷ []) (AndShape (pair_shape 1) NoShapes) 0)
  -- two equal types may become one
  pub merged : SameType (λ t. 0) 1 (alone 1 (function_type [] [])) (alone 0 (function_type [] []))
  -- a struct that names itself and a struct that names it from outside are kept apart
  pub not_merged : SameType (λ t. 0) 1 (alone 1 (struct_of 0)) (alone 0 (struct_of 0)) → ⊥
