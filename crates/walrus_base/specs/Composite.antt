-- What a contract sees of composite types: the types of the standard ("Structure > Types"), with the place of an id for a type that is named.
use Rattle.std.specs.Prelude.{ℕ, Bool, List, [], ◌∷◌, map, take, drop, Option, Some, None}
use Rattle.walrus_base.specs.Id.{place}
use Rattle.walrus_base.specs.Types.{ValType, StorageType, Unpacked, I8, I16, FieldType, CompType, Func, Struct, Array, SubType}
use Rattle.walrus_base.specs.declared.id.Id.{Id}
use Rattle.walrus_base.specs.declared.keys.TypeKey.{TypeKey}
use Rattle.walrus_base.specs.Value.{val_type}
use Rattle.walrus_base.specs.declared.value.ValType.{ValType as DeclaredValType}
use Rattle.walrus_base.specs.declared.composite.StorageType.{StorageType as DeclaredStorageType}
use Rattle.walrus_base.specs.declared.composite.StorageType.TheVariants as declared_storage
use Rattle.walrus_base.specs.declared.composite.FieldType.{FieldType as DeclaredFieldType}
use Rattle.walrus_base.specs.declared.composite.FunctionType.{FunctionType as DeclaredFunctionType}
use Rattle.walrus_base.specs.declared.composite.CompositeType.{CompositeType}
use Rattle.walrus_base.specs.declared.composite.CompositeType.TheVariants as declared_composite
use Rattle.walrus_base.specs.declared.composite.NewType.{NewType}

abbrev pub storage_type : DeclaredStorageType → StorageType ℕ
storage_type (declared_storage.Val v) = Unpacked (val_type v)
storage_type declared_storage.I8 = I8
storage_type declared_storage.I16 = I16

abbrev pub field_type : DeclaredFieldType → FieldType ℕ
field_type f = record { storage = storage_type f.element_type; mutable = f.mutable }

-- what a function takes and gives back
pub record FunctionType : Type 0 where
  pub params : List (ValType ℕ)
  pub results : List (ValType ℕ)

-- the type of a function with these parameters and results
abbrev pub function_of : List DeclaredValType → List DeclaredValType → FunctionType
function_of params results = record { params = map val_type params; results = map val_type results }

abbrev pub function_type : DeclaredFunctionType → FunctionType
function_type f = function_of (take f.param_count f.values.items) (drop f.param_count f.values.items)

-- a function type, as a composite type
abbrev pub function_comp : FunctionType → CompType ℕ
function_comp f = Func f.params f.results

abbrev pub comp_type : CompositeType → CompType ℕ
comp_type (declared_composite.Function f) = function_comp (function_type f)
comp_type (declared_composite.Struct s) = Struct (map field_type s.fields.items)
comp_type (declared_composite.Array a) = Array (field_type a.field)

-- the places of the supertypes: one at most
abbrev pub supertypes : Option (Id TypeKey) → List ℕ
supertypes None = []
supertypes (Some id) = place id ∷ []

-- a member of a group with these parts
abbrev pub sub_type : Bool → Option (Id TypeKey) → CompositeType → SubType ℕ
sub_type is_final supertype comp = record { is_final = is_final; supertypes = supertypes supertype; comp = comp_type comp }

abbrev pub new_sub : NewType → SubType ℕ
new_sub member = sub_type member.is_final member.supertype member.comp
