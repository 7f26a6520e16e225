-- The types of a module as a type section lists them, over indices, as types of the standard ("Binary Format > Modules > Type Section",
-- "Structure > Types > Recursive Types").
use Rattle.std.specs.Prelude.{ℕ, ◌≡◌, ◌+◌, ◌<◌, ◌≤◌, ◌^◌, ⊤, List, [], ◌∷◌, ◌++◌, length, map, All, Option, Some, Result, Ok, Err}
use Rattle.std.specs.List.{range_with_len}
use Rattle.wasm_entries.specs.declared.record.RawStorage.{RawStorage}
use Rattle.wasm_entries.specs.declared.record.RawStorage.TheVariants as storages
use Rattle.wasm_entries.specs.declared.record.RawFieldType.{RawFieldType}
use Rattle.wasm_entries.specs.Record.{Comp, Function, Struct, Array, Sub, Group}
use Rattle.walrus_base.specs.Types.{StorageType, Unpacked, I8, I16, FieldType, CompType, SubType, sub_names}
use Rattle.walrus_base.specs.Types as types
use Rattle.walrus_base.specs.TypeDef.{TypeDef}
use Rattle.walrus_code.specs.FromRaw.{val_of}
use Rattle.walrus_code.specs.declared.error.IrError.{IrError}
use Rattle.walrus_code.specs.declared.error.IrError.TheVariants.{Malformed, Memory, NoIndex, NotWritable, TooLarge}

-- what a field holds by the type section, as a storage type of the standard: a value type over type indices, or a packed integer
abbrev pub storage_of : RawStorage → StorageType ℕ
storage_of (storages.Val v) = Unpacked (val_of v)
storage_of storages.I8 = I8
storage_of storages.I16 = I16

-- the type of a field or an element in the type section, as a field type of the standard over type indices
abbrev pub field_of : RawFieldType → FieldType ℕ
field_of f = record { storage = storage_of f.storage; mutable = f.mutable }

-- a function, structure or array type in the type section, as a composite type of the standard over type indices
abbrev pub comp_of : Comp → CompType ℕ
comp_of (Function t) = types.Func (map val_of t.params) (map val_of t.results)
comp_of (Struct fields) = types.Struct (map field_of fields)
comp_of (Array field) = types.Array (field_of field)

-- a member of a group in the type section, as a sub type of the standard: whether it is final, the indices of its supertypes, and its composite type
abbrev pub sub_of : Sub → SubType ℕ
sub_of s = record { is_final = s.is_final; supertypes = s.supers; comp = comp_of s.comp }

-- the members of a group, of which the first has this index
abbrev pub members_of : (first : ℕ) → Group → List TypeDef
members_of first g = map (λ s. record { group = range_with_len first (length g); sub = sub_of s }) g

-- groups one behind another, the first type of which has this index; an empty group has no index
abbrev pub types_from : (first : ℕ) → List Group → List TypeDef
types_from first [] = []
types_from first (g ∷ gs) = members_of first g ++ types_from (first + length g) gs

-- ---- what is declared

-- the type names only such as stand before this index, one supertype at most among them
pub record NamesBelow (end : ℕ) (s : SubType ℕ) : Type 0 where
  pub one_supertype : length s.supertypes ≤ 1
  pub names : All (λ t. t < end) (sub_names s)

-- each type names only such as stand before the end of its group
abbrev pub AreDeclared : (first : ℕ) → List Group → Type 0
AreDeclared first [] = ⊤
AreDeclared first (g ∷ gs) = All (λ s. NamesBelow (first + length g) (sub_of s)) g × AreDeclared (first + length g) gs

-- ---- what reading them gives

-- the types stand behind those that were there
pub record AreRead (groups : List Group) (old new : List (Option TypeDef)) : Type 0 where
  pub declared : AreDeclared (length old) groups
  pub added : new ≡ old ++ map Some (types_from (length old) groups)

-- refused exactly where one isn't declared, there are more than 2 ^ 32 types, or memory ran out
abbrev pub ReadsTypes : List Group → (old new : List (Option TypeDef)) → Result Unit IrError → Type 0
ReadsTypes groups old new (Ok u) = AreRead groups old new
ReadsTypes groups old new (Err Malformed) = AreDeclared (length old) groups → ⊥
ReadsTypes groups old new (Err TooLarge) = 2 ^ 32 < length old + length (types_from (length old) groups)
ReadsTypes groups old new (Err (Memory e)) = ⊤
ReadsTypes groups old new (Err NoIndex) = ⊥
ReadsTypes groups old new (Err NotWritable) = ⊥
