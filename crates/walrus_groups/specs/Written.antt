-- What stands for a type, and for its group, while types are written.
use Rattle.std.specs.Prelude.{ℕ, ◌≡◌, ◌==◌, ◌||◌, Bool, false, ⊤, List, [], ◌∷◌, Option, Some, Result, Ok, Err, if◌then◌else◌}
use Rattle.std.specs.List.{list_any, AllZip}
use Rattle.wasm_entries.specs.Record.{Sub, Group}
use Rattle.wasm_entries.specs.TypeSpelling.{SubStands}
use Rattle.walrus_base.specs.Arena.{item_at}
use Rattle.walrus_base.specs.Types.{ValType, StorageType, Unpacked, I8, I16, FieldType, CompType, Func, Struct, Array, SubType}
use Rattle.walrus_base.specs.TypeDef.{TypeDef}
use Rattle.walrus_code.specs.Names.{Lookup}
use Rattle.walrus_code.specs.Results.{val_is_exact}
use Rattle.walrus_code.specs.declared.error.IrError.{IrError}
use Rattle.walrus_code.specs.declared.error.IrError.TheVariants.{Malformed, Memory, NoIndex, NotWritable, TooLarge}
use Rattle.walrus_groups.specs.Groups.{sub_of}
use Rattle.walrus_groups.specs.Indexed.{LacksAnIndex, HasExact}
use Rattle.walrus_groups.specs.Named.{named_sub}

-- ---- whether an exact heap type stands in a type

abbrev pub vals_are_exact : List (ValType ℕ) → Bool
vals_are_exact vs = list_any val_is_exact vs

abbrev pub storage_is_exact : StorageType ℕ → Bool
storage_is_exact (Unpacked v) = val_is_exact v
storage_is_exact I8 = false
storage_is_exact I16 = false

abbrev pub field_is_exact : FieldType ℕ → Bool
field_is_exact f = storage_is_exact f.storage

abbrev pub fields_are_exact : List (FieldType ℕ) → Bool
fields_are_exact fs = list_any field_is_exact fs

abbrev pub comp_is_exact : CompType ℕ → Bool
comp_is_exact (Func params results) = vals_are_exact params || vals_are_exact results
comp_is_exact (Struct fields) = fields_are_exact fields
comp_is_exact (Array element) = field_is_exact element

abbrev pub sub_is_exact : SubType ℕ → Bool
sub_is_exact s = comp_is_exact s.comp

-- ---- what stands for a type

pub record IsWritten (names : Lookup) (x : TypeDef) (s : Sub) : Type 0 where
  pub named : named_sub names x.sub ≡ Some (sub_of s)
  pub plain : sub_is_exact x.sub ≡ false
  pub stands : SubStands s

-- a type is at the place, and this stands for it
abbrev pub StandsFor : Lookup → List (Option TypeDef) → ℕ → Sub → Type 0
StandsFor names slots p s = (x : TypeDef) × ((item_at slots p ≡ Some x) × IsWritten names x s)

-- for each member of the group of a type stands one of these
abbrev pub GroupStandsFor : Lookup → List (Option TypeDef) → ℕ × TypeDef → Group → Type 0
GroupStandsFor names slots e g = AllZip (StandsFor names slots) e.1.group g

-- whether the first of these is the place
abbrev pub starts_at : List ℕ → ℕ → Bool
starts_at [] p = false
starts_at (q ∷ qs) p = q == p

-- the types that are the first of their groups
abbrev pub firsts : List (ℕ × TypeDef) → List (ℕ × TypeDef)
firsts [] = []
firsts (e ∷ es) = if starts_at e.1.group e.0 then e ∷ firsts es else firsts es

-- refused only with a cause
abbrev pub UnlessRefused : {X : Type 0} → (X → Type 0) → Lookup → List TypeDef → Result X IrError → Type 0
UnlessRefused Holds names defs (Ok x) = Holds x
UnlessRefused Holds names defs (Err NoIndex) = LacksAnIndex names defs
UnlessRefused Holds names defs (Err NotWritable) = HasExact defs
UnlessRefused Holds names defs (Err (Memory e)) = ⊤
UnlessRefused Holds names defs (Err Malformed) = ⊥
UnlessRefused Holds names defs (Err TooLarge) = ⊥
