-- What a module declares (Validation > Conventions > Contexts).
use Rattle.std.specs.Prelude.{ℕ, List, ◌++◌, map, flat_map, filter_map, length, Option, Some, None}
use Rattle.wasm_entries.specs.declared.record.RawTableType.{RawTableType}
use Rattle.wasm_entries.specs.declared.record.RawLimits.{RawLimits}
use Rattle.wasm_entries.specs.declared.record.RawGlobalType.{RawGlobalType}
use Rattle.wasm_entries.specs.declared.record.RawDesc.{RawDesc}
use Rattle.wasm_entries.specs.declared.record.RawDesc.TheVariants as descs
use Rattle.wasm_entries.specs.Record.{Sub, Import}
use Rattle.wasm_wire.specs.declared.rules.counts.Counts.{Counts}
use Rattle.wasm_frames.specs.Record.{Module}

abbrev pub desc_function : RawDesc → Option ℕ
desc_function (descs.Function ty) = Some ty
desc_function (descs.Table t) = None
desc_function (descs.Memory l) = None
desc_function (descs.Global g) = None
desc_function (descs.Tag ty) = None

abbrev pub desc_table : RawDesc → Option RawTableType
desc_table (descs.Function ty) = None
desc_table (descs.Table t) = Some t
desc_table (descs.Memory l) = None
desc_table (descs.Global g) = None
desc_table (descs.Tag ty) = None

abbrev pub desc_memory : RawDesc → Option RawLimits
desc_memory (descs.Function ty) = None
desc_memory (descs.Table t) = None
desc_memory (descs.Memory l) = Some l
desc_memory (descs.Global g) = None
desc_memory (descs.Tag ty) = None

abbrev pub desc_global : RawDesc → Option RawGlobalType
desc_global (descs.Function ty) = None
desc_global (descs.Table t) = None
desc_global (descs.Memory l) = None
desc_global (descs.Global g) = Some g
desc_global (descs.Tag ty) = None

abbrev pub desc_tag : RawDesc → Option ℕ
desc_tag (descs.Function ty) = None
desc_tag (descs.Table t) = None
desc_tag (descs.Memory l) = None
desc_tag (descs.Global g) = None
desc_tag (descs.Tag ty) = Some ty

-- what is imported of one kind
abbrev pub imported : {A : Type 0} → (RawDesc → Option A) → List Import → List A
imported kind is = filter_map (λ i. kind i.desc) is

-- the types, by index, and the types of the items of each kind: imported ones come first
pub record Context : Type 0 where
  pub types : List Sub
  pub functions : List ℕ
  pub tables : List RawTableType
  pub memories : List RawLimits
  pub globals : List RawGlobalType
  pub tags : List ℕ
  pub imported_globals : ℕ

-- what the module declares
abbrev pub context_of : Module → Context
context_of m = record {
  types = flat_map (λ g. g) m.types;
  functions = imported desc_function m.imports ++ m.functions;
  tables = imported desc_table m.imports ++ map (λ t. t.ty) m.tables;
  memories = imported desc_memory m.imports ++ m.memories;
  globals = imported desc_global m.imports ++ map (λ g. g.ty) m.globals;
  tags = imported desc_tag m.imports ++ m.tags;
  imported_globals = length (imported desc_global m.imports);
}

-- how many are declared of each kind
abbrev pub counts_of : Context → Counts
counts_of c = record {
  types = length c.types;
  functions = length c.functions;
  tables = length c.tables;
  memories = length c.memories;
  globals = length c.globals;
  tags = length c.tags;
  imported_globals = c.imported_globals;
}
