-- What the sections hold that a module is written as.
use Rattle.wasm_entries.specs.Record as entries
use Rattle.wasm_entries.specs.declared.record.RawExportKind.{RawExportKind}
use Rattle.wasm_entries.specs.declared.record.RawLimits.{RawLimits}
use Rattle.wasm_entries.specs.declared.record.RawExportKind.TheVariants as kinds
use Rattle.std.specs.Prelude.{ℕ, Bool, List, Option, Some, None, option_map, option_and_then, ◌≡◌}
use Rattle.wasm_frames.specs.Record as wire
use Rattle.walrus_base.specs.Arena.{item_at}
use Rattle.walrus_base.specs.Id.{place}
use Rattle.walrus_base.specs.Types.{ValType}
use Rattle.walrus_base.specs.Locals.{locals}
use Rattle.walrus_base.specs.Operators.{Space, Types, Functions, Tables, Memories, Tags, Globals, Elements, DataSegments}
use Rattle.walrus_items.specs.Function.{function_type}
use Rattle.walrus_code.specs.Names.{Lookup}
use Rattle.walrus_items.specs.LocalFunction.{LocalFunction}
use Rattle.walrus_bodies.specs.FunctionTypes.{is_function_def}
use Rattle.walrus_bodies.specs.declared.features.Features.{Features}
use Rattle.walrus_functions.specs.EmittedBody.{Source, BodyWritten, LacksAnIndex, types_of as local_types}
use Rattle.walrus_items.specs.Functions.{FunctionValue, local_at}
use Rattle.walrus_contents.specs.View.{body, parts_view}
use Rattle.walrus_contents.specs.declared.parts.Parts.{Parts}
use Rattle.walrus_model.specs.Abstract as abstract
use Rattle.walrus_model.specs.Abstract.{Body, Function}
use Rattle.walrus_writing.specs.Names.{used_listed}

-- the types of the locals of these parts, by their places
abbrev pub slots_of : Parts → List (Option (ValType ℕ))
slots_of p = local_types (locals p.locals.now)

-- a function with this body, as it is seen
abbrev pub function_seen : Parts → LocalFunction → Function
function_seen p local = record { ty = place (function_type local); kind = abstract.LocalFunction (body p.locals.now local) }

-- the function with a body at a place, with that place, if there is one
abbrev pub local_in : List (Option FunctionValue) → ℕ → Option (ℕ × LocalFunction)
local_in funcs number = option_and_then (λ f. local_at number f.kind) (item_at funcs number)

-- the index of its type
abbrev pub index_at : List (Option FunctionValue) → Lookup → ℕ → Option ℕ
index_at funcs names number = option_and_then (λ f. names Types (place (function_type f.1))) (local_in funcs number)

-- ---- the record of a thing under a look-up: none where something that it names has no index

-- a function with a body: the index of its type
abbrev pub type_index_of : Lookup → ℕ → abstract.FunctionKind → Option ℕ
type_index_of names ty (abstract.LocalFunction b) = names Types ty
type_index_of names ty (abstract.ImportedFunction i) = None
type_index_of names ty abstract.Uninitialised = None

abbrev pub type_index : Lookup → Function → Option ℕ
type_index names f = type_index_of names f.ty f.kind

-- limits of these numbers
abbrev pub limits_with : ℕ → Option ℕ → Bool → Bool → Option ℕ → RawLimits
limits_with minimum maximum shared wide page = record { minimum = minimum; maximum = maximum; shared = shared; wide = wide; page = page }

-- a memory that the module defines: it names nothing
abbrev pub memory_limits : abstract.Memory → RawLimits
memory_limits m = limits_with m.ty.limits.minimum m.ty.limits.maximum m.ty.shared m.ty.limits.wide m.ty.page_exponent

-- a tag: the index of its type
abbrev pub tag_index : Lookup → abstract.Tag → Option ℕ
tag_index names t = names Types t.ty

-- the kind of an export that names an item of the space
abbrev pub kind_in : Space → Option RawExportKind
kind_in Functions = Some kinds.Function
kind_in Tables = Some kinds.Table
kind_in Memories = Some kinds.Memory
kind_in Globals = Some kinds.Global
kind_in Tags = Some kinds.Tag
kind_in Types = None
kind_in Elements = None
kind_in DataSegments = None

-- an export
abbrev pub export_with_index : Lookup → abstract.Export → Option entries.Export
export_with_index names e = option_and_then (λ kind. option_map (λ index. record { name = e.name; kind = kind; index = index }) (names e.item.0 e.item.1)) (kind_in e.item.0)

-- ---- bodies

-- a body to be written, of a function of a type, under these indices and with these proposals
abbrev pub source_of : Parts → Lookup → Features → ℕ → Body → Source
source_of p names features ty b = record {
  names = names;
  slots = slots_of p;
  def = (parts_view p).types ty;
  is_function_type = λ t. is_function_def ((parts_view p).types t);
  features = features;
  parameters = b.parameters;
  ops = b.operators;
}

abbrev pub source : Parts → Lookup → Features → LocalFunction → Source
source p names features local = source_of p names features (place (function_type local)) (body p.locals.now local)

-- the bytes are the body of the function at a place, under these indices
pub record HasBytes (p : Parts) (names : Lookup) (features : Features) (number : ℕ) (bytes : List ℕ) : Type 0 where
  pub local : LocalFunction
  pub is : (parts_view p).functions number ≡ Some (function_seen p local)
  pub places : List ℕ
  pub numbers : ℕ → Option ℕ
  pub ids : List ℕ
  pub used : List Bool
  pub written : BodyWritten (source p names features local) bytes places numbers ids used

-- the function at a place has a body, and all that this names has an index
pub record IsIndexed (p : Parts) (names : Lookup) (features : Features) (number : ℕ) : Type 0 where
  pub local : LocalFunction
  pub is : (parts_view p).functions number ≡ Some (function_seen p local)
  pub indexed : LacksAnIndex (source p names features local) → ⊥

-- the used locals of a function, each with its index
abbrev pub used_locals : {p : Parts} {names : Lookup} {features : Features} {number : ℕ} {bytes : List ℕ} → HasBytes p names features number bytes → List (ℕ × ℕ)
used_locals b = used_listed b.ids b.used

-- a body as it is written: its bytes, and its used locals, each with its index
pub record BodySeen : Type 0 where
  pub bytes : List ℕ
  pub used : List (ℕ × ℕ)

-- the body is that of the function at a place, with its used locals
abbrev pub IsWrittenBody : Parts → Lookup → Features → ℕ → BodySeen → Type 0
IsWrittenBody p names features number body = (b : HasBytes p names features number body.bytes) × (body.used ≡ used_locals b)

-- a body's bytes, wherever they lie
abbrev pub unplaced : List ℕ → wire.Body
unplaced bytes = record { start = 0; bytes = bytes }
