-- What the sections declare, and what the bytes of a body read as under that ("Binary Format > Modules").
use Rattle.std.specs.Prelude.{ℕ, Bool, ◌+◌, length, Option, Some, None, unwrap_or, nat_lt, if◌then◌else◌}
use Rattle.wasm_frames.specs.Record as wire
use Rattle.walrus_base.specs.Operators.{Types, Functions, Tables, Memories, Tags, Globals, Elements, DataSegments}
use Rattle.walrus_functions.specs.Names.{Lookup}
use Rattle.walrus_functions.specs.Features.{Features}
use Rattle.walrus_functions.specs.Body.{Context, context, BodyReads}
use Rattle.walrus_functions.specs.FunctionTypes.{is_function_def}
use Rattle.walrus_functions.specs.Handlers.{params_of}
use Rattle.walrus_groups.specs.Groups.{types_from}
use Rattle.walrus_functions.specs.ReadFunction.{locals_from}
use Rattle.walrus_model.specs.Sections.{Said, types_of, function_types, tables_of, memories_of, tags_of, globals_of, elements_of}

-- ---- what the sections declare

-- an index names the item of that number, if there are more items
abbrev pub below : ℕ → ℕ → Option ℕ
below count i = if nat_lt i count then Some i else None

-- the declared items of each space ("Validation > Conventions > Contexts"): data segments where a data count stands
abbrev pub declared : wire.Module → Lookup
declared s Types = below (length (types_from 0 s.types))
declared s Functions = below (length (function_types s))
declared s Tables = below (length (tables_of s))
declared s Memories = below (length (memories_of s))
declared s Tags = below (length (tags_of s))
declared s Globals = below (length (globals_of s))
declared s Elements = below (length (elements_of s))
declared s DataSegments = below (unwrap_or s.data_count 0)

-- the type of this index is a function type
abbrev pub is_function : wire.Module → ℕ → Bool
is_function s t = is_function_def (types_of s t)

-- what a body may name, and what its types are, under these features
abbrev pub context_with : Features → wire.Module → Context
context_with features s = context (declared s) (is_function s) features

-- ---- bodies

-- how many parameters a function of the type has
abbrev pub arity : wire.Module → ℕ → ℕ
arity s ty = length (params_of (types_of s ty))

-- the bytes of the body of a function of this type say this, where each index names a declared item, or a parameter or a declared local
abbrev pub ReadsBodyWith : Features → wire.Module → ℕ × wire.Body → Said → Type 0
ReadsBodyWith features s f body = BodyReads (context_with features s) (locals_from 0 (arity s f.0 + length body.0)) f.1.bytes body.0 body.1
