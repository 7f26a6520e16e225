-- Texts that differ and say one module: which of them is its spelling is left to the clauses of `IsSpelling`.
use Rattle.std.specs.Prelude.{ℕ, Bool, true, false, List, [], ◌∷◌, Some, None, codes, ◌≡◌, ◌≢◌}
use Rattle.wasm_opcodes.specs.declared.one_byte.TheConstants.{REF_NULL}
use Rattle.wasm_opcodes.specs.declared.types.TheConstants.{HEAP_FUNC, HEAP_NO_EXN}
use Rattle.wasm_forms.specs.declared.types.RawHeap.TheVariants as raw_heap
use Rattle.wasm_forms.specs.declared.types.RawVal.TheVariants as vals
use Rattle.wasm_entries.specs.Record as entries
use Rattle.wasm_frames.specs.Record as frames
use Rattle.wasm_operators.specs.declared.operator.RawArg.TheVariants as args
use Rattle.wasm_payloads.specs.declared.naming.NameSpace.{NameSpace}
use Rattle.wasm_payloads.specs.declared.naming.NameSpace.TheVariants as spaces
use Rattle.walrus_theorem.specs.Examples.{no_names, empty_body, one_text, split, none_declared, the_end, with_empty_group}
use Rattle.walrus_theorem.specs.Text.{BodyText, NameMap, NameText, Text, said, said_by}

abbrev pub SayOne : Text → Text → Type 0
SayOne s t = (said_by s ≡ said_by t) × (s ≢ t)

abbrev pub SayOneBody : BodyText → BodyText → Type 0
SayOneBody a b = (said a ≡ said b) × (a ≢ b)

-- ---- bodies

abbrev pub joined : BodyText
joined = record { declarations = (3, vals.I32) ∷ []; operators = the_end ∷ [] }

-- a local of a reference type, and `ref.null`, with a byte for the heap type: that of noexn stands for one, 0 for none
abbrev pub local_of : ℕ → BodyText
local_of b = record { declarations = (1, vals.Ref (record { nullable = true; heap = raw_heap.Abstract b })) ∷ []; operators = the_end ∷ [] }

abbrev pub null_of : ℕ → BodyText
null_of b = record { declarations = []; operators = record { op = REF_NULL; args = args.Heap (raw_heap.Abstract b) ∷ [] } ∷ the_end ∷ [] }

-- ---- sections

abbrev pub two_bodies : Text
two_bodies = record one_text { bodies = empty_body ∷ empty_body ∷ [] }

abbrev pub two_functions : Text
two_functions = record one_text { functions = 0 ∷ 0 ∷ [] }

abbrev pub with_mode : entries.ElementMode → Text
with_mode m = record one_text { elements = record { mode = m; items = entries.Functions [] } ∷ [] }

abbrev pub with_count : Text
with_count = record one_text { data_count = Some 5 }

abbrev pub of_name : List ℕ → frames.Custom
of_name name = record { name = name; bytes = [] }

-- one custom section, with those of dynamic linking or with the others
abbrev pub in_front : Text
in_front = record one_text { dylinks = of_name (codes "x") ∷ [] }

abbrev pub behind : Text
behind = record one_text { others = of_name (codes "x") ∷ [] }

-- a name section with no names
abbrev pub with_names : Text
with_names = record one_text { others = of_name (codes "name") ∷ [] }

-- a table whose limits are shared, or not
abbrev pub with_flag : Bool → Text
with_flag b = record one_text { tables = record { ty = record { element = record { nullable = true; heap = raw_heap.Abstract HEAP_FUNC }; limits = record { minimum = 0; maximum = None; shared = b; wide = false; page = None } }; initial = None } ∷ [] }

-- ---- names

abbrev pub named_so : NameText → Text
named_so names = record one_text { names = names }

-- a function with no names of locals
abbrev pub no_local : Text
no_local = named_so (record no_names { locals = (0, []) ∷ [] })

-- the names of a function's locals in two maps, or in one
abbrev pub two_maps : Text
two_maps = named_so (record no_names { locals = (0, (0, codes "a") ∷ []) ∷ (0, (1, codes "b") ∷ []) ∷ [] })

abbrev pub one_map : Text
one_map = named_so (record no_names { locals = (0, (0, codes "a") ∷ (1, codes "b") ∷ []) ∷ [] })

-- a local of a function that isn't there
abbrev pub beyond : Text
beyond = named_so (record no_names { locals = (5, (0, codes "a") ∷ []) ∷ [] })

-- the names of two functions, in either order
abbrev pub for_functions : NameMap → NameSpace → NameMap
for_functions names spaces.Functions = names
for_functions names space = []

abbrev pub two : NameMap → Text
two names = record one_text { functions = 0 ∷ 0 ∷ []; bodies = empty_body ∷ empty_body ∷ []; names = record no_names { items = for_functions names } }

abbrev pub rising : Text
rising = two ((0, codes "a") ∷ (1, codes "b") ∷ [])

abbrev pub falling : Text
falling = two ((1, codes "b") ∷ (0, codes "a") ∷ [])

-- ---- all of them

pub record HasAlternatives : Type 0 where
  pub no_local_declared : SayOneBody none_declared empty_body
  pub type_twice : SayOneBody split joined
  pub local_types : SayOneBody (local_of 0) (local_of HEAP_NO_EXN)
  pub operators : SayOneBody (null_of 0) (null_of HEAP_NO_EXN)
  pub empty_group : SayOne with_empty_group one_text
  pub more_bodies : SayOne two_bodies one_text
  pub more_functions : SayOne two_functions one_text
  pub modes : SayOne (with_mode (entries.ActiveElements None [])) (with_mode (entries.ActiveElements (Some 0) []))
  pub data_count : SayOne with_count one_text
  pub places : SayOne in_front behind
  pub name_section : SayOne with_names one_text
  pub flags : SayOne (with_flag true) (with_flag false)
  pub no_local_named : SayOne no_local one_text
  pub maps : SayOne two_maps one_map
  pub no_function : SayOne beyond one_text
  pub order : SayOne rising falling
