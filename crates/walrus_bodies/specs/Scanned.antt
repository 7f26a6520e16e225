-- What is known of a body that was scanned.
use Rattle.std.specs.Prelude.{◌≡◌, ℕ, ◌+◌, ◌<◌, true, List, Option, Some}
use Rattle.wasm_text.specs.declared.limits.Limits.{Limits}
use Rattle.walrus_base.specs.Operators.{Space, Types, Functions, Tables, Memories, Tags, Globals, Elements, DataSegments}
use Rattle.walrus_code.specs.Location.{location, location_at}
use Rattle.walrus_code.specs.Names.{Lookup}
use Rattle.walrus_code.specs.declared.location.InstrLocId.{InstrLocId}
use Rattle.walrus_bodies.specs.Blocks.{blocks_hold}
use Rattle.walrus_bodies.specs.Body.{Context, Located, OperatorsRead}
use Rattle.walrus_bodies.specs.Text.{first_local_of, local_count_of, ops_in, locations_in}
use Rattle.walrus_bodies.specs.declared.text.Text.{Text}

-- ---- what indices lead to

-- how many items of a space a plain body may name
abbrev pub count_in : Limits → Space → ℕ
count_in limits Types = limits.types
count_in limits Functions = limits.functions
count_in limits Tables = limits.tables
count_in limits Memories = limits.memories
count_in limits Globals = limits.globals
count_in limits Tags = 0
count_in limits Elements = 0
count_in limits DataSegments = 0

-- each index below its count is the place of its item
abbrev pub AreInPlace : Limits → Lookup → Type 0
AreInPlace limits names = (space : Space) (index : ℕ) → index < count_in limits space → names space index ≡ Some index

-- so many locals lie one behind another, from a place on
abbrev pub LieFrom : (first count : ℕ) → (ℕ → Option ℕ) → Type 0
LieFrom first count locals = (index : ℕ) → index < count → locals index ≡ Some (first + index)

-- ---- a body

-- an operator's location is the place of its first byte in the input
abbrev pub IsPlace : ℕ → InstrLocId → Type 0
IsPlace place loc = location loc ≡ location_at place

-- The bytes, which begin at a place of the input, read as the operators of the text, where indices below the limits are places and the types of
-- its blocks are function types.
pub record IsScanned (limits : Limits) (first start : ℕ) (bytes : List ℕ) (text : Text) : Type 0 where
  pub begins : first_local_of text ≡ first
  pub counted : local_count_of text ≡ limits.locals
  pub reads : (c : Context) (locals : ℕ → Option ℕ) → AreInPlace limits c.names → LieFrom first limits.locals locals → blocks_hold c.is_function_type (ops_in text) ≡ true → OperatorsRead c locals bytes (ops_in text)
  pub located : Located IsPlace start bytes (locations_in text)
