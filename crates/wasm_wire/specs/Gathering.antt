-- What is gathered of what a module declares.
use Rattle.std.specs.Prelude.{ℕ, ◌<◌, List, length, get_or, sum_by, take, map, Result, Ok, Err}
use Rattle.std.specs.Global.{Vec}
use Rattle.wasm_forms.specs.declared.error.WireError.{WireError}
use Rattle.wasm_forms.specs.declared.error.WireError.TheVariants.{Malformed, Memory, TooLarge}
use Rattle.wasm_entries.specs.Record.{sub, group}
use Rattle.wasm_wire.specs.declared.rules.declared.Declared.{Declared}
use Rattle.wasm_entries.specs.declared.record.RawSub.{RawSub}
use Rattle.wasm_wire.specs.Indices.{GroupRefers}
use Rattle.wasm_wire.specs.Context.{Context}

-- made as P says, unless memory ran out
abbrev pub Makes : {X : Type 0} → Result X WireError → (X → Type 0) → Type 0
Makes (Ok x) P = P x
Makes (Err Malformed) P = ⊥
Makes (Err (Memory e)) P = Unit {0}
Makes (Err TooLarge) P = ⊥

-- what is gathered, without where it lies in memory
abbrev pub context : Declared → Context
context d = record {
  types = map (λ s. sub s.now) d.types.items;
  functions = d.functions.items;
  tables = d.tables.items;
  memories = d.memories.items;
  globals = d.globals.items;
  tags = d.tags.items;
  imported_globals = d.imported_globals;
}

-- so many types stand in the groups before this one
abbrev pub types_before : List (Vec RawSub) → ℕ → ℕ
types_before gs i = sum_by (λ g. length g) (take i (map group gs))

-- each group in memory names types of earlier groups and of its own
abbrev pub EachRefers : List (Vec RawSub) → Type 0
EachRefers gs = (i : ℕ) (d : Vec RawSub) → i < length gs → GroupRefers (types_before gs i) (group (get_or gs i d))
