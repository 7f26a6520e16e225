-- A module keeps the rules where each of those that have names holds.
use Rattle.std.proofs.Common.{ℕ, ◌<◌, List, [], ◌∷◌, get_or, arith}
use Rattle.wasm_frames.specs.Record.{Module}
use Rattle.wasm_wire.specs.Context.{Context}
use Rattle.wasm_wire.specs.Rules.{Keeps}
use Rattle.wasm_wire.specs.Broken.{RuleHolds}
use Rattle.wasm_wire.specs.declared.rules.broken.BrokenRule.{BrokenRule}
use Rattle.wasm_wire.specs.declared.rules.broken.BrokenRule.TheVariants as broken

pub kept_each : (c : Context) (m : Module) → Keeps c m → (r : BrokenRule) → RuleHolds r c m
kept_each c m k broken.Order = k.in_order
kept_each c m k broken.Types = k.types
kept_each c m k broken.Indices = k.indices
kept_each c m k broken.FunctionTypes = (k.function_types, k.tag_types)
kept_each c m k broken.Limits = (k.tables, k.memories)
kept_each c m k broken.Counts = (k.as_many_bodies, k.data_count)
kept_each c m k broken.ExportNames = k.names_differ
kept_each c m k broken.Start = k.start
kept_each c m k broken.Offsets = (k.element_offsets, k.data_offsets)
kept_each c m k broken.Locals = k.locals

pub each_kept : (c : Context) (m : Module) → ((r : BrokenRule) → RuleHolds r c m) → Keeps c m
each_kept c m h = record {
  in_order = h broken.Order;
  types = h broken.Types;
  indices = h broken.Indices;
  function_types = (h broken.FunctionTypes).0;
  tag_types = (h broken.FunctionTypes).1;
  tables = (h broken.Limits).0;
  memories = (h broken.Limits).1;
  as_many_bodies = (h broken.Counts).0;
  data_count = (h broken.Counts).1;
  names_differ = h broken.ExportNames;
  start = h broken.Start;
  element_offsets = (h broken.Offsets).0;
  data_offsets = (h broken.Offsets).1;
  locals = h broken.Locals;
}

-- the rules, in the order in which they are looked at
abbrev pub all_rules : List BrokenRule
all_rules = broken.Order ∷ broken.Types ∷ broken.Indices ∷ broken.FunctionTypes ∷ broken.Limits ∷ broken.Counts ∷ broken.ExportNames ∷ broken.Start ∷ broken.Offsets ∷ broken.Locals ∷ []

-- what holds of all in that list holds of each rule
pub each_listed : (P : BrokenRule → Type 0) → ((k : ℕ) (d : BrokenRule) → k < 10 → P (get_or all_rules k d)) → (r : BrokenRule) → P r
each_listed P h broken.Order = h 0 broken.Order (omega arith)
each_listed P h broken.Types = h 1 broken.Order (omega arith)
each_listed P h broken.Indices = h 2 broken.Order (omega arith)
each_listed P h broken.FunctionTypes = h 3 broken.Order (omega arith)
each_listed P h broken.Limits = h 4 broken.Order (omega arith)
each_listed P h broken.Counts = h 5 broken.Order (omega arith)
each_listed P h broken.ExportNames = h 6 broken.Order (omega arith)
each_listed P h broken.Start = h 7 broken.Order (omega arith)
each_listed P h broken.Offsets = h 8 broken.Order (omega arith)
each_listed P h broken.Locals = h 9 broken.Order (omega arith)
