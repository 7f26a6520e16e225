-- Which rule on the whole a module breaks (Validation > Modules).
use Rattle.std.specs.Prelude.{◌≡◌, ◌↔◌, length, All, Option, Some, None}
use Rattle.wasm_frames.specs.Record.{Module}
use Rattle.wasm_frames.specs.Order.{InOrder}
use Rattle.wasm_wire.specs.Context.{Context, context_of, counts_of}
use Rattle.wasm_wire.specs.Indices.{TypesRefer, IndicesHold}
use Rattle.wasm_wire.specs.Rules.{AreFunctionTypes, TableLimitsHold, MemoryHolds, CountHolds, NamesDiffer, StartHolds, ElementOffsetHolds, DataOffsetHolds, LocalsHold, Keeps}
use Rattle.wasm_wire.specs.declared.rules.broken.BrokenRule.{BrokenRule}
use Rattle.wasm_wire.specs.declared.rules.broken.BrokenRule.TheVariants as broken

-- functions and tags have function types
abbrev pub FunctionTypesHold : Context → Type 0
FunctionTypesHold c = AreFunctionTypes c.types c.functions × AreFunctionTypes c.types c.tags

-- tables and memories have limits that are allowed
abbrev pub LimitsHold : Context → Type 0
LimitsHold c = All TableLimitsHold c.tables × All MemoryHolds c.memories

-- as many bodies as functions, and as many data segments as are counted
abbrev pub CountsHold : Module → Type 0
CountsHold m = (length m.bodies ≡ length m.functions) × CountHolds (length m.data_segments) m.data_count

-- the offsets of segments are addresses
abbrev pub OffsetsHold : Context → Module → Type 0
OffsetsHold c m = All (ElementOffsetHolds c.tables c.globals) m.elements × All (DataOffsetHolds c.memories c.globals) m.data_segments

-- this rule holds of the module where this is declared
abbrev pub RuleHolds : BrokenRule → Context → Module → Type 0
RuleHolds broken.Order c m = InOrder m.order
RuleHolds broken.Types c m = TypesRefer m.types
RuleHolds broken.Indices c m = IndicesHold (counts_of c) m
RuleHolds broken.FunctionTypes c m = FunctionTypesHold c
RuleHolds broken.Limits c m = LimitsHold c
RuleHolds broken.Counts c m = CountsHold m
RuleHolds broken.ExportNames c m = NamesDiffer m.exports
RuleHolds broken.Start c m = StartHolds c.types c.functions m.start
RuleHolds broken.Offsets c m = OffsetsHold c m
RuleHolds broken.Locals c m = All LocalsHold m.bodies

-- the module keeps the rules where this is declared, or breaks the one that is named
abbrev pub JudgesBy : Option BrokenRule → Context → Module → Type 0
JudgesBy None c m = Keeps c m
JudgesBy (Some r) c m = RuleHolds r c m → ⊥

-- what is said of a module: that it keeps the rules, or which one it breaks
abbrev pub Judges : Option BrokenRule → Module → Type 0
Judges broken m = JudgesBy broken (context_of m) m

-- what `Keeps` asks for is that each rule that has a name holds
abbrev pub RulesAre : Type 0
RulesAre = (c : Context) (m : Module) → ((r : BrokenRule) → RuleHolds r c m) ↔ Keeps c m
