-- What a check of a module in memory answers before it is written ("Validation > Modules"): the rules that it keeps, or the one that it breaks.
use Rattle.std.specs.Prelude.{ℕ, List, [], length, flat_map, All, AllPairs, Contains, Some, codes, ◌≡◌, ◌≢◌, ◌<◌, ◌^◌, ⊤}
use Rattle.walrus_base.specs.Types.{HeapType, IsNotExact}
use Rattle.walrus_base.specs.Operators.{Space, Functions, Item, Op}
use Rattle.walrus_items.specs.declared.custom.CustomSection.{Ghosts}
use Rattle.walrus_items.specs.declared.error.Error.{Error}
use Rattle.walrus_items.specs.declared.error.Error.TheVariants.{Memory, InvalidWasm, DeadItem, NoIndex, TwoIndices, TooLarge, NotWritable}
use Rattle.wasm_wire.specs.declared.rules.broken.BrokenRule.{BrokenRule}
use Rattle.wasm_wire.specs.declared.rules.broken.BrokenRule.TheVariants as rules
use Rattle.walrus_model.specs.Abstract.{Abstract, Body, Custom, Export, Function, LocalFunction}
use Rattle.walrus_model.specs.Config.{Config}
use Rattle.walrus_model.specs.Dead.{HasDead}
use Rattle.walrus_model.specs.Live.{Has}
use Rattle.walrus_model.specs.Order.{ByImport}
use Rattle.walrus_model.specs.Rules.{FunctionTypesHold, IsEmptyFunctionType, LimitsHold, LocalsHold, OffsetsHold, RulesHold}
use Rattle.walrus_model.specs.WellMade.{consts_in, heaps_in, op_heaps}
use Rattle.walrus_theorem.specs.Refused.{HasTwoIndices, HasUnspelled, LacksIndex, PassesLimits}
use Rattle.walrus_theorem.specs.WellMade.{IsWellFormed, IsWellMade}
use Rattle.walrus_module.specs.View.{view, held_view}
use Rattle.walrus_module.specs.declared.entry.SectionEntry.{SectionEntry}
use Rattle.walrus_module.specs.declared.flaw.Flaw.{Flaw}
use Rattle.walrus_module.specs.declared.flaw.Flaw.TheVariants.{Form, Rule}
use Rattle.walrus_module.specs.declared.module.Module.{Module}

-- All that is named is there, each item can be given one index, which 32 bits hold, bytes spell all that stands outside bodies, and the rules hold.
-- Whether a body is well formed isn't looked at.
pub record PassesCheck (v : Abstract) : Type 0 where
  pub all_there : HasDead v → ⊥
  pub one_index : HasTwoIndices v → ⊥
  pub indices : LacksIndex v → ⊥
  pub few : (space : Space) (numbers : List ℕ) → AllPairs (λ i j. i < j) numbers → All (Has v space) numbers → length numbers < 2 ^ 32
  pub heaps : (x : Item) (h : HeapType ℕ) → x.0 ≢ Functions → Contains (heaps_in v x) h → IsNotExact h
  pub const_heaps : (x : Item) (ops : List Op) (h : HeapType ℕ) → Contains (consts_in v x) ops → Contains (flat_map op_heaps ops) h → IsNotExact h
  pub consts : (x : Item) (ops : List Op) → Contains (consts_in v x) ops → ops ≢ []
  pub rules : RulesHold (ByImport v) v

-- no two exports have the same name
abbrev pub NamesAreApart : Abstract → Type 0
NamesAreApart v = AllPairs (λ (d : Export) (e : Export). d.name ≢ e.name) v.exports

-- the start function has neither parameters nor results
abbrev pub StartHolds : Abstract → Type 0
StartHolds v = (i : ℕ) (f : Function) → v.start ≡ Some i → v.functions i ≡ Some f → IsEmptyFunctionType v f.ty

-- This rule is broken. Those that aren't named here no module in memory breaks, or a check says in other words that they are.
abbrev pub Breaks : BrokenRule → Abstract → Type 0
Breaks rules.FunctionTypes v = FunctionTypesHold v → ⊥
Breaks rules.Limits v = LimitsHold v → ⊥
Breaks rules.ExportNames v = NamesAreApart v → ⊥
Breaks rules.Start v = StartHolds v → ⊥
Breaks rules.Offsets v = OffsetsHold v → ⊥
Breaks rules.Locals v = LocalsHold v → ⊥
Breaks _ v = ⊥

-- a rule is broken: on the types of functions, tags and blocks, on limits, on exports and the start function, on offsets, or on the number of locals
abbrev pub BreaksRule : Abstract → Type 0
BreaksRule v = (rule : BrokenRule) × Breaks rule v

-- refused only with a cause, which is emission's own where no rule is broken
abbrev pub RefusesCheck : Abstract → Error → Type 0
RefusesCheck v (Memory e) = ⊤
RefusesCheck v (InvalidWasm kind) = BreaksRule v
RefusesCheck v DeadItem = HasDead v
RefusesCheck v TwoIndices = HasTwoIndices v
RefusesCheck v NoIndex = LacksIndex v
RefusesCheck v NotWritable = (c : Config) → HasUnspelled c v
RefusesCheck v TooLarge = (c : Config) → PassesLimits c v
RefusesCheck v _ = ⊥

-- what is wrong: the rule that is broken, or the cause beside the rules for which a check refuses
abbrev pub IsFlaw : Abstract → Flaw → Type 0
IsFlaw v (Rule rule) = Breaks rule v
IsFlaw v (Form (InvalidWasm kind)) = ⊥
IsFlaw v (Form e) = RefusesCheck v e

-- ---- the law

-- each body is well formed
abbrev pub BodiesAreFormed : Config → Abstract → Type 0
BodiesAreFormed c v = (i : ℕ) (f : Function) (b : Body) → v.functions i ≡ Some f → f.kind ≡ LocalFunction b → IsWellFormed c v f.ty b

module _ {V : Type 0} {O : V → Type 0} (G : (v : V) → Ghosts (O v)) where
  -- A module that passes the check is well made, where its bodies are well formed and no custom section of its own is called as the name or the
  -- producers section.
  abbrev pub CheckedIsWellMade : Type 0
  CheckedIsWellMade = (c : Config) (m : Module (SectionEntry V O)) → PassesCheck (held_view m) → BodiesAreFormed c (view G m)
      → ((s : Custom) → Contains (view G m).customs s → (s.name ≢ codes "name") × (s.name ≢ codes "producers")) → IsWellMade c (view G m)
