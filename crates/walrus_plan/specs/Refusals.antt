-- Why parts that name nothing dead have no plan to be written by.
use Rattle.std.specs.Prelude.{length, ◌≤◌, ◌^◌, ⊤}
use Rattle.walrus_base.specs.Operators.{Space}
use Rattle.walrus_contents.specs.View.{parts_view}
use Rattle.walrus_contents.specs.declared.parts.Parts.{Parts}
use Rattle.walrus_model.specs.Plan.{IsPlan, Plan}
use Rattle.walrus_items.specs.declared.error.Error.{Error}
use Rattle.walrus_items.specs.declared.error.Error.TheVariants.{Memory, NoIndex, TooLarge, TwoIndices}
use Rattle.walrus_theorem.specs.Refused.{HasTwoIndices, LacksIndex}

-- a space of the plan has too many items
abbrev pub HasTooMany : Plan → Type 0
HasTooMany plan = (space : Space) × (2 ^ 32 ≤ length (plan space))

-- so has one of a plan of the module
abbrev pub HasTooManyItems : Parts → Type 0
HasTooManyItems p = (plan : Plan) × (IsPlan (parts_view p) plan × HasTooMany plan)

-- the items of all spaces are numbered
abbrev pub RefusesCounts : Plan → Error → Type 0
RefusesCounts plan (Memory e) = ⊤
RefusesCounts plan TooLarge = HasTooMany plan
RefusesCounts plan _ = ⊥

-- the parts are planned: each refusal comes with its cause, and too many items are one where each of them could have an index
abbrev pub RefusesPlan : Parts → Error → Type 0
RefusesPlan p (Memory e) = ⊤
RefusesPlan p TwoIndices = HasTwoIndices (parts_view p)
RefusesPlan p NoIndex = LacksIndex (parts_view p)
RefusesPlan p TooLarge = (HasTwoIndices (parts_view p) → ⊥) × (LacksIndex (parts_view p) → ⊥) × HasTooManyItems p
RefusesPlan p _ = ⊥
