-- What is made of a plan follows it.
use Rattle.std.proofs.Common.{◌≡◌, ◌∙◌, ℕ, List, Some, ap, map}
use Rattle.std.specs.Prelude.{option_and_then}
use Rattle.walrus_base.specs.Id.{place}
use Rattle.walrus_base.specs.declared.id.Id.{Id}
use Rattle.walrus_base.specs.declared.keys.FunctionKey.{FunctionKey}
use Rattle.walrus_code.specs.Indices.{index_of}
use Rattle.walrus_contents.specs.View.{parts_view}
use Rattle.walrus_contents.specs.declared.parts.Parts.{Parts}
use Rattle.walrus_plan.specs.Prepared.{IsPrepared}
use Rattle.walrus_plan.specs.declared.prepared.Prepared.{Prepared}
use Rattle.walrus_writing.specs.Parts.{type_index}
use Rattle.walrus_writing.specs.Records.{FollowPlan, IsMade}
use Rattle.walrus_writing.specs.declared.write.Choices.{Choices}
use Rattle.walrus_writing.specs.declared.write.Made.{Made}

abbrev pub followed : (p : Parts) (prepared : Prepared) → IsPrepared p prepared → (choices : Choices) (functions : List ℕ) (made : Made) (order : List (Id FunctionKey))
    → map Some functions ≡ map (λ id. option_and_then (type_index (index_of prepared.indices)) ((parts_view p).functions (place id))) order → order ≡ prepared.plan.own_functions.items
    → IsMade p prepared choices made → FollowPlan p prepared.indices prepared.data_count choices functions made
followed p prepared planned choices functions made order functions_are same are_made = record {
  prepared = prepared;
  planned = planned;
  functions_are = functions_are ∙ ap (map (λ id. option_and_then (type_index (index_of prepared.indices)) ((parts_view p).functions (place id)))) same;
  are_made = are_made;
}
