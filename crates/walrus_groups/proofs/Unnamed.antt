-- Types that come without a name.
use Rattle.std.proofs.Common.{ℕ, List, [], ◌∷◌, ◌++◌, Option, Some, None, ◌≡◌, refl, ap, ◌∙◌}
use Rattle.std.proofs.lemmas.List.{append_assoc}
use Rattle.std.proofs.lemmas.List.Elements.{All-append, All-cons, All-nil}
use Rattle.std.specs.List.{All}
use Rattle.walrus_base.specs.TypeSlots.{no_names}
use Rattle.walrus_base.specs.declared.composite.NewType.{NewType}
use Rattle.walrus_groups.specs.Reading.{AddsUnnamed}

abbrev IsUnnamed : Option (Option (List ℕ)) → Type 0
IsUnnamed name = name ≡ Some None

each_unnamed : (members : List NewType) → All IsUnnamed (no_names members)
each_unnamed [] = All-nil IsUnnamed
each_unnamed (m ∷ ms) = All-cons IsUnnamed (Some None) (no_names ms) refl (each_unnamed ms)

pub group_added : (old new : List (Option (Option (List ℕ)))) (members : List NewType) → new ≡ old ++ no_names members → AddsUnnamed old new
group_added old new members is = record { more = no_names members; behind = is; unnamed = each_unnamed members }

pub added_then : (first old new : List (Option (Option (List ℕ)))) → AddsUnnamed first old → AddsUnnamed old new → AddsUnnamed first new
added_then first old new a b = record {
  more = a.more ++ b.more;
  behind = b.behind ∙ ap (λ l. l ++ b.more) a.behind ∙ append_assoc first a.more b.more;
  unnamed = All-append IsUnnamed a.more b.more a.unnamed b.unnamed;
}
