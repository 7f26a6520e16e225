use mathlib.Core.Path.{fun_ext}
use Rattle.std.proofs.Common.{◌≡◌, ℕ, List, map, nat_eq, ap, ap₂, ◌∙◌}
use Rattle.std.specs.HashMap.{get}
use Rattle.std.specs.Prelude.{Option}
use Rattle.walrus_code.specs.declared.location.InstrLocId.{InstrLocId}
use Rattle.walrus_items.specs.Transform.{location_of}
use Rattle.walrus.specs.Places.{last_place, moved_by, pairs_state}
use Rattle.walrus.specs.declared.sections.places.PlacedPair.{PlacedPair}
use Rattle.walrus.proofs.sections.places.PlacesSectionCustomSection.apply_code_transform.Goals as goal

pub returns-clause-value : goal.returns-clause-value
returns-clause-value c =
    let told : List (InstrLocId × ℕ) → ℕ → Option ℕ = λ moves old. last_place (map location_of moves) old in
    let moved : (ℕ → Option ℕ) → List PlacedPair → List PlacedPair = λ new pairs. map (moved_by new) pairs in
    let new : get nat_eq c.in_ok-new.new ≡ told c.args.transform.now.instruction_map.items = fun_ext c.in_ok-new.ensures.value ∙ ap told c.deref.ensures.value in
    ap pairs_state (c.in_ok-self.ensures.value ∙ ap₂ moved new c.deref-2.ensures.value)
