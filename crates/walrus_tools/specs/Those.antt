-- Those of a list of which something holds.
use Rattle.std.specs.Prelude.{List, [], ◌∷◌, ◌≡◌, ◌⊎◌}

-- those are the ones of all of which P holds, in their order
abbrev pub AreThose : {T : Type 0} → (P : T → Type 0) → (all those : List T) → Type 0
AreThose P [] those = those ≡ []
AreThose {T} P (x ∷ all) those = ((others : List T) × P x × (those ≡ x ∷ others) × AreThose P all others) ⊎ ((P x → ⊥) × AreThose P all those)
