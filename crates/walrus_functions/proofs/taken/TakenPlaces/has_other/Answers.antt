use Rattle.std.proofs.Common.{◌≡◌, ℕ, false, List, [], ◌∷◌, length, nat_eq, refl, arith}
use Rattle.std.specs.List.{list_any}
use Rattle.walrus_functions.proofs.taken.TakenPlaces.has_other.Goals as goal

nowhere : (x : ℕ) (keys : List ℕ) → length keys ≡ 0 → false ≡ list_any (nat_eq x) keys
nowhere x [] none = refl
nowhere x (k ∷ keys) none = absurd (omega (arith, none))

pub returns-then-is_empty : goal.returns-then-is_empty
returns-then-is_empty c = nowhere c.args.place c.args.self.now.others.keys (c.is_empty.ensures.0 c.if-is_empty.true)
