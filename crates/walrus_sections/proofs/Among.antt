-- What is so of one of a list in memory, and of none of it; and what is refused for a reason.
use Rattle.std.proofs.Common.{◌≡◌, ◌<◌, ℕ, List, All, get_or, length, map, subst, arith}
use Rattle.std.specs.Prelude.{Contains}
use Rattle.std.proofs.lemmas.List.Elements.{All-map, All-contains, Contains-get_or}
use Rattle.std.proofs.lemmas.List.{get_or-map, length-map}
use Rattle.walrus_items.specs.declared.error.Error.{Error}
use Rattle.walrus_items.specs.declared.error.Error.TheVariants as error
use Rattle.walrus_sections.specs.Numbers.{RefusesIf}

-- memory ran out, or the same is so for another reason
pub because : (A B : Type 0) → (A → B) → (e : Error) → RefusesIf A e → RefusesIf B e
because A B f (error.Memory m) h = tt
because A B f error.TooLarge h = f h
because A B f _ h = absurd h

-- what stands at a place of a list is one of what the list holds
pub among : {X Y : Type 0} (seen : X → Y) (xs : List X) (i : ℕ) (d : X) → i < length xs → Contains (map seen xs) (seen (get_or xs i d))
among seen xs i d below =
    let short : length (map seen xs) ≡ length xs = length-map xs seen in
    subst (Contains (map seen xs)) (get_or-map seen xs i d (seen d) below) (Contains-get_or (map seen xs) i (seen d) (omega (arith, short, below)))

-- what isn't so of any of a list isn't so of one of what it holds
pub none_among : {X Y : Type 0} (P : Y → Type 0) (seen : X → Y) (xs : List X) → All (λ x. P (seen x) → ⊥) xs → (y : Y) → Contains (map seen xs) y → P y → ⊥
none_among P seen xs none y at so = All-contains (λ z. P z → ⊥) (map seen xs) y (All-map (λ z. P z → ⊥) seen xs none) at so
