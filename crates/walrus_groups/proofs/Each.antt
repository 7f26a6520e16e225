-- What the loops keep that look up one by one.
use Rattle.std.proofs.Common.{◌≡◌, ℕ, suc, ◌+◌, ◌<◌, List, [], ◌∷◌, ◌++◌, length, map, drop, drop-cons, get_or, Option, Some, None, append_assoc, refl, sym, ap, ap₂, ◌∙◌, arith}
use Rattle.std.proofs.lemmas.List.{map-append}
use Rattle.wasm_forms.specs.Reading.{◌>>=◌}
use Rattle.walrus_groups.specs.Named.{each}

-- what was found so far, and what is left to find
abbrev pub behind : {Y : Type 0} → List Y → Option (List Y) → Option (List Y)
behind done rest = rest >>= λ more. Some (done ++ more)

one_more : {Y : Type 0} (done : List Y) (y : Y) (rest : Option (List Y)) → behind (done ++ y ∷ []) rest ≡ behind done (rest >>= λ more. Some (y ∷ more))
one_more done y (Some more) = ap (λ l. Some l) (append_assoc done (y ∷ []) more)
one_more done y None = refl

-- the next one is found
pub found_next : {R S X Y N : Type 0} (find : X → Option Y) (to : S → X) (of : R → S) (view : N → Y) (raws : List R) (i : ℕ) (raw : R) (done : List N) (one : N) → i < length raws → raw ≡ get_or raws i raw → find (to (of raw)) ≡ Some (view one)
    → behind (map view (done ++ one ∷ [])) (each find (map to (map of (drop (i + 1) raws)))) ≡ behind (map view done) (each find (map to (map of (drop i raws))))
found_next find to of view raws i raw done one l is found =
    let next : suc i ≡ i + 1 = omega arith in
    let left : drop i raws ≡ raw ∷ drop (i + 1) raws = drop-cons raws i raw l ∙ ap₂ (λ r k. r ∷ drop k raws) (sym is) next in
    let rest = each find (map to (map of (drop (i + 1) raws))) in
    ap (λ l. behind l rest) (map-append view done (one ∷ []))
    ∙ one_more (map view done) (view one) rest
    ∙ ap (λ o. behind (map view done) (o >>= λ first. rest >>= λ others. Some (first ∷ others))) (sym found)
    ∙ ap (λ rs. behind (map view done) (each find (map to (map of rs)))) (sym left)
