-- The last new place of an old one, move by move.
use Rattle.std.proofs.Common.{◌≡◌, ℕ, ◌+◌, ◌<◌, Bool, true, false, cond, nat_eq, List, [], ◌∷◌, ◌++◌, map, take, length, None, Some, refl, sym, ap, ◌∙◌}
use Rattle.std.specs.Prelude.{Option, slice_index_or}
use Rattle.std.proofs.lemmas.List.{map-append, take_more}
use Rattle.walrus_code.specs.declared.location.InstrLocId.{InstrLocId}
use Rattle.walrus_items.specs.Transform.{location_of}
use Rattle.walrus.specs.Places.{last_place, later}

kept : (b : Bool) (found : Option ℕ) (new : ℕ) (earlier : Option ℕ) → later (cond b (Some new) found) earlier ≡ cond b (Some new) (later found earlier)
kept true found new earlier = refl
kept false found new earlier = refl

last_behind : (moves : List (ℕ × ℕ)) (move : ℕ × ℕ) (old : ℕ) → last_place (moves ++ move ∷ []) old ≡ cond (nat_eq move.0 old) (Some move.1) (last_place moves old)
last_behind [] move old = refl
last_behind (first ∷ moves) move old =
    let earlier : Option ℕ = cond (nat_eq first.0 old) (Some first.1) None in
    ap (λ (o : Option ℕ). later o earlier) (last_behind moves move old) ∙ kept (nat_eq move.0 old) (last_place moves old) move.1 earlier

one_more_move : (moves : List (InstrLocId × ℕ)) (i : ℕ) (d : InstrLocId × ℕ) (old : ℕ) → i < length moves
    → last_place (map location_of (take (i + 1) moves)) old
    ≡ cond (nat_eq (location_of (slice_index_or moves i d)).0 old) (Some (slice_index_or moves i d).1) (last_place (map location_of (take i moves)) old)
one_more_move moves i d old lt =
    ap (λ (ms : List (InstrLocId × ℕ)). last_place (map location_of ms) old) (take_more moves i d lt)
    ∙ ap (λ (ms : List (ℕ × ℕ)). last_place ms old) (map-append location_of (take i moves) (slice_index_or moves i d ∷ []))
    ∙ last_behind (map location_of (take i moves)) (location_of (slice_index_or moves i d)) old

-- one turn of the loop that notes them
pub turn : (moves : List (InstrLocId × ℕ)) (i : ℕ) (d entry : InstrLocId × ℕ) (was now : ℕ → Option ℕ) → i < length moves → slice_index_or moves i d ≡ entry
    → ((old : ℕ) → was old ≡ last_place (map location_of (take i moves)) old) → ((old : ℕ) → now old ≡ cond (nat_eq (location_of entry).0 old) (Some entry.1) (was old))
    → (old : ℕ) → now old ≡ last_place (map location_of (take (i + 1) moves)) old
turn moves i d entry was now lt is before noted old =
    noted old
    ∙ ap (λ (o : Option ℕ). cond (nat_eq (location_of entry).0 old) (Some entry.1) o) (before old)
    ∙ ap (λ (e : InstrLocId × ℕ). cond (nat_eq (location_of e).0 old) (Some e.1) (last_place (map location_of (take i moves)) old)) (sym is)
    ∙ sym (one_more_move moves i d old lt)
