-- Where operators stood in the input.
use Rattle.std.proofs.Common.{◌≡◌, ℕ, suc, ◌+◌, ◌-◌, ◌^◌, ◌≤◌, Bool, true, false, List, [], ◌∷◌, length, map, min, refl, ap, ◌∙◌, sym, subst, arith, length-append, ltb-true, ltb-false, le-ltb}
use Rattle.std.specs.Prelude.{Some, nat_lt, if◌then◌else◌}
use Rattle.wasm_forms.specs.Grammar.{Is, IsRow, at}
use Rattle.wasm_forms.proofs.Exact.{exact}
use Rattle.wasm_text.specs.Operators.{Op}
use Rattle.wasm_text.specs.Forms.{operator}
use Rattle.walrus_code.specs.Location.{location, location_at}
use Rattle.walrus_code.specs.declared.location.InstrLocId.{InstrLocId}
use Rattle.walrus_bodies.specs.Body.{Located}
use Rattle.walrus_bodies.specs.Texts.{places_at}
use Rattle.walrus_bodies.specs.Text.{at_place}
use Rattle.walrus_bodies.specs.Scanned.{IsPlace}
use Rattle.walrus_bodies.proofs.TextLemmas.{no_places, first_place}

by_test : (place : ℕ) (t : Bool) → nat_lt place (2 ^ 32 - 1) ≡ t → location_at (min place (2 ^ 64 - 1)) ≡ location_at place
by_test place true is =
    let below = ltb-true place (2 ^ 32 - 1) is in
    let same : min place (2 ^ 64 - 1) ≡ place = omega (arith, below) in
    ap location_at same
by_test place false is =
    let past = ltb-false place (2 ^ 32 - 1) is in
    let far : nat_lt (min place (2 ^ 64 - 1)) (2 ^ 32 - 1) ≡ false = le-ltb (min place (2 ^ 64 - 1)) (2 ^ 32 - 1) (omega (arith, past)) in
    ap (λ (t : Bool). if t then min place (2 ^ 64 - 1) else 2 ^ 32 - 1) far ∙ sym (ap (λ (t : Bool). if t then place else 2 ^ 32 - 1) is)

-- a location doesn't see where places end
pub capped : (place : ℕ) → location_at (min place (2 ^ 64 - 1)) ≡ location_at place
capped place = by_test place (nat_lt place (2 ^ 32 - 1)) refl

-- the location of what stands so many bytes in front of the end
pub loc_is : (loc : InstrLocId) (start total left place : ℕ) → left ≤ total → place ≡ min (start + (total - left)) (2 ^ 64 - 1) → location loc ≡ location_at place → loc ≡ at_place ((start + total) - left)
loc_is loc start total left place within is given =
    let same : start + (total - left) ≡ (start + total) - left = omega arith in
    let value : loc.value ≡ location_at ((start + total) - left) = given ∙ ap location_at is ∙ capped (start + (total - left)) ∙ ap location_at same in
    ap (λ (v : ℕ). let l : InstrLocId = record { value = v } in l) value

-- operators one behind another stand at their places
pub stand : (place end : ℕ) (bytes : List ℕ) (texts : List Op) → end ≡ place + length bytes → IsRow (Is operator) bytes texts → Located IsPlace place bytes (map at_place (places_at end (length texts) bytes))
stand place end bytes [] ends row = rw (no_places end bytes) row
stand place end bytes (x ∷ xs) ends (front, (back, (parts, is, row))) =
    let read : at operator bytes ≡ Some (x, back) = ap (at operator) parts ∙ (exact operator).again front back x is in
    let long : length bytes ≡ length front + length back = ap length parts ∙ length-append front back in
    let here : end - length bytes ≡ place = omega arith in
    let behind : end ≡ (place + length front) + length back = omega arith in
    let given : location (at_place (end - length bytes)) ≡ location_at (min place (2 ^ 64 - 1)) = ap location_at here ∙ sym (capped place) in
    subst (λ (ps : List ℕ). Located IsPlace place bytes (map at_place ps)) (sym (first_place end (suc (length xs)) (length xs) bytes (x, back) refl read))
    (x, (front, (back, (parts, is, given, stand (place + length front) end back xs behind row))))
