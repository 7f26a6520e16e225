use Rattle.std.proofs.Common.{◌≡◌, ℕ, map, take, nat_eq}
use Rattle.std.specs.List.{IsDistinct, list_any}
use Rattle.walrus_base.specs.Id.{place}
use Rattle.walrus_functions.specs.Declaring.{is_taken}
use Rattle.walrus_functions.proofs.declared.distinct_places.Given as goal

-- the places so far differ, and they are taken
abbrev pub invariant-loop-id : goal.invariant-loop-id
invariant-loop-id l = record {
  distinct : IsDistinct nat_eq (map place (take l.id-index l.ids));
  are : (x : ℕ) → is_taken l.places x ≡ list_any (nat_eq x) (map place (take l.id-index l.ids));
}
