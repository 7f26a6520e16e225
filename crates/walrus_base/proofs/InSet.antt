-- Which ids a set has, by the list of them.
use Rattle.std.proofs.Common.{ℕ, Option, Some, None, arith}
use Rattle.std.specs.Prelude.{◌↔◌, Contains, IsTrue, []}
use Rattle.std.specs.BTreeSet.{BTreeSet}
use Rattle.std.specs.Global.{Box}
use Rattle.std.proofs.lemmas.Cmp.{nat_cmp_total}
use Rattle.std.proofs.lemmas.Map.Lookups.{exact_unsigned}
use Rattle.std.proofs.lemmas.Map.Views.{btree_set_contains_iff}
use Rattle.walrus_base.specs.IdSet.{has_id, has_place, ids_in, places_in}
use Rattle.walrus_base.specs.declared.set.IdHashSet.{IdHashSet}

pub none_in : (n : ℕ) → Contains [] n → ⊥
none_in n (k, low, is) = omega (arith, low)

place_is_listed : (places : Option (Box (BTreeSet ℕ))) (n : ℕ) → IsTrue (has_place places n) ↔ Contains (places_in places) n
place_is_listed None n = ((λ h. absurd cc), (λ h. absurd (none_in n h)))
place_is_listed (Some places) n = btree_set_contains_iff nat_cmp_total exact_unsigned places.value n

-- the id of a place is in just where the list of them has it
pub id_is_listed : {K : Type 0} (set : IdHashSet K) (n : ℕ) → IsTrue (has_id set n) ↔ Contains (ids_in set) n
id_is_listed set n = place_is_listed set.places n
