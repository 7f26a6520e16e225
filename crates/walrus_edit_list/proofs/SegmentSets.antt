-- What stands at a place of a collection, and the sets of segments, once they are changed.
use Rattle.std.proofs.Common.{◌≡◌, ℕ, zero, suc, Bool, true, false, List, [], ◌∷◌, map, refl, sym, ap, subst, ◌∙◌, eqb-true}
use Rattle.std.specs.Prelude.{◌≢◌, ◌==◌, if◌then◌else◌, Option, Some, None, option_map, slice_set}
use Rattle.std.proofs.lemmas.Bool.{eqb-false}
use Rattle.std.proofs.lemmas.List.{map-set}
use mathlib.Core.Path.{fun_ext}
use Rattle.walrus_base.specs.Arena.{IsLive, item_at}
use Rattle.walrus_base.specs.IdSet.{Adds, Removes, has_id}
use Rattle.walrus_base.proofs.Standing.{some_of}
use Rattle.walrus_base.specs.declared.set.IdHashSet.{IdHashSet}
use Rattle.walrus_edit_list.specs.SegmentSets.{with_segment}

-- ---- what stands at a place

-- where an item stood, and it is put back changed
pub put_back : {T V : Type 0} (value : T → V) (change : V → V) (slots : List (Option T)) (at : ℕ) (last : T) (v : V)
    → item_at (map (option_map value) slots) at ≡ Some v → value last ≡ change v
    → map (option_map value) (slice_set slots at (Some last)) ≡ slice_set (map (option_map value) slots) at (option_map change (item_at (map (option_map value) slots) at))
put_back {T} {V} value change slots at last v there is =
    map-set (option_map value) slots at (Some last)
    ∙ ap (λ (o : Option V). slice_set (map (option_map value) slots) at o) (ap Some is ∙ ap (option_map change) (sym there))

-- where nothing stands, nothing changes
pub none_there : {V : Type 0} (change : V → V) (slots : List (Option V)) (at : ℕ) → (IsLive slots at → ⊥) → slots ≡ slice_set slots at (option_map change (item_at slots at))
none_there change [] at dead = refl
none_there change (None ∷ rest) zero dead = refl
none_there change (Some v ∷ rest) zero dead = absurd (dead refl)
none_there {V} change (slot ∷ rest) (suc at) dead = ap (λ (l : List (Option V)). slot ∷ l) (none_there change rest at dead)

-- where an item is there, it stands at the place of its id
pub stood : {V : Type 0} (slots : List (Option V)) (i at : ℕ) → i ≡ at → IsLive slots i → (was : V) × (item_at slots at ≡ Some was)
stood {V} slots i at same live = subst (λ (n : ℕ). (was : V) × (item_at slots n ≡ Some was)) same (some_of (item_at slots i) live)

-- what is changed at the place of its id is what stood there, changed
pub set_so : {V : Type 0} (change : V → V) (slots new : List (Option V)) (i at : ℕ) (was : V) → i ≡ at → item_at slots at ≡ Some was
    → new ≡ slice_set slots i (option_map change (item_at slots i)) → new ≡ slice_set slots at (Some (change was))
set_so {V} change slots new i at was same there is =
    is ∙ ap (λ (n : ℕ). slice_set slots n (option_map change (item_at slots n))) same ∙ ap (λ (o : Option V). slice_set slots at (option_map change o)) there

-- ---- sets of ids

module _ {I : Type 0} (is_in : Bool) (old new : IdHashSet I) (d : ℕ) (here : has_id new d ≡ is_in) (others : (e : ℕ) → e ≢ d → has_id new e ≡ has_id old e) where
  changed_at_one : (e : ℕ) (b : Bool) → (e == d) ≡ b → has_id new e ≡ (if b then is_in else has_id old e)
  changed_at_one e true same = ap (λ (n : ℕ). has_id new n) (eqb-true e d same) ∙ here
  changed_at_one e false same = others e (eqb-false e d same)

  changed_set : has_id new ≡ with_segment is_in d (has_id old)
  changed_set = fun_ext (λ e. changed_at_one e (e == d) refl)

pub put_in : {I : Type 0} (old new : IdHashSet I) (d : ℕ) → Adds old new d → has_id new ≡ with_segment true d (has_id old)
put_in old new d h = changed_set true old new d h.added h.others

pub taken_out : {I : Type 0} (old new : IdHashSet I) (d : ℕ) → Removes old new d → has_id new ≡ with_segment false d (has_id old)
taken_out old new d h = changed_set false old new d h.removed h.others
