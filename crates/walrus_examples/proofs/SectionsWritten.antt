-- Where a custom section stands when it is written.
use Rattle.std.proofs.Common.{◌≡◌, ℕ, Bool, true, false, List, map, filter, refl}
use Rattle.std.specs.Prelude.{Contains, not, ◌||◌}
use Rattle.walrus.specs.Model.Abstract.{Custom, Indices}
use Rattle.walrus.specs.Model.Customs.{fixed, is_debug_name, is_dylink, no_indices, written_customs}
use Rattle.walrus.proofs.Base.Lists.{Contains-append_1, Contains-append_2, Contains-map}
use Rattle.walrus.proofs.Base.Filters.{in_filter}
use Rattle.walrus_examples.specs.Metadata.{section_of}

-- a section that is no debug information and none of dynamic linking is written under the indices
pub stands_among : (indices : Indices) (cs : List Custom) (s : Custom) → Contains cs s → is_debug_name s.name ≡ false → is_dylink s ≡ false → Contains (written_customs indices cs) (fixed indices s)
stands_among indices cs s at no_debug no_dylink =
    let passes : not (is_dylink s || is_debug_name s.name) ≡ true = rw (no_dylink, no_debug) refl in
    Contains-append_2 (fixed indices s) (map (fixed no_indices) (filter is_dylink cs)) (map (fixed indices) (filter (λ c. not (is_dylink c || is_debug_name c.name)) cs))
    (Contains-map (fixed indices) s (filter (λ c. not (is_dylink c || is_debug_name c.name)) cs) (in_filter (λ c. not (is_dylink c || is_debug_name c.name)) cs s at passes))

module _ (indices : Indices) (cs : List Custom) (name payload : List ℕ) (at : Contains cs (section_of name payload)) (free : is_debug_name name ≡ false) where
  by_group : (b : Bool) → is_dylink (section_of name payload) ≡ b → Contains (written_customs indices cs) (section_of name payload)
  by_group true is =
      Contains-append_1 (section_of name payload) (map (fixed no_indices) (filter is_dylink cs)) (map (fixed indices) (filter (λ c. not (is_dylink c || is_debug_name c.name)) cs))
      (Contains-map (fixed no_indices) (section_of name payload) (filter is_dylink cs) (in_filter is_dylink cs (section_of name payload) at is))
  by_group false is = stands_among indices cs (section_of name payload) at free is

  pub is_written : Contains (written_customs indices cs) (section_of name payload)
  is_written = by_group (is_dylink (section_of name payload)) refl
