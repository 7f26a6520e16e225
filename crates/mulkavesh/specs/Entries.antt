-- The functions that stay, or those that go, as a text.
use Rattle.std.specs.Prelude.{ℕ, ◌*◌, ◌/◌, ◌%◌, ◌-◌, ◌^◌, ◌≡◌, Bool, true, false, List, ◌++◌, Option, Some, None, codes, decimal, flat_map, length, min, nat_eq, sum_by, take, if◌then◌else◌}
use Rattle.std.specs.List.Sorted.{IsPermutation, IsSorted}
use Rattle.std.specs.Ordering.{nat_cmp, ordering_then}
use Rattle.std.specs.declared.cmp.Ordering.{Ordering}
use Rattle.walrus_tools.specs.declared.tool.list.Listed.{Listed}
use Rattle.mulkavesh.specs.Rows.{name_json, name_text, rows_text}

-- for people: how many bytes its body has, its index, and its name
abbrev pub listed_line : Listed → List ℕ
listed_line f = decimal f.size ++ codes " " ++ decimal f.index ++ name_text f.name ++ codes "\n"

-- for programs: an object with these members
abbrev pub listed_object : Listed → List ℕ
listed_object f = codes "{\"index\":" ++ decimal f.index ++ codes ",\"size\":" ++ decimal f.size ++ codes ",\"name\":" ++ name_json f.name ++ codes "}"

-- so many of a list, where that is said; and else all
abbrev pub first_of : {A : Type 0} → (count : Option ℕ) → List A → List A
first_of None all = all
first_of (Some count) all = take count all

-- a line for each of the functions, or an object
abbrev pub listed_text : (is_json : Bool) → List Listed → List ℕ
listed_text is_json functions = rows_text listed_line listed_object is_json functions

-- ---- by size

-- the one of the larger body first, and of two as large the one of the smaller index
abbrev pub by_size : Listed → Listed → Ordering
by_size f g = ordering_then (nat_cmp g.size f.size) (nat_cmp f.index g.index)

-- how many bytes all their bodies have, or what 64 bits hold
abbrev pub total_of : List Listed → ℕ
total_of functions = min (sum_by (λ f. f.size) functions) (2 ^ 64 - 1)

-- how many thousandths of the total, cut; of no bytes none
abbrev pub thousandths : (size total : ℕ) → ℕ
thousandths size total = if nat_eq total 0 then 0 else size * 1000 / total

-- that in percent, with one decimal
abbrev pub share_text : (size total : ℕ) → List ℕ
share_text size total = decimal (thousandths size total / 10) ++ codes "." ++ decimal (thousandths size total % 10) ++ codes "%"

-- how many bytes its body has, which share of the total that is, its index, and its name
abbrev pub share_line : (total : ℕ) → Listed → List ℕ
share_line total f = decimal f.size ++ codes " " ++ share_text f.size total ++ codes " " ++ decimal f.index ++ name_text f.name ++ codes "\n"

-- how many bytes all of them have, and how many functions they are
abbrev pub total_line : (total count : ℕ) → List ℕ
total_line total count = decimal total ++ codes " 100.0% of " ++ decimal count ++ codes " functions\n"

-- for people so many lines, and then one of all; for programs so many objects
abbrev pub shares_text : (is_json : Bool) → (count : Option ℕ) → List Listed → List ℕ
shares_text false count functions = flat_map (share_line (total_of functions)) (first_of count functions) ++ total_line (total_of functions) (length functions)
shares_text true count functions = listed_text true (first_of count functions)

-- these functions in that order
pub record IsBySize (functions ordered : List Listed) : Type 0 where
  pub moved : IsPermutation functions ordered
  pub sorted : IsSorted by_size ordered

-- ---- what is told of an answer

-- so many as they stand, or so many of them by size
abbrev pub TellsListed : (is_json by_size : Bool) → (count : Option ℕ) → List Listed → (text : List ℕ) → Type 0
TellsListed is_json false count functions text = text ≡ listed_text is_json (first_of count functions)
TellsListed is_json true count functions text = (ordered : List Listed) × IsBySize functions ordered × (text ≡ shares_text is_json count ordered)
