-- What becomes of the names of items that stand place by place.
use Rattle.std.specs.Prelude.{ℕ, ◌+◌, Bool, true, false, ◌==◌, List, [], ◌∷◌, Option, Some, None, map, option_map}
use Rattle.std.specs.List.{last_or}
use Rattle.walrus_model.specs.Abstract.{Name}

-- the last of these names, or the one that was there
abbrev pub last_given : List Name → Option Name → Option Name
last_given names old = last_or old names

-- this name where it is meant, else the one that was there
abbrev pub named_if : Bool → Name → Option Name → Option Name
named_if true name old = Some name
named_if false name old = old

module _ {X : Type 0} (mend : (Option Name → Option Name) → X → X) where
  -- each item without its name
  abbrev pub nameless : List (Option X) → List (Option X)
  nameless slots = map (option_map (mend (λ name. None))) slots

  -- from this place on, each item with what becomes of its name
  abbrev pub renamed_from : (names : ℕ → Option Name → Option Name) → ℕ → List (Option X) → List (Option X)
  renamed_from names place [] = []
  renamed_from names place (slot ∷ slots) = option_map (mend (names place)) slot ∷ renamed_from names (place + 1) slots

  -- the item of this place, if one is there, has the name
  abbrev pub named_at : ℕ → Name → List (Option X) → List (Option X)
  named_at place name slots = renamed_from (λ n. named_if (place == n) name) 0 slots

  -- the same of a place and a name, if there are such
  abbrev pub renamed_by : Option (ℕ × Name) → List (Option X) → List (Option X)
  renamed_by None slots = slots
  renamed_by (Some naming) slots = named_at naming.0 naming.1 slots
