-- Rows of bytes, one for each of a list: what stands behind what, and what is refused of one is refused of all.
use Rattle.std.proofs.Common.{◌≡◌, ◌<◌, ◌≤◌, ◌+◌, ℕ, List, [], ◌∷◌, ◌++◌, All, length, get_or, map, take, flat_map, sym, ap, ◌∙◌, subst}
use Rattle.std.specs.Prelude.{Contains}
use Rattle.std.proofs.lemmas.List.Elements.{All-more}
use Rattle.std.proofs.lemmas.List.{flat_map_more, map_more, take_all}
use Rattle.walrus_items.specs.declared.error.Error.{Error}
use Rattle.walrus_sections.specs.Numbers.{RefusesIf, number_bytes}
use Rattle.walrus_sections.proofs.Among.{among, because, none_among}

module _ {X Y : Type 0} (seen : X → Y) (spell : Y → List ℕ) (xs : List X) (i : ℕ) where
  -- behind the rows before stands the next
  pub row_more : (d : X) → i < length xs → (first before after : List ℕ) → before ≡ first ++ flat_map spell (map seen (take i xs)) → after ≡ before ++ spell (seen (get_or xs i d))
      → after ≡ first ++ flat_map spell (map seen (take (i + 1) xs))
  row_more d lt first before after were is =
      is
      ∙ ap (λ (t : List ℕ). t ++ spell (seen (get_or xs i d))) were
      ∙ flat_map_more spell first (map seen (take i xs)) (seen (get_or xs i d))
      ∙ ap (λ (ys : List Y). first ++ flat_map spell ys) (sym (map_more seen xs i d lt))

  pub rows_all : length xs ≤ i → (first bytes : List ℕ) → bytes ≡ first ++ flat_map spell (map seen (take i xs)) → bytes ≡ first ++ flat_map spell (map seen xs)
  rows_all past first bytes is = is ∙ ap (λ (ts : List X). first ++ flat_map spell (map seen ts)) (take_all i xs past)

module _ {X Y : Type 0} (seen : X → Y) (IsLong : Y → Type 0) where
  -- none of these is too long
  abbrev pub NoneLong : List X → Type 0
  NoneLong xs = All (λ x. IsLong (seen x) → ⊥) xs

  -- one of these is
  abbrev HasLong : List Y → Type 0
  HasLong ys = (y : Y) × (Contains ys y × IsLong y)

  module _ (xs : List X) (i : ℕ) where
    pub none_more : (d : X) → i < length xs → NoneLong (take i xs) → (IsLong (seen (get_or xs i d)) → ⊥) → NoneLong (take (i + 1) xs)
    none_more d lt before next = All-more (λ x. IsLong (seen x) → ⊥) xs i d lt before next

    pub none_long : length xs ≤ i → NoneLong (take i xs) → HasLong (map seen xs) → ⊥
    none_long past none long = none_among IsLong seen xs (subst NoneLong (take_all i xs past) none) long.0 long.1.0 long.1.1

    -- the one that is too long is one of all
    pub one_long : (d : X) → i < length xs → (e : Error) → RefusesIf (IsLong (seen (get_or xs i d))) e → RefusesIf (HasLong (map seen xs)) e
    one_long d lt e h = because (IsLong (seen (get_or xs i d))) (HasLong (map seen xs)) (λ long. (seen (get_or xs i d), (among seen xs i d lt, long))) e h

-- a byte, a number and the rows are the list
pub list_joined : (first place : ℕ) (rows : List ℕ) (flag end : ℕ) → flag ≡ first → end ≡ place → (a b c d : List ℕ) → a ≡ [] → b ≡ a ++ flag ∷ [] → c ≡ b ++ number_bytes end → d ≡ c ++ rows
    → d ≡ first ∷ (number_bytes place ++ rows)
list_joined first place rows flag end flag_is end_is a b c d a_is b_is c_is d_is =
    d_is
    ∙ ap (λ (t : List ℕ). t ++ rows) (c_is ∙ ap (λ (t : List ℕ). t ++ number_bytes end) (b_is ∙ ap (λ (t : List ℕ). t ++ flag ∷ []) a_is))
    ∙ ap (λ (k : ℕ). flag ∷ (number_bytes k ++ rows)) end_is
    ∙ ap (λ (k : ℕ). k ∷ (number_bytes place ++ rows)) flag_is
