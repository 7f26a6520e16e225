-- The names of the used locals of a function: one turn of the loop that lists them, and where no local has one.
use Rattle.std.proofs.Common.{◌≡◌, ℕ, ◌+◌, ◌<◌, Bool, true, false, List, [], ◌∷◌, ◌++◌, length, map, drop, append_assoc, refl, sym, ap, ap₂, ◌∙◌, subst, arith}
use Rattle.std.specs.Prelude.{Option, slice_index_or, option_map, IsFalse, IsTrue}
use Rattle.std.specs.List.{cons_option}
use Rattle.std.proofs.lemmas.List.{drop_more}
use Rattle.std.proofs.lemmas.List.Elements.{filter_map-append}
use Rattle.wasm_payloads.specs.Spelling.{NameMap}
use Rattle.walrus_base.specs.Arena.{entries_from}
use Rattle.walrus_base.specs.Id.{place}
use Rattle.walrus_base.specs.declared.id.Id.{Id}
use Rattle.walrus_base.specs.declared.keys.LocalKey.{LocalKey}
use Rattle.walrus_base.specs.Unnamed.{AreUnnamed}
use Rattle.walrus_base.specs.declared.locals.Local.{Local}
use Rattle.walrus_model.specs.Abstract.{Name}
use Rattle.walrus_writing.specs.Names.{local_entry, local_names, used_among}
use Rattle.walrus_writing.specs.Pushed.{with_map}

used_first : (i x : ℕ) (xs : List ℕ) (u : Bool) (us : List Bool) → entries_from i (used_among (x ∷ xs) (u ∷ us)) ≡ entries_from i (used_among (x ∷ []) (u ∷ [])) ++ entries_from (i + 1) (used_among xs us)
used_first i x xs true us = refl
used_first i x xs false us = refl

module _ (all : List (Option Local)) (ids : List (Id LocalKey)) (us : List Bool) where
  -- the names of the locals from a place on
  abbrev names_behind : ℕ → NameMap
  names_behind i = local_names all (entries_from i (used_among (map place (drop i ids)) (drop i us)))

  -- the name of one
  abbrev name_here : ℕ → ℕ → Bool → NameMap
  name_here i x u = local_names all (entries_from i (used_among (x ∷ []) (u ∷ [])))

  names_split : (i : ℕ) (d : Id LocalKey) (b : Bool) → i < length ids → i < length us → names_behind i ≡ name_here i (place (slice_index_or ids i d)) (slice_index_or us i b) ++ names_behind (i + 1)
  names_split i d b low under =
      let x : ℕ = place (slice_index_or ids i d) in
      let u : Bool = slice_index_or us i b in
      ap₂ (λ (l : List (Id LocalKey)) (bs : List Bool). local_names all (entries_from i (used_among (map place l) bs))) (drop_more ids i d low) (drop_more us i b under)
      ∙ ap (local_names all) (used_first i x (map place (drop (i + 1) ids)) u (drop (i + 1) us))
      ∙ filter_map-append (local_entry all) (entries_from i (used_among (x ∷ []) (u ∷ []))) (entries_from (i + 1) (used_among (map place (drop (i + 1) ids)) (drop (i + 1) us)))

  pub names_turn : (i j : ℕ) (d : Id LocalKey) (b : Bool) (done new whole : NameMap) → i < length ids → length us ≡ length ids → j ≡ i
      → new ≡ done ++ name_here j (place (slice_index_or ids i d)) (slice_index_or us j b) → done ++ names_behind i ≡ whole → new ++ names_behind (i + 1) ≡ whole
  names_turn i j d b done new whole low as_many same is so =
      let here : NameMap = name_here i (place (slice_index_or ids i d)) (slice_index_or us i b) in
      let is_here : new ≡ done ++ here = subst (λ (n : ℕ). new ≡ done ++ name_here n (place (slice_index_or ids i d)) (slice_index_or us n b)) same is in
      ap (λ (l : NameMap). l ++ names_behind (i + 1)) is_here
      ∙ append_assoc done here (names_behind (i + 1))
      ∙ ap (λ (l : NameMap). done ++ l) (sym (names_split i d b low (omega (arith, low, as_many))))
      ∙ so

-- where no local has a name
none_used : (all : List (Option Local)) → AreUnnamed all → (used : List (ℕ × ℕ)) → local_names all used ≡ []
none_used all none [] = refl
none_used all none (u ∷ used) = ap (λ (o : Option Name). cons_option (option_map (λ (name : Name). (u.0, name)) o) (local_names all used)) (none u.1) ∙ none_used all none used

pub none_pushed : (all : List (Option Local)) (used : List (ℕ × ℕ)) (maps : List (ℕ × NameMap)) (function : ℕ) (unnamed : Bool) → (IsTrue unnamed → AreUnnamed all) → unnamed ≡ true → maps ≡ with_map maps function (local_names all used)
none_pushed all used maps function unnamed says is = ap (with_map maps function) (sym (none_used all (says is) used))

-- names are put where they are told, and where they aren't there are none
pub told_or_none : (all : List (Option Local)) (tells chosen : Bool) (used given : List (ℕ × ℕ)) (named maps : List (ℕ × NameMap)) (function : ℕ) → (IsFalse tells → chosen ≡ true → AreUnnamed all) → (tells ≡ true → used ≡ given)
    → (tells ≡ true → maps ≡ with_map named function (local_names all given)) → (tells ≡ false → maps ≡ named) → chosen ≡ true → maps ≡ with_map named function (local_names all used)
told_or_none all true chosen used given named maps function unnamed told put stays asked = put refl ∙ ap (λ (us : List (ℕ × ℕ)). with_map named function (local_names all us)) (sym (told refl))
told_or_none all false chosen used given named maps function unnamed told put stays asked = stays refl ∙ none_pushed all used named function true (λ h. unnamed refl asked) refl
