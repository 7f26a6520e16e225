-- The types of the locals that operators name, one after another.
use Rattle.std.proofs.Common.{◌≡◌, ℕ, ◌+◌, ◌<◌, ◌≤◌, ⊎_elim, List, [], ◌∷◌, ◌++◌, length, map, take, get_or, ap, arith, sym, ◌∙◌, subst}
use Rattle.std.specs.Prelude.{IsSome, MatchResult, None, Result, flat_map}
use Rattle.std.specs.Global.{Vec}
use Rattle.std.proofs.lemmas.Grind.{flat_map-append}
use Rattle.std.proofs.lemmas.List.{append-nil, map_more, take_all}
use Rattle.std.proofs.lemmas.List.Elements.{Contains-append_cases}
use Rattle.walrus_base.specs.declared.locals.ModuleLocals.{ModuleLocals}
use Rattle.walrus_base.specs.Operators.{Item}
use Rattle.walrus_code.specs.declared.items.ItemId.{ItemId}
use Rattle.walrus_items.specs.declared.error.Error.{Error}
use Rattle.walrus_model.proofs.TypeRules.{Contains-flat_map}
use Rattle.walrus_contents.specs.Named.{AreThere, OneIsMissing, Puts, PutsTypes, items_in, local_type_names, type_at}
use Rattle.walrus_base.proofs.Lists.{Contains-none, Contains-uncons}
use Rattle.walrus_contents.specs.There.{IsRefusal}
use Rattle.walrus_contents.proofs.NamedLemmas.{among, result_map, two_rows}

module _ (all : ModuleLocals) where
  abbrev names : ℕ → List Item
  names = local_type_names all

  pub types_none : (old : Vec ItemId) → PutsTypes all [] old old
  types_none old = (λ l c. absurd (Contains-none l c), sym (append-nil (items_in old)))

  one_there : (l : ℕ) → IsSome (type_at all l) → AreThere all (l ∷ [])
  one_there l there k c =
      ⊎_elim (λ (e : l ≡ k). subst (λ x. IsSome (type_at all x)) e there) (λ h. absurd (Contains-none k h)) (Contains-uncons l k [] c)

  one_missing : (l : ℕ) → type_at all l ≡ None → OneIsMissing all (l ∷ [])
  one_missing l none = (l, (among (λ (x : ℕ). x) (l ∷ []) 0 l (omega arith), none))

  abbrev IsThere : ℕ → Type 0
  IsThere l = IsSome (type_at all l)

  abbrev IsMissing : ℕ → Type 0
  IsMissing l = type_at all l ≡ None

  -- those of one local
  pub types_one : {T : Type 0} (l : ℕ) (r : Result T Error) (old new : Vec ItemId)
      → MatchResult r (λ _. IsThere l × Puts old new (names l)) (IsRefusal (IsMissing l))
      → MatchResult r (λ _. PutsTypes all (l ∷ []) old new) (IsRefusal (OneIsMissing all (l ∷ [])))
  types_one l r old new =
      result_map (IsThere l × Puts old new (names l)) (PutsTypes all (l ∷ []) old new) (IsMissing l) (OneIsMissing all (l ∷ []))
      (λ x. (one_there l x.0, x.1 ∙ ap (λ (t : List Item). items_in old ++ t) (sym (append-nil (names l))))) (one_missing l) r

  types_both : (a b : List ℕ) (old now new : Vec ItemId) → PutsTypes all a old now → PutsTypes all b now new → PutsTypes all (a ++ b) old new
  types_both a b old now new first second = (
    λ l c. ⊎_elim (λ h. first.0 l h) (λ h. second.0 l h) (Contains-append_cases a b l c),
    two_rows (items_in old) (items_in now) (items_in new) (flat_map names a) (flat_map names b) first.1 second.1
        ∙ ap (λ (t : List Item). items_in old ++ t) (sym (flat_map-append names a b)),
  )

  module _ {X Z : Type 0} (value : X → Z) (uses : Z → List ℕ) where
    abbrev used : List X → List ℕ
    used xs = flat_map uses (map value xs)

    used_more : (xs : List X) (i : ℕ) (d : X) → i < length xs → used (take (i + 1) xs) ≡ used (take i xs) ++ uses (value (get_or xs i d))
    used_more xs i d lt =
        let next = value (get_or xs i d) in
        ap (flat_map uses) (map_more value xs i d lt) ∙ flat_map-append uses (map value (take i xs)) (next ∷ [])
        ∙ ap (λ (t : List ℕ). used (take i xs) ++ t) (append-nil (uses next))

    -- one more
    pub types_more : (xs : List X) (i : ℕ) (d : X) (old now new : Vec ItemId) → i < length xs → PutsTypes all (used (take i xs)) old now
        → PutsTypes all (uses (value (get_or xs i d))) now new → PutsTypes all (used (take (i + 1) xs)) old new
    types_more xs i d old now new lt before next =
        subst (λ (ls : List ℕ). PutsTypes all ls old new) (sym (used_more xs i d lt))
        (types_both (used (take i xs)) (uses (value (get_or xs i d))) old now new before next)

    -- at the end
    pub types_all : (xs : List X) (i : ℕ) (old new : Vec ItemId) → length xs ≤ i → PutsTypes all (used (take i xs)) old new
        → PutsTypes all (used xs) old new
    types_all xs i old new le so_far = subst (λ (t : List X). PutsTypes all (used t) old new) (take_all i xs le) so_far

    pub missing_among : (xs : List X) (i : ℕ) (d : X) → i < length xs → OneIsMissing all (uses (value (get_or xs i d)))
        → OneIsMissing all (used xs)
    missing_among xs i d lt missing =
        let next = value (get_or xs i d) in
        (missing.0, (Contains-flat_map uses (map value xs) next missing.0 (among value xs i d lt) missing.1.0, missing.1.1))
