-- A module as it was parsed has a function at each place of its functions, and the ids of functions by their indices in the input are these places.
use Rattle.std.proofs.Common.{◌≡◌, ℕ, ◌<◌, ◌≤◌, List, length, map, Option, Some, None, IsSome, option_map, get_or, slice_get, sym, ap, ◌∙◌, subst, ⊎_elim, inl, inr, arith}
use Rattle.std.specs.List.{range_with_len}
use Rattle.std.proofs.lemmas.Bool.{cases_lt}
use Rattle.std.proofs.lemmas.List.{get_or-map, get_or_past, length-map}
use Rattle.std.proofs.lemmas.List.FromFn.{length-range_with_len}
use Rattle.std.proofs.lemmas.Option.{slice_get-get_or, slice_get_within}
use Rattle.walrus.specs.Frames.Record as wire
use Rattle.walrus.specs.Base.Arena.{item_at}
use Rattle.walrus.specs.Base.Operators.{Functions}
use Rattle.walrus.specs.Base.ModuleLocals.{ModuleLocals}
use Rattle.walrus.specs.Model.Abstract.{Function}
use Rattle.walrus.proofs.Base.Standing.{some_of, was_some, zip_left}
use Rattle.walrus.specs.Modules.Features.{Features}
use Rattle.walrus.specs.Code.Indices.{ids_at}
use Rattle.walrus.specs.Code.IndicesToIds.{IndicesToIds}
use Rattle.walrus.specs.Items.Functions.{FunctionValue, functions}
use Rattle.walrus.specs.Contents.Contents.{Contents}
use Rattle.walrus.proofs.Base.Lookups.{still_some}
use Rattle.walrus.proofs.Base.Taking.{get_own}
use Rattle.walrus.specs.Modules.Parsed.{TakenFrom}
use Rattle.walrus.proofs.Modules.AllHeld.{Fits, all_fit}
use Rattle.walrus.proofs.Theorem.EditKept.{none_isnt, some_is, some_there}
use Rattle.walrus.specs.Modules.OnParse.{IsNumbered}

-- lists of which all but a part of each thing is the same have things at the same places
module _ {X : Type 0} (f : X → X) (old new : List (Option X)) (same : map (option_map f) new ≡ map (option_map f) old) where
  as_many : length new ≡ length old
  as_many = sym (length-map new (option_map f)) ∙ ap length same ∙ length-map old (option_map f)

  still_there : (i : ℕ) → i < length old → IsSome (item_at old i) → IsSome (item_at new i)
  still_there i lt there =
      let within : i < length new = omega (arith, lt, as_many) in
      was_some f (item_at new i) (subst IsSome
      (sym (get_or-map (option_map f) old i None None lt) ∙ sym (ap (λ (l : List (Option X)). get_or l i None) same) ∙ get_or-map (option_map f) new i None None within)
      (still_some f (item_at old i) there))

module _ (features : Features) (r : wire.Module) (starts : List ℕ) (all : ModuleLocals) where
  fits_there : (g : Function) (slot : Option FunctionValue) → Fits features r starts all g slot → IsSome slot
  fits_there g slot (inl brought) = some_there slot brought.is
  fits_there g slot (inr own) = some_there slot (own.holds).is

module _ (features : Features) (bytes : List ℕ) (m : Contents) (taken : TakenFrom features bytes m) where
  abbrev unnamed : List (Option FunctionValue)
  unnamed = functions (taken.unnamed).funcs

  there_unnamed : (i : ℕ) → i < length unnamed → IsSome (item_at unnamed i)
  there_unnamed i lt =
      let fits = all_fit features taken.sections taken.unnamed taken.taken (taken.rules).as_many_bodies in
      let fit = zip_left _ _ unnamed i (get_or unnamed i None) fits (slice_get-get_or unnamed i None lt) in
      fits_there _ _ _ _ fit.0 (get_or unnamed i None) fit.2

  pub function_there : (i : ℕ) → i < length (functions m.funcs) → (f : FunctionValue) × (item_at (functions m.funcs) i ≡ Some f)
  function_there i lt =
      let same = ap (λ s. s.functions) taken.renamed in
      let long = as_many _ unnamed (functions m.funcs) same in
      let within : i < length unnamed = omega (arith, lt, long) in
      some_of (item_at (functions m.funcs) i) (still_there _ unnamed (functions m.funcs) same i within (there_unnamed i within))

  module _ (types : ℕ) (ids : IndicesToIds) (numbered : IsNumbered types m ids) (index : ℕ) where
    abbrev count : ℕ
    count = length (functions m.funcs)

    at_index : index < count → ids_at ids Functions index ≡ Some index
    at_index lt = ap (λ (l : List ℕ). slice_get l index) (numbered Functions) ∙ get_own count index lt

    -- an index that leads to no function is none of a function's
    pub none_at : ids_at ids Functions index ≡ None → item_at (functions m.funcs) index ≡ None
    none_at none = ⊎_elim
        (λ (lt : index < count). absurd (none_isnt (sym none ∙ at_index lt)))
        (λ (le : count ≤ index). get_or_past (functions m.funcs) index None le)
        (cases_lt index count)

    -- one that leads to a place leads to the function at the place of its number
    pub one_at : (p : ℕ) → ids_at ids Functions index ≡ Some p → (p ≡ index) × ((f : FunctionValue) × (item_at (functions m.funcs) index ≡ Some f))
    one_at p is =
        let within : index < length (range_with_len 0 count) = slice_get_within (range_with_len 0 count) index p (sym (ap (λ (l : List ℕ). slice_get l index) (numbered Functions)) ∙ is) in
        let many = length-range_with_len 0 count in
        let lt : index < count = omega (arith, within, many) in
        (some_is (sym is ∙ at_index lt), function_there index lt)
