-- Lists place by place, indices that lead to their own place, and the types that are added.
use Rattle.wasm_frames.specs.Record as wire
use Rattle.std.proofs.Common.{◌≡◌, ℕ, zero, suc, ◌+◌, ◌<◌, ◌≤◌, Bool, true, false, List, [], ◌∷◌, ◌++◌, length, map, take, get_or, refl, sym, ap, ◌∙◌, arith}
use Rattle.std.specs.Prelude.{Option, Some, None, slice_get, zip, nat_lt, if◌then◌else◌}
use Rattle.std.specs.List.{AllZip, range_with_len}
use Rattle.std.proofs.lemmas.List.{take_more, take_all}
use mathlib.Core.Path.{fun_ext}
use borrow.Author.Tests.{ltb-true, ltb-false}
use Rattle.walrus_base.specs.Arena.{item_at}
use Rattle.walrus_base.specs.ModuleTypes.{type_slots}
use Rattle.walrus_base.specs.TypeDef.{TypeDef}
use Rattle.walrus_base.specs.declared.module_types.ModuleTypes.{ModuleTypes}
use Rattle.walrus_functions.specs.FunctionTypes.{is_function_def, is_function_at}
use Rattle.walrus_groups.specs.Groups.{types_from}
use Rattle.walrus_model.specs.Reads.{is_function}
use Rattle.walrus_model.specs.Sections.{types_of}
use Rattle.walrus_base.proofs.Taking.{get_own, get_past}

-- ---- place by place

pub zip_at : {A B : Type 0} (R : A → B → Type 0) (xs : List A) (ys : List B) (i : ℕ) (d : A) → AllZip R xs ys → i < length xs → (y : B) × R (get_or xs i d) y
zip_at R [] ys i d h lt = absurd (omega arith)
zip_at R (a ∷ xs) [] i d h lt = absurd h
zip_at R (a ∷ xs) (b ∷ ys) zero d h lt = (b, h.0)
zip_at R (a ∷ xs) (b ∷ ys) (suc i) d h lt = zip_at R xs ys i d h.1 (omega arith)

pub zip_length : {A B : Type 0} (R : A → B → Type 0) (xs : List A) (ys : List B) → AllZip R xs ys → length xs ≡ length ys
zip_length R [] [] h = refl
zip_length R [] (b ∷ ys) h = absurd h
zip_length R (a ∷ xs) [] h = absurd h
zip_length R (a ∷ xs) (b ∷ ys) h = ap suc (zip_length R xs ys h.1)

-- ---- pairs of what stands at one place

pub pair_at : {A B : Type 0} (xs : List A) (ys : List B) (i : ℕ) (d : A) (e : B) → length ys ≡ length xs → i < length xs → get_or (zip xs ys) i (d, e) ≡ (get_or xs i d, get_or ys i e)
pair_at [] ys i d e same lt = absurd (omega arith)
pair_at (x ∷ xs) [] i d e same lt = absurd (omega arith)
pair_at (x ∷ xs) (y ∷ ys) zero d e same lt = refl
pair_at (x ∷ xs) (y ∷ ys) (suc i) d e same lt = pair_at xs ys i d e (omega arith) (omega arith)

pub pairs_long : {A B : Type 0} (xs : List A) (ys : List B) → length ys ≡ length xs → length (zip xs ys) ≡ length xs
pairs_long [] [] e = refl
pairs_long [] (y ∷ ys) e = absurd (omega arith)
pairs_long (x ∷ xs) [] e = absurd (omega arith)
pairs_long (x ∷ xs) (y ∷ ys) e = ap suc (pairs_long xs ys (omega arith))

pub pairs_more : {A B : Type 0} (xs : List A) (ys : List B) (i : ℕ) (d : A) (e : B) → length ys ≡ length xs → i < length xs → take (i + 1) (zip xs ys) ≡ take i (zip xs ys) ++ (get_or xs i d, get_or ys i e) ∷ []
pairs_more xs ys i d e same lt =
    let long : length (zip xs ys) ≡ length xs = pairs_long xs ys same in
    let within : i < length (zip xs ys) = omega (arith, long, lt) in
    take_more (zip xs ys) i (d, e) within ∙ ap (λ p. take i (zip xs ys) ++ p ∷ []) (pair_at xs ys i d e same lt)

pub pairs_all : {A B : Type 0} (xs : List A) (ys : List B) (i : ℕ) → length ys ≡ length xs → length xs ≤ i → take i (zip xs ys) ≡ zip xs ys
pairs_all xs ys i same le =
    let long : length (zip xs ys) ≡ length xs = pairs_long xs ys same in
    take_all i (zip xs ys) (omega (arith, long, le))

-- ---- look-ups by index

pub below_by : (n i : ℕ) (b : Bool) → nat_lt i n ≡ b → slice_get (range_with_len 0 n) i ≡ (if b then Some i else None)
below_by n i true e = get_own n i (ltb-true i n e)
below_by n i false e = get_past 0 n i (ltb-false i n e)

-- an index that is declared leads to its own place
pub own_index : (n i : ℕ) → i < n → (if nat_lt i n then Some i else None) ≡ Some i
own_index n i lt = sym (below_by n i (nat_lt i n) refl) ∙ get_own n i lt

-- ---- types

-- a place of a list all of whose slots are filled
pub item_there : {A : Type 0} (xs : List A) (i : ℕ) → item_at (map Some xs) i ≡ slice_get xs i
item_there [] i = refl
item_there (x ∷ xs) zero = refl
item_there (x ∷ xs) (suc i) = item_there xs i

module _ (r : wire.Module) (ts : ModuleTypes) (typed : type_slots ts ≡ map Some (types_from 0 r.types)) where
  pub type_there : (i : ℕ) → item_at (type_slots ts) i ≡ types_of r i
  type_there i = ap (λ (l : List (Option TypeDef)). item_at l i) typed ∙ item_there (types_from 0 r.types) i

  pub same_types : item_at (type_slots ts) ≡ types_of r
  same_types = fun_ext type_there

  pub same_functions : is_function_at ts ≡ is_function r
  same_functions = fun_ext (λ i. ap is_function_def (type_there i))
