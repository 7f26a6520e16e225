-- Types that are kept under their own ids stay so.
use Rattle.std.proofs.Common.{◌≡◌, ℕ, zero, suc, ◌+◌, ◌==◌, ◌&&◌, Bool, true, false, List, [], ◌∷◌, ◌++◌, length, map, set, Option, Some, None, option_map, IsTrue, ap, sym, ◌∙◌, refl, arith, add-zero, eq-eqb, eqb-true}
use Rattle.std.specs.Prelude.{if◌then◌else◌}
use Rattle.walrus_base.specs.Arena.{entries_from, item_at, kept_by}
use Rattle.walrus_base.specs.TypeDef.{type_def, type_place}
use Rattle.walrus_base.specs.TypesLeft.{place_and_def}
use Rattle.walrus_base.specs.OwnIds.{under_own_ids}
use Rattle.walrus_base.specs.TypeSlots.{cleared}
use Rattle.walrus_base.specs.declared.types.Type.{«Type»}

pub both : (a b : Bool) → IsTrue a → IsTrue b → IsTrue (a && b)
both true b p q = q
both false b p q = p

pub first : (a b : Bool) → IsTrue (a && b) → IsTrue a
first true b p = refl
first false b p = p

pub second : (a b : Bool) → IsTrue (a && b) → IsTrue b
second true b p = p
second false b p = absurd cc

-- a type that is added under the next place
pub under_own_ids-push : (place : ℕ) (slots : List (Option «Type»)) (type : «Type») → IsTrue (under_own_ids place slots) → type_place type ≡ place + length slots → IsTrue (under_own_ids place (slots ++ Some type ∷ []))
under_own_ids-push place [] type own is = both _ _ (eq-eqb _ _ (omega (arith, is))) refl
under_own_ids-push place (None ∷ rest) type own is = under_own_ids-push (place + 1) rest type own (omega (arith, is))
under_own_ids-push place (Some x ∷ rest) type own is =
    both _ _ (first _ _ own) (under_own_ids-push (place + 1) rest type (second _ _ own) (omega (arith, is)))

-- a type that is deleted
pub under_own_ids-delete : (place : ℕ) (slots : List (Option «Type»)) (at : ℕ) → IsTrue (under_own_ids place slots) → IsTrue (under_own_ids place (set slots at None))
under_own_ids-delete place [] at own = own
under_own_ids-delete place (None ∷ rest) zero own = own
under_own_ids-delete place (Some x ∷ rest) zero own = second _ _ own
under_own_ids-delete place (None ∷ rest) (suc at) own = under_own_ids-delete (place + 1) rest at own
under_own_ids-delete place (Some x ∷ rest) (suc at) own = both _ _ (first _ _ own) (under_own_ids-delete (place + 1) rest at (second _ _ own))

-- their own ids are the places of their entries
pub entries-own_ids : (place : ℕ) (slots : List (Option «Type»)) → IsTrue (under_own_ids place slots) → map (λ entry. place_and_def entry.1) (entries_from place slots) ≡ entries_from place (map (λ slot. option_map type_def slot) slots)
entries-own_ids place [] own = refl
entries-own_ids place (None ∷ rest) own = entries-own_ids (place + 1) rest own
entries-own_ids place (Some x ∷ rest) own =
    let is : type_place x ≡ place = eqb-true _ _ (first _ _ own) in
    ap (λ p. (p, type_def x) ∷ map (λ entry. place_and_def entry.1) (entries_from (place + 1) rest)) is
    ∙ ap (λ tail. (place, type_def x) ∷ tail) (entries-own_ids (place + 1) rest (second _ _ own))

-- types behind others, whose places go on from theirs
pub under_own_ids-append : (place next : ℕ) (slots more : List (Option «Type»)) → next ≡ place + length slots → IsTrue (under_own_ids place slots) → IsTrue (under_own_ids next more) → IsTrue (under_own_ids place (slots ++ more))
under_own_ids-append place next [] more is own goes_on = let e : place ≡ next = omega arith in rw e goes_on
under_own_ids-append place next (None ∷ rest) more is own goes_on = under_own_ids-append (place + 1) next rest more (omega arith) own goes_on
under_own_ids-append place next (Some x ∷ rest) more is own goes_on =
    both _ _ (first _ _ own) (under_own_ids-append (place + 1) next rest more (omega arith) (second _ _ own) goes_on)

-- places that are emptied
pub under_own_ids-cleared : (place : ℕ) (emptied : List ℕ) (slots : List (Option «Type»)) → IsTrue (under_own_ids place slots) → IsTrue (under_own_ids place (cleared emptied slots))
under_own_ids-cleared place [] slots own = own
under_own_ids-cleared place (p ∷ ps) slots own = under_own_ids-cleared place ps (set slots p None) (under_own_ids-delete place slots p own)

-- marked places are kept
pub under_own_ids-kept : (place : ℕ) (keeps : ℕ → Bool) (slots : List (Option «Type»)) → IsTrue (under_own_ids place slots) → IsTrue (under_own_ids place (kept_by keeps slots))
under_own_ids-kept place keeps [] own = own
under_own_ids-kept place keeps (slot ∷ rest) own = choose (keeps 0) slot own (under_own_ids-kept (place + 1) (λ n. keeps (suc n)) rest) where
  later : Type 0
  later = IsTrue (under_own_ids (place + 1) (kept_by (λ n. keeps (suc n)) rest))

  choose : (keep : Bool) (slot : Option «Type») → IsTrue (under_own_ids place (slot ∷ rest)) → (IsTrue (under_own_ids (place + 1) rest) → later)
      → IsTrue (under_own_ids place ((if keep then slot else None) ∷ kept_by (λ n. keeps (suc n)) rest))
  choose true None own more = more own
  choose true (Some x) own more = both _ _ (first _ _ own) (more (second _ _ own))
  choose false None own more = more own
  choose false (Some x) own more = more (second _ _ own)

one_later : (a b : ℕ) → (a + 1) + b ≡ a + suc b
one_later a b = omega arith

-- the id of a type is its place
pub own_place : (place : ℕ) (slots : List (Option «Type»)) (at : ℕ) (x : «Type») → IsTrue (under_own_ids place slots) → item_at slots at ≡ Some x → type_place x ≡ place + at
own_place place [] at x own h = absurd cc
own_place place (None ∷ rest) zero x own h = absurd cc
own_place place (Some y ∷ rest) zero x own h =
    let is : type_place y ≡ place = eqb-true _ _ (first _ _ own) in
    let same : y ≡ x = cc in
    ap (λ t. type_place t) (sym same) ∙ is ∙ sym (add-zero place)
own_place place (None ∷ rest) (suc at) x own h = let e : type_place x ≡ (place + 1) + at = own_place (place + 1) rest at x own h in e ∙ one_later place at
own_place place (Some y ∷ rest) (suc at) x own h = let e : type_place x ≡ (place + 1) + at = own_place (place + 1) rest at x (second _ _ own) h in e ∙ one_later place at

-- a type that was taken out and put back changed, under its id
pub under_own_ids-replaced : (place : ℕ) (slots : List (Option «Type»)) (at : ℕ) (between : Option «Type») (x y : «Type») → item_at slots at ≡ Some x → type_place y ≡ type_place x
    → under_own_ids place (set (set slots at between) at (Some y)) ≡ under_own_ids place slots
under_own_ids-replaced place [] at between x y here same = refl
under_own_ids-replaced place (o ∷ rest) zero between x y here same =
    ap (λ n. (n == place) && under_own_ids (place + 1) rest) same ∙ ap (λ s. under_own_ids place (s ∷ rest)) (sym here)
under_own_ids-replaced place (None ∷ rest) (suc at) between x y here same = under_own_ids-replaced (place + 1) rest at between x y here same
under_own_ids-replaced place (Some z ∷ rest) (suc at) between x y here same =
    ap (λ b. (type_place z == place) && b) (under_own_ids-replaced (place + 1) rest at between x y here same)
