-- Groups that stand for the types of a module are those of its type section.
use Rattle.std.proofs.Common.{◌≡◌, ◌≢◌, ℕ, zero, suc, ◌<◌, Bool, true, false, List, [], ◌∷◌, length, map, Option, Some, refl, sym, ap₂, arith, subst, All}
use Rattle.std.specs.Prelude.{Contains}
use Rattle.std.specs.List.{AllZip}
use Rattle.std.proofs.lemmas.List.Elements.{All-nil, All-cons}
use Rattle.wasm_entries.specs.Record.{Sub, Group}
use Rattle.wasm_entries.specs.TypeSpelling.{SubStands, GroupStands}
use Rattle.walrus_base.specs.Arena.{entries, items}
use Rattle.walrus_base.specs.TypeDef.{TypeDef}
use Rattle.walrus_base.specs.TypeSlots.{defs}
use Rattle.walrus_base.specs.Whole.{AreWhole}
use Rattle.walrus_base.specs.declared.types.Type.{«Type»}
use Rattle.walrus_code.specs.Names.{Lookup}
use Rattle.walrus_groups.specs.Groups.{types_from}
use Rattle.walrus_groups.specs.Indexed.{NumbersTypes, AreIndexed, HasExact}
use Rattle.walrus_groups.specs.Named.{named_def}
use Rattle.walrus_groups.specs.Written.{StandsFor, GroupStandsFor, starts_at, firsts, sub_is_exact}
use Rattle.walrus_groups.proofs.WrittenCauses.{none_exact}
use Rattle.walrus_base.proofs.WrittenLists.{group-row}
use Rattle.walrus_groups.proofs.WrittenTurns.{firsts_yes, firsts_no}
use Rattle.walrus_groups.proofs.WrittenWalk.{IsNamed, walked}

module _ (names : Lookup) where
  all_named : (xs ys : List TypeDef) → AllZip (IsNamed names) xs ys → map Some ys ≡ map (named_def names) xs
  all_named [] [] zip = refl
  all_named [] (y ∷ ys) zip = elim zip [ ]
  all_named (x ∷ xs) [] zip = elim zip [ ]
  all_named (x ∷ xs) (y ∷ ys) zip = ap₂ ◌∷◌ (sym zip.0.0) (all_named xs ys zip.1)

  all_plain : (xs ys : List TypeDef) → AllZip (IsNamed names) xs ys → (x : TypeDef) → Contains xs x → sub_is_exact x.sub ≡ false
  all_plain [] ys zip x (k, lt, e) = absurd (let l : k < 0 = lt in omega (arith, l))
  all_plain (z ∷ xs) [] zip x at = elim zip [ ]
  all_plain (z ∷ xs) (y ∷ ys) zip x (zero, lt, e) = subst (λ (w : TypeDef). sub_is_exact w.sub ≡ false) e zip.0.1
  all_plain (z ∷ xs) (y ∷ ys) zip x (suc k, lt, e) = all_plain xs ys zip.1 x (k, (let l : suc k < suc (length xs) = lt in omega (arith, l)), e)

  module _ (slots : List (Option TypeDef)) where
    subs_stand : (ps : List ℕ) (g : List Sub) → AllZip (StandsFor names slots) ps g → All SubStands g
    subs_stand ps [] zip = All-nil SubStands
    subs_stand [] (s ∷ g) zip = elim zip [ ]
    subs_stand (p ∷ ps) (s ∷ g) zip = All-cons SubStands s g zip.0.1.1.stands (subs_stand ps g zip.1)

    all_stand : (es : List (ℕ × TypeDef)) (gs : List Group) → AllZip (GroupStandsFor names slots) es gs → All GroupStands gs
    all_stand es [] zip = All-nil GroupStands
    all_stand [] (g ∷ gs) zip = elim zip [ ]
    all_stand (e ∷ es) (g ∷ gs) zip = All-cons GroupStands g gs (subs_stand e.1.group g zip.0) (all_stand es gs zip.1)

    not_empty : (ps : List ℕ) (p : ℕ) (g : Group) → starts_at ps p ≡ true → AllZip (StandsFor names slots) ps g → g ≢ []
    not_empty [] p g h zip e = absurd cc
    not_empty (q ∷ ps) p [] h zip e = elim zip [ ]
    not_empty (q ∷ ps) p (s ∷ g) h zip e = absurd cc

    none_empty : (es : List (ℕ × TypeDef)) (gs : List Group) → AllZip (GroupStandsFor names slots) (firsts es) gs → All (λ (g : Group). g ≢ []) gs
    none_empty [] [] zip = All-nil (λ (g : Group). g ≢ [])
    none_empty [] (g ∷ gs) zip = elim zip [ ]
    none_empty (e ∷ es) gs zip = by_test (starts_at e.1.group e.0) refl (λ hs z. none_empty es hs z)
      where
        started : (gs : List Group) → starts_at e.1.group e.0 ≡ true → ((hs : List Group) → AllZip (GroupStandsFor names slots) (firsts es) hs → All (λ (g : Group). g ≢ []) hs) → AllZip (GroupStandsFor names slots) (e ∷ firsts es) gs → All (λ (g : Group). g ≢ []) gs
        started [] h later z = elim z [ ]
        started (g ∷ gs) h later z = All-cons (λ (g : Group). g ≢ []) g gs (not_empty e.1.group e.0 g h z.0) (later gs z.1)

        by_test : (t : Bool) → starts_at e.1.group e.0 ≡ t → ((hs : List Group) → AllZip (GroupStandsFor names slots) (firsts es) hs → All (λ (g : Group). g ≢ []) hs) → All (λ (g : Group). g ≢ []) gs
        by_test true h later = started gs h later (subst (λ (l : List (ℕ × TypeDef)). AllZip (GroupStandsFor names slots) l gs) (firsts_yes (e ∷ es) es e refl h) zip)
        by_test false h later = later gs (subst (λ (l : List (ℕ × TypeDef)). AllZip (GroupStandsFor names slots) l gs) (firsts_no (e ∷ es) es e refl h) zip)

  pub written : (places : List (Option «Type»)) (gs : List Group) → AreWhole (defs places) → NumbersTypes names (defs places) → AllZip (GroupStandsFor names (defs places)) (firsts (entries (defs places))) gs
      → AreIndexed names (items (defs places)) gs × (HasExact (items (defs places)) → ⊥)
  written places gs whole numbered zip =
      let all = walked names (defs places) whole (group-row places) gs numbered zip in (
        record {
          read = all_named (items (defs places)) (types_from 0 gs) all;
          none_empty = none_empty (defs places) (entries (defs places)) gs zip;
          stand = all_stand (defs places) (firsts (entries (defs places))) gs zip;
        },
        none_exact (items (defs places)) (all_plain (items (defs places)) (types_from 0 gs) all),
      )
