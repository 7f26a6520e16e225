-- A module of which exports are gone is whole where it was.
use Rattle.std.proofs.Common.{◌≡◌, ◌≢◌, ◌+◌, ℕ, zero, suc, List, [], ◌∷◌, map, length, get_or, Option, Some, None, refl, sym, ap, subst, inl, ⊎_elim, arith}
use Rattle.std.specs.Prelude.{AllPairs, Contains, ⊤}
use Rattle.std.proofs.lemmas.List.Elements.{All-contains, All-contains_itself}
use Rattle.std.proofs.lemmas.List.Kept.{AllPairs-cons}
use Rattle.walrus.specs.Base.Arena.{entries_from, item_at, items}
use Rattle.walrus.proofs.Base.Lists.{Contains-head, Contains-tail, Contains-uncons}
use Rattle.walrus.proofs.Base.Standing.{some_inj}
use Rattle.walrus.specs.Model.Abstract.{Abstract, Export}
use Rattle.walrus.specs.Model.Config.{Config}
use Rattle.walrus.specs.Model.Roots.{exported}
use Rattle.walrus.proofs.Model.OrderOfPlaces.{pairs_head, pairs_tail}
use Rattle.walrus.specs.Items.Exports.{ExportValue}
use Rattle.walrus.specs.Contents.View.{export_of}
use Rattle.walrus.specs.Theorem.EditLaws.{StaysWhole}
use Rattle.walrus.specs.Theorem.WellMade.{IsWellMade}
use Rattle.walrus.proofs.Theorem.EditKept.{none_isnt}
use Rattle.walrus.proofs.Theorem.EditTops.{imports_still, tops_stay}
use Rattle.walrus_tools.specs.KeptExports.{KeepsNamed, StaysIf}

-- ---- of what is left

-- all that is left was there, and what is so of each two is so of each two that are left
record IsLeftOf (R : Export → Export → Type 0) (was left : List Export) : Type 0 where
  there : (e : Export) → Contains left e → Contains was e
  pairs : AllPairs R was → AllPairs R left

module _ (R : Export → Export → Type 0) where
  same_left : (all : List Export) → IsLeftOf R all all
  same_left all = record { there = λ e at. at; pairs = λ h. h }

  one_gone : (e : Export) (was left : List Export) → IsLeftOf R was left → IsLeftOf R (e ∷ was) left
  one_gone e was left is = record { there = λ d at. Contains-tail e d was (is.there d at); pairs = λ h. is.pairs (pairs_tail R e was h) }

  one_stays : (e : Export) (was left : List Export) → IsLeftOf R was left → IsLeftOf R (e ∷ was) (e ∷ left)
  one_stays e was left is = record {
    there = λ d at. ⊎_elim (λ (same : e ≡ d). subst (Contains (e ∷ was)) same (Contains-head e was)) (λ (later : Contains left d). Contains-tail e d was (is.there d later)) (Contains-uncons e d left at);
    pairs = λ h. AllPairs-cons R e left
        (λ i d below. All-contains (R e) was (get_or left i d) (pairs_head R e was h) (is.there (get_or left i d) (All-contains_itself left i d below)))
        (is.pairs (pairs_tail R e was h));
  }

module _ (P : List ℕ → Type 0) (R : Export → Export → Type 0) where
  abbrev exports_from : ℕ → List (Option ExportValue) → List Export
  exports_from k all = map export_of (map (λ (e : ℕ × ExportValue). e.1) (entries_from k all))

  left_from : (k : ℕ) (old new : List (Option ExportValue)) → length new ≡ length old → ((i : ℕ) → StaysIf P (item_at old i) (item_at new i)) → IsLeftOf R (exports_from k old) (exports_from k new)
  left_from k [] [] long each = same_left R []
  left_from k [] (y ∷ new) long each = absurd (omega (arith, long))
  left_from k (x ∷ old) [] long each = absurd (omega (arith, long))
  left_from k (None ∷ old) (None ∷ new) long each = left_from (k + 1) old new (omega (arith, long)) (λ i. each (suc i))
  left_from k (None ∷ old) (Some y ∷ new) long each = absurd (none_isnt (sym (each zero)))
  left_from k (Some x ∷ old) (None ∷ new) long each = one_gone R (export_of x) (exports_from (k + 1) old) (exports_from (k + 1) new) (left_from (k + 1) old new (omega (arith, long)) (λ i. each (suc i)))
  left_from k (Some x ∷ old) (Some y ∷ new) long each = ⊎_elim
      (λ (stays : P x.name × (Some y ≡ Some x)). subst (λ (e : ExportValue). IsLeftOf R (export_of x ∷ exports_from (k + 1) old) (export_of e ∷ exports_from (k + 1) new)) (sym (some_inj y x stays.1))
      (one_stays R (export_of x) (exports_from (k + 1) old) (exports_from (k + 1) new) (left_from (k + 1) old new (omega (arith, long)) (λ i. each (suc i)))))
      (λ (goes : (P x.name → ⊥) × (Some y ≡ None)). absurd (none_isnt (sym goes.1)))
      (each zero)

  kept_left : (old new : List (Option ExportValue)) → KeepsNamed P old new → IsLeftOf R (map export_of (items old)) (map export_of (items new))
  kept_left old new keeps = left_from 0 old new keeps.places keeps.each

-- ---- of the module

abbrev Apart : Export → Export → Type 0
Apart d e = d.name ≢ e.name

module _ (P : List ℕ → Type 0) (c : Config) (v w : Abstract) (others : w ≡ record v { exports = w.exports; named = w.named })
    (old new : List (Option ExportValue)) (was : v.exports ≡ map export_of (items old)) (is : w.exports ≡ map export_of (items new)) where
  pub kept_whole : KeepsNamed P old new → IsWellMade c v → StaysWhole c v w ⊤
  kept_whole keeps made =
      let left = subst (λ (es : List Export). IsLeftOf Apart es w.exports) (sym was) (subst (λ (es : List Export). IsLeftOf Apart (map export_of (items old)) es) (sym is) (kept_left P Apart old new keeps)) in
      tops_stay c v w made w.exports v.imports v.customs v.section_roots w.named others
      (imports_still c v w made w.exports v.imports v.customs v.section_roots w.named others (ap (λ (m : Abstract). m.imports) others))
      (left.pairs made.rules.exports.distinct)
      (λ e at. made.rules.indices.exports e (left.there e at))
      (λ s at. made.customs s (subst (λ l. Contains l s) (ap (λ (m : Abstract). m.customs) others) at))
      (λ e at asked. inl (exported e (left.there e at) refl))
      (λ x at asked. inl (subst (λ l. Contains l x) (ap (λ (m : Abstract). m.section_roots) others) at))
