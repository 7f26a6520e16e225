-- The imports of the parts, by rising id, each with its number in that order, are carried over.
use Rattle.std.proofs.Common.{inl, ⊎_elim, ◌≡◌, ℕ, List, [], ◌++◌, map, refl, sym, ap, ◌∙◌, subst, Some}
use Rattle.std.specs.Prelude.{Option, IsSome, filter_map, slice_get, unwrap_or}
use Rattle.std.specs.List.{AllZip}
use Rattle.wasm_entries.specs.Record as wire
use Rattle.walrus_base.specs.Arena.{entries}
use Rattle.walrus_base.specs.Operators.{Space}
use Rattle.walrus_base.specs.Shape.{place_in}
use Rattle.walrus_code.specs.Names.{Lookup}
use Rattle.walrus_constants.specs.Laws.{AgreesWith}
use Rattle.walrus_contents.specs.There.{ImportsAreLive}
use Rattle.walrus_contents.specs.View as seen
use Rattle.walrus_contents.specs.View.{parts_view}
use Rattle.walrus_contents.specs.declared.parts.Parts.{Parts}
use Rattle.walrus_items.specs.Imports.{imports}
use Rattle.walrus_model.specs.Abstract.{Abstract, Import}
use Rattle.walrus_model.specs.Carried.{Carries, KeepsApart}
use Rattle.walrus_model.specs.Imported.{import_number}
use Rattle.walrus_model.specs.Kept.{IsImportOf}
use Rattle.walrus_model.specs.Live.{IsLive}
use Rattle.walrus_model.specs.Ordered.{Ordered}
use Rattle.walrus_model.specs.Plan.{AreNumbered, IsPlan, Plan, numbers_by}
use Rattle.walrus_model.specs.Renaming.{Renaming, renamed_import}
use Rattle.walrus_model.specs.Sections.{imports_after}
use Rattle.walrus_model.proofs.Arenas.{ordered_seen}
use Rattle.walrus_model.proofs.Indices.{planned_index}
use Rattle.walrus_model.proofs.Orders.{apart_in_order, carries_in_order, ordered_entries}
use Rattle.walrus_base.proofs.Standing.{some_of, stands_at}
use Rattle.walrus_writing.specs.Imported.{AreBare, IsEntryAt}
use Rattle.walrus_writing.proofs.ImportsStand.{imports_stand}
use Rattle.walrus_groups.proofs.TypeLists.{got_left as in_front}

-- what imports bring to a space has the first numbers of its plan
pub brought_numbered : (names : Lookup) (plan : Plan) (v : Abstract) → AreNumbered names plan → IsPlan v plan → (s : Space) (order own : List ℕ) → plan s ≡ filter_map (import_number v s) order ++ own
    → (k i : ℕ) → slice_get (filter_map (import_number v s) order) k ≡ Some i → numbers_by names s i ≡ k
brought_numbered names plan v numbered is_plan s order own is k i at =
    ap (λ (o : Option ℕ). unwrap_or o 0) (planned_index numbered is_plan s i k (subst (λ (l : List ℕ). slice_get l k ≡ Some i) (sym is) (in_front (filter_map (import_number v s) order) own k i at)))

module _ (p : Parts) where
  abbrev V : Abstract
  V = parts_view p

  abbrev pub by_import : List ℕ
  by_import = map (λ e. e.0) (entries (imports p.imports.now))

  pub imports_ordered : Ordered V.imports by_import
  imports_ordered = ordered_seen seen.import_of (imports p.imports.now) by_import (ordered_entries (imports p.imports.now))

  -- the number of an import in their order
  abbrev pub import_index : ℕ → ℕ
  import_index q = unwrap_or (place_in by_import q) 0

  pub index_is : (j q : ℕ) → slice_get by_import j ≡ Some q → import_index q ≡ j
  index_is j q at = ap (λ (o : Option ℕ). unwrap_or o 0) (stands_at by_import q j imports_ordered.differ at)

  module _ (names : Lookup) (r : Renaming) (agrees : AgreesWith r names) (are : AreBare V) (live : ImportsAreLive V) (indexed : (q : ℕ) → r.imports q ≡ import_index q)
      (numbered : (s : Space) (k i : ℕ) → slice_get (filter_map (import_number V s) by_import) k ≡ Some i → r.numbers s i ≡ k)
      (ws : List wire.Import) (along : AllZip (IsEntryAt names V) by_import ws) where
    in_order : (q k : ℕ) → place_in by_import q ≡ Some k → r.imports q ≡ k
    in_order q k at = indexed q ∙ ap (λ (o : Option ℕ). unwrap_or o 0) at

    imports_carry : Carries (λ i. IsSome (V.imports i)) (λ i. ⊥) r.imports (λ i x y. y ≡ renamed_import r x) V.imports (slice_get (imports_after [] ws))
    imports_carry = carries_in_order V.imports by_import imports_ordered r.imports in_order (λ i x y. y ≡ renamed_import r x) (imports_after [] ws)
        (imports_stand names r agrees V are by_import (λ j q at. indexed q ∙ index_is j q at) numbered ws along) (λ i. ⊥)

    there : (i : ℕ) → IsImportOf (IsLive V) V i → IsSome (V.imports i)
    there i k = subst (λ (o : Option Import). IsSome o) (sym k.1) refl

    named : (i : ℕ) → IsSome (V.imports i) → IsImportOf (IsLive V) V i
    named i some = let x = some_of (V.imports i) some in (x.0, x.1, live i x.0 x.1)

    -- each import is there again, renamed, and no others are
    pub imports_carried : Carries (IsImportOf (IsLive V) V) (λ i. ⊥) r.imports (λ i x y. y ≡ renamed_import r x) V.imports (slice_get (imports_after [] ws))
    imports_carried = record {
      same = λ i k. imports_carry.same i (there i k);
      onto = λ j some. ⊎_elim (λ found. inl (found.0, named found.0 found.1, found.2)) (λ none. absurd none) (imports_carry.onto j some);
    }

    pub imports_apart : KeepsApart (IsImportOf (IsLive V) V) r.imports
    imports_apart i j first second same = apart_in_order V.imports by_import imports_ordered r.imports in_order i j (there i first) (there j second) same
