-- An export that is gone and one that is renamed: what was whole is whole, by the laws of edits.
use Rattle.std.proofs.Common.{◌≡◌, ◌≢◌, ℕ, Bool, false, List, [], map, Option, Some, None, option_map, slice_set, refl, sym, ap, ◌∙◌}
use Rattle.std.specs.Prelude.{Contains, is_some}
use Rattle.std.proofs.lemmas.Slice.Eq.{bytes_eq-Decides}
use Rattle.walrus.specs.Base.Arena.{entries, item_at, items}
use Rattle.walrus.specs.Model.Abstract.{Export}
use Rattle.walrus.specs.Model.Config.{Config}
use Rattle.walrus.proofs.Model.Reach.{Contains-unmap}
use Rattle.walrus.specs.Items.Exports.{ExportValue, ModuleExports, exports, is_named}
use Rattle.walrus.proofs.Base.SearchFound.{IsFound, found-item}
use Rattle.walrus.specs.Contents.View.{contents_view, export_of}
use Rattle.walrus.specs.Contents.Contents.{Contents}
use Rattle.walrus.proofs.Model.Slots.{entry_in, item_seen}
use Rattle.walrus.proofs.Theorem.EditKept.{none_isnt}
use Rattle.walrus.proofs.Theorem.EditTops.{export_lost, export_renamed}
use Rattle.walrus.specs.Modules.View.{contents_of, held_view}
use Rattle.walrus.specs.Modules.Module.{Module}
use Rattle.walrus.proofs.Modules.EditedExports.{export_deleted, export_set}
use Rattle.walrus_tools.proofs.ImportMatches.{finds}
use Rattle.walrus.specs.Edits.{IsWhole}
use Rattle.walrus_tools.specs.ExportNames.{Drops, Renames, RenamesIn, named, with_name}

abbrev pub names : List ℕ → ℕ × ExportValue → Bool
names name d = is_named name d.1

-- where nothing is found no export has the name
pub no_other : (name : List ℕ) (all : List (Option ExportValue)) → named name all ≡ None → (d : Export) → Contains (map export_of (items all)) d → d.name ≢ name
no_other name all none d has same =
    let x = Contains-unmap export_of (items all) d has in
    let at = item_seen all x.0 x.1 in
    finds (names name) (entries all) (at.0, x.0) (entry_in all at.0 x.0 at.1) ((bytes_eq-Decides (x.0).name name).1 (ap (λ (e : Export). e.name) x.2 ∙ same)) none

module _ {S : Type 0} (c : Config) (from to dropped : List ℕ) (old : Module S) (new : ModuleExports) (r : RenamesIn from to dropped old.exports new) where
  abbrev without : Contents
  without = record (contents_of old) { exports = r.left }

  abbrev d : ℕ × ExportValue
  d = (r.drops).export

  abbrev e : ℕ × ExportValue
  e = (r.renames).export

  pub rename_whole : IsWhole c old → IsWhole c (record old { exports = new })
  rename_whole whole =
      let lost = export_deleted (contents_of old) without d.0 d.1 refl (found-item (names dropped) (exports old.exports) d (r.drops).found) (r.drops).gone [] in
      let first = export_lost c (held_view old) (contents_view without) (export_of d.1) lost whole.made in
      let set = export_set without (record without { exports = new }) e.0 e.1 (with_name to e.1) refl (found-item (names from) (exports r.left) e (r.renames).found) (r.renames).renamed [] in
      let second = export_renamed c (contents_view without) (held_view (record old { exports = new })) (export_of e.1) (export_of (with_name to e.1)) set refl first.made (no_other to (exports r.left) (r.renames).free) in
      record { made = second.made; reached = second.reached tt (first.reached tt whole.reached) }

pub none_found : (o : Option (ℕ × ExportValue)) → None ≡ option_map (λ (e : ℕ × ExportValue). e.0) o → o ≡ None
none_found None e = refl
none_found (Some x) e = absurd (none_isnt e)

pub untaken : (o : Option (ℕ × ExportValue)) → is_some o ≡ false → o ≡ None
untaken None e = refl
untaken (Some x) e = absurd (cc)

module _ (name : List ℕ) (old new : List (Option ExportValue)) (n : ℕ) (f : IsFound (names name) old n) where
  pub drops : new ≡ slice_set old n None → Drops name old new
  drops set = record { export = f.entry; found = f.found; gone = set ∙ ap (λ (k : ℕ). slice_set old k None) (sym f.at_place) }

  pub renames : (to : List ℕ) → named to old ≡ None → new ≡ slice_set old n (option_map (with_name to) (item_at old n)) → Renames name to old new
  renames to none set = record {
    export = f.entry;
    found = f.found;
    free = none;
    renamed = set ∙ ap (λ (o : Option ExportValue). slice_set old n (option_map (with_name to) o)) f.item ∙ ap (λ (k : ℕ). slice_set old k (Some (with_name to (f.entry).1))) (sym f.at_place);
  }
