-- What a name finds among exports, where it finds a function: an export of it.
use Rattle.std.proofs.Common.{◌≡◌, ℕ, List, Option, Some, None, refl, ap}
use Rattle.std.specs.Prelude.{bytes_eq, option_and_then}
use Rattle.std.proofs.lemmas.Bool.{and_parts as both}
use Rattle.std.proofs.lemmas.Slice.Eq.{bytes_eq-Decides}
use Rattle.walrus.specs.Base.Arena.{item_at}
use Rattle.walrus.specs.Base.IdValue.{Id}
use Rattle.walrus.specs.Base.FunctionKey.{FunctionKey}
use Rattle.walrus.proofs.Base.SearchFound.{found-item, found-passes}
use Rattle.walrus.specs.Items.Exports.{ExportValue, exported_function, function_named, is_function, is_function_named}
use Rattle.walrus.specs.Items.Searches.{first}
use Rattle.walrus.specs.Items.ExportItem.{ExportItem}
use Rattle.walrus.specs.Items.ExportItem.TheVariants as kinds
use Rattle.walrus.proofs.Theorem.EditKept.{none_isnt, some_is}

the_function : (k : ExportItem) (id : Id FunctionKey) → exported_function k ≡ Some id → k ≡ kinds.Function id
the_function (kinds.Function f) id e = ap kinds.Function (some_is e)
the_function (kinds.Table t) id e = absurd (none_isnt e)
the_function (kinds.Memory m) id e = absurd (none_isnt e)
the_function (kinds.Global g) id e = absurd (none_isnt e)
the_function (kinds.Tag t) id e = absurd (none_isnt e)

module _ (name : List ℕ) (all : List (Option ExportValue)) where
  -- an export under this name of this function
  pub record IsExportOf (id : Id FunctionKey) : Type 0 where
    pub at : ℕ
    pub value : ExportValue
    pub there : item_at all at ≡ Some value
    pub named : value.name ≡ name
    pub is_function : value.item ≡ kinds.Function id

  abbrev among : Option (ℕ × ExportValue)
  among = first (is_function_named name) all

  pub exported_so : (id : Id FunctionKey) → function_named name all ≡ Some id → IsExportOf id
  exported_so id is = by among refl is where
    by : (o : Option (ℕ × ExportValue)) → among ≡ o → option_and_then (λ (e : ℕ × ExportValue). exported_function e.1.item) o ≡ Some id → IsExportOf id
    by None found h = absurd (none_isnt h)
    by (Some e) found h =
        let passes = both (bytes_eq e.1.name name) (is_function e.1.item) (found-passes (λ (d : ℕ × ExportValue). is_function_named name d.1) all e found) in
        record {
          at = e.0;
          value = e.1;
          there = found-item (λ (d : ℕ × ExportValue). is_function_named name d.1) all e found;
          named = (bytes_eq-Decides e.1.name name).0 passes.0;
          is_function = the_function e.1.item id h;
        }
