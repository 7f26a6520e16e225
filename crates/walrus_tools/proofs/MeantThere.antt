-- What is meant by a name in a well-made module is there: what a name in the name section finds, and what an export of it leads to.
use Rattle.std.proofs.Common.{◌≡◌, ℕ, List, Option, Some, None, IsSome, option_map, refl, subst, ap}
use Rattle.std.specs.Prelude.{Contains}
use Rattle.walrus.specs.Base.Arena.{entries, item_at, items}
use Rattle.walrus.specs.Base.Id.{place}
use Rattle.walrus.specs.Base.Operators.{Item, function_item}
use Rattle.walrus.specs.Base.IdValue.{Id}
use Rattle.walrus.specs.Base.FunctionKey.{FunctionKey}
use Rattle.walrus.proofs.Base.Lists.{Contains-map}
use Rattle.walrus.proofs.Base.SearchFound.{found-item}
use Rattle.walrus.proofs.Base.Standing.{was_some}
use Rattle.walrus.specs.Model.Config.{Config}
use Rattle.walrus.specs.Model.Live.{IsLive}
use Rattle.walrus.proofs.Model.Slots.{entry_in}
use Rattle.walrus.specs.Contents.View.{contents_view, export_of, function}
use Rattle.walrus.specs.Contents.Contents.{Contents}
use Rattle.walrus.specs.Items.Exports.{ExportValue, exports, function_named}
use Rattle.walrus.specs.Items.Functions.{FunctionValue, functions, is_called}
use Rattle.walrus.specs.Items.Kinds.{exported}
use Rattle.walrus.specs.Items.Searches.{first}
use Rattle.walrus.specs.Theorem.WellMade.{IsWellMade}
use Rattle.walrus.proofs.Theorem.EditKept.{none_isnt, some_is, some_there}
use Rattle.walrus_tools.specs.FunctionNames.{meant, or_else}
use Rattle.walrus_tools.proofs.ExportedNames.{exported_so}

module _ (c : Config) (m : Contents) (made : IsWellMade c (contents_view m)) (name : List ℕ) where
  abbrev Stands : ℕ → Type 0
  Stands i = IsSome (item_at (functions m.funcs) i)

  exported_there : (id : Id FunctionKey) → function_named name (exports m.exports) ≡ Some id → Stands (place id)
  exported_there id is =
      let e = exported_so name (exports m.exports) id is in
      let item : exported e.value.item ≡ function_item (place id) = ap exported e.is_function in
      let at : Contains (items (exports m.exports)) e.value = Contains-map (λ (x : ℕ × ExportValue). x.1) (e.at, e.value) (entries (exports m.exports)) (entry_in (exports m.exports) e.at e.value e.there) in
      let live : IsLive (contents_view m) (exported e.value.item) = made.rules.indices.exports (export_of e.value) (Contains-map export_of e.value (items (exports m.exports)) at) in
      was_some (function m.locals) (item_at (functions m.funcs) (place id)) (subst (λ (x : Item). IsLive (contents_view m) x) item live)

  by_export : (o : Option (Id FunctionKey)) → function_named name (exports m.exports) ≡ o → (p : ℕ) → option_map place o ≡ Some p → Stands p
  by_export None found p is = absurd (none_isnt is)
  by_export (Some id) found p is = subst Stands (some_is is) (exported_there id found)

  by_name : (o : Option (ℕ × FunctionValue)) → first (is_called name) (functions m.funcs) ≡ o → (p : ℕ)
      → or_else (option_map (λ (e : ℕ × FunctionValue). e.0) o) (option_map place (function_named name (exports m.exports))) ≡ Some p → Stands p
  by_name None found p is = by_export (function_named name (exports m.exports)) refl p is
  by_name (Some e) found p is = subst Stands (some_is is) (some_there (item_at (functions m.funcs) e.0) (found-item (λ (d : ℕ × FunctionValue). is_called name d.1) (functions m.funcs) e found))

  pub meant_there : (p : ℕ) → meant name m ≡ Some p → Stands p
  meant_there p is = by_name (first (is_called name) (functions m.funcs)) refl p is
