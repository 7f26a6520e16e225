-- What holds of each module that bytes read as, beside the rules (`StepRead.read_is_plain`).
use Rattle.std.specs.Prelude.{ℕ, List, [], ◌∷◌, Some, Contains, ◌≡◌}
use Rattle.walrus_base.specs.Operators.{Space, Types, Tags, Item, Arg, Index, Op}
use Rattle.walrus_model.specs.Abstract.{Abstract, Body, Custom, Indices, Import}
use Rattle.walrus_model.specs.Live.{IsLive}
use Rattle.walrus_model.specs.Names.{body_of}
use Rattle.walrus_model.specs.Order.{ByIndex, ByImport}
use Rattle.walrus_model.specs.Refers.{KeepsToo}

-- a catch (07) that names an item names a tag
abbrev pub CatchesTags : List Op → Type 0
CatchesTags ops = (o : Op) (x : Item) (args : List Arg) → Contains ops o → o.op ≡ 0x07 → o.args ≡ Index x ∷ args → x.0 ≡ Tags

pub record IsPlain (m : Abstract) : Type 0 where
  -- imported items come first, in the order of the imports ("Structure > Modules > Indices")
  pub in_order : (space : Space) → (space ≡ Types → ⊥) → (i j : ℕ) → IsLive m (space, i) → IsLive m (space, j) → ByIndex m space i j → ByImport m space i j
  -- an import brings no type
  pub imports : (i : ℕ) (x : Import) → m.imports i ≡ Some x → x.item.0 ≡ Types → ⊥
  -- a custom section has the same data under all indices
  pub customs : (s : Custom) → Contains m.customs s → (a b : Indices) → s.data_under a ≡ s.data_under b
  pub catches : (f : ℕ) (b : Body) → body_of m f ≡ Some b → CatchesTags b.operators
  -- no types are kept for handlers yet, nothing asks for anything, and the segments in sets are there
  pub handler_types : (f : ℕ) → m.handler_types f ≡ []
  pub section_roots : m.section_roots ≡ []
  pub sets : (x y : Item) → KeepsToo m x y → IsLive m y
