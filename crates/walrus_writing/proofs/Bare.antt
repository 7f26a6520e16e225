-- What imports bring is there, and has no initialiser where each import's item says to be brought by it.
use Rattle.std.proofs.Common.{◌≡◌, ℕ, zero, suc, List, [], ◌∷◌, refl, sym, ap, ◌∙◌, subst, Some, None}
use Rattle.std.specs.Prelude.{Option, option_map}
use Rattle.walrus_base.specs.Arena.{item_at, slots}
use Rattle.walrus_base.specs.ConstOps.{const_ops}
use Rattle.walrus_base.specs.Operators.{Space, Types, Functions, Tables, Memories, Tags, Globals, Elements, DataSegments, Op}
use Rattle.walrus_items.specs.Seen.{seen}
use Rattle.walrus_items.specs.Globals.{GlobalValue, global_import, global_init, global_value, globals}
use Rattle.walrus_items.specs.Tables.{tables}
use Rattle.walrus_items.specs.declared.globals.Global as entities
use Rattle.walrus_items.specs.declared.kinds.GlobalKind.{GlobalKind}
use Rattle.walrus_items.specs.declared.kinds.GlobalKind.TheVariants as kind
use Rattle.walrus_contents.specs.View.{global_of, origin_of, own_initialiser, parts_view, table_of}
use Rattle.walrus_contents.specs.declared.parts.Parts.{Parts}
use Rattle.walrus_base.proofs.Lookups.{mapped_some}
use Rattle.walrus_model.specs.Abstract.{Abstract, Global, Table}
use Rattle.walrus_model.specs.Spaces.{Thing, look}
use Rattle.walrus_model.specs.WellMade.{ImportsMatch, import_in, import_of, origin_import}
use Rattle.walrus_base.proofs.Standing.{some_inj}
use Rattle.walrus_writing.specs.Imported.{AreBare, IsBare}
use Rattle.walrus_code.proofs.Somes.{none_some}

-- ---- the kind of a global says both

kind_bare : (k : GlobalKind) (i : ℕ) → global_import k ≡ Some i → global_init k ≡ None
kind_bare (kind.Import q) i e = refl
kind_bare (kind.Local q) i e = absurd (none_some i e)

-- where the value says that an import brings it, it has no initialiser
abbrev ValueBare : GlobalValue → Type 0
ValueBare g = (i : ℕ) → g.imported_by ≡ Some i → g.initialiser ≡ None

value_bare : (ss : List (Option entities.Global)) (n : ℕ) (g : GlobalValue) → item_at (seen global_value ss) n ≡ Some g → ValueBare g
value_bare [] n g at = absurd (none_some g at)
value_bare (None ∷ rest) zero g at = absurd (none_some g at)
value_bare (Some x ∷ rest) zero g at = subst ValueBare (some_inj (global_value x) g at) (kind_bare x.kind)
value_bare (None ∷ rest) (suc n) g at = value_bare rest n g at
value_bare (Some x ∷ rest) (suc n) g at = value_bare rest n g at

-- ---- what an item says

back : (o : Option ℕ) (i : ℕ) → origin_import (origin_of o) ≡ Some i → o ≡ Some i
back (Some j) i e = e
back None i e = absurd (none_some i e)

own_bare : (o : Option ℕ) (ops : Option (List Op)) (i : ℕ) → o ≡ Some i → own_initialiser o ops ≡ None
own_bare (Some j) ops i e = refl
own_bare None ops i e = absurd (none_some i e)

module _ (p : Parts) where
  abbrev V : Abstract
  V = parts_view p

  table_bare : (n i : ℕ) (t : Table) → import_of V (Tables, n) ≡ Some i → V.tables n ≡ Some t → t.initialiser ≡ None
  table_bare n i t says at =
      let v = mapped_some table_of (item_at (tables p.tables.now) n) t at in
      let brought : origin_import (table_of v.0).origin ≡ Some i = ap (λ (u : Table). origin_import u.origin) (sym v.2) ∙ sym (ap (import_in (λ (u : Table). origin_import u.origin)) at) ∙ says in
      subst (λ (u : Table). u.initialiser ≡ None) (sym v.2) (own_bare v.0.imported_by (option_map const_ops v.0.initialiser) i (back v.0.imported_by i brought))

  global_bare : (n i : ℕ) (g : Global) → import_of V (Globals, n) ≡ Some i → V.globals n ≡ Some g → g.initialiser ≡ None
  global_bare n i g says at =
      let v = mapped_some global_of (item_at (globals p.globals.now) n) g at in
      let brought : origin_import (global_of v.0).origin ≡ Some i = ap (λ (u : Global). origin_import u.origin) (sym v.2) ∙ sym (ap (import_in (λ (u : Global). origin_import u.origin)) at) ∙ says in
      subst (λ (u : Global). u.initialiser ≡ None) (sym v.2) (ap (option_map const_ops) (value_bare (slots p.globals.now.arena) n v.0 v.1 i (back v.0.imported_by i brought)))

  -- what an item that says to be brought by an import is
  pub brought_bare : (s : Space) (n i : ℕ) (thing : Thing s) → import_of V (s, n) ≡ Some i → look V s n ≡ Some thing → IsBare s thing
  brought_bare Tables n i t says at = table_bare n i t says at
  brought_bare Globals n i g says at = global_bare n i g says at
  brought_bare Functions n i f says at = tt
  brought_bare Memories n i m says at = tt
  brought_bare Tags n i t says at = tt
  brought_bare Types n i t says at = tt
  brought_bare Elements n i e says at = tt
  brought_bare DataSegments n i d says at = tt

  pub are_bare : ImportsMatch V → AreBare V
  are_bare matched = record {
    says = matched.imports;
    bare = λ i x thing at is. brought_bare x.item.0 x.item.1 i thing (matched.imports i x at) is;
  }
