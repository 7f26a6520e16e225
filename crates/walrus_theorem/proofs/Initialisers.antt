-- What initialisers of tables and globals may name of globals is the same on records.
use Rattle.std.proofs.Common.{◌≡◌, ⊎_elim, ℕ, ◌+◌, ◌<◌, ◌≤◌, List, [], ◌∷◌, length, map, refl, sym, ap, subst, ◌∙◌, arith}
use Rattle.std.specs.Prelude.{Some, None, is_some, Contains, slice_get, option_to_list}
use Rattle.std.specs.List.{AllByRecursion}
use Rattle.std.proofs.lemmas.List.{length-append, length-map}
use Rattle.wasm_entries.specs.declared.record.RawDesc.{RawDesc}
use Rattle.wasm_entries.specs.declared.record.RawDesc.TheVariants as descs
use Rattle.wasm_entries.specs.Record as entries
use Rattle.wasm_frames.specs.Record as wire
use Rattle.wasm_wire.specs.Context as context
use Rattle.wasm_wire.specs.Context.{context_of, counts_of, desc_global}
use Rattle.wasm_wire.specs.Indices.{TableHolds, GlobalHolds}
use Rattle.wasm_wire.specs.declared.rules.counts.Counts.{Counts}
use Rattle.walrus_base.specs.Operators.{Globals, Op, names_of}
use Rattle.walrus_bodies.proofs.LawNamed.{each_append}
use Rattle.walrus_model.specs.Abstract.{Abstract, Table, Global}
use Rattle.walrus_model.specs.Constants.{consts_of}
use Rattle.walrus_model.specs.Roots.{IsImported}
use Rattle.walrus_model.specs.Rules.{IsImportedGlobal}
use Rattle.walrus_model.specs.Sections.{Said, imported, imported_table, imported_global, table_of, global_of, tables_of, globals_of, global_type_of, module_of}
use Rattle.walrus_base.proofs.Standing.{some_inj}
use Rattle.walrus_theorem.proofs.ReadFits.{some_there}
use Rattle.walrus_theorem.proofs.SpelledReads.{all_such}
use Rattle.walrus_theorem.proofs.TextShaped.{all_at}
use Rattle.walrus_base.proofs.Lookups.{mapped_some, got_map, as_long}
use Rattle.walrus_groups.proofs.TypeLists.{got_either, got_right as behind}
use Rattle.walrus_theorem.proofs.Entries.{initial_low}
use Rattle.walrus_theorem.proofs.Images.{imported_globals_look}
use Rattle.walrus_bodies.proofs.Lists.{all_parts, all_mapped, all_unmapped, got_front}
use Rattle.walrus_theorem.proofs.Within.{scoped_low}

-- ---- what imports bring has no initialiser

abbrev NoTable : Table → Type 0
NoTable t = t.initialiser ≡ None

no_table : (i : ℕ) (d : RawDesc) → AllByRecursion NoTable (option_to_list (imported_table i d))
no_table i (descs.Function ty) = tt
no_table i (descs.Table t) = (refl, tt)
no_table i (descs.Memory l) = tt
no_table i (descs.Global g) = tt
no_table i (descs.Tag ty) = tt

no_tables : (i : ℕ) (ws : List entries.Import) → AllByRecursion NoTable (imported imported_table i ws)
no_tables i [] = tt
no_tables i (w ∷ ws) = each_append NoTable (option_to_list (imported_table i w.desc)) (imported imported_table (i + 1) ws) (no_table i w.desc) (no_tables (i + 1) ws)

abbrev pub Brought : Global → Type 0
Brought g = IsImported g.origin × (g.initialiser ≡ None)

brought_global : (i : ℕ) (d : RawDesc) → AllByRecursion Brought (option_to_list (imported_global i d))
brought_global i (descs.Function ty) = tt
brought_global i (descs.Table t) = tt
brought_global i (descs.Memory l) = tt
brought_global i (descs.Global g) = ((tt, refl), tt)
brought_global i (descs.Tag ty) = tt

pub brought_globals : (i : ℕ) (ws : List entries.Import) → AllByRecursion Brought (imported imported_global i ws)
brought_globals i [] = tt
brought_globals i (w ∷ ws) = each_append Brought (option_to_list (imported_global i w.desc)) (imported imported_global (i + 1) ws) (brought_global i w.desc) (brought_globals (i + 1) ws)

module _ (s : wire.Module) (bodies : List Said) where
  abbrev M : Abstract
  M = module_of s bodies

  abbrev c : Counts
  c = counts_of (context_of s)

  -- ---- imported globals

  abbrev front : List Global
  front = imported imported_global 0 s.imports

  front_long : length front ≡ c.imported_globals
  front_long = as_long (λ (g : Global). g.ty) global_type_of front (context.imported desc_global s.imports) (imported_globals_look s)

  pub few_imported : c.imported_globals ≤ c.globals
  few_imported = let long = length-append (context.imported desc_global s.imports) (map (λ (g : entries.Global). g.ty) s.globals) in omega (arith, long)

  pub few_before : (j : ℕ) → j < length s.globals → c.imported_globals + j ≤ c.globals
  few_before j lt =
      let long = length-append (context.imported desc_global s.imports) (map (λ (g : entries.Global). g.ty) s.globals) in
      let own = length-map s.globals (λ (g : entries.Global). g.ty) in
      omega (arith, long, own, lt)

  pub imported_there : (g : ℕ) → g < c.imported_globals → IsImportedGlobal M g
  imported_there g lt =
      let f = got_front Brought front (map global_of s.globals) g (brought_globals 0 s.imports) (subst (λ (n : ℕ). g < n) (sym front_long) lt) in
      (f.0, f.1, f.2.0)

  own_imported : (g k : ℕ) (x : Global) → slice_get (map global_of s.globals) k ≡ Some x → IsImported x.origin → g < c.imported_globals
  own_imported g k x at h =
      let w = mapped_some global_of (slice_get s.globals k) x (sym (got_map global_of s.globals k) ∙ at) in
      absurd (subst (λ (y : Global). IsImported y.origin) w.2 h)

  pub imported_low : (g : ℕ) → IsImportedGlobal M g → g < c.imported_globals
  imported_low g (x, is, h) = ⊎_elim
      (λ (e : slice_get front g ≡ Some x). let lt = some_there front g (ap is_some e) in subst (λ (n : ℕ). g < n) front_long lt)
      (λ later. own_imported g later.0 x later.2 h)
      (got_either front (map global_of s.globals) g x is)

  -- ---- tables

  -- a table's initialiser names so many globals alone
  abbrev pub TableLow : Table → Type 0
  TableLow t = (ops : List Op) → t.initialiser ≡ Some ops → (g : ℕ) → Contains (names_of ops) (Globals, g) → g < c.imported_globals

  none_low : (t : Table) → NoTable t → TableLow t
  none_low t none ops is g at = absurd (let p : None ≡ Some ops = sym none ∙ is in cc)

  pub tables_low : (d e : ℕ) → AllByRecursion (TableHolds c) s.tables → AllByRecursion TableLow (tables_of s)
  tables_low d e h =
      each_append TableLow (imported imported_table 0 s.imports) (map table_of s.tables)
      (all_such NoTable TableLow none_low (imported imported_table 0 s.imports) (no_tables 0 s.imports))
      (all_mapped TableLow table_of s.tables (all_such (TableHolds c) (λ t. TableLow (table_of t)) (λ t k. initial_low c d e c.imported_globals t.initial k.1) s.tables h))

  pub own_tables_low : AllByRecursion TableLow (tables_of s) → AllByRecursion (λ t. TableLow (table_of t)) s.tables
  own_tables_low h = all_unmapped TableLow table_of s.tables (all_parts TableLow (imported imported_table 0 s.imports) (map table_of s.tables) h).1

  -- ---- globals

  pub own_index : (j i : ℕ) → i ≡ c.imported_globals + j → slice_get (globals_of s) i ≡ slice_get (map global_of s.globals) j
  own_index j i is = behind front (map global_of s.globals) j i (is ∙ ap (λ (n : ℕ). n + j) (sym front_long))

  -- a global's initialiser names earlier globals alone
  pub globals_low : (d e : ℕ) → ((j : ℕ) (x : entries.Global) → slice_get s.globals j ≡ Some x → GlobalHolds c (c.imported_globals + j) x) → (i g : ℕ) (x : Global) (ops : List Op) → slice_get (globals_of s) i ≡ Some x → x.initialiser ≡ Some ops → Contains (names_of ops) (Globals, g) → g < i
  globals_low d e h i g x ops is has at = ⊎_elim
      (λ (f : slice_get front i ≡ Some x). absurd (let p : None ≡ Some ops = sym (all_at Brought front i x (brought_globals 0 s.imports) f).1 ∙ has in cc))
      (λ later.
      let w = mapped_some global_of (slice_get s.globals later.0) x (sym (got_map global_of s.globals later.0) ∙ later.2) in
      let same : consts_of w.0.initial ≡ ops = some_inj (consts_of w.0.initial) ops (sym (ap (λ (y : Global). y.initialiser) w.2) ∙ has) in
      let low : g < c.imported_globals + later.0 = scoped_low c d e (c.imported_globals + later.0) w.0.initial (h later.0 w.0 w.1).1 g (subst (λ (l : List Op). Contains (names_of l) (Globals, g)) (sym same) at) in
      let place : i ≡ length front + later.0 = later.1 in
      omega (arith, low, place, front_long))
      (got_either front (map global_of s.globals) i x is)
