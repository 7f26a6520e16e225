-- What initialisers may read, item by item: from the test to the rule, and from its failing to what lacks an index.
use Rattle.std.proofs.Common.{inl, inr, ◌≡◌, ℕ, ◌<◌, ◌⊎◌, ◌&&◌, ⊎_elim, Bool, true, false, List, [], ◌∷◌, ◌++◌, map, refl, sym, ap, ◌∙◌, subst, arith, Some, None}
use Rattle.std.specs.Prelude.{◌↔◌, Option, IsSome, Contains, not, nat_lt, option_map, IfOk, Result, Ok, Err}
use Rattle.std.specs.List.{list_all}
use borrow.Author.Tests.{ltb-true, ltb-false}
use Rattle.walrus_base.specs.Arena.{item_at}
use Rattle.walrus_base.specs.Types.{heap_names, val_names}
use Rattle.walrus_base.specs.ConstOps.{const_ops}
use Rattle.walrus_base.specs.declared.const_expr.ConstExpr.{ConstExpr}
use Rattle.walrus_base.specs.declared.const_expr.ConstExpr.TheVariants as expressions
use Rattle.walrus_base.specs.declared.const_expr.Value.{Value}
use Rattle.walrus_base.specs.Operators.{Types, Tables, Globals, Item, Op, type_item, names_of}
use Rattle.walrus_items.specs.Globals.{GlobalValue, globals, global_import, global_init}
use Rattle.walrus_items.specs.Tables.{TableValue, tables}
use Rattle.walrus_items.specs.declared.kinds.GlobalKind.{GlobalKind}
use Rattle.walrus_items.specs.declared.kinds.GlobalKind.TheVariants as kinds
use Rattle.walrus_contents.specs.View.{global_of, origin_of, own_initialiser, parts_view, table_of}
use Rattle.walrus_contents.specs.declared.parts.Parts.{Parts}
use Rattle.walrus_model.specs.Abstract.{Abstract, Origin, ImportedBy, Defined, Global, Table}
use Rattle.walrus_model.specs.Live.{IsLive}
use Rattle.walrus_model.specs.Order.{ByImport, OriginsInOrder}
use Rattle.walrus_model.specs.Refers.{global_names, named_by, table_names, written_in}
use Rattle.walrus_model.specs.Roots.{IsImported}
use Rattle.walrus_model.specs.Rules.{IsImportedGlobal}
use Rattle.walrus_model.specs.Same.{BothAnd}
use Rattle.walrus_base.proofs.Lists.{Contains-head, Contains-tail, Contains-uncons, Contains-none, Contains-append_2}
use Rattle.walrus_base.proofs.Standing.{none_there, some_inj, was_some as was_there}
use Rattle.walrus_theorem.specs.Refused.{GlobalReads, LacksIndex, LaterGlobalRead, LocalGlobalRead, TableReads}
use Rattle.walrus_plan.specs.Local.{is_own}
use Rattle.walrus_items.specs.declared.error.Error.{Error}
use Rattle.walrus_plan.specs.Reads.{AreReadEarlier, AreReadImported, ReadsInOrder, may_name, may_name_all, may_read}
use Rattle.walrus_code.proofs.Somes.{none_some}
pub use Rattle.walrus_groups.proofs.OrderWhole.{each_passes}
use Rattle.std.proofs.lemmas.Bool.{or_parts as neither}
use Rattle.walrus_base.proofs.Noted.{or_cases as either}
use Rattle.walrus_contents.proofs.ConstNames.{value_named as value_names_nothing}

-- ---- lists

pub one_fails : {X : Type 0} (p : X → Bool) (xs : List X) → list_all p xs ≡ false → (x : X) × (Contains xs x × (p x ≡ false))
one_fails p [] none = absurd (none_there (sym none))
one_fails {X} p (y ∷ ys) none = by (p y) refl (λ rest. one_fails p ys rest)
  where
    by : (b : Bool) → p y ≡ b → (list_all p ys ≡ false → (x : X) × (Contains ys x × (p x ≡ false))) → (x : X) × (Contains (y ∷ ys) x × (p x ≡ false))
    by false e later = (y, (Contains-head y ys, e))
    by true e later =
        let f = later (sym (ap (λ (b : Bool). b && list_all p ys) e) ∙ none) in
        (f.0, (Contains-tail y f.0 ys f.1.0, f.1.1))

-- where one fails, not all pass
pub fails_with : {X : Type 0} (p : X → Bool) (xs : List X) (x : X) → Contains xs x → p x ≡ false → false ≡ list_all p xs
fails_with p xs x at e = by (list_all p xs) refl
  where
    by : (b : Bool) → list_all p xs ≡ b → false ≡ list_all p xs
    by false none = sym none
    by true all = absurd (none_there (sym e ∙ each_passes p xs x all at))

-- whether all pass is the same of the same items in another order
pub all_same : {X : Type 0} (p : X → Bool) (xs ys : List X) → ((x : X) → Contains xs x ↔ Contains ys x) → list_all p xs ≡ list_all p ys
all_same {X} p xs ys same = by (list_all p xs) (list_all p ys) refl refl
  where
    by : (a b : Bool) → list_all p xs ≡ a → list_all p ys ≡ b → a ≡ b
    by true true all also = refl
    by false false none also = refl
    by true false all some = let f = one_fails p ys some in absurd (none_there (sym f.1.1 ∙ each_passes p xs f.0 all ((same f.0).1 f.1.0)))
    by false true some all = let f = one_fails p xs some in absurd (none_there (sym f.1.1 ∙ each_passes p ys f.0 all ((same f.0).0 f.1.0)))

-- what names a global is an initialiser
pub initialiser_reads : (ts : List ℕ) (i : Option (List Op)) (g : ℕ) → Contains (map type_item ts ++ named_by names_of i) (Globals, g) → (ops : List Op) × ((i ≡ Some ops) × Contains (names_of ops) (Globals, g))
initialiser_reads [] None g at = absurd (Contains-none (Globals, g) at)
initialiser_reads [] (Some ops) g at = (ops, (refl, at))
initialiser_reads (t ∷ ts) i g at = ⊎_elim
    (λ (e : (Types, t) ≡ (Globals, g)). let no : Types ≡ Globals = ap (λ (x : Item). x.0) e in absurd (cc))
    (λ rest. initialiser_reads ts i g rest)
    (Contains-uncons (Types, t) (Globals, g) (map type_item ts ++ named_by names_of i) at)

-- only what is named as a global can fail
failing_global : (slots : List (Option GlobalValue)) (from : ℕ) (x : Item) → may_name slots from x ≡ false → (g : ℕ) × ((x ≡ (Globals, g)) × (may_read from g (item_at slots g) ≡ false))
failing_global slots from (Globals, g) e = (g, (refl, e))
failing_global slots from (x, g) e = absurd (none_there (sym e))

-- a global that may be read, as it is there
module _ (from g : ℕ) where
  seen_read : (w : GlobalValue) → may_read from g (Some w) ≡ true → IsImported (origin_of w.imported_by) ⊎ ((origin_of w.imported_by ≡ Defined) × (g < from))
  seen_read w e = by w.imported_by (either (not (is_own w.imported_by)) (nat_lt g from) e)
    where
      by : (o : Option ℕ) → (not (is_own o) ≡ true) ⊎ (nat_lt g from ≡ true) → IsImported (origin_of o) ⊎ ((origin_of o ≡ Defined) × (g < from))
      by (Some k) h = inl tt
      by None (inl never) = absurd (none_there never)
      by None (inr less) = inr (refl, ltb-true g from less)

  -- and one that may not
  pub seen_unread : (o : Option GlobalValue) → may_read from g o ≡ false → (w : GlobalValue) × ((o ≡ Some w) × ((origin_of w.imported_by ≡ Defined) × (g < from → ⊥)))
  seen_unread None e = absurd (none_there (sym e))
  seen_unread (Some w) e = (w, (refl, by w.imported_by (neither (not (is_own w.imported_by)) (nat_lt g from) e)))
    where
      by : (o : Option ℕ) → (not (is_own o) ≡ false) × (nat_lt g from ≡ false) → (origin_of o ≡ Defined) × (g < from → ⊥)
      by (Some k) h = absurd (none_there (sym h.0))
      by None h = (refl, λ less. omega (arith, less, ltb-false g from h.1))

module _ (p : Parts) where
  abbrev V : Abstract
  V = parts_view p

  abbrev slots : List (Option GlobalValue)
  slots = globals p.globals.now

  abbrev table_slots : List (Option TableValue)
  table_slots = tables p.tables.now

  global_at : (g : ℕ) → IsLive V (Globals, g) → (w : GlobalValue) × (item_at slots g ≡ Some w)
  global_at g live = by (item_at slots g) refl live
    where
      by : (o : Option GlobalValue) → item_at slots g ≡ o → IsSome (option_map global_of o) → (w : GlobalValue) × (item_at slots g ≡ Some w)
      by (Some w) at is = (w, at)
      by None at is = absurd (none_there is)

  not_imported : (g : ℕ) (w : GlobalValue) → item_at slots g ≡ Some w → origin_of w.imported_by ≡ Defined → IsImportedGlobal V g → ⊥
  not_imported g w at own h =
      let same : global_of w ≡ h.0 = some_inj (global_of w) h.0 (sym (ap (option_map global_of) at) ∙ h.1) in
      subst IsImported (sym (ap (λ (x : Global). x.origin) same) ∙ own) h.2

  read_there : (from g : ℕ) (w : GlobalValue) → item_at slots g ≡ Some w → may_name slots from (Globals, g) ≡ true → IsImportedGlobal V g ⊎ ((origin_of w.imported_by ≡ Defined) × (g < from))
  read_there from g w at e =
      ⊎_elim (λ is. inl (global_of w, ap (option_map global_of) at, is)) (λ both. inr both)
      (seen_read from g w (subst (λ (o : Option GlobalValue). may_read from g o ≡ true) at e))

  -- ---- tables

  abbrev pub TablePasses : ℕ → Type 0
  TablePasses i = may_name_all slots 0 (written_in V (Tables, i)) ≡ true

  table_named : (i g : ℕ) → TableReads V i g → Contains (written_in V (Tables, i)) (Globals, g)
  table_named i g (t, (ops, (at, is, has))) =
      subst (λ (o : Option Table). Contains (named_by table_names o) (Globals, g)) (sym at)
      (Contains-append_2 (Globals, g) (map type_item (heap_names t.ty.element.heap)) (named_by names_of t.initialiser) (subst (λ (o : Option (List Op)). Contains (named_by names_of o) (Globals, g)) (sym is) has))

  table_lives : (i g : ℕ) → TableReads V i g → IsSome (item_at table_slots i)
  table_lives i g reads = by (item_at table_slots i) reads.1.1.0
    where
      by : (o : Option TableValue) → option_map table_of o ≡ Some reads.0 → IsSome o
      by (Some v) e = refl
      by None e = absurd (none_some reads.0 e)

  pub tables_read : ((i : ℕ) → IsSome (item_at table_slots i) → TablePasses i) → (i g : ℕ) → TableReads V i g → IsLive V (Globals, g) → IsImportedGlobal V g
  tables_read all i g reads live =
      let w = global_at g live in
      ⊎_elim (λ is. is) (λ low. absurd (omega (arith, low.1)))
      (read_there 0 g w.0 w.1 (each_passes (may_name slots 0) (written_in V (Tables, i)) (Globals, g) (all i (table_lives i g reads)) (table_named i g reads)))

  pub table_lacks : (i : ℕ) (t : TableValue) → item_at table_slots i ≡ Some t → may_name_all slots 0 (written_in V (Tables, i)) ≡ false → LacksIndex V
  table_lacks i t at fails =
      let f = one_fails (may_name slots 0) (written_in V (Tables, i)) fails in
      let x = failing_global slots 0 f.0 f.1.1 in
      let w = seen_unread 0 x.0 (item_at slots x.0) x.1.1 in
      let view : V.tables i ≡ Some (table_of t) = ap (option_map table_of) at in
      let named : Contains (table_names (table_of t)) (Globals, x.0) = subst (λ (o : Option Table). Contains (named_by table_names o) (Globals, x.0)) view (subst (λ (y : Item). Contains (written_in V (Tables, i)) y) x.1.0 f.1.0) in
      let read = initialiser_reads (heap_names t.element.heap) (own_initialiser t.imported_by (option_map const_ops t.initialiser)) x.0 named in
      LocalGlobalRead i x.0 (table_of t, (read.0, (view, read.1.0, read.1.1))) (subst (λ (o : Option GlobalValue). IsSome (option_map global_of o)) (sym w.1.0) refl) (not_imported x.0 w.0 w.1.0 w.1.1.0)

  -- ---- globals

  -- one with an initialiser is of the module's own
  pub record GlobalPasses (i : ℕ) : Type 0 where
    pub names : may_name_all slots i (written_in V (Globals, i)) ≡ true
    pub own : (w : GlobalValue) → item_at slots i ≡ Some w → IsSome w.initialiser → origin_of w.imported_by ≡ Defined

  pub kind_own : (k : GlobalKind) → IsSome (global_init k) → origin_of (global_import k) ≡ Defined
  kind_own (kinds.Local e) h = refl
  kind_own (kinds.Import i) h = absurd (none_there h)

  global_named : (i g : ℕ) → GlobalReads V i g → Contains (written_in V (Globals, i)) (Globals, g)
  global_named i g (x, (ops, (at, is, has))) =
      subst (λ (o : Option Global). Contains (named_by global_names o) (Globals, g)) (sym at)
      (Contains-append_2 (Globals, g) (map type_item (val_names x.ty.value)) (named_by names_of x.initialiser) (subst (λ (o : Option (List Op)). Contains (named_by names_of o) (Globals, g)) (sym is) has))

  reader : (i g : ℕ) → GlobalReads V i g → (v : GlobalValue) × ((item_at slots i ≡ Some v) × IsSome v.initialiser)
  reader i g (x, (ops, (at, is, has))) = by (item_at slots i) refl at
    where
      by : (o : Option GlobalValue) → item_at slots i ≡ o → option_map global_of o ≡ Some x → (v : GlobalValue) × ((item_at slots i ≡ Some v) × IsSome v.initialiser)
      by (Some v) e seen = (v, (e, was_there const_ops v.initialiser (subst (λ (o : Option (List Op)). IsSome o) (sym (ap (λ (y : Global). y.initialiser) (some_inj (global_of v) x seen) ∙ is)) refl)))
      by None e seen = absurd (none_some x seen)

  in_order : (i g : ℕ) (v w : GlobalValue) → item_at slots i ≡ Some v → item_at slots g ≡ Some w → origin_of v.imported_by ≡ Defined → origin_of w.imported_by ≡ Defined → g < i → ByImport V Globals g i
  in_order i g v w at to own other less = rw (at, to) (rw (own, other) less)

  pub globals_read : ((i : ℕ) → IsSome (item_at slots i) → GlobalPasses i) → (i g : ℕ) → GlobalReads V i g → IsLive V (Globals, g) → IsImportedGlobal V g ⊎ ByImport V Globals g i
  globals_read all i g reads live =
      let v = reader i g reads in
      let w = global_at g live in
      let passes = all i (subst (λ (o : Option GlobalValue). IsSome o) (sym v.1.0) refl) in
      ⊎_elim (λ is. inl is) (λ low. inr (in_order i g v.0 w.0 v.1.0 w.1 (passes.own v.0 v.1.0 v.1.1) low.0 low.1))
      (read_there i g w.0 w.1 (each_passes (may_name slots i) (written_in V (Globals, i)) (Globals, g) passes.names (global_named i g reads)))

  -- one of the module's own comes before another only by its place
  not_before : (i g : ℕ) (v w : GlobalValue) → item_at slots i ≡ Some v → item_at slots g ≡ Some w → origin_of w.imported_by ≡ Defined → (g < i → ⊥) → ByImport V Globals g i → ⊥
  not_before i g v w at to own low before =
      by (origin_of v.imported_by) (subst (λ (o : Origin). OriginsInOrder g i o (origin_of v.imported_by)) own
      (subst (λ (o : Option GlobalValue). BothAnd (OriginsInOrder g i) (Some (origin_of w.imported_by)) (option_map (λ (y : Global). y.origin) (option_map global_of o))) at
      (subst (λ (o : Option GlobalValue). BothAnd (OriginsInOrder g i) (option_map (λ (y : Global). y.origin) (option_map global_of o)) (option_map (λ (y : Global). y.origin) (V.globals i))) to before)))
    where
      by : (o : Origin) → OriginsInOrder g i Defined o → ⊥
      by Defined less = low less
      by (ImportedBy k) h = h

  pub global_lacks : (i : ℕ) (v : GlobalValue) → item_at slots i ≡ Some v → may_name_all slots i (written_in V (Globals, i)) ≡ false → LacksIndex V
  global_lacks i v at fails =
      let f = one_fails (may_name slots i) (written_in V (Globals, i)) fails in
      let x = failing_global slots i f.0 f.1.1 in
      let w = seen_unread i x.0 (item_at slots x.0) x.1.1 in
      let view : V.globals i ≡ Some (global_of v) = ap (option_map global_of) at in
      let named : Contains (global_names (global_of v)) (Globals, x.0) = subst (λ (o : Option Global). Contains (named_by global_names o) (Globals, x.0)) view (subst (λ (y : Item). Contains (written_in V (Globals, i)) y) x.1.0 f.1.0) in
      let read = initialiser_reads (val_names v.ty) (option_map const_ops v.initialiser) x.0 named in
      LaterGlobalRead i x.0 (global_of v, (read.0, (view, read.1.0, read.1.1))) (subst (λ (o : Option GlobalValue). IsSome (option_map global_of o)) (sym w.1.0) refl)
      (λ either_way. ⊎_elim (λ is. not_imported x.0 w.0 w.1.0 w.1.1.0 is) (λ before. not_before i x.0 v w.0 at w.1.0 w.1.1.0 w.1.1.1 before) either_way)

pub plain_names_nothing : (e : ConstExpr) (v : Value) → e ≡ expressions.Value v → names_of (const_ops e) ≡ []
plain_names_nothing e v plain = ap (λ (x : ConstExpr). names_of (const_ops x)) plain ∙ value_names_nothing v

-- both kinds together
pub both_in_order : (p : Parts) → AreReadImported (parts_view p) → (result : Result Bool Error) → IfOk result (λ b. b ≡ true → AreReadEarlier (parts_view p)) → IfOk result (λ b. b ≡ true → ReadsInOrder (parts_view p))
both_in_order p imported (Ok b) earlier = λ is. record { tables = imported; globals = earlier is }
both_in_order p imported (Err e) earlier = tt
