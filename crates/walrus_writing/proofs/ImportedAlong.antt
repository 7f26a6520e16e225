-- The entries of imports, by rising id, stand for what these bring: for each space what `written_both` of the model asks.
use Rattle.std.proofs.Common.{◌≡◌, ℕ, suc, ◌+◌, List, [], ◌∷◌, refl, sym, ap, ◌∙◌, subst, Some, None, arith}
use Rattle.std.specs.Prelude.{Option, All, Contains, IsSome, slice_get}
use Rattle.std.specs.List.{AllZip}
use Rattle.std.proofs.lemmas.List.Elements.{All-cons, All-nil}
use Rattle.wasm_entries.specs.Record as wire
use Rattle.wasm_entries.specs.Spelling.{ImportStands}
use Rattle.walrus_base.specs.Types.{RefType, ValType, map_ref, map_val}
use Rattle.walrus_base.specs.Operators.{Space, Types, Functions, Tables, Memories, Tags, Globals, Elements, DataSegments}
use Rattle.walrus_code.specs.Names.{Lookup, named_val}
use Rattle.walrus_constants.specs.Laws.{AgreesWith}
use Rattle.walrus_constants.specs.Named.{named_global, named_ref, named_table}
use Rattle.walrus_constants.proofs.Renamed.{agreed, agrees_last, ref_agrees, val_agrees}
use Rattle.walrus_base.proofs.Lookups.{mapped_some}
use Rattle.walrus_model.specs.Abstract.{Abstract, Function, FunctionKind, Global, Import, ImportedBy, ImportedFunction, Table, Tag}
use Rattle.walrus_model.specs.Imported.{IsBrought, numbered_from}
use Rattle.walrus_model.specs.Live.{IsLive}
use Rattle.walrus_model.specs.Renaming.{Renaming, renamed_global, renamed_table}
use Rattle.walrus_model.specs.Same.{SameFunction, SameKind}
use Rattle.walrus_model.specs.Spaces.{SameThing, Thing, look}
use Rattle.walrus_model.specs.WellMade.{import_in, import_of, kind_import, origin_import}
use Rattle.walrus_model.proofs.Spaces.{live_from}
use Rattle.walrus_base.proofs.Standing.{got_where, some_inj, zip_right}
use Rattle.walrus_plan.proofs.BroughtBy.{kind_origin, origin_is}
use Rattle.walrus_writing.specs.Imported.{AreBare, IsBare, IsEntryAt, as_brought, named_function, named_thing}
use Rattle.walrus_code.proofs.Somes.{none_some}

-- ---- what a thing says to be brought by

-- a thing says that this import brings it
abbrev SaysImport : (s : Space) → Thing s → ℕ → Type 0
SaysImport Functions f p = f.kind ≡ ImportedFunction p
SaysImport Tables t p = t.origin ≡ ImportedBy p
SaysImport Memories m p = m.origin ≡ ImportedBy p
SaysImport Tags t p = t.origin ≡ ImportedBy p
SaysImport Globals g p = g.origin ≡ ImportedBy p
SaysImport Types t p = ⊥
SaysImport Elements e p = ⊥
SaysImport DataSegments d p = ⊥

says_import : (v : Abstract) (s : Space) (i : ℕ) (x : Thing s) (p : ℕ) → look v s i ≡ Some x → import_of v (s, i) ≡ Some p → SaysImport s x p
says_import v Functions i x p at of = kind_origin x.kind p (sym (ap (import_in (λ (f : Function). kind_import f.kind)) at) ∙ of)
says_import v Tables i x p at of = origin_is x.origin p (sym (ap (import_in (λ t. origin_import t.origin)) at) ∙ of)
says_import v Memories i x p at of = origin_is x.origin p (sym (ap (import_in (λ t. origin_import t.origin)) at) ∙ of)
says_import v Tags i x p at of = origin_is x.origin p (sym (ap (import_in (λ t. origin_import t.origin)) at) ∙ of)
says_import v Globals i x p at of = origin_is x.origin p (sym (ap (import_in (λ t. origin_import t.origin)) at) ∙ of)
says_import v Types i x p at of = absurd (none_some p of)
says_import v Elements i x p at of = absurd (none_some p of)
says_import v DataSegments i x p at of = absurd (none_some p of)

-- ---- the thing that is brought is the item, renamed

module _ (names : Lookup) (r : Renaming) (agrees : AgreesWith r names) (k p : ℕ) (index : r.imports p ≡ k) where
  abbrev brought_function : ℕ → Function
  brought_function ty = record { ty = ty; kind = ImportedFunction k }

  function_same : (i : ℕ) (f y : Function) → f.kind ≡ ImportedFunction p → named_function names (as_brought Functions k f) ≡ Some y → SameFunction r i f y
  function_same i f y says e =
      let m = mapped_some brought_function (names Types f.ty) y e in
      subst (λ (z : Function). SameFunction r i f z) (sym m.2)
      (record { ty = sym (agrees Types f.ty m.0 m.1); kind = subst (λ (kind : FunctionKind). SameKind r i kind (ImportedFunction k)) (sym says) (sym index) })

  abbrev brought_tag : ℕ → Tag
  brought_tag ty = record { origin = ImportedBy k; ty = ty }

  abbrev brought_table : Table → RefType ℕ → Table
  brought_table t element = record { origin = ImportedBy k; ty = record { limits = t.ty.limits; element = element }; initialiser = None }

  abbrev brought_global : Global → ValType ℕ → Global
  brought_global g value = record { origin = ImportedBy k; ty = record { value = value; mutable = g.ty.mutable; shared = g.ty.shared }; initialiser = None }

  table_same : (t y : Table) → t.origin ≡ ImportedBy p → t.initialiser ≡ None → named_table names (as_brought Tables k t) ≡ Some y → y ≡ renamed_table r t
  table_same t y says bare e =
      sym (agreed (brought_table t (map_ref (r.numbers Types) t.ty.element)) y (named_table names (as_brought Tables k t))
      (agrees_last (map_ref (r.numbers Types) t.ty.element) (named_ref names t.ty.element) (brought_table t) (ref_agrees r names agrees t.ty.element)) e)
      ∙ rw (says, bare, index) refl

  global_same : (g y : Global) → g.origin ≡ ImportedBy p → g.initialiser ≡ None → named_global names (as_brought Globals k g) ≡ Some y → y ≡ renamed_global r g
  global_same g y says bare e =
      sym (agreed (brought_global g (map_val (r.numbers Types) g.ty.value)) y (named_global names (as_brought Globals k g))
      (agrees_last (map_val (r.numbers Types) g.ty.value) (named_val names g.ty.value) (brought_global g) (val_agrees r names agrees g.ty.value)) e)
      ∙ rw (says, bare, index) refl

  thing_same : (s : Space) (i : ℕ) (x y : Thing s) → SaysImport s x p → IsBare s x → named_thing names s (as_brought s k x) ≡ Some y → SameThing r s i x y
  thing_same Functions i x y says bare e = function_same i x y says e
  thing_same Tables i x y says bare e = table_same x y says bare e
  thing_same Memories i x y says bare e = sym (some_inj (as_brought Memories k x) y e) ∙ rw (says, index) refl
  thing_same Tags i x y says bare e =
      let m = mapped_some brought_tag (names Types x.ty) y e in
      m.2 ∙ rw (says, index, agrees Types x.ty m.0 m.1) refl
  thing_same Globals i x y says bare e = global_same x y says bare e
  thing_same Types i x y says bare e = absurd says
  thing_same Elements i x y says bare e = absurd says
  thing_same DataSegments i x y says bare e = absurd says

-- ---- import by import

module _ (names : Lookup) (r : Renaming) (agrees : AgreesWith r names) (v : Abstract) (are : AreBare v) where
  one_brought : (p k : ℕ) (w : wire.Import) → r.imports p ≡ k → IsEntryAt names v p w → IsBrought r v p k w
  one_brought p k w index e =
      let b = e.entry.describes.brings k in record {
        value = e.value;
        is = e.is;
        thing = b.thing;
        brings = b.brings;
        stands = (
          e.entry.thing,
          e.entry.is,
          thing_same names r agrees k p index e.value.item.0 e.value.item.1 e.entry.thing b.thing (says_import v e.value.item.0 e.value.item.1 e.entry.thing p e.entry.is (are.says p e.value e.is)) (are.bare p e.value e.entry.thing e.is e.entry.is) b.named,
        );
      }

  all_brought : (n : ℕ) (order : List ℕ) (ws : List wire.Import) → ((j p : ℕ) → slice_get order j ≡ Some p → r.imports p ≡ n + j) → AllZip (IsEntryAt names v) order ws → AllZip (λ p e. IsBrought r v p e.0 e.1) order (numbered_from n ws)
  all_brought n [] [] index h = tt
  all_brought n [] (w ∷ ws) index h = elim h [ ]
  all_brought n (p ∷ order) [] index h = elim h [ ]
  all_brought n (p ∷ order) (w ∷ ws) index h =
      let first : n + 0 ≡ n = omega arith in (
        one_brought p n w (index 0 p refl ∙ first) h.0,
        all_brought (n + 1) order ws (λ j q at. index (suc j) q at ∙ (let next : n + suc j ≡ n + 1 + j = omega arith in next)) h.1,
      )

  -- the entries of the imports, each of which has its number in their order
  pub entries_brought : (order : List ℕ) (ws : List wire.Import) → ((j p : ℕ) → slice_get order j ≡ Some p → r.imports p ≡ j) → AllZip (IsEntryAt names v) order ws → AllZip (λ p e. IsBrought r v p e.0 e.1) order (numbered_from 0 ws)
  entries_brought order ws index h = all_brought 0 order ws (λ j p at. index j p at ∙ (let same : j ≡ 0 + j = omega arith in same)) h

-- bytes spell each of them
pub entries_stand : (names : Lookup) (v : Abstract) (order : List ℕ) (ws : List wire.Import) → AllZip (IsEntryAt names v) order ws → All ImportStands ws
entries_stand names v [] [] h = All-nil ImportStands
entries_stand names v [] (w ∷ ws) h = elim h [ ]
entries_stand names v (p ∷ order) [] h = elim h [ ]
entries_stand names v (p ∷ order) (w ∷ ws) h = All-cons ImportStands w ws h.0.entry.stands (entries_stand names v order ws h.1)

-- the item of each of them is there
pub entries_live : (names : Lookup) (v : Abstract) (order : List ℕ) (ws : List wire.Import) → AllZip (IsEntryAt names v) order ws → (i : ℕ) (x : Import) → v.imports i ≡ Some x → Contains order i → IsLive v x.item
entries_live names v order ws h i x at among =
    let z = zip_right (IsEntryAt names v) order ws among.0 i h (got_where order i among) in
    let same : z.2.value ≡ x = some_inj z.2.value x (sym z.2.is ∙ at) in
    subst (λ (y : Import). IsLive v y.item) same (live_from v z.2.value.item.0 z.2.value.item.1 (subst (λ (o : Option (Thing z.2.value.item.0)). IsSome o) (sym z.2.entry.is) refl))
