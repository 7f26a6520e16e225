-- An element segment as a record: what a refusal of what it holds or of how it is used says of it, when its table is left out, and what its parts say together.
use Rattle.std.proofs.Common.{◌≡◌, ⊎_elim, inl, inr, ℕ, Bool, true, false, List, [], ◌∷◌, ◌++◌, map, refl, sym, ap, ◌∙◌, subst}
use Rattle.std.specs.Prelude.{Option, Some, None, All, Contains, Ok, Err, IsTrue, ◌↔◌, ◌&&◌, nat_eq, if◌then◌else◌}
use Rattle.std.specs.Global.{Vec}
use Rattle.std.proofs.lemmas.Bool.{eqb-false, eqb-true}
use Rattle.std.proofs.lemmas.List.Elements.{All-contains, All-nil, All-push}
use Rattle.wasm_forms.specs.Reading.{◌>>=◌}
use Rattle.wasm_forms.specs.Types.{HeapStands}
use Rattle.wasm_forms.specs.declared.types.RawRef.{RawRef}
use Rattle.wasm_entries.specs.Record as entries
use Rattle.wasm_entries.specs.Record.{element_entry, element_mode, expression, items_of}
use Rattle.wasm_entries.specs.Spelling.{ElementStands, ElementsStand, ExpressionStands, IsIndex}
use Rattle.wasm_entries.specs.declared.record.RawExpression.{RawExpression}
use Rattle.wasm_entries.specs.declared.record.RawElement.{RawElement}
use Rattle.wasm_entries.specs.declared.record.RawElementMode.TheVariants as modes
use Rattle.wasm_entries.specs.declared.record.RawItems.TheVariants as contents
use Rattle.walrus_base.specs.Types.{RefType}
use Rattle.walrus_base.specs.Operators.{Functions, Tables, Op}
use Rattle.walrus_code.specs.Names.{Lookup}
use Rattle.walrus_code.specs.Results.{IndexesIn, heap_is_exact}
use Rattle.walrus_code.specs.declared.error.IrError.{IrError}
use Rattle.walrus_code.specs.declared.error.IrError.TheVariants as Ir
use Rattle.walrus_groups.specs.Named.{each}
use Rattle.walrus_model.specs.Abstract.{ElementKind, ActiveElements, ElementItems, Expressions, Element, Table}
use Rattle.walrus_model.specs.Constants.{consts_of}
use Rattle.walrus_model.specs.Sections as said
use Rattle.walrus_model.specs.Sections.{element_kind, ref_of}
use Rattle.walrus_base.proofs.Standing.{none_there}
use Rattle.walrus_constants.specs.Named.{named_const, named_ref}
use Rattle.walrus_constants.specs.Segments.{named_element, named_element_items, named_element_kind}
use Rattle.walrus_constants.specs.Written.{IndexesConst, IndexesConsts, IsSpelled, IsUnspelled}
use Rattle.walrus_constants.proofs.Causes.{not_found}
use Rattle.walrus_constants.proofs.Listed.{consts_lacking, consts_unspelled, read_all, read_begins, read_next}
use Rattle.walrus_contents.specs.View.{element_of}
use Rattle.walrus_items.specs.Elements.{ElementValue}
use Rattle.walrus_items.specs.Errors.{error_of_ir}
use Rattle.walrus_theorem.specs.Spelling.{ArePlain, IsNarrow}
use Rattle.walrus_writing.specs.Elements.{ChoosesFlag, ChoosesTable, ExactItems, IndexesElement, IndexesItems, IndexesMode, IsSpelledElement, ItemsAreUnspelled, ItemsStand, KindIsUnspelled, MayLeaveOut, ModeStands, RefusesElements, UnspelledItem, UnspelledOffset}
use Rattle.walrus_writing.proofs.ItemsLeft.{Written}

abbrev none_of : (Y : Type 0) → Option Y
none_of Y = None

nothing_then : {X Y : Type 0} (o : Option X) → (o >>= λ (x : X). none_of Y) ≡ none_of Y
nothing_then None = refl
nothing_then (Some x) = refl

-- what was found so far, and what is left to find
abbrev pub behind : List ℕ → Option (List ℕ) → Option (List ℕ)
behind done rest = rest >>= λ more. Some (done ++ more)

module _ (names : Lookup) where
  -- ---- the functions that it lists

  -- those found so far and those that are left are those of the whole, and each index is a number of 32 bits
  abbrev pub FunctionsSoFar : (all left found : List ℕ) → Type 0
  FunctionsSoFar all left found = (behind found (each (names Functions) left) ≡ each (names Functions) all) × All IsIndex found

  pub functions_begin : (all found : List ℕ) → found ≡ [] → FunctionsSoFar all all found
  functions_begin all found none = (read_begins found (each (names Functions) all) none, subst (λ (l : List ℕ). All IsIndex l) (sym none) (All-nil IsIndex))

  module _ (all left rest : List ℕ) (x : ℕ) (step : left ≡ x ∷ rest) (found : List ℕ) where
    -- one more has an index
    pub functions_next : (more : List ℕ) (y : ℕ) → Some y ≡ names Functions x → IsIndex y → more ≡ found ++ y ∷ [] → FunctionsSoFar all left found → FunctionsSoFar all rest more
    functions_next more y is stands pushed s = (
      read_next (names Functions) found more left rest (each (names Functions) all) x y step (sym is) pushed s.0,
      subst (λ (l : List ℕ). All IsIndex l) (sym pushed) (All-push IsIndex found y s.1 stands),
    )

    -- one has none
    pub functions_lack : None ≡ names Functions x → FunctionsSoFar all left found → each (names Functions) all ≡ None
    functions_lack none s =
        sym s.0
        ∙ ap (λ (l : List ℕ). behind found (each (names Functions) l)) step
        ∙ ap (λ (o : Option ℕ). behind found (o >>= λ z. each (names Functions) rest >>= λ others. Some (z ∷ others))) (sym none)

  pub functions_all : (all left found : List ℕ) → left ≡ [] → FunctionsSoFar all left found → (each (names Functions) all ≡ Some found) × All IsIndex found
  functions_all all left found none s = (read_all (names Functions) found left (each (names Functions) all) none s.0, s.1)

  -- ---- what it holds

  module _ (ty : RefType ℕ) (es : List (List Op)) where
    -- what is found of both is what is found of it
    items_found : (element : Option (RefType ℕ)) → named_ref names ty ≡ element → (all : Option (List (List Op))) → each (named_const names) es ≡ all
        → named_element_items names (Expressions ty es) ≡ (element >>= λ r. all >>= λ found. Some (Expressions r found))
    items_found element first all second = rw (first, second) refl

    -- the type of the expressions isn't written
    pub type_refused : {X : Type 0} (view : X → RefType ℕ) (e : IrError) → IndexesIn view (Err e) (heap_is_exact ty.heap) (named_ref names ty) → IndexesItems names (Expressions ty es) (Err e)
    type_refused view Ir.NoIndex none = items_found None none (each (named_const names) es) refl
    type_refused view Ir.NotWritable exact = ExactItems ty es refl exact
    type_refused view (Ir.Memory m) u = tt
    type_refused view Ir.Malformed u = absurd u
    type_refused view Ir.TooLarge u = absurd u

    -- one of them isn't
    pub consts_refused : (e : IrError) → IndexesConsts {X = Vec RawExpression} (λ raw. map consts_of (map expression raw.items)) names es (Err e) → IndexesItems names (Expressions ty es) (Err e)
    consts_refused Ir.NoIndex first = items_found (named_ref names ty) refl None (consts_lacking names es first) ∙ nothing_then (named_ref names ty)
    consts_refused Ir.NotWritable first = let u = consts_unspelled names es first in UnspelledItem ty es u.0 refl u.1.0 u.1.1
    consts_refused (Ir.Memory m) u = tt
    consts_refused Ir.Malformed u = absurd u
    consts_refused Ir.TooLarge u = absurd u

    expressions_spelled : heap_is_exact ty.heap ≡ false → All IsSpelled es → ItemsAreUnspelled (Expressions ty es) → ⊥
    expressions_spelled plain spelled (ExactItems t xs is exact) = let same : t ≡ ty = cc in none_there (sym plain ∙ ap (λ (r : RefType ℕ). heap_is_exact r.heap) (sym same) ∙ exact)
    expressions_spelled plain spelled (UnspelledItem t xs ops is at unspelled) = let same : xs ≡ es = cc in All-contains IsSpelled es ops spelled (subst (λ (l : List (List Op)). Contains l ops) same at) unspelled

    pub expressions_written : (element : RawRef) (raw : Vec RawExpression) → IndexesIn ref_of (Ok element) (heap_is_exact ty.heap) (named_ref names ty) → HeapStands element.heap
        → IndexesConsts {X = Vec RawExpression} (λ r. map consts_of (map expression r.items)) names es (Ok raw) → All ExpressionStands (map expression raw.items)
        → IndexesItems names (Expressions ty es) (Ok (contents.Expressions element raw))
    expressions_written element raw first heap h stands = (
      items_found (Some (ref_of element)) first.0 (Some (map consts_of (map expression raw.items))) h.0,
      (heap, stands),
      expressions_spelled first.1 h.1,
    )

  -- ---- how it is used

  module _ (tables : ℕ → Option Table) (items : entries.Items) (table : ℕ) (offset : List Op) where
    kind_found : (index : ℕ) → Some index ≡ names Tables table → (ops : Option (List Op)) → named_const names offset ≡ ops
        → named_element_kind names (ActiveElements table offset) ≡ (ops >>= λ found. Some (ActiveElements index found))
    kind_found index is ops named =
        ap (λ (o : Option ℕ). o >>= λ found. named_const names offset >>= λ os. Some (ActiveElements found os)) (sym is)
        ∙ ap (λ (o : Option (List Op)). o >>= λ found. Some (ActiveElements index found)) named

    -- its offset isn't written
    pub offset_refused : (index : ℕ) → Some index ≡ names Tables table → (e : IrError) → IndexesConst {X = RawExpression} (λ raw. consts_of (expression raw)) names offset (Err e) → IndexesMode names tables items (ActiveElements table offset) (Err e)
    offset_refused index is Ir.NoIndex lacks = kind_found index is None (not_found names offset lacks)
    offset_refused index is Ir.NotWritable unspelled = UnspelledOffset table offset refl unspelled
    offset_refused index is (Ir.Memory m) u = tt
    offset_refused index is Ir.Malformed u = absurd u
    offset_refused index is Ir.TooLarge u = absurd u

    offset_spelled : (IsUnspelled offset → ⊥) → KindIsUnspelled (ActiveElements table offset) → ⊥
    offset_spelled spelled (UnspelledOffset t o is unspelled) = let same : o ≡ offset = cc in spelled (subst IsUnspelled same unspelled)

    module _ (raw : RawExpression) (h : IndexesConst {X = RawExpression} (λ r. consts_of (expression r)) names offset (Ok raw)) (spelled : ExpressionStands (expression raw)) where
      abbrev IsWrittenAs : Option ℕ → Type 0
      IsWrittenAs written = IndexesMode names tables items (ActiveElements table offset) (Ok (modes.Active written raw))

      left_out : Some 0 ≡ names Tables table → MayLeaveOut (tables table) 0 items → IsWrittenAs None
      left_out is may = (kind_found 0 is (Some (consts_of (expression raw))) h.0, spelled, (table, sym is, may), offset_spelled h.1)

      written_out : (index : ℕ) → Some index ≡ names Tables table → IsIndex index → (MayLeaveOut (tables table) index items → ⊥) → IsWrittenAs (Some index)
      written_out index is stands must = (kind_found index is (Some (consts_of (expression raw))) h.0, (stands, spelled), (table, sym is, must), offset_spelled h.1)

      written_by : (index : ℕ) (first : Bool) → nat_eq index 0 ≡ first → Some index ≡ names Tables table → IsIndex index → (narrow plain : Bool) → IsTrue narrow ↔ IsNarrow (tables table) → IsTrue plain ↔ ArePlain items
          → (written : Option ℕ) → written ≡ (if first && narrow && plain then None else Some index) → IsWrittenAs written
      written_by index true e is stands true true n p written same = subst IsWrittenAs (sym same) (left_out (sym (ap (λ (i : ℕ). Some i) (eqb-true index 0 e)) ∙ is) (refl, n.0 refl, p.0 refl))
      written_by index true e is stands true false n p written same = subst IsWrittenAs (sym same) (written_out index is stands (λ may. none_there (p.1 may.2)))
      written_by index true e is stands false plain n p written same = subst IsWrittenAs (sym same) (written_out index is stands (λ may. none_there (n.1 may.1)))
      written_by index false e is stands narrow plain n p written same = subst IsWrittenAs (sym same) (written_out index is stands (λ may. eqb-false index 0 e may.0))

      -- its table is left out exactly where it may be
      pub active_written : (index : ℕ) → Some index ≡ names Tables table → IsIndex index → (narrow plain : Bool) → IsTrue narrow ↔ IsNarrow (tables table) → IsTrue plain ↔ ArePlain items
          → (written : Option ℕ) → written ≡ (if nat_eq index 0 && narrow && plain then None else Some index) → IsWrittenAs written
      active_written index is stands narrow plain n p written same = written_by index (nat_eq index 0) refl is stands narrow plain n p written same

  -- ---- the segment

  module _ (tables : ℕ → Option Table) (e : Element) where
    abbrev with_parts : ElementKind → ElementItems → Element
    with_parts kind items = record { kind = kind; items = items }

    -- what it holds isn't written
    pub items_refused : (err : IrError) → IndexesItems names e.items (Err err) → IndexesElement names tables e (Err err)
    items_refused Ir.NoIndex none =
        ap (λ (o : Option ElementItems). named_element_kind names e.kind >>= λ kind. o >>= λ items. Some (with_parts kind items)) none ∙ nothing_then (named_element_kind names e.kind)
    items_refused Ir.NotWritable unspelled = inr unspelled
    items_refused (Ir.Memory m) u = tt
    items_refused Ir.Malformed u = absurd u
    items_refused Ir.TooLarge u = absurd u

    -- how it is used isn't
    pub mode_refused : (held : entries.Items) (err : IrError) → IndexesMode names tables held e.kind (Err err) → IndexesElement names tables e (Err err)
    mode_refused held Ir.NoIndex none = ap (λ (o : Option ElementKind). o >>= λ kind. named_element_items names e.items >>= λ items. Some (with_parts kind items)) none
    mode_refused held Ir.NotWritable unspelled = inl unspelled
    mode_refused held (Ir.Memory m) u = tt
    mode_refused held Ir.Malformed u = absurd u
    mode_refused held Ir.TooLarge u = absurd u

    both_stand : (m : entries.ElementMode) (x : entries.Items) → ModeStands m → ItemsStand x → ChoosesTable names tables m x → ElementsStand m x
    both_stand (entries.ActiveElements None offset) (entries.Functions fs) m x c = (m, x)
    both_stand (entries.ActiveElements None offset) (entries.Expressions ty es) m x c = (m, c.2.2, x.1)
    both_stand (entries.ActiveElements (Some index) offset) (entries.Functions fs) m x c = (m.0, m.1, x)
    both_stand (entries.ActiveElements (Some index) offset) (entries.Expressions ty es) m x c = (m.0, m.1, x.0, x.1)
    both_stand entries.PassiveElements (entries.Functions fs) m x c = x
    both_stand entries.PassiveElements (entries.Expressions ty es) m x c = x
    both_stand entries.DeclaredElements (entries.Functions fs) m x c = x
    both_stand entries.DeclaredElements (entries.Expressions ty es) m x c = x

    pub element_written : (raw : RawElement) → IndexesItems names e.items (Ok raw.items) → IndexesMode names tables (items_of raw.items) e.kind (Ok raw.mode) → IndexesElement names tables e (Ok raw)
    element_written raw x m = (
      ap (λ (o : Option ElementKind). o >>= λ kind. named_element_items names e.items >>= λ items. Some (with_parts kind items)) m.0
          ∙ ap (λ (o : Option ElementItems). o >>= λ items. Some (with_parts (element_kind (element_mode raw.mode)) items)) x.0,
      both_stand (element_mode raw.mode) (items_of raw.items) m.1 x.1 m.2,
      m.2,
      λ u. ⊎_elim m.3 x.2 u,
    )

-- ---- all of them: no import brings one

abbrev pub no_import : ElementValue → Option ℕ
no_import e = None

-- bytes can spell the record, and it leaves its table out exactly where it may
abbrev pub StandsAsChosen : Lookup → (ℕ → Option Table) → RawElement → Type 0
StandsAsChosen names tables w = ElementStands (element_entry w) × ChoosesFlag names tables (element_entry w)

abbrev pub ElementsWritten : Lookup → (ℕ → Option Table) → List ElementValue → List RawElement → List ElementValue → Type 0
ElementsWritten names tables all = Written no_import (StandsAsChosen names tables) IsSpelledElement (λ (w : RawElement). Some (said.element_of (element_entry w))) (λ (e : ElementValue). named_element names (element_of e)) all

pub all_stand : (names : Lookup) (tables : ℕ → Option Table) (ws : List RawElement) → All (StandsAsChosen names tables) ws → All (λ (w : RawElement). ElementStands (element_entry w)) ws
all_stand names tables ws h = λ k d lt. (h k d lt).0

pub all_chosen : (names : Lookup) (tables : ℕ → Option Table) (ws : List RawElement) → All (StandsAsChosen names tables) ws → All (λ (w : RawElement). ChoosesFlag names tables (element_entry w)) ws
all_chosen names tables ws h = λ k d lt. (h k d lt).1

-- one that is refused
pub element_refused : (names : Lookup) (tables : ℕ → Option Table) (e : ElementValue) (all : List ElementValue) (err : IrError) → Contains all e → (None ≡ named_element names (element_of e) → ⊥) → IndexesElement names tables (element_of e) (Err err)
    → RefusesElements all (error_of_ir err)
element_refused names tables e all Ir.NoIndex at there none = absurd (there (sym none))
element_refused names tables e all Ir.NotWritable at there unspelled = (e, at, unspelled)
element_refused names tables e all (Ir.Memory m) at there u = tt
element_refused names tables e all Ir.Malformed at there u = absurd u
element_refused names tables e all Ir.TooLarge at there u = absurd u
