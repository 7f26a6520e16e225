-- A data segment as a record: what a refusal of its offset says of it, and what its parts say together.
use Rattle.std.proofs.Common.{◌≡◌, ℕ, List, [], ◌∷◌, refl, sym, ap, ◌∙◌, subst}
use Rattle.std.specs.Prelude.{Option, Some, None, Contains, Ok, Err}
use Rattle.std.specs.Global.{Box}
use Rattle.wasm_forms.specs.Reading.{◌>>=◌}
use Rattle.wasm_entries.specs.Record.{expression, data_entry}
use Rattle.wasm_entries.specs.Spelling.{DataStands, ExpressionStands, IsIndex}
use Rattle.wasm_entries.specs.declared.record.RawExpression.{RawExpression}
use Rattle.wasm_entries.specs.declared.record.RawData.{RawData}
use Rattle.wasm_entries.specs.declared.record.RawDataMode.TheVariants.{Active, Passive}
use Rattle.walrus_base.specs.Operators.{Memories, Op}
use Rattle.walrus_code.specs.Names.{Lookup}
use Rattle.walrus_code.specs.declared.error.IrError.{IrError}
use Rattle.walrus_code.specs.declared.error.IrError.TheVariants as Ir
use Rattle.walrus_constants.specs.Named.{named_const}
use Rattle.walrus_constants.specs.Segments.{named_data, named_data_kind}
use Rattle.walrus_constants.specs.Written.{IndexesConst, IsUnspelled}
use Rattle.walrus_constants.proofs.Causes.{not_found}
use Rattle.walrus_contents.specs.View.{data_of}
use Rattle.walrus_items.specs.Data.{DataValue}
use Rattle.walrus_model.specs.Abstract.{DataKind, PassiveData, ActiveData, DataSegment}
use Rattle.walrus_model.specs.Constants.{consts_of}
use Rattle.walrus_model.specs.Sections as said
use Rattle.walrus_items.specs.Errors.{error_of_ir}
use Rattle.walrus_plan.specs.Brought.{own_of}
use Rattle.walrus_writing.specs.Segments.{IndexesData, IndexesMode, IsSpelledData, KindIsUnspelled, RefusesData, UnspelledOffset}
use Rattle.walrus_writing.proofs.ItemsLeft.{Written}

module _ (names : Lookup) where
  -- ---- how it is used

  module _ (memory : ℕ) (offset : List Op) where
    -- its memory has no index
    pub memory_lacks : None ≡ names Memories memory → named_data_kind names (ActiveData memory offset) ≡ None
    memory_lacks none = ap (λ (o : Option ℕ). o >>= λ found. named_const names offset >>= λ ops. Some (ActiveData found ops)) (sym none)

    found_by : (index : ℕ) → Some index ≡ names Memories memory → (ops : Option (List Op)) → named_const names offset ≡ ops
        → named_data_kind names (ActiveData memory offset) ≡ (ops >>= λ found. Some (ActiveData index found))
    found_by index is ops named =
        ap (λ (o : Option ℕ). o >>= λ found. named_const names offset >>= λ os. Some (ActiveData found os)) (sym is)
        ∙ ap (λ (o : Option (List Op)). o >>= λ found. Some (ActiveData index found)) named

    -- its offset isn't written
    pub offset_refused : (index : ℕ) → Some index ≡ names Memories memory → (e : IrError) → IndexesConst {X = RawExpression} (λ raw. consts_of (expression raw)) names offset (Err e) → IndexesMode names (ActiveData memory offset) (Err e)
    offset_refused index is Ir.NoIndex lacks = found_by index is None (not_found names offset lacks)
    offset_refused index is Ir.NotWritable unspelled = UnspelledOffset memory offset refl unspelled
    offset_refused index is (Ir.Memory m) u = tt
    offset_refused index is Ir.Malformed u = absurd u
    offset_refused index is Ir.TooLarge u = absurd u

    spelled_by : (IsUnspelled offset → ⊥) → KindIsUnspelled (ActiveData memory offset) → ⊥
    spelled_by spelled (UnspelledOffset m o is unspelled) = let same : o ≡ offset = cc in spelled (subst IsUnspelled same unspelled)

    -- `boxed` holds what was written of the offset
    pub active_written : (index : ℕ) → Some index ≡ names Memories memory → IsIndex index → (raw : RawExpression) → IndexesConst {X = RawExpression} (λ r. consts_of (expression r)) names offset (Ok raw) → ExpressionStands (expression raw)
        → (boxed : Box RawExpression) → boxed.value ≡ raw → IndexesMode names (ActiveData memory offset) (Ok (Active index boxed))
    active_written index is stands raw h spelled boxed same = (
      found_by index is (Some (consts_of (expression raw))) h.0 ∙ ap (λ (r : RawExpression). Some (ActiveData index (consts_of (expression r)))) (sym same),
      (stands, subst (λ (r : RawExpression). ExpressionStands (expression r)) (sym same) spelled),
      spelled_by h.1,
    )

  passive_spelled : KindIsUnspelled PassiveData → ⊥
  passive_spelled (UnspelledOffset m o is unspelled) = absurd (cc)

  pub passive_written : IndexesMode names PassiveData (Ok Passive)
  passive_written = (refl, tt, passive_spelled)

  -- ---- the segment

  module _ (d : DataSegment) where
    abbrev with_bytes : DataKind → DataSegment
    with_bytes k = record { kind = k; value = d.value }

    pub mode_refused : (e : IrError) → IndexesMode names d.kind (Err e) → IndexesData names d (Err e)
    mode_refused Ir.NoIndex none = ap (λ (o : Option DataKind). o >>= λ k. Some (with_bytes k)) none
    mode_refused Ir.NotWritable unspelled = unspelled
    mode_refused (Ir.Memory m) u = tt
    mode_refused Ir.Malformed u = absurd u
    mode_refused Ir.TooLarge u = absurd u

    pub segment_written : (raw : RawData) → raw.bytes.now ≡ d.value → IndexesMode names d.kind (Ok raw.mode) → IndexesData names d (Ok raw)
    segment_written raw bytes h = (
      ap (λ (o : Option DataKind). o >>= λ k. Some (with_bytes k)) h.0 ∙ ap (λ (v : List ℕ). Some (let made : DataSegment = record { kind = (said.data_of (data_entry raw)).kind; value = v } in made)) (sym bytes),
      h.1,
      h.2,
    )

-- ---- all of them: no import brings one

abbrev pub no_import : DataValue → Option ℕ
no_import d = None

pub all_own : {X : Type 0} (xs : List X) → own_of (λ (x : X). None) xs ≡ xs
all_own [] = refl
all_own {X} (x ∷ xs) = ap (λ (l : List X). x ∷ l) (all_own xs)

abbrev pub SegmentsWritten : Lookup → List DataValue → List RawData → List DataValue → Type 0
SegmentsWritten names all = Written no_import (λ (w : RawData). DataStands (data_entry w)) IsSpelledData (λ (w : RawData). Some (said.data_of (data_entry w))) (λ (d : DataValue). named_data names (data_of d)) all

-- one that is refused
pub segment_refused : (names : Lookup) (d : DataValue) (all : List DataValue) (e : IrError) → Contains all d → (None ≡ named_data names (data_of d) → ⊥) → IndexesData names (data_of d) (Err e) → RefusesData all (error_of_ir e)
segment_refused names d all Ir.NoIndex at there none = absurd (there (sym none))
segment_refused names d all Ir.NotWritable at there unspelled = (d, at, unspelled)
segment_refused names d all (Ir.Memory m) at there u = tt
segment_refused names d all Ir.Malformed at there u = absurd u
segment_refused names d all Ir.TooLarge at there u = absurd u
