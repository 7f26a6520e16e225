-- A table as a record: what a refusal of the type of its elements or its initialiser says of it, and what both parts say together.
use Rattle.std.proofs.Common.{◌≡◌, ℕ, List, false, refl, sym, ap, ◌∙◌, subst}
use Rattle.std.specs.Prelude.{Option, Some, None, Ok, Err, option_map}
use Rattle.std.specs.Global.{Box}
use Rattle.wasm_forms.specs.Reading.{◌>>=◌}
use Rattle.wasm_entries.specs.Record.{expression, table_entry}
use Rattle.wasm_entries.specs.Spelling.{TableStands}
use Rattle.wasm_entries.specs.declared.record.RawExpression.{RawExpression}
use Rattle.wasm_entries.specs.declared.record.RawTable.{RawTable}
use Rattle.walrus_base.specs.Types.{RefType}
use Rattle.walrus_base.specs.Operators.{Op}
use Rattle.walrus_code.specs.Names.{Lookup}
use Rattle.walrus_code.specs.Results.{IndexesIn, heap_is_exact}
use Rattle.walrus_code.specs.declared.error.IrError.{IrError}
use Rattle.walrus_code.specs.declared.error.IrError.TheVariants as Ir
use Rattle.walrus_model.specs.Abstract.{Table, Defined}
use Rattle.walrus_model.specs.Constants.{consts_of}
use Rattle.walrus_model.specs.Sections.{limits_of, ref_of}
use Rattle.walrus_base.proofs.Standing.{none_there, some_inj}
use Rattle.walrus_constants.specs.Named.{named_initialiser, named_ref, named_table}
use Rattle.walrus_constants.specs.Written.{IndexesConst, IsUnspelled}
use Rattle.walrus_constants.proofs.Causes.{not_found}
use Rattle.walrus_code.proofs.Somes.{none_some}
use Rattle.walrus_writing.specs.Tables.{TableIsUnspelled, ExactElement, UnspelledInitialiser, IndexesTable, IndexesInitial}

-- ---- both parts

abbrev with_parts : Table → RefType ℕ → Option (List Op) → Table
with_parts t element initialiser = record { origin = t.origin; ty = record { limits = t.ty.limits; element = element }; initialiser = initialiser }

module _ (names : Lookup) (t : Table) where
  -- what is found of its parts is what is found of it
  found_by : (element : Option (RefType ℕ)) → named_ref names t.ty.element ≡ element → (initialiser : Option (Option (List Op))) → named_initialiser names t.initialiser ≡ initialiser
      → named_table names t ≡ (element >>= λ r. initialiser >>= λ i. Some (with_parts t r i))
  found_by element first initialiser second = rw (first, second) refl

  nothing_behind : (element : Option (RefType ℕ)) → (element >>= λ r. None >>= λ i. Some (with_parts t r i)) ≡ None
  nothing_behind None = refl
  nothing_behind (Some r) = refl

  pub type_refused : {X : Type 0} (view : X → RefType ℕ) (e : IrError) → IndexesIn view (Err e) (heap_is_exact t.ty.element.heap) (named_ref names t.ty.element) → IndexesTable names t (Err e)
  type_refused view Ir.NoIndex none = found_by None none (named_initialiser names t.initialiser) refl
  type_refused view Ir.NotWritable exact = ExactElement exact
  type_refused view (Ir.Memory m) u = tt
  type_refused view Ir.Malformed u = absurd u
  type_refused view Ir.TooLarge u = absurd u

  const_refused : (ops : List Op) (e : IrError) → t.initialiser ≡ Some ops → IndexesConst {X = RawExpression} (λ raw. consts_of (expression raw)) names ops (Err e) → IndexesTable names t (Err e)
  const_refused ops Ir.NoIndex is lacks =
      found_by (named_ref names t.ty.element) refl None (ap (named_initialiser names) is ∙ ap (λ (o : Option (List Op)). o >>= λ found. Some (Some found)) (not_found names ops lacks))
      ∙ nothing_behind (named_ref names t.ty.element)
  const_refused ops Ir.NotWritable is unspelled = UnspelledInitialiser ops is unspelled
  const_refused ops (Ir.Memory m) is u = tt
  const_refused ops Ir.Malformed is u = absurd u
  const_refused ops Ir.TooLarge is u = absurd u

  pub initial_refused : (o : Option (List Op)) (e : IrError) → t.initialiser ≡ o → IndexesInitial names o (Err e) → IndexesTable names t (Err e)
  initial_refused None e is u = absurd (cc)
  initial_refused (Some ops) e is h = const_refused ops e is h

  -- ---- what both parts say together

  spelled_by : heap_is_exact t.ty.element.heap ≡ false → ((ops : List Op) → t.initialiser ≡ Some ops → IsUnspelled ops → ⊥) → TableIsUnspelled t → ⊥
  spelled_by not_exact spelled (ExactElement exact) = none_there (sym not_exact ∙ exact)
  spelled_by not_exact spelled (UnspelledInitialiser ops at unspelled) = spelled ops at unspelled

  abbrev initial_of : Option (Box RawExpression) → Option (List Op)
  initial_of raw = option_map consts_of (option_map (λ (initial : Box RawExpression). expression initial.value) raw)

  initial_found : (raw : Option (Box RawExpression)) (o : Option (List Op)) → t.initialiser ≡ o → IndexesInitial names o (Ok raw)
      → (named_initialiser names t.initialiser ≡ Some (initial_of raw)) × ((ops : List Op) → t.initialiser ≡ Some ops → IsUnspelled ops → ⊥)
  initial_found None None is h = (ap (named_initialiser names) is, λ ops at u. none_some ops (sym is ∙ at))
  initial_found (Some raw) None is h = absurd (cc)
  initial_found None (Some ops) is h = absurd h
  initial_found (Some raw) (Some ops) is h = (
    ap (named_initialiser names) is ∙ ap (λ (found : Option (List Op)). found >>= λ l. Some (Some l)) h.0,
    λ others at u. h.1 (subst IsUnspelled (some_inj others ops (sym at ∙ is)) u),
  )

  pub table_written : (raw : RawTable) (o : Option (List Op)) → t.initialiser ≡ o → t.origin ≡ Defined → limits_of raw.ty.limits ≡ t.ty.limits
      → IndexesIn ref_of (Ok raw.ty.element) (heap_is_exact t.ty.element.heap) (named_ref names t.ty.element) → TableStands (table_entry raw) → IndexesInitial names o (Ok raw.initial) → IndexesTable names t (Ok raw)
  table_written raw o is own limits element stands h =
      let initial = initial_found raw.initial o is h in (
        found_by (Some (ref_of raw.ty.element)) element.0 (Some (initial_of raw.initial)) initial.0 ∙ rw (own, limits) refl,
        stands,
        spelled_by element.1 initial.1,
      )
