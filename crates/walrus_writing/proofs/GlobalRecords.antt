-- A global as a record: what a refusal of its type or its initialiser says of it, and what both parts say together.
use Rattle.std.proofs.Common.{◌≡◌, ℕ, List, false, refl, sym, ap, ◌∙◌, subst}
use Rattle.std.specs.Prelude.{Option, Some, None, Ok, Err}
use Rattle.wasm_entries.specs.Record.{expression}
use Rattle.wasm_forms.specs.Reading.{◌>>=◌}
use Rattle.wasm_forms.specs.Types.{ValueStands}
use Rattle.wasm_entries.specs.Spelling.{ExpressionStands}
use Rattle.wasm_entries.specs.declared.record.RawExpression.{RawExpression}
use Rattle.wasm_entries.specs.declared.record.RawGlobal.{RawGlobal}
use Rattle.walrus_base.specs.Types.{ValType}
use Rattle.walrus_base.specs.Operators.{Op}
use Rattle.walrus_code.specs.FromRaw.{val_of}
use Rattle.walrus_code.specs.Names.{Lookup, named_val}
use Rattle.walrus_code.specs.Results.{IndexesIn, val_is_exact}
use Rattle.walrus_code.specs.declared.error.IrError.{IrError}
use Rattle.walrus_code.specs.declared.error.IrError.TheVariants as Ir
use Rattle.walrus_model.specs.Abstract.{Global, Defined}
use Rattle.walrus_model.specs.Constants.{consts_of}
use Rattle.walrus_base.proofs.Standing.{none_there, some_inj}
use Rattle.walrus_constants.specs.Named.{named_initialiser, named_global}
use Rattle.walrus_constants.specs.Written.{IndexesConst, IsUnspelled}
use Rattle.walrus_constants.proofs.Causes.{not_found}
use Rattle.walrus_writing.specs.Globals.{GlobalIsUnspelled, ExactValue, UnspelledInitialiser, IndexesGlobal, IndexesInitialiser}

abbrev with_parts : Global → ValType ℕ → Option (List Op) → Global
with_parts g value initialiser = record { origin = g.origin; ty = record { value = value; mutable = g.ty.mutable; shared = g.ty.shared }; initialiser = initialiser }

module _ (names : Lookup) (g : Global) where
  -- what is found of its parts is what is found of it
  found_by : (value : Option (ValType ℕ)) → named_val names g.ty.value ≡ value → (initialiser : Option (Option (List Op))) → named_initialiser names g.initialiser ≡ initialiser
      → named_global names g ≡ (value >>= λ v. initialiser >>= λ i. Some (with_parts g v i))
  found_by value first initialiser second = rw (first, second) refl

  nothing_behind : (value : Option (ValType ℕ)) → (value >>= λ v. None >>= λ i. Some (with_parts g v i)) ≡ None
  nothing_behind None = refl
  nothing_behind (Some v) = refl

  pub value_refused : {X : Type 0} (view : X → ValType ℕ) (e : IrError) → IndexesIn view (Err e) (val_is_exact g.ty.value) (named_val names g.ty.value) → IndexesGlobal names g (Err e)
  value_refused view Ir.NoIndex none = found_by None none (named_initialiser names g.initialiser) refl
  value_refused view Ir.NotWritable exact = ExactValue exact
  value_refused view (Ir.Memory m) u = tt
  value_refused view Ir.Malformed u = absurd u
  value_refused view Ir.TooLarge u = absurd u

  const_refused : (ops : List Op) (e : IrError) → g.initialiser ≡ Some ops → IndexesConst {X = RawExpression} (λ raw. consts_of (expression raw)) names ops (Err e) → IndexesGlobal names g (Err e)
  const_refused ops Ir.NoIndex is lacks =
      found_by (named_val names g.ty.value) refl None (ap (named_initialiser names) is ∙ ap (λ (o : Option (List Op)). o >>= λ found. Some (Some found)) (not_found names ops lacks))
      ∙ nothing_behind (named_val names g.ty.value)
  const_refused ops Ir.NotWritable is unspelled = UnspelledInitialiser ops is unspelled
  const_refused ops (Ir.Memory m) is u = tt
  const_refused ops Ir.Malformed is u = absurd u
  const_refused ops Ir.TooLarge is u = absurd u

  pub initialiser_refused : (o : Option (List Op)) (e : IrError) → g.initialiser ≡ o → IndexesInitialiser names o (Err e) → IndexesGlobal names g (Err e)
  initialiser_refused None e is u = absurd u
  initialiser_refused (Some ops) e is h = const_refused ops e is h

  -- ---- what both parts say together

  spelled_by : (ops : List Op) → g.initialiser ≡ Some ops → val_is_exact g.ty.value ≡ false → (IsUnspelled ops → ⊥) → GlobalIsUnspelled g → ⊥
  spelled_by ops is not_exact spelled (ExactValue exact) = none_there (sym not_exact ∙ exact)
  spelled_by ops is not_exact spelled (UnspelledInitialiser others at unspelled) = spelled (subst IsUnspelled (some_inj others ops (sym at ∙ is)) unspelled)

  pub global_written : (raw : RawGlobal) (o : Option (List Op)) → g.initialiser ≡ o → g.origin ≡ Defined → raw.ty.mutable ≡ g.ty.mutable → raw.ty.shared ≡ g.ty.shared
      → (named_val names g.ty.value ≡ Some (val_of raw.ty.value)) × (val_is_exact g.ty.value ≡ false) → ValueStands raw.ty.value → IndexesInitialiser names o (Ok raw.initial) → ExpressionStands (expression raw.initial) → IndexesGlobal names g (Ok raw)
  global_written raw None is own mutable shared value stands u spelled = absurd u
  global_written raw (Some ops) is own mutable shared value stands h spelled = (
    found_by (Some (val_of raw.ty.value)) value.0 (Some (Some (consts_of (expression raw.initial))))
        (ap (named_initialiser names) is ∙ ap (λ (o : Option (List Op)). o >>= λ found. Some (Some found)) h.0)
        ∙ rw (own, mutable, shared) refl,
    record { ty = stands; initial = spelled },
    spelled_by ops is value.1 h.1,
  )
