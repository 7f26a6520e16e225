-- The description of an item: what it says where its type has been put through a look-up, and what a refusal of the type says of it.
use Rattle.std.proofs.Common.{◌≡◌, ℕ, ◌<◌, ◌^◌, false, refl, sym, ap, ◌∙◌}
use Rattle.std.specs.Prelude.{Option, Some, None, option_map, Ok, Err}
use Rattle.wasm_forms.specs.Reading.{◌>>=◌}
use Rattle.wasm_forms.specs.Types.{ValueStands}
use Rattle.wasm_entries.specs.TypeSpelling.{LimitsStand, TableTypeStands}
use Rattle.wasm_entries.specs.declared.record.RawDesc.TheVariants as descs
use Rattle.wasm_entries.specs.declared.record.RawGlobalType.{RawGlobalType}
use Rattle.wasm_entries.specs.declared.record.RawLimits.{RawLimits}
use Rattle.wasm_entries.specs.declared.record.RawTableType.{RawTableType}
use Rattle.walrus_base.specs.Types.{RefType, ValType}
use Rattle.walrus_base.specs.Operators.{Types, Functions, Tables, Memories, Tags, Globals}
use Rattle.walrus_code.specs.FromRaw.{val_of}
use Rattle.walrus_code.specs.Names.{Lookup, named_val}
use Rattle.walrus_code.specs.Results.{IndexesIn, NeedsNoMemory, heap_is_exact, val_is_exact}
use Rattle.walrus_code.specs.declared.error.IrError.{IrError}
use Rattle.walrus_code.specs.declared.error.IrError.TheVariants as Ir
use Rattle.walrus_constants.specs.Named.{named_ref}
use Rattle.walrus_model.specs.Abstract.{Function, Global, ImportedBy, ImportedFunction, Memory, Table, Tag}
use Rattle.walrus_model.specs.Sections as said
use Rattle.walrus_writing.specs.Imported.{Describes, IndexesDesc}

module _ (names : Lookup) where
  -- ---- functions and tags

  abbrev brought_function : ℕ → ℕ → Function
  brought_function k ty = record { ty = ty; kind = ImportedFunction k }

  abbrev brought_tag : ℕ → ℕ → Tag
  brought_tag k ty = record { origin = ImportedBy k; ty = ty }

  pub function_described : (f : Function) (ty : ℕ) → Some ty ≡ names Types f.ty → ty < 2 ^ 32 → IndexesDesc names Functions f (Ok (descs.Function ty))
  function_described f ty is below = record {
    brings = λ k. record { thing = brought_function k ty; brings = refl; named = ap (option_map (brought_function k)) (sym is) };
    not_exact = refl;
    stands = below;
  }

  pub tag_described : (t : Tag) (ty : ℕ) → Some ty ≡ names Types t.ty → ty < 2 ^ 32 → IndexesDesc names Tags t (Ok (descs.Tag ty))
  tag_described t ty is below = record {
    brings = λ k. record { thing = brought_tag k ty; brings = refl; named = ap (option_map (brought_tag k)) (sym is) };
    not_exact = refl;
    stands = below;
  }

  -- ---- memories

  pub memory_described : (m : Memory) (l : RawLimits) → said.memory_type_of l ≡ m.ty → LimitsStand l → Describes names Memories m (descs.Memory l)
  memory_described m l is stand = record {
    brings = λ k. record { thing = record { origin = ImportedBy k; ty = said.memory_type_of l }; brings = refl; named = rw (is) refl };
    not_exact = refl;
    stands = stand;
  }

  -- ---- tables

  abbrev brought_table : Table → ℕ → RefType ℕ → Table
  brought_table t k element = record { origin = ImportedBy k; ty = record { limits = t.ty.limits; element = element }; initialiser = None }

  pub table_described : (t : Table) (raw : RawTableType) → said.limits_of raw.limits ≡ t.ty.limits → (named_ref names t.ty.element ≡ Some (said.ref_of raw.element)) × (heap_is_exact t.ty.element.heap ≡ false) → TableTypeStands raw
      → IndexesDesc names Tables t (Ok (descs.Table raw))
  table_described t raw limits element stand = record {
    brings = λ k. record {
      thing = record { origin = ImportedBy k; ty = said.table_type_of raw; initialiser = None };
      brings = refl;
      named = ap (λ (o : Option (RefType ℕ)). o >>= λ e. Some (brought_table t k e)) element.0 ∙ rw (limits) refl;
    };
    not_exact = element.1;
    stands = stand;
  }

  pub table_refused : {X : Type 0} (view : X → RefType ℕ) (t : Table) (e : IrError) → IndexesIn view (Err e) (heap_is_exact t.ty.element.heap) (named_ref names t.ty.element) → NeedsNoMemory {X = X} (Err e) → IndexesDesc names Tables t (Err e)
  table_refused view t Ir.NoIndex none u = λ k. ap (λ (o : Option (RefType ℕ)). o >>= λ e. Some (brought_table t k e)) none
  table_refused view t Ir.NotWritable exact u = exact
  table_refused view t (Ir.Memory m) h u = absurd u
  table_refused view t Ir.Malformed h u = absurd h
  table_refused view t Ir.TooLarge h u = absurd h

  -- ---- globals

  abbrev brought_global : Global → ℕ → ValType ℕ → Global
  brought_global g k value = record { origin = ImportedBy k; ty = record { value = value; mutable = g.ty.mutable; shared = g.ty.shared }; initialiser = None }

  pub global_described : (g : Global) (raw : RawGlobalType) → raw.mutable ≡ g.ty.mutable → raw.shared ≡ g.ty.shared → (named_val names g.ty.value ≡ Some (val_of raw.value)) × (val_is_exact g.ty.value ≡ false) → ValueStands raw.value
      → IndexesDesc names Globals g (Ok (descs.Global raw))
  global_described g raw mutable shared value stand = record {
    brings = λ k. record {
      thing = record { origin = ImportedBy k; ty = said.global_type_of raw; initialiser = None };
      brings = refl;
      named = ap (λ (o : Option (ValType ℕ)). o >>= λ e. Some (brought_global g k e)) value.0 ∙ rw (mutable, shared) refl;
    };
    not_exact = value.1;
    stands = stand;
  }

  pub global_refused : {X : Type 0} (view : X → ValType ℕ) (g : Global) (e : IrError) → IndexesIn view (Err e) (val_is_exact g.ty.value) (named_val names g.ty.value) → NeedsNoMemory {X = X} (Err e) → IndexesDesc names Globals g (Err e)
  global_refused view g Ir.NoIndex none u = λ k. ap (λ (o : Option (ValType ℕ)). o >>= λ e. Some (brought_global g k e)) none
  global_refused view g Ir.NotWritable exact u = exact
  global_refused view g (Ir.Memory m) h u = absurd u
  global_refused view g Ir.Malformed h u = absurd h
  global_refused view g Ir.TooLarge h u = absurd h
