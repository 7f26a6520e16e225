-- An item that is added together with the import that brings it ("Structure > Modules > Imports").
use Rattle.std.specs.Prelude.{ℕ, Bool, List, [], ◌∷◌, ◌++◌, length, Option, Some, None, Result, MatchResult, ◌≡◌}
use Rattle.walrus_base.specs.Id.{place}
use Rattle.walrus_base.specs.declared.id.Id.{Id}
use Rattle.walrus_base.specs.declared.keys.ImportKey.{ImportKey}
use Rattle.walrus_base.specs.Types.{RefType, ValType}
use Rattle.walrus_items.specs.Added.{no_segments}
use Rattle.walrus_items.specs.Globals.{GlobalValue}
use Rattle.walrus_items.specs.Imports.{ImportValue}
use Rattle.walrus_items.specs.Memories.{MemoryValue}
use Rattle.walrus_items.specs.Tables.{TableValue}
use Rattle.walrus_items.specs.declared.kinds.ImportKind.{ImportKind}
use Rattle.walrus_items.specs.Errors.{out_of_memory}
use Rattle.walrus_items.specs.declared.error.Error.{Error}

-- an item and an import stand behind all others of their collections, under the ids that are answered, and name each other
pub record IsImported {K T : Type 0} (ids : Id K × Id ImportKey) (old new : List (Option T)) (before after : List (Option ImportValue)) (module_name name : List ℕ) (item : ℕ → Id ImportKey → T) (kind : Id K → ImportKind) : Type 0 where
  pub item_id : place ids.0 ≡ length old
  pub import_id : place ids.1 ≡ length before
  pub items : new ≡ old ++ Some (item (place ids.0) ids.1) ∷ []
  pub imports : after ≡ before ++ Some (record { id = place ids.1; module_name = module_name; name = name; kind = kind ids.0 }) ∷ []

-- both are added; or a request for memory was refused, and nothing changes
abbrev pub AddsImported : {K T : Type 0} → Result (Id K × Id ImportKey) Error → (old new : List (Option T)) → (before after : List (Option ImportValue)) → (module_name name : List ℕ) → (item : ℕ → Id ImportKey → T) → (kind : Id K → ImportKind) → Type 0
AddsImported result old new before after module_name name item kind =
    MatchResult result
    (λ ids. IsImported ids old new before after module_name name item kind)
    (λ e. (e ≡ out_of_memory) × ((new ≡ old) × (after ≡ before)))

-- a table of this type under this id, brought by this import; it isn't initialised, no segment is active in it, and it has no name
abbrev pub imported_table : (table64 : Bool) (initial : ℕ) (maximum : Option ℕ) (element : RefType ℕ) (own : ℕ) → Id ImportKey → TableValue
imported_table table64 initial maximum element own «import» = record {
  id = own;
  table64 = table64;
  initial = initial;
  maximum = maximum;
  element = element;
  initialiser = None;
  imported_by = Some (place «import»);
  segments = no_segments;
  name = None;
}

-- a memory of this type under this id, brought by this import; no segment is active in it, and it has no name
abbrev pub imported_memory : (shared memory64 : Bool) (initial : ℕ) (maximum page_size_log2 : Option ℕ) (own : ℕ) → Id ImportKey → MemoryValue
imported_memory shared memory64 initial maximum page_size_log2 own «import» = record {
  id = own;
  shared = shared;
  memory64 = memory64;
  initial = initial;
  maximum = maximum;
  page_size_log2 = page_size_log2;
  imported_by = Some (place «import»);
  segments = no_segments;
  name = None;
}

-- a global of this type under this id, brought by this import; it isn't initialised, and has no name
abbrev pub imported_global : (ty : ValType ℕ) (mutable shared : Bool) (own : ℕ) → Id ImportKey → GlobalValue
imported_global ty mutable shared own «import» = record {
  id = own;
  ty = ty;
  mutable = mutable;
  shared = shared;
  imported_by = Some (place «import»);
  initialiser = None;
  name = None;
}
