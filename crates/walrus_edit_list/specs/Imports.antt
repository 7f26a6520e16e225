-- Imports that come with what they bring, and imports under other names ("Structure > Modules > Imports").
use Rattle.std.specs.Prelude.{ℕ, List, Some, None, ◌≡◌, ⊤}
use Rattle.walrus_base.specs.Id.{place}
use Rattle.walrus_base.specs.Operators.{Types}
use Rattle.walrus_base.specs.Types.{ValType}
use Rattle.walrus_base.specs.declared.id.Id.{Id}
use Rattle.walrus_base.specs.declared.keys.FunctionKey.{FunctionKey}
use Rattle.walrus_base.specs.declared.keys.GlobalKey.{GlobalKey}
use Rattle.walrus_base.specs.declared.keys.ImportKey.{ImportKey}
use Rattle.walrus_base.specs.declared.keys.TypeKey.{TypeKey}
use Rattle.walrus_code.specs.FromRaw.{val_of}
use Rattle.walrus_code.specs.Names.{named_val}
use Rattle.walrus_contents.specs.There.{IsRefusal}
use Rattle.walrus_contents.specs.declared.parts.Contents.{Contents}
use Rattle.walrus_items.specs.Functions.{functions}
use Rattle.walrus_items.specs.Globals.{globals}
use Rattle.walrus_items.specs.Imports.{imports}
use Rattle.walrus_items.specs.declared.error.Error.{Error}
use Rattle.walrus_items.specs.declared.error.Error.TheVariants.{InvalidWasm}
use Rattle.walrus_items.specs.declared.kinds.ImportKind.TheVariants as kinds
use Rattle.walrus_module.specs.Edits.{brought}
use Rattle.walrus_module.specs.Imported.{IsImported, imported_global}
use Rattle.wasm_entries.specs.Record.{Import}
use Rattle.wasm_entries.specs.declared.record.RawDesc.{RawDesc}
use Rattle.wasm_entries.specs.declared.record.RawDesc.TheVariants as descs
use Rattle.wasm_entries.specs.declared.record.RawGlobalType.{RawGlobalType}
use Rattle.walrus_edit_list.specs.Ids.{HasTooMany, ids_of}
use Rattle.walrus_edit_list.specs.Places.{ChangesAt, IsGone}
use Rattle.walrus_edit_list.specs.Refuses.{Refuses}
use Rattle.walrus_edit_list.specs.Turns.{InTurn, RefusesOne}

-- a function of the type of this number came, and its import, each behind the others
abbrev pub ImportsFunction : ℕ → (from name : List ℕ) → (old new : Contents) → Type 0
ImportsFunction number from name old new =
    (ty : Id TypeKey) × (ids : Id FunctionKey × Id ImportKey) × (ids_of old Types number ≡ Some (place ty))
    × IsImported ids (functions old.funcs) (functions new.funcs) (imports old.imports) (imports new.imports) from name (brought ty) kinds.Function
    × (new ≡ record old { funcs = new.funcs; imports = new.imports })

-- so did a global of this type, which names the ids of types
abbrev pub ImportsGlobal : RawGlobalType → (from name : List ℕ) → (old new : Contents) → Type 0
ImportsGlobal raw from name old new =
    (ty : ValType ℕ) × (ids : Id GlobalKey × Id ImportKey) × (named_val (ids_of old) (val_of raw.value) ≡ Some ty)
    × IsImported ids (globals old.globals) (globals new.globals) (imports old.imports) (imports new.imports) from name
    (imported_global ty raw.mutable raw.shared) kinds.Global
    × (new ≡ record old { globals = new.globals; imports = new.imports })

-- what an import brings came with it; nothing else than functions and globals comes so
abbrev pub Brings : RawDesc → (from name : List ℕ) → (old new : Contents) → Type 0
Brings (descs.Function ty) from name old new = ImportsFunction ty from name old new
Brings (descs.Global ty) from name old new = ImportsGlobal ty from name old new
Brings (descs.Table ty) from name old new = ⊥
Brings (descs.Memory ty) from name old new = ⊥
Brings (descs.Tag ty) from name old new = ⊥

-- an import came, with what it brings
abbrev pub AddsImport : Import → (old new : Contents) → Type 0
AddsImport i old new = Brings i.desc i.from i.name old new

-- imports of tables, memories and tags aren't taken
abbrev pub IsNotTaken : Error → Type 0
IsNotTaken (InvalidWasm kind) = ⊤
IsNotTaken _ = ⊥

-- what is brought so doesn't come: the type that it names isn't there
abbrev pub RefusesDesc : RawDesc → Contents → Error → Type 0
RefusesDesc (descs.Function ty) old e = Refuses (ids_of old Types ty ≡ None) (HasTooMany old) e
RefusesDesc (descs.Global ty) old e = Refuses (named_val (ids_of old) (val_of ty.value) ≡ None) (HasTooMany old) e
RefusesDesc (descs.Table ty) old e = IsNotTaken e
RefusesDesc (descs.Memory ty) old e = IsNotTaken e
RefusesDesc (descs.Tag ty) old e = IsNotTaken e

abbrev pub RefusesImport : Import → Contents → Error → Type 0
RefusesImport i old error = RefusesDesc i.desc old error

-- each of these came, one behind the other
abbrev pub AddsImports : List Import → (old new : Contents) → Type 0
AddsImports is old new = InTurn AddsImport is old new

abbrev pub RefusesImports : List Import → Contents → Error → Type 0
RefusesImports is old error = RefusesOne AddsImport RefusesImport is old error

-- the import of this id has other names; it brings what it brought
abbrev pub SetsImport : ℕ → (from name : List ℕ) → (old new : Contents) → Type 0
SetsImport i from name old new =
    ChangesAt i (λ was. record was { module_name = from; name = name }) (imports old.imports) (imports new.imports)
    × (new ≡ record old { imports = new.imports })

abbrev pub RefusesSetImport : ℕ → Contents → Error → Type 0
RefusesSetImport i old error = IsRefusal (IsGone (imports old.imports) i) error
