-- The steps of a list of items: for the functions inside.
use Rattle.std.specs.Prelude.{ℕ, ◌≡◌, ⊤, List, [], ◌∷◌, ◌++◌, Option, Result, Ok, Err}
use Rattle.std.specs.Global.{Vec}
use Rattle.walrus.specs.Contents.Contents.{Contents}
use Rattle.wasm_entries.specs.Record.{Group}
use Rattle.walrus.specs.Forms.Spelling.{row_bytes}
use Rattle.wasm_forms.specs.Writing.{Adds, EachFits}
use Rattle.wasm_forms.specs.declared.error.WireError.{WireError}
use Rattle.wasm_forms.specs.declared.error.WireError.TheVariants.{Malformed, Memory, TooLarge}
use Rattle.walrus.specs.Frames.Record as wire
use Rattle.walrus.specs.Frames.Record.{body_record, custom_record}
use Rattle.walrus_edits.specs.ItemRecords.{Told, ACustom, AFunction, AName, AProducer, ToldFits, told_bytes}
use Rattle.walrus_edits.specs.ItemValues.{AreTold}
use Rattle.walrus_edits.specs.declared.name_records.NameOf.{NameOf}
use Rattle.walrus_edits.specs.declared.producer_records.CustomWithId.{CustomWithId}
use Rattle.walrus_edits.specs.declared.producer_records.Producer.{Producer}
use Rattle.walrus_edits.specs.declared.section_records.DefinedFunction.{DefinedFunction}

-- what is told of these

abbrev pub defined_told : DefinedFunction → Told
defined_told f = AFunction f.ty (body_record f.body)

abbrev pub name_told : NameOf → Told
name_told n = AName n.what n.place n.name.now

abbrev pub producer_told : Producer → Told
producer_told p = AProducer p.field.now p.name.now p.version.now

abbrev pub custom_told : CustomWithId → Told
custom_told c = ACustom c.id (custom_record c.custom)

-- all of this is told behind what was there, and each record fits; only what does not fit is too large
abbrev pub PutsAll : {X : Type 0} → Result X WireError → (old new : List ℕ) → List Told → Type 0
PutsAll result old new told = Adds result old new (row_bytes told_bytes told) (EachFits ToldFits told)

-- the records of these parts, one part behind another
abbrev pub rows : List (List Told) → List ℕ
rows [] = []
rows (part ∷ parts) = row_bytes told_bytes part ++ rows parts

-- each record of these parts fits
abbrev pub RowsFit : List (List Told) → Type 0
RowsFit [] = Unit {0}
RowsFit (part ∷ parts) = EachFits ToldFits part × RowsFit parts

-- the same of parts
abbrev pub PutsParts : {X : Type 0} → Result X WireError → (old new : List ℕ) → List (List Told) → Type 0
PutsParts result old new parts = Adds result old new (rows parts) (RowsFit parts)

-- the list of what is told of these; refused: a count, a size or a limit in it passes 32 bits, or memory ran out
abbrev pub ListsItems : wire.Module → List Group → Contents → Result (Vec ℕ) WireError → Type 0
ListsItems sections groups contents (Ok list) = (told : List Told) × AreTold sections groups contents told × (list.items ≡ row_bytes told_bytes told) × EachFits ToldFits told
ListsItems sections groups contents (Err (Memory e)) = ⊤
ListsItems sections groups contents (Err TooLarge) = (told : List Told) × AreTold sections groups contents told × (EachFits ToldFits told → ⊥)
ListsItems sections groups contents (Err Malformed) = ⊥

-- the name of an item, by what contracts see of it
abbrev pub IsNameOf : {X S : Type 0} → (own : X → Option (List ℕ)) → (value : X → S) → (S → Option (List ℕ)) → Type 0
IsNameOf {X} own value name_of = (x : X) → own x ≡ name_of (value x)
