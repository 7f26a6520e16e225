-- What the sections of a text hold is what it lists; and each list stands as its section does.
use Rattle.std.proofs.Common.{◌≡◌, ℕ, List, [], ◌∷◌, ◌++◌, map, refl, sym, ap, ◌∙◌, append_assoc}
use Rattle.std.specs.Prelude.{Option, Some, None, codes}
use Rattle.std.proofs.lemmas.List.{append-nil}
use Rattle.wasm_forms.specs.Spelling.{vector_bytes}
use Rattle.wasm_entries.specs.declared.record.RawLimits.{RawLimits}
use Rattle.wasm_entries.specs.Record.{Group, Import, Table, Global, Export, Element, Segment}
use Rattle.wasm_frames.specs.Record as wire
use Rattle.wasm_frames.specs.Record.{no_sections}
use Rattle.wasm_frames.specs.Frames as frames
use Rattle.wasm_frames.specs.Frames.{Section, CustomSection, with_section, gathered_onto, gathered}
use Rattle.walrus_model.specs.Abstract.{Name}
use Rattle.walrus_theorem.specs.Text.{Text, listed, if_some, custom, sections_of, unplaced, names_bytes, field_bytes}

-- ---- sections, one step at a time, their order aside

abbrev pub bare : wire.Module → wire.Module
bare m = record m { order = [] }

-- these sections change a module so
record Acts (ss : List Section) (f : wire.Module → wire.Module) : Type 0 where
  on : (m : wire.Module) → bare (gathered_onto m ss) ≡ f (bare m)

onto_both : (m : wire.Module) (xs ys : List Section) → gathered_onto m (xs ++ ys) ≡ gathered_onto (gathered_onto m xs) ys
onto_both m [] ys = refl
onto_both m (x ∷ xs) ys = onto_both (with_section m x) xs ys

then : {xs ys : List Section} {f g : wire.Module → wire.Module} → Acts xs f → Acts ys g → Acts (xs ++ ys) (λ m. g (f m))
then {xs} {ys} {f} {g} a b = record { on = λ m. ap bare (onto_both m xs ys) ∙ b.on (gathered_onto m xs) ∙ ap g (a.on m) }

abbrev pub later : Option ℕ → Option ℕ → Option ℕ
later None old = old
later (Some n) old = Some n

types_act : (xs : List Group) → Acts (listed frames.Types xs) (λ m. record m { types = m.types ++ xs })
types_act [] = record { on = λ m. ap (λ l. record (bare m) { types = l }) (sym (append-nil m.types)) }
types_act (x ∷ xs) = record { on = λ m. refl }

imports_act : (xs : List Import) → Acts (listed frames.Imports xs) (λ m. record m { imports = m.imports ++ xs })
imports_act [] = record { on = λ m. ap (λ l. record (bare m) { imports = l }) (sym (append-nil m.imports)) }
imports_act (x ∷ xs) = record { on = λ m. refl }

functions_act : (xs : List ℕ) → Acts (listed frames.Functions xs) (λ m. record m { functions = m.functions ++ xs })
functions_act [] = record { on = λ m. ap (λ l. record (bare m) { functions = l }) (sym (append-nil m.functions)) }
functions_act (x ∷ xs) = record { on = λ m. refl }

tables_act : (xs : List Table) → Acts (listed frames.Tables xs) (λ m. record m { tables = m.tables ++ xs })
tables_act [] = record { on = λ m. ap (λ l. record (bare m) { tables = l }) (sym (append-nil m.tables)) }
tables_act (x ∷ xs) = record { on = λ m. refl }

memories_act : (xs : List RawLimits) → Acts (listed frames.Memories xs) (λ m. record m { memories = m.memories ++ xs })
memories_act [] = record { on = λ m. ap (λ l. record (bare m) { memories = l }) (sym (append-nil m.memories)) }
memories_act (x ∷ xs) = record { on = λ m. refl }

tags_act : (xs : List ℕ) → Acts (listed frames.Tags xs) (λ m. record m { tags = m.tags ++ xs })
tags_act [] = record { on = λ m. ap (λ l. record (bare m) { tags = l }) (sym (append-nil m.tags)) }
tags_act (x ∷ xs) = record { on = λ m. refl }

globals_act : (xs : List Global) → Acts (listed frames.Globals xs) (λ m. record m { globals = m.globals ++ xs })
globals_act [] = record { on = λ m. ap (λ l. record (bare m) { globals = l }) (sym (append-nil m.globals)) }
globals_act (x ∷ xs) = record { on = λ m. refl }

exports_act : (xs : List Export) → Acts (listed frames.Exports xs) (λ m. record m { exports = m.exports ++ xs })
exports_act [] = record { on = λ m. ap (λ l. record (bare m) { exports = l }) (sym (append-nil m.exports)) }
exports_act (x ∷ xs) = record { on = λ m. refl }

start_acts : (o : Option ℕ) → Acts (if_some frames.Start o) (λ m. record m { start = later o m.start })
start_acts None = record { on = λ m. refl }
start_acts (Some n) = record { on = λ m. refl }

elements_act : (xs : List Element) → Acts (listed frames.Elements xs) (λ m. record m { elements = m.elements ++ xs })
elements_act [] = record { on = λ m. ap (λ l. record (bare m) { elements = l }) (sym (append-nil m.elements)) }
elements_act (x ∷ xs) = record { on = λ m. refl }

count_acts : (o : Option ℕ) → Acts (if_some frames.DataCount o) (λ m. record m { data_count = later o m.data_count })
count_acts None = record { on = λ m. refl }
count_acts (Some n) = record { on = λ m. refl }

bodies_act : (xs : List wire.Body) → Acts (listed frames.Code xs) (λ m. record m { bodies = m.bodies ++ xs })
bodies_act [] = record { on = λ m. ap (λ l. record (bare m) { bodies = l }) (sym (append-nil m.bodies)) }
bodies_act (x ∷ xs) = record { on = λ m. refl }

data_acts : (xs : List Segment) → Acts (listed frames.DataSegments xs) (λ m. record m { data_segments = m.data_segments ++ xs })
data_acts [] = record { on = λ m. ap (λ l. record (bare m) { data_segments = l }) (sym (append-nil m.data_segments)) }
data_acts (x ∷ xs) = record { on = λ m. refl }

abbrev pub more : {A : Type 0} → Name → (List A → List ℕ) → List A → List wire.Custom
more name spell [] = []
more name spell (x ∷ xs) = record { name = name; bytes = spell (x ∷ xs) } ∷ []

custom_acts : {A : Type 0} (name : Name) (spell : List A → List ℕ) (xs : List A) → Acts (listed (λ ys. custom name (spell ys)) xs) (λ m. record m { customs = m.customs ++ more name spell xs })
custom_acts name spell [] = record { on = λ m. ap (λ l. record (bare m) { customs = l }) (sym (append-nil m.customs)) }
custom_acts name spell (x ∷ xs) = record { on = λ m. refl }

customs_on : (cs : List wire.Custom) (m : wire.Module) → bare (gathered_onto m (map CustomSection cs)) ≡ record (bare m) { customs = m.customs ++ cs }
customs_on [] m = ap (λ l. record (bare m) { customs = l }) (sym (append-nil m.customs))
customs_on (c ∷ cs) m = customs_on cs (with_section m (CustomSection c)) ∙ ap (λ l. record (bare m) { customs = l }) (append_assoc m.customs (c ∷ []) cs)

customs_act : (cs : List wire.Custom) → Acts (map CustomSection cs) (λ m. record m { customs = m.customs ++ cs })
customs_act cs = record { on = λ m. customs_on cs m }

-- ---- all of them

abbrev pub customs_in : Text → List wire.Custom
customs_in t = t.dylinks ++ more (codes "name") (λ bytes. bytes) (names_bytes t.names) ++ more (codes "producers") (vector_bytes field_bytes) t.producers ++ t.others

abbrev pub laid : Text → wire.Module
laid t = record {
  order = [];
  types = t.types;
  imports = t.imports;
  functions = t.functions;
  tables = t.tables;
  memories = t.memories;
  tags = t.tags;
  globals = t.globals;
  exports = t.exports;
  start = later t.start None;
  elements = t.elements;
  data_count = later t.data_count None;
  bodies = map unplaced t.bodies;
  data_segments = t.data_segments;
  customs = customs_in t;
}

pub later_none : (o : Option ℕ) → later o None ≡ o
later_none None = refl
later_none (Some n) = refl

pub laid_out : (t : Text) → bare (gathered (sections_of t)) ≡ laid t
laid_out t =
    let all = then (then (then (then (then (then (then (then (then (then (then (then (then (then (then (then
    (customs_act t.dylinks) (types_act t.types)) (imports_act t.imports)) (functions_act t.functions)) (tables_act t.tables)) (memories_act t.memories))
    (tags_act t.tags)) (globals_act t.globals)) (exports_act t.exports)) (start_acts t.start)) (elements_act t.elements)) (count_acts t.data_count))
    (bodies_act (map unplaced t.bodies))) (data_acts t.data_segments)) (custom_acts (codes "name") (λ bytes. bytes) (names_bytes t.names)))
    (custom_acts (codes "producers") (vector_bytes field_bytes) t.producers)) (customs_act t.others) in
    all.on no_sections
