-- A section's records behind the earlier ones, field by field.
use Rattle.std.proofs.Common.{◌≡◌, ℕ, List, [], ◌∷◌, ◌++◌, map, sym, ap, ◌∙◌}
use Rattle.std.proofs.lemmas.List.{map-append}
use Rattle.std.proofs.lemmas.Result.{err_from_is_err_and}
use Rattle.std.specs.Prelude.{Some, Result, OnOk, IsErrAnd}
use Rattle.wasm_entries.specs.declared.record.RawLimits.{RawLimits}
use Rattle.wasm_entries.specs.Record.{Group, Import, Table, Global, Export, Element, Segment}
use Rattle.wasm_frames.specs.declared.section.RawSection.{RawSection}
use Rattle.wasm_frames.specs.Steps.{section_record}
use Rattle.wasm_frames.specs.Record.{Body, Custom, Module}
use Rattle.wasm_frames.specs.Frames.{CustomSection, Types, Imports, Functions, Tables, Memories, Globals, Exports, Start, Elements, Code, DataSegments, DataCount, Tags, with_section}

-- longer lists, seen
pub seen : {X Y : Type 0} (v : X → Y) (xs ys zs : List X) → xs ≡ ys ++ zs → map v xs ≡ map v ys ++ map v zs
seen v xs ys zs e = ap (map v) e ∙ map-append v ys zs

-- an answer that isn't Ok says nothing of what is there then
pub not_ok : {E : Type 0} (Q : E → Type 0) (r : Result Unit E) (P : Type 0) → IsErrAnd r Q → OnOk r P
not_ok Q r P h = let p = err_from_is_err_and r h in rw p.1 tt

-- what a section adds, by what it is
pub by_section : (m : Module) (s t : RawSection) → s ≡ t → with_section m (section_record t) ≡ with_section m (section_record s)
by_section m s t e = ap (λ (x : RawSection). with_section m (section_record x)) (sym e)

pub customs_added : (m : Module) (cs : List Custom) (c : Custom) → cs ≡ m.customs ++ c ∷ [] → record m { customs = cs } ≡ with_section m (CustomSection c)
customs_added m cs c e = ap (λ (l : List Custom). record m { customs = l }) e

pub types_added : (m : Module) (ids : List ℕ) (all more : List Group) → ids ≡ m.order ++ 1 ∷ [] → all ≡ m.types ++ more → record m { order = ids; types = all } ≡ with_section m (Types more)
types_added m ids all more e h = ap (λ (l : List ℕ). record m { order = l; types = all }) e ∙ ap (λ (l : List Group). record m { order = m.order ++ 1 ∷ []; types = l }) h

pub imports_added : (m : Module) (ids : List ℕ) (all more : List Import) → ids ≡ m.order ++ 2 ∷ [] → all ≡ m.imports ++ more → record m { order = ids; imports = all } ≡ with_section m (Imports more)
imports_added m ids all more e h = ap (λ (l : List ℕ). record m { order = l; imports = all }) e ∙ ap (λ (l : List Import). record m { order = m.order ++ 2 ∷ []; imports = l }) h

pub functions_added : (m : Module) (ids : List ℕ) (all more : List ℕ) → ids ≡ m.order ++ 3 ∷ [] → all ≡ m.functions ++ more → record m { order = ids; functions = all } ≡ with_section m (Functions more)
functions_added m ids all more e h = ap (λ (l : List ℕ). record m { order = l; functions = all }) e ∙ ap (λ (l : List ℕ). record m { order = m.order ++ 3 ∷ []; functions = l }) h

pub tables_added : (m : Module) (ids : List ℕ) (all more : List Table) → ids ≡ m.order ++ 4 ∷ [] → all ≡ m.tables ++ more → record m { order = ids; tables = all } ≡ with_section m (Tables more)
tables_added m ids all more e h = ap (λ (l : List ℕ). record m { order = l; tables = all }) e ∙ ap (λ (l : List Table). record m { order = m.order ++ 4 ∷ []; tables = l }) h

pub memories_added : (m : Module) (ids : List ℕ) (all more : List RawLimits) → ids ≡ m.order ++ 5 ∷ [] → all ≡ m.memories ++ more → record m { order = ids; memories = all } ≡ with_section m (Memories more)
memories_added m ids all more e h = ap (λ (l : List ℕ). record m { order = l; memories = all }) e ∙ ap (λ (l : List RawLimits). record m { order = m.order ++ 5 ∷ []; memories = l }) h

pub globals_added : (m : Module) (ids : List ℕ) (all more : List Global) → ids ≡ m.order ++ 6 ∷ [] → all ≡ m.globals ++ more → record m { order = ids; globals = all } ≡ with_section m (Globals more)
globals_added m ids all more e h = ap (λ (l : List ℕ). record m { order = l; globals = all }) e ∙ ap (λ (l : List Global). record m { order = m.order ++ 6 ∷ []; globals = l }) h

pub exports_added : (m : Module) (ids : List ℕ) (all more : List Export) → ids ≡ m.order ++ 7 ∷ [] → all ≡ m.exports ++ more → record m { order = ids; exports = all } ≡ with_section m (Exports more)
exports_added m ids all more e h = ap (λ (l : List ℕ). record m { order = l; exports = all }) e ∙ ap (λ (l : List Export). record m { order = m.order ++ 7 ∷ []; exports = l }) h

pub start_added : (m : Module) (ids : List ℕ) (n : ℕ) → ids ≡ m.order ++ 8 ∷ [] → record m { order = ids; start = Some n } ≡ with_section m (Start n)
start_added m ids n e = ap (λ (l : List ℕ). record m { order = l; start = Some n }) e

pub elements_added : (m : Module) (ids : List ℕ) (all more : List Element) → ids ≡ m.order ++ 9 ∷ [] → all ≡ m.elements ++ more → record m { order = ids; elements = all } ≡ with_section m (Elements more)
elements_added m ids all more e h = ap (λ (l : List ℕ). record m { order = l; elements = all }) e ∙ ap (λ (l : List Element). record m { order = m.order ++ 9 ∷ []; elements = l }) h

pub bodies_added : (m : Module) (ids : List ℕ) (all more : List Body) → ids ≡ m.order ++ 10 ∷ [] → all ≡ m.bodies ++ more → record m { order = ids; bodies = all } ≡ with_section m (Code more)
bodies_added m ids all more e h = ap (λ (l : List ℕ). record m { order = l; bodies = all }) e ∙ ap (λ (l : List Body). record m { order = m.order ++ 10 ∷ []; bodies = l }) h

pub segments_added : (m : Module) (ids : List ℕ) (all more : List Segment) → ids ≡ m.order ++ 11 ∷ [] → all ≡ m.data_segments ++ more → record m { order = ids; data_segments = all } ≡ with_section m (DataSegments more)
segments_added m ids all more e h = ap (λ (l : List ℕ). record m { order = l; data_segments = all }) e ∙ ap (λ (l : List Segment). record m { order = m.order ++ 11 ∷ []; data_segments = l }) h

pub data_count_added : (m : Module) (ids : List ℕ) (n : ℕ) → ids ≡ m.order ++ 12 ∷ [] → record m { order = ids; data_count = Some n } ≡ with_section m (DataCount n)
data_count_added m ids n e = ap (λ (l : List ℕ). record m { order = l; data_count = Some n }) e

pub tags_added : (m : Module) (ids : List ℕ) (all more : List ℕ) → ids ≡ m.order ++ 13 ∷ [] → all ≡ m.tags ++ more → record m { order = ids; tags = all } ≡ with_section m (Tags more)
tags_added m ids all more e h = ap (λ (l : List ℕ). record m { order = l; tags = all }) e ∙ ap (λ (l : List ℕ). record m { order = m.order ++ 13 ∷ []; tags = l }) h
