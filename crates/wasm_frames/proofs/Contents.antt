-- What was read of a section's content stands there, by the section's id.
use Rattle.std.proofs.Common.{◌≡◌, ℕ, true, false, List, refl, ap, eqb-true}
use Rattle.std.specs.Prelude.{Option, Some, None, Bool, Result, IsErrAnd, nat_eq, if◌then◌else◌}
use Rattle.std.proofs.lemmas.Result.{err_from_is_err_and}
use Rattle.wasm_forms.specs.declared.error.WireError.{WireError}
use Rattle.wasm_forms.specs.Reading.{◌>>=◌, Refuses, Gives}
use Rattle.wasm_forms.specs.Grammar.{Vector, U32}
use Rattle.wasm_forms.proofs.Bind.{bind_at}
use Rattle.wasm_forms.proofs.Refused.{refused}
use Rattle.wasm_entries.specs.TypeForms.{group_form, memory_type, tag_type}
use Rattle.wasm_entries.specs.Forms.{import_form, table_form, global_form, export_form, element_form, data_form}
use Rattle.wasm_entries.specs.declared.record.RawLimits.{RawLimits}
use Rattle.wasm_entries.specs.Record.{Group, Import, Table, Global, Export, Element, Segment}
use Rattle.wasm_frames.specs.Record.{Body, Custom}
use Rattle.wasm_frames.specs.Frames.{Section, CustomSection, Types, Imports, Functions, Tables, Memories, Globals, Exports, Start, Elements, Code, DataSegments, DataCount, Tags}
use Rattle.wasm_frames.specs.Steps.{whole, whole_code, custom_at, content_of, content_at}

-- a part that is read, and put in a section
abbrev Puts : {A : Type 0} → ℕ → (List ℕ → Option A) → (A → Section) → ℕ → Type 0
Puts {A} id part make place = (bytes : List ℕ) → content_at id place bytes ≡ (part bytes >>= λ a. Some (make a))

found_by : {A : Type 0} (k id place : ℕ) (part : List ℕ → Option A) (make : A → Section) (bytes : List ℕ) (a : A) → Puts k part make place → id ≡ k → part bytes ≡ Some a → content_at id place bytes ≡ Some (make a)
found_by {A} k id place part make bytes a puts is e = rw (is, puts bytes) (bind_at (part bytes) (λ (a : A). Some (make a)) a e)

refused_by : {A X : Type 0} (k id place : ℕ) (part : List ℕ → Option A) (make : A → Section) (bytes : List ℕ) (view : X → Section) (r : Result X WireError) (e : WireError) → Puts k part make place → id ≡ k
    → Refuses e (part bytes) → IsErrAnd r (λ y. y ≡ e) → Gives view r (content_at id place bytes)
refused_by {A} k id place part make bytes view r e puts is h given =
    let p = err_from_is_err_and r given in
    rw (p.1, p.2, is, puts bytes) (refused e (part bytes) (part bytes >>= λ (a : A). Some (make a)) h (λ none. ap (λ (o : Option A). o >>= λ (a : A). Some (make a)) none))

custom_put : (place : ℕ) → Puts 0 custom_at CustomSection place
unfolding content_at
custom_put place bytes = refl

pub custom_found : (id place : ℕ) (bytes : List ℕ) (a : Custom) → id ≡ 0 → custom_at bytes ≡ Some a → content_at id place bytes ≡ Some (CustomSection a)
custom_found id place bytes a is e = found_by 0 id place custom_at CustomSection bytes a (custom_put place) is e

pub custom_refused : {X : Type 0} (id place : ℕ) (bytes : List ℕ) (view : X → Section) (r : Result X WireError) (e : WireError) → id ≡ 0 → Refuses e (custom_at bytes) → IsErrAnd r (λ y. y ≡ e) → Gives view r (content_at id place bytes)
custom_refused id place bytes view r e is h given = refused_by 0 id place custom_at CustomSection bytes view r e (custom_put place) is h given

types_put : (place : ℕ) → Puts 1 (whole (Vector group_form)) Types place
unfolding content_at content_of
types_put place bytes = refl

pub types_found : (id place : ℕ) (bytes : List ℕ) (a : List Group) → id ≡ 1 → whole (Vector group_form) bytes ≡ Some a → content_at id place bytes ≡ Some (Types a)
types_found id place bytes a is e = found_by 1 id place (whole (Vector group_form)) Types bytes a (types_put place) is e

pub types_refused : {X : Type 0} (id place : ℕ) (bytes : List ℕ) (view : X → Section) (r : Result X WireError) (e : WireError) → id ≡ 1 → Refuses e (whole (Vector group_form) bytes) → IsErrAnd r (λ y. y ≡ e) → Gives view r (content_at id place bytes)
types_refused id place bytes view r e is h given = refused_by 1 id place (whole (Vector group_form)) Types bytes view r e (types_put place) is h given

imports_put : (place : ℕ) → Puts 2 (whole (Vector import_form)) Imports place
unfolding content_at content_of
imports_put place bytes = refl

pub imports_found : (id place : ℕ) (bytes : List ℕ) (a : List Import) → id ≡ 2 → whole (Vector import_form) bytes ≡ Some a → content_at id place bytes ≡ Some (Imports a)
imports_found id place bytes a is e = found_by 2 id place (whole (Vector import_form)) Imports bytes a (imports_put place) is e

pub imports_refused : {X : Type 0} (id place : ℕ) (bytes : List ℕ) (view : X → Section) (r : Result X WireError) (e : WireError) → id ≡ 2 → Refuses e (whole (Vector import_form) bytes) → IsErrAnd r (λ y. y ≡ e) → Gives view r (content_at id place bytes)
imports_refused id place bytes view r e is h given = refused_by 2 id place (whole (Vector import_form)) Imports bytes view r e (imports_put place) is h given

functions_put : (place : ℕ) → Puts 3 (whole (Vector U32)) Functions place
unfolding content_at content_of
functions_put place bytes = refl

pub functions_found : (id place : ℕ) (bytes : List ℕ) (a : List ℕ) → id ≡ 3 → whole (Vector U32) bytes ≡ Some a → content_at id place bytes ≡ Some (Functions a)
functions_found id place bytes a is e = found_by 3 id place (whole (Vector U32)) Functions bytes a (functions_put place) is e

pub functions_refused : {X : Type 0} (id place : ℕ) (bytes : List ℕ) (view : X → Section) (r : Result X WireError) (e : WireError) → id ≡ 3 → Refuses e (whole (Vector U32) bytes) → IsErrAnd r (λ y. y ≡ e) → Gives view r (content_at id place bytes)
functions_refused id place bytes view r e is h given = refused_by 3 id place (whole (Vector U32)) Functions bytes view r e (functions_put place) is h given

tables_put : (place : ℕ) → Puts 4 (whole (Vector table_form)) Tables place
unfolding content_at content_of
tables_put place bytes = refl

pub tables_found : (id place : ℕ) (bytes : List ℕ) (a : List Table) → id ≡ 4 → whole (Vector table_form) bytes ≡ Some a → content_at id place bytes ≡ Some (Tables a)
tables_found id place bytes a is e = found_by 4 id place (whole (Vector table_form)) Tables bytes a (tables_put place) is e

pub tables_refused : {X : Type 0} (id place : ℕ) (bytes : List ℕ) (view : X → Section) (r : Result X WireError) (e : WireError) → id ≡ 4 → Refuses e (whole (Vector table_form) bytes) → IsErrAnd r (λ y. y ≡ e) → Gives view r (content_at id place bytes)
tables_refused id place bytes view r e is h given = refused_by 4 id place (whole (Vector table_form)) Tables bytes view r e (tables_put place) is h given

memories_put : (place : ℕ) → Puts 5 (whole (Vector memory_type)) Memories place
unfolding content_at content_of
memories_put place bytes = refl

pub memories_found : (id place : ℕ) (bytes : List ℕ) (a : List RawLimits) → id ≡ 5 → whole (Vector memory_type) bytes ≡ Some a → content_at id place bytes ≡ Some (Memories a)
memories_found id place bytes a is e = found_by 5 id place (whole (Vector memory_type)) Memories bytes a (memories_put place) is e

pub memories_refused : {X : Type 0} (id place : ℕ) (bytes : List ℕ) (view : X → Section) (r : Result X WireError) (e : WireError) → id ≡ 5 → Refuses e (whole (Vector memory_type) bytes) → IsErrAnd r (λ y. y ≡ e) → Gives view r (content_at id place bytes)
memories_refused id place bytes view r e is h given = refused_by 5 id place (whole (Vector memory_type)) Memories bytes view r e (memories_put place) is h given

globals_put : (place : ℕ) → Puts 6 (whole (Vector global_form)) Globals place
unfolding content_at content_of
globals_put place bytes = refl

pub globals_found : (id place : ℕ) (bytes : List ℕ) (a : List Global) → id ≡ 6 → whole (Vector global_form) bytes ≡ Some a → content_at id place bytes ≡ Some (Globals a)
globals_found id place bytes a is e = found_by 6 id place (whole (Vector global_form)) Globals bytes a (globals_put place) is e

pub globals_refused : {X : Type 0} (id place : ℕ) (bytes : List ℕ) (view : X → Section) (r : Result X WireError) (e : WireError) → id ≡ 6 → Refuses e (whole (Vector global_form) bytes) → IsErrAnd r (λ y. y ≡ e) → Gives view r (content_at id place bytes)
globals_refused id place bytes view r e is h given = refused_by 6 id place (whole (Vector global_form)) Globals bytes view r e (globals_put place) is h given

exports_put : (place : ℕ) → Puts 7 (whole (Vector export_form)) Exports place
unfolding content_at content_of
exports_put place bytes = refl

pub exports_found : (id place : ℕ) (bytes : List ℕ) (a : List Export) → id ≡ 7 → whole (Vector export_form) bytes ≡ Some a → content_at id place bytes ≡ Some (Exports a)
exports_found id place bytes a is e = found_by 7 id place (whole (Vector export_form)) Exports bytes a (exports_put place) is e

pub exports_refused : {X : Type 0} (id place : ℕ) (bytes : List ℕ) (view : X → Section) (r : Result X WireError) (e : WireError) → id ≡ 7 → Refuses e (whole (Vector export_form) bytes) → IsErrAnd r (λ y. y ≡ e) → Gives view r (content_at id place bytes)
exports_refused id place bytes view r e is h given = refused_by 7 id place (whole (Vector export_form)) Exports bytes view r e (exports_put place) is h given

start_put : (place : ℕ) → Puts 8 (whole U32) Start place
unfolding content_at content_of
start_put place bytes = refl

pub start_found : (id place : ℕ) (bytes : List ℕ) (a : ℕ) → id ≡ 8 → whole U32 bytes ≡ Some a → content_at id place bytes ≡ Some (Start a)
start_found id place bytes a is e = found_by 8 id place (whole U32) Start bytes a (start_put place) is e

pub start_refused : {X : Type 0} (id place : ℕ) (bytes : List ℕ) (view : X → Section) (r : Result X WireError) (e : WireError) → id ≡ 8 → Refuses e (whole U32 bytes) → IsErrAnd r (λ y. y ≡ e) → Gives view r (content_at id place bytes)
start_refused id place bytes view r e is h given = refused_by 8 id place (whole U32) Start bytes view r e (start_put place) is h given

elements_put : (place : ℕ) → Puts 9 (whole (Vector element_form)) Elements place
unfolding content_at content_of
elements_put place bytes = refl

pub elements_found : (id place : ℕ) (bytes : List ℕ) (a : List Element) → id ≡ 9 → whole (Vector element_form) bytes ≡ Some a → content_at id place bytes ≡ Some (Elements a)
elements_found id place bytes a is e = found_by 9 id place (whole (Vector element_form)) Elements bytes a (elements_put place) is e

pub elements_refused : {X : Type 0} (id place : ℕ) (bytes : List ℕ) (view : X → Section) (r : Result X WireError) (e : WireError) → id ≡ 9 → Refuses e (whole (Vector element_form) bytes) → IsErrAnd r (λ y. y ≡ e) → Gives view r (content_at id place bytes)
elements_refused id place bytes view r e is h given = refused_by 9 id place (whole (Vector element_form)) Elements bytes view r e (elements_put place) is h given

code_put : (place : ℕ) → Puts 10 (whole_code place) Code place
unfolding content_at
code_put place bytes = refl

pub code_found : (id place : ℕ) (bytes : List ℕ) (a : List Body) → id ≡ 10 → whole_code place bytes ≡ Some a → content_at id place bytes ≡ Some (Code a)
code_found id place bytes a is e = found_by 10 id place (whole_code place) Code bytes a (code_put place) is e

pub code_refused : {X : Type 0} (id place : ℕ) (bytes : List ℕ) (view : X → Section) (r : Result X WireError) (e : WireError) → id ≡ 10 → Refuses e (whole_code place bytes) → IsErrAnd r (λ y. y ≡ e) → Gives view r (content_at id place bytes)
code_refused id place bytes view r e is h given = refused_by 10 id place (whole_code place) Code bytes view r e (code_put place) is h given

segments_put : (place : ℕ) → Puts 11 (whole (Vector data_form)) DataSegments place
unfolding content_at content_of
segments_put place bytes = refl

pub segments_found : (id place : ℕ) (bytes : List ℕ) (a : List Segment) → id ≡ 11 → whole (Vector data_form) bytes ≡ Some a → content_at id place bytes ≡ Some (DataSegments a)
segments_found id place bytes a is e = found_by 11 id place (whole (Vector data_form)) DataSegments bytes a (segments_put place) is e

pub segments_refused : {X : Type 0} (id place : ℕ) (bytes : List ℕ) (view : X → Section) (r : Result X WireError) (e : WireError) → id ≡ 11 → Refuses e (whole (Vector data_form) bytes) → IsErrAnd r (λ y. y ≡ e) → Gives view r (content_at id place bytes)
segments_refused id place bytes view r e is h given = refused_by 11 id place (whole (Vector data_form)) DataSegments bytes view r e (segments_put place) is h given

data_count_put : (place : ℕ) → Puts 12 (whole U32) DataCount place
unfolding content_at content_of
data_count_put place bytes = refl

pub data_count_found : (id place : ℕ) (bytes : List ℕ) (a : ℕ) → id ≡ 12 → whole U32 bytes ≡ Some a → content_at id place bytes ≡ Some (DataCount a)
data_count_found id place bytes a is e = found_by 12 id place (whole U32) DataCount bytes a (data_count_put place) is e

pub data_count_refused : {X : Type 0} (id place : ℕ) (bytes : List ℕ) (view : X → Section) (r : Result X WireError) (e : WireError) → id ≡ 12 → Refuses e (whole U32 bytes) → IsErrAnd r (λ y. y ≡ e) → Gives view r (content_at id place bytes)
data_count_refused id place bytes view r e is h given = refused_by 12 id place (whole U32) DataCount bytes view r e (data_count_put place) is h given

tags_put : (place : ℕ) → Puts 13 (whole (Vector tag_type)) Tags place
unfolding content_at content_of
tags_put place bytes = refl

pub tags_found : (id place : ℕ) (bytes : List ℕ) (a : List ℕ) → id ≡ 13 → whole (Vector tag_type) bytes ≡ Some a → content_at id place bytes ≡ Some (Tags a)
tags_found id place bytes a is e = found_by 13 id place (whole (Vector tag_type)) Tags bytes a (tags_put place) is e

pub tags_refused : {X : Type 0} (id place : ℕ) (bytes : List ℕ) (view : X → Section) (r : Result X WireError) (e : WireError) → id ≡ 13 → Refuses e (whole (Vector tag_type) bytes) → IsErrAnd r (λ y. y ≡ e) → Gives view r (content_at id place bytes)
tags_refused id place bytes view r e is h given = refused_by 13 id place (whole (Vector tag_type)) Tags bytes view r e (tags_put place) is h given

-- no section has another id
skip : {A : Type 0} (id k : ℕ) (t : Bool) (some other : Option A) → nat_eq id k ≡ t → (id ≡ k → ⊥) → other ≡ None → (if t then some else other) ≡ None
skip id k true some other e not h = absurd (not (eqb-true id k e))
skip id k false some other e not h = h

pub no_content : (id place : ℕ) (bytes : List ℕ) → (id ≡ 0 → ⊥) → (id ≡ 1 → ⊥) → (id ≡ 2 → ⊥) → (id ≡ 3 → ⊥) → (id ≡ 4 → ⊥) → (id ≡ 5 → ⊥) → (id ≡ 6 → ⊥) → (id ≡ 7 → ⊥) → (id ≡ 8 → ⊥) → (id ≡ 9 → ⊥) → (id ≡ 10 → ⊥) → (id ≡ 11 → ⊥) → (id ≡ 12 → ⊥) → (id ≡ 13 → ⊥) → content_at id place bytes ≡ None
unfolding content_at
no_content id place bytes n0 n1 n2 n3 n4 n5 n6 n7 n8 n9 n10 n11 n12 n13 =
    skip id 0 (nat_eq id 0) _ _ refl n0
    (skip id 1 (nat_eq id 1) _ _ refl n1
    (skip id 2 (nat_eq id 2) _ _ refl n2
    (skip id 3 (nat_eq id 3) _ _ refl n3
    (skip id 4 (nat_eq id 4) _ _ refl n4
    (skip id 5 (nat_eq id 5) _ _ refl n5
    (skip id 6 (nat_eq id 6) _ _ refl n6
    (skip id 7 (nat_eq id 7) _ _ refl n7
    (skip id 8 (nat_eq id 8) _ _ refl n8
    (skip id 9 (nat_eq id 9) _ _ refl n9
    (skip id 10 (nat_eq id 10) _ _ refl n10
    (skip id 11 (nat_eq id 11) _ _ refl n11
    (skip id 12 (nat_eq id 12) _ _ refl n12
    (skip id 13 (nat_eq id 13) _ _ refl n13 refl)))))))))))))
