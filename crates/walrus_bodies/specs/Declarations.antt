-- What a contract sees of the locals that a body declares.
use Rattle.std.specs.Prelude.{◌≡◌, ℕ, List, ◌++◌, map, Result, Ok, Err}
use Rattle.wasm_forms.specs.declared.types.RawVal.{RawVal}
use Rattle.wasm_forms.specs.Grammar.{Is}
use Rattle.wasm_forms.specs.Spelling.{number_bytes}
use Rattle.wasm_forms.specs.Types.{value_bytes}
use Rattle.walrus_code.specs.declared.error.IrError.{IrError}
use Rattle.walrus_code.specs.declared.error.IrError.TheVariants.{Malformed, Memory, NoIndex, NotWritable, TooLarge}
use Rattle.walrus_bodies.specs.declared.declarations.Declaration.{Declaration}
use Rattle.walrus_bodies.specs.Body.{declarations}

-- the count and the type
abbrev pub declaration : Declaration → ℕ × RawVal
declaration d = (d.count, d.value)

-- how it is written
abbrev pub spelling : Declaration → List ℕ
spelling d = number_bytes d.count ++ value_bytes d.value

abbrev pub declarations_of : List Declaration → List (ℕ × RawVal)
declarations_of ds = map declaration ds

-- read: declarations stand in front, with these values and this rest; refused as malformed: none stand there
abbrev pub ReadsDeclarations : {X : Type 0} → (X → List (ℕ × RawVal) × List ℕ) → List ℕ → Result X IrError → Type 0
ReadsDeclarations view bytes (Ok x) = (front : List ℕ) × ((bytes ≡ front ++ (view x).1) × Is declarations front (view x).0)
ReadsDeclarations view bytes (Err Malformed) = (front rest : List ℕ) (ds : List (ℕ × RawVal)) → bytes ≡ front ++ rest → Is declarations front ds → ⊥
ReadsDeclarations view bytes (Err (Memory e)) = Unit {0}
ReadsDeclarations view bytes (Err NoIndex) = ⊥
ReadsDeclarations view bytes (Err NotWritable) = ⊥
ReadsDeclarations view bytes (Err TooLarge) = ⊥
