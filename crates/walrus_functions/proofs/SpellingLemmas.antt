-- How declarations are written.
use Rattle.std.proofs.Common.{◌≡◌, ℕ, List, [], ◌∷◌, ◌++◌, refl, sym, ap, ap₂}
use Rattle.std.proofs.lemmas.List.{length-map}
use Rattle.wasm_forms.specs.Spelling.{number_bytes, row_bytes, vector_bytes}
use Rattle.walrus_bodies.specs.declared.declarations.Declaration.{Declaration}
use Rattle.walrus_bodies.specs.Declarations.{declaration, declarations_of, spelling}
use Rattle.walrus_functions.specs.EmittedBody.{declaration_bytes, declarations_bytes}

row_same : (ds : List Declaration) → row_bytes spelling ds ≡ row_bytes declaration_bytes (declarations_of ds)
row_same [] = refl
row_same (d ∷ ds) = ap (λ (bytes : List ℕ). spelling d ++ bytes) (row_same ds)

pub spelled_same : (ds : List Declaration) → vector_bytes spelling ds ≡ declarations_bytes (declarations_of ds)
spelled_same ds = ap₂ (λ (n : ℕ) (bytes : List ℕ). number_bytes n ++ bytes) (sym (length-map ds declaration)) (row_same ds)
