-- A map of names behind others, where it names something.
use Rattle.std.specs.Prelude.{ℕ, List, [], ◌∷◌, ◌++◌}
use Rattle.wasm_payloads.specs.Spelling.{NameMap}

abbrev pub with_map : List (ℕ × NameMap) → ℕ → NameMap → List (ℕ × NameMap)
with_map maps function [] = maps
with_map maps function (e ∷ es) = maps ++ (function, e ∷ es) ∷ []
