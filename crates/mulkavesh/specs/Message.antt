-- The line that a refusal is told in.
use Rattle.std.specs.Prelude.{ℕ, List, ◌++◌, codes}
use Rattle.mulkavesh.specs.Visible.{shown}

-- the program's name, of what is told, as people see that, what is told, and a line end
abbrev pub line : (name text : List ℕ) → List ℕ
line name text = codes "mulkavesh: " ++ (shown name ++ (codes ": " ++ (text ++ codes "\n")))
