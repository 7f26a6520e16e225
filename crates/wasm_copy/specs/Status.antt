-- The status that the program ends with.
use Rattle.std.specs.Prelude.{ℕ}
use Rattle.wasm_forms.specs.declared.error.WireError.TheVariants.{Malformed}
use Rattle.wasm_copy.specs.declared.failure.Failure.{Failure}
use Rattle.wasm_copy.specs.declared.failure.Failure.TheVariants.{UnknownWord, ReadingCopy, Differs}

abbrev pub status_of : Failure → ℕ
status_of UnknownWord = 2
status_of (ReadingCopy Malformed) = 3
status_of Differs = 3
status_of _ = 1
