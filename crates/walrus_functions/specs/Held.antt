-- What locals hold that are there.
use Rattle.std.specs.Prelude.{ℕ, List, Option, unwrap_or}
use Rattle.walrus_base.specs.Arena.{item_at}
use Rattle.walrus_base.specs.Types.{ValType, I32}

-- the type of a local; i32 where it isn't there
abbrev pub held_at : List (Option (ValType ℕ)) → ℕ → ValType ℕ
held_at slots x = unwrap_or (item_at slots x) I32
