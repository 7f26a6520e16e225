-- What a contract sees of an id.
use Rattle.std.specs.Prelude.{ℕ, ◌+◌, ◌*◌, ◌^◌}
use Rattle.walrus_base.specs.declared.id.Id.{Id}

-- the place of the item in its arena, counted from 0
unfoldable pub place : {K : Type 0} → Id K → ℕ
place id = id.high * 2 ^ 32 + id.low
