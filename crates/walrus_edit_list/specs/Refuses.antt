-- Why an edit that names ids is refused.
use Rattle.std.specs.Prelude.{⊤}
use Rattle.walrus_items.specs.declared.error.Error.{Error}
use Rattle.walrus_items.specs.declared.error.Error.TheVariants.{DeadItem, Memory, TooLarge}

-- what it names isn't there, as the first one says; 32 bits are passed, as the second one says; or memory ran out
abbrev pub Refuses : (dead large : Type 0) → Error → Type 0
Refuses dead large (Memory e) = ⊤
Refuses dead large DeadItem = dead
Refuses dead large TooLarge = large
Refuses dead large _ = ⊥
