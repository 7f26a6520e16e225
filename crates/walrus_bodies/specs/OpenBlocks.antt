-- What a contract sees of the open blocks.
use Rattle.std.specs.Prelude.{◌≡◌, Bool, true, false, List, reverse, Option, Some, None, Result, Ok, Err}
use Rattle.walrus_bodies.specs.declared.blocks.Opened.{Opened}
use Rattle.walrus_bodies.specs.declared.blocks.OpenBlocks.{OpenBlocks}

-- the innermost block first
abbrev pub opened : OpenBlocks → List Opened
opened blocks = reverse blocks.blocks.items

-- stepped over: these are the blocks behind; not: there are none, since the operator may not stand here
abbrev pub Steps : {E : Type 0} → Option (List Opened) → List Opened → Result Bool E → Type 0
Steps behind new (Ok true) = behind ≡ Some new
Steps behind new (Ok false) = behind ≡ None
Steps behind new (Err e) = Unit {0}
