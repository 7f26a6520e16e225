-- The open blocks behind an operator, by the tests that the code makes.
use Rattle.std.proofs.Common.{◌≡◌, ℕ, true, false, List, [], ◌∷◌, None, refl}
use Rattle.walrus_base.specs.Operators.{Arg}
use Rattle.walrus_bodies.specs.declared.blocks.Opened.{Opened}
use Rattle.walrus_bodies.specs.Blocks.{is_none_open, blocks_behind, blocks_meant, blocks_after, labels_below}

pub after_closed : (op : ℕ) (args : List Arg) (blocks : List Opened) → is_none_open blocks ≡ true → blocks_after op args blocks ≡ None
after_closed op args [] closed = refl
after_closed op args (block ∷ around) closed = absurd cc

pub after_far : (op : ℕ) (args : List Arg) (blocks : List Opened) → is_none_open blocks ≡ false → labels_below (blocks_meant op blocks) args ≡ false → blocks_after op args blocks ≡ None
after_far op args [] closed far = absurd cc
after_far op args (block ∷ around) closed far = rw far refl

pub after_near : (op : ℕ) (args : List Arg) (blocks : List Opened) → is_none_open blocks ≡ false → labels_below (blocks_meant op blocks) args ≡ true → blocks_after op args blocks ≡ blocks_behind op blocks
after_near op args [] closed near = absurd cc
after_near op args (block ∷ around) closed near = rw near refl
