-- Plain bodies: operators that nest, with their marks (Structure > Instructions > Control Instructions).
use Rattle.std.specs.Prelude.{◌≡◌, ℕ, Bool, true, false, ◌||◌, List, [], ◌∷◌, ◌++◌, length, reverse, Vec, Option, Some, None, nat_eq, if◌then◌else◌}
use Rattle.std.specs.List.{list_all}
use Rattle.std.specs.declared.alloc.Global.{Global}
use Rattle.wasm_forms.specs.Writing.{EachFits}
use Rattle.wasm_opcodes.specs.declared.one_byte.TheConstants.{BLOCK, LOOP, IF, ELSE, END, TRY_TABLE}
use Rattle.wasm_operators.specs.Operators.{Op}
use Rattle.wasm_text.specs.declared.limits.Limits.{Limits}
use Rattle.wasm_text.specs.declared.class.Class.{Class}
use Rattle.wasm_text.specs.declared.class.Class.TheVariants as class
use Rattle.wasm_text.specs.Classes.{is_plain}
use Rattle.wasm_text.specs.Marks.{Holds, all_args}
use Rattle.wasm_text.specs.Scans.{HasOperator, IsWithin}
use Rattle.wasm_text.specs.Unmarked.{AreLeft, AreNamed, Flags}
use Rattle.wasm_text.specs.declared.unmarked.Unmarked.{Unmarked}

-- ---- open blocks

-- Of each open block a flag says whether it is an if without its else; the function itself is the outermost block, and none of these.

-- the innermost block first
abbrev pub blocks_of : Vec Bool Global → List Bool
blocks_of opened = reverse opened.items

-- block, loop, if, try_table
abbrev pub opens : ℕ → Bool
opens op = nat_eq op BLOCK || nat_eq op LOOP || nat_eq op IF || nat_eq op TRY_TABLE

-- the blocks open behind else: it stands directly in an if that has none yet; none where it may not stand
abbrev pub behind_else : List Bool → Option (List Bool)
behind_else [] = None
behind_else (true ∷ around) = Some (false ∷ around)
behind_else (false ∷ around) = None

-- the blocks open behind end, which closes any block; none where none is open
abbrev pub behind_end : List Bool → Option (List Bool)
behind_end [] = None
behind_end (block ∷ around) = Some around

-- the blocks open behind a plain operator; none where it may not stand there
abbrev pub blocks_behind : ℕ → List Bool → Option (List Bool)
blocks_behind op blocks =
    if opens op then Some (nat_eq op IF ∷ blocks)
    else if nat_eq op ELSE then behind_else blocks
    else if nat_eq op END then behind_end blocks
    else Some blocks

-- the same of an operator that begins with a byte of this class
abbrev pub class_behind : Class → ℕ → List Bool → Option (List Bool)
class_behind class.Block b blocks = Some (nat_eq b IF ∷ blocks)
class_behind class.Else b blocks = behind_else blocks
class_behind class.End b blocks = behind_end blocks
class_behind c b blocks = Some blocks

-- a byte of this class begins an operator that leaves these blocks open
abbrev pub Turns : Class → ℕ → Type 0
Turns class.Other b = Unit {0}
Turns c b = (blocks : List Bool) → blocks_behind b blocks ≡ class_behind c b blocks

-- a plain operator in these blocks, which leaves those open; those of its marks that are needed are put behind others
pub record IsNext (limits : Limits) (before after : Unmarked) (bytes : List ℕ) (at behind : ℕ) (blocks blocks_after : List Bool) (old new : List ℕ) : Type 0 where
  pub marks : List ℕ
  pub found : HasOperator limits bytes at behind [] marks
  pub turns : blocks_behind found.text.op blocks ≡ Some blocks_after
  pub left : List ℕ
  pub are_left : AreLeft after.first after.accessed bytes marks left
  pub put : new ≡ old ++ left
  pub flags : Flags before after found.text.args

-- ---- bodies

-- The operators stand in these open blocks and close all of them: each in an open block, with its arguments within the limits, where a label means
-- an open block, and nothing behind the end of the outermost one.
abbrev pub Nest : Limits → (blocks : List Bool) → List Op → Type 0
Nest limits blocks [] = blocks ≡ []
Nest limits [] (o ∷ ops) = ⊥
Nest limits (block ∷ around) (o ∷ ops) =
    EachFits (IsWithin (record limits { labels = length (block ∷ around) })) o.args
    × ((after : List Bool) × ((blocks_behind o.op (block ∷ around) ≡ Some after) × Nest limits after ops))

-- The bytes are so many plain operators, which nest in a function. Their arguments have marks, of which those are left that are needed; what is flagged
-- is named by them.
pub record IsBody (limits : Limits) (unmarked : Unmarked) (bytes left : List ℕ) (count : ℕ) : Type 0 where
  pub texts : List Op
  pub counted : count ≡ length texts
  pub marks : List ℕ
  pub holds : Holds bytes marks texts
  pub are_left : AreLeft unmarked.first unmarked.accessed bytes marks left
  pub named : AreNamed unmarked (all_args texts)
  pub plain : list_all (λ o. is_plain o.op) texts ≡ true
  pub nested : Nest limits (false ∷ []) texts
