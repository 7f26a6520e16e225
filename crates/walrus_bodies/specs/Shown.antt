-- What the marks show that are left of a body.
use Rattle.std.specs.Prelude.{◌≡◌, ℕ, ◌<◌, ◌≤◌, Bool, true, false, ◌&&◌, not, List, filter, map}
use Rattle.std.specs.List.{list_any}
use Rattle.wasm_forms.specs.Spelling.{row_bytes}
use Rattle.wasm_forms.specs.Writing.{EachFits}
use Rattle.wasm_text.specs.RawArg.{RawArg}
use Rattle.wasm_text.specs.Operators.{Op}
use Rattle.wasm_text.specs.Spelling.{op_bytes}
use Rattle.wasm_text.specs.Marks.{AreInOrder, Leaves, all_args, arg_names, args_at, fill, with}
use Rattle.wasm_text.specs.Unmarked.{is_access, is_local, needs_none}
use Rattle.walrus_bodies.specs.declared.plain_code.LeftOut.{LeftOut}

-- an argument that names something has a mark wherever it stands
abbrev pub needs_mark : LeftOut → RawArg → Bool
needs_mark out arg = arg_names arg && not (needs_none out.first out.accessed arg)

-- what may stand without a mark stays what it is
abbrev pub StaysUnmarked : LeftOut → (RawArg → RawArg) → RawArg → Type 0
StaysUnmarked out f arg = needs_none out.first out.accessed arg ≡ true → f arg ≡ arg

-- The marks show the arguments of these operators that need one, and all that stand at marks are arguments of them. With others in their place the bytes
-- can be written anew, where what may stand without a mark stays.
pub record AreShown (out : LeftOut) (bytes marks : List ℕ) (texts : List Op) : Type 0 where
  pub ordered : AreInOrder bytes 0 marks
  pub becomes : (f : RawArg → RawArg) → Leaves f → EachFits (StaysUnmarked out f) (all_args texts) → row_bytes op_bytes (map (with f) texts) ≡ fill f bytes 0 marks
  pub needed : filter (needs_mark out) (all_args texts) ≡ filter (needs_mark out) (args_at bytes marks)
  pub among : (asks : RawArg → Bool) → ((arg : RawArg) → arg_names arg ≡ false → asks arg ≡ false) → list_any asks (args_at bytes marks) ≡ true → list_any asks (all_args texts) ≡ true

-- operators name each local, of so many, and access memory 0, where marks of these are left out
pub record NameLeftOut (out : LeftOut) (locals : ℕ) (texts : List Op) : Type 0 where
  pub each_local : (n : ℕ) → out.first ≤ n → n < locals → list_any (is_local n) (all_args texts) ≡ true
  pub memory : out.accessed ≡ true → list_any is_access (all_args texts) ≡ true
