-- A plain body names no data segment.
use Rattle.std.proofs.Common.{◌≡◌, ℕ, true, false, ◌||◌, List, [], ◌∷◌, refl, ap₂}
use Rattle.std.specs.List.{list_all, list_any}
use Rattle.walrus_base.specs.Operators.{Types, Functions, Tables, Memories, Tags, Globals, Elements, DataSegments, Arg, Index, Label, Local, Number, Count, Byte, S32, S64, Bits32, Bits64, Value, Heap, Block, Access, Op}
use Rattle.walrus_model.specs.PlainBodies.{is_plain_arg, is_plain_op}
use Rattle.walrus_plan.specs.Count.{arg_is_data, op_names_data}
use Rattle.std.proofs.lemmas.Bool.{and_parts as both}

module _ (first count : ℕ) where
  arg_other : (a : Arg) → is_plain_arg first count a ≡ true → arg_is_data a ≡ false
  arg_other (Index (DataSegments, d)) is = absurd cc
  arg_other (Index (Types, i)) is = refl
  arg_other (Index (Functions, i)) is = refl
  arg_other (Index (Tables, i)) is = refl
  arg_other (Index (Memories, i)) is = refl
  arg_other (Index (Tags, i)) is = refl
  arg_other (Index (Globals, i)) is = refl
  arg_other (Index (Elements, i)) is = refl
  arg_other (Label n) is = refl
  arg_other (Local n) is = refl
  arg_other (Number n) is = refl
  arg_other (Count n) is = refl
  arg_other (Byte n) is = refl
  arg_other (S32 z) is = refl
  arg_other (S64 z) is = refl
  arg_other (Bits32 n) is = refl
  arg_other (Bits64 n) is = refl
  arg_other (Value v) is = refl
  arg_other (Heap h) is = refl
  arg_other (Block b) is = refl
  arg_other (Access flags memory offset) is = refl

  args_other : (xs : List Arg) → list_all (is_plain_arg first count) xs ≡ true → list_any arg_is_data xs ≡ false
  args_other [] is = refl
  args_other (a ∷ xs) is = let p = both (is_plain_arg first count a) (list_all (is_plain_arg first count) xs) is in ap₂ ◌||◌ (arg_other a p.0) (args_other xs p.1)

  pub names_none : (ops : List Op) → list_all (is_plain_op first count) ops ≡ true → list_any op_names_data ops ≡ false
  names_none [] is = refl
  names_none (o ∷ ops) is =
      let p = both (is_plain_op first count o) (list_all (is_plain_op first count) ops) is in
      let q = both _ (list_all (is_plain_arg first count) o.args) p.0 in
      ap₂ ◌||◌ (args_other o.args q.1) (names_none ops p.1)
