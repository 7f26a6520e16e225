-- New numbers in a body some of whose marks are left out: what stands without a mark keeps its number.
use Rattle.std.proofs.Common.{◌≡◌, ℕ, ◌+◌, ◌<◌, ◌≤◌, Bool, true, false, List, [], ◌∷◌, map, Option, Some, None, inl, inr, refl, sym, ap, subst, arith}
use Rattle.std.specs.Prelude.{nat_eq, nat_le, nat_lt, ◌&&◌, ◌||◌, not, if◌then◌else◌, filter, option_map}
use Rattle.std.specs.List.{list_all, list_any}
use Rattle.std.proofs.lemmas.Bool.{eqb-true, leb-true, ltb-true, and_parts as parts}
use Rattle.wasm_forms.specs.Spelling.{row_bytes}
use Rattle.wasm_forms.specs.Writing.{EachFits}
use Rattle.wasm_forms.proofs.Items.{each_append}
use Rattle.wasm_text.specs.RawArg.{RawArg}
use Rattle.wasm_text.specs.RawArg.TheVariants as args
use Rattle.wasm_text.specs.Operators as wire
use Rattle.wasm_text.specs.Spelling.{op_bytes}
use Rattle.wasm_text.specs.Marks.{all_args, arg_names, args_at, fill, with}
use Rattle.wasm_text.specs.Filling.{Numbering, renamed, or_same, anew, HasNumber, SomeLacks}
use Rattle.wasm_text.specs.Unmarked.{needs_none}
use Rattle.wasm_text.specs.Classes.{is_plain}
use Rattle.wasm_text.proofs.Renaming.{leaves, stays}
use Rattle.walrus_base.specs.Operators.{Memories}
use Rattle.walrus_code.specs.FromRaw.{arg_of}
use Rattle.walrus_code.specs.Names.{Lookup}
use Rattle.walrus_bodies.specs.declared.plain_code.LeftOut.{LeftOut}
use Rattle.walrus_bodies.specs.Numbers.{numbering}
use Rattle.walrus_bodies.specs.Placed.{moved_arg, placed_op, placed_ops}
use Rattle.walrus_bodies.specs.Plain.{is_plain_arg, is_plain_op}
use Rattle.walrus_bodies.specs.Shown.{AreShown, StaysUnmarked, needs_mark}

-- what needs no mark keeps its number
abbrev KeepsUnmarked : LeftOut → Numbering → RawArg → Type 0
KeepsUnmarked out number arg = needs_none out.first out.accessed arg ≡ true → renamed number arg ≡ Some arg

-- ---- the locals from one on, and memory 0

module _ (out : LeftOut) (names : Lookup) (locals : ℕ → Option ℕ) (first count : ℕ) (kept : (n : ℕ) → out.first ≤ n → n < count → locals (first + n) ≡ Some n)
    (memory_kept : out.accessed ≡ true → names Memories 0 ≡ Some 0) where
  abbrev full : Numbering
  full = numbering names locals first

  access_kept : (flags memory offset : ℕ) → out.accessed ≡ true → memory ≡ 0 → renamed full (args.Access flags memory offset) ≡ Some (args.Access flags memory offset)
  access_kept flags memory offset accessed zero =
      subst (λ (m : ℕ). renamed full (args.Access flags m offset) ≡ Some (args.Access flags m offset)) (sym zero) (ap (option_map (λ n. args.Access flags n offset)) (memory_kept accessed))

  arg_kept : (a : RawArg) → is_plain_arg first count (moved_arg first (arg_of a)) ≡ true → KeepsUnmarked out full a
  arg_kept (args.Local n) plain e =
      let low = ltb-true (first + n) (first + count) (parts (nat_le first (first + n)) (nat_lt (first + n) (first + count)) plain).1 in
      ap (option_map args.Local) (kept n (leb-true out.first n e) (omega (arith, low)))
  arg_kept (args.Access flags memory offset) plain e =
      let p = parts out.accessed (nat_eq memory 0) e in
      access_kept flags memory offset p.0 (eqb-true memory 0 p.1)
  arg_kept (args.Function n) plain e = absurd cc
  arg_kept (args.«Type» n) plain e = absurd cc
  arg_kept (args.Table n) plain e = absurd cc
  arg_kept (args.Memory n) plain e = absurd cc
  arg_kept (args.Global n) plain e = absurd cc
  arg_kept (args.Tag n) plain e = absurd cc
  arg_kept (args.Element n) plain e = absurd cc
  arg_kept (args.Data n) plain e = absurd cc
  arg_kept (args.Label n) plain e = absurd cc
  arg_kept (args.Count n) plain e = absurd cc
  arg_kept (args.Number n) plain e = absurd cc
  arg_kept (args.Byte b) plain e = absurd cc
  arg_kept (args.S32 z) plain e = absurd cc
  arg_kept (args.S64 z) plain e = absurd cc
  arg_kept (args.F32 bits) plain e = absurd cc
  arg_kept (args.F64 bits) plain e = absurd cc
  arg_kept (args.Value v) plain e = absurd cc
  arg_kept (args.Heap h) plain e = absurd cc
  arg_kept (args.Block b) plain e = absurd cc

  args_kept : (xs : List RawArg) → list_all (is_plain_arg first count) (map (moved_arg first) (map arg_of xs)) ≡ true → EachFits (KeepsUnmarked out full) xs
  args_kept [] plain = tt
  args_kept (x ∷ xs) plain =
      let p = parts (is_plain_arg first count (moved_arg first (arg_of x))) (list_all (is_plain_arg first count) (map (moved_arg first) (map arg_of xs))) plain in
      (arg_kept x p.0, args_kept xs p.1)

  pub ops_kept : (texts : List wire.Op) → list_all (is_plain_op first count) (placed_ops first texts) ≡ true → EachFits (KeepsUnmarked out full) (all_args texts)
  ops_kept [] plain = tt
  ops_kept (o ∷ texts) plain =
      let p = parts (is_plain_op first count (placed_op first o)) (list_all (is_plain_op first count) (placed_ops first texts)) plain in
      let q = parts (is_plain o.op) (list_all (is_plain_arg first count) (map (moved_arg first) (map arg_of o.args))) p.0 in
      each_append (KeepsUnmarked out full) o.args (all_args texts) (args_kept o.args q.1) (ops_kept texts p.1)

-- ---- where all that needs no mark keeps its number

module _ (out : LeftOut) (number : Numbering) where
  abbrev Keeps : RawArg → Type 0
  Keeps = KeepsUnmarked out number

  abbrev marked : List RawArg → List RawArg
  marked xs = filter (needs_mark out) xs

  each_stays : (xs : List RawArg) → EachFits Keeps xs → EachFits (StaysUnmarked out (anew number)) xs
  each_stays [] keeps = tt
  each_stays (arg ∷ more) keeps = (λ e. ap (or_same arg) (keeps.0 e), each_stays more keeps.1)

  -- what needs a mark has a number, and so has all
  unmarked_has : (arg : RawArg) (names needless : Bool) → arg_names arg ≡ names → needs_none out.first out.accessed arg ≡ needless → (names && not needless) ≡ false → Keeps arg → HasNumber number arg
  unmarked_has arg false needless n u e keeps = (arg, (stays number arg n, λ held. held))
  unmarked_has arg true true n u e keeps = (arg, (keeps u, λ held. held))
  unmarked_has arg true false n u e keeps = absurd cc

  each_front : (arg : RawArg) (more : List RawArg) (t : Bool) → needs_mark out arg ≡ t → Keeps arg → (EachFits (HasNumber number) (marked more) → EachFits (HasNumber number) more)
      → EachFits (HasNumber number) (if t then arg ∷ marked more else marked more) → EachFits (HasNumber number) (arg ∷ more)
  each_front arg more true e keeps rec h = (h.0, rec h.1)
  each_front arg more false e keeps rec h = (unmarked_has arg (arg_names arg) (needs_none out.first out.accessed arg) refl refl e keeps, rec h)

  each_has : (xs : List RawArg) → EachFits Keeps xs → EachFits (HasNumber number) (marked xs) → EachFits (HasNumber number) xs
  each_has [] keeps h = tt
  each_has (arg ∷ more) keeps h = each_front arg more (needs_mark out arg) refl keeps.0 (each_has more keeps.1) h

  each_kept : (arg : RawArg) (more : List RawArg) (t : Bool) → HasNumber number arg → EachFits (HasNumber number) (marked more) → EachFits (HasNumber number) (if t then arg ∷ marked more else marked more)
  each_kept arg more true p h = (p, h)
  each_kept arg more false p h = h

  each_marked : (xs : List RawArg) → EachFits (HasNumber number) xs → EachFits (HasNumber number) (marked xs)
  each_marked [] h = tt
  each_marked (arg ∷ more) h = each_kept arg more (needs_mark out arg) h.0 (each_marked more h.1)

  -- one has no number
  abbrev is_missing : Option RawArg → Bool
  is_missing None = true
  is_missing (Some new) = false

  abbrev lacks : RawArg → Bool
  lacks arg = is_missing (renamed number arg)

  missing_none : (o : Option RawArg) → is_missing o ≡ true → o ≡ None
  missing_none None e = refl
  missing_none (Some new) e = absurd cc

  lacks_none : (arg : RawArg) → arg_names arg ≡ false → lacks arg ≡ false
  lacks_none arg e = ap is_missing (stays number arg e)

  either_right : (t b : Bool) → b ≡ true → (t || b) ≡ true
  either_right true b e = refl
  either_right false b e = e

  some_any : (xs : List RawArg) → SomeLacks number xs → list_any lacks xs ≡ true
  some_any [] h = absurd h
  some_any (arg ∷ more) (inl l) = ap (λ o. is_missing o || list_any lacks more) l
  some_any (arg ∷ more) (inr h) = either_right (lacks arg) (list_any lacks more) (some_any more h)

  any_front : (arg : RawArg) (more : List RawArg) (t : Bool) → lacks arg ≡ t → (list_any lacks more ≡ true → SomeLacks number more) → (t || list_any lacks more) ≡ true → SomeLacks number (arg ∷ more)
  any_front arg more true e rec h = inl (missing_none (renamed number arg) e)
  any_front arg more false e rec h = inr (rec h)

  any_some : (xs : List RawArg) → list_any lacks xs ≡ true → SomeLacks number xs
  any_some [] h = absurd cc
  any_some (arg ∷ more) h = any_front arg more (lacks arg) refl (any_some more) h

  -- the laws
  module _ (bytes marks : List ℕ) (texts : List wire.Op) (shown : AreShown out bytes marks texts) where
    pub all_have : EachFits Keeps (all_args texts) → EachFits (HasNumber number) (args_at bytes marks) → EachFits (HasNumber number) (all_args texts)
    all_have keeps each = each_has (all_args texts) keeps (subst (EachFits (HasNumber number)) (sym shown.needed) (each_marked (args_at bytes marks) each))

    pub filled_anew : EachFits Keeps (all_args texts) → fill (anew number) bytes 0 marks ≡ row_bytes op_bytes (map (with (anew number)) texts)
    filled_anew keeps = sym (shown.becomes (anew number) (leaves number) (each_stays (all_args texts) keeps))

    pub lacks_as_well : SomeLacks number (args_at bytes marks) → SomeLacks number (all_args texts)
    lacks_as_well some = any_some (all_args texts) (shown.among lacks lacks_none (some_any (args_at bytes marks) some))
