-- What a plain body doesn't name.
use Rattle.std.proofs.Common.{◌≡◌, ℕ, ◌+◌, ◌<◌, ◌≤◌, ⊎_elim, Bool, true, false, not, ◌&&◌, ◌||◌, ◌==◌, List, [], ◌∷◌, ◌++◌, None, refl, ap₂, arith, subst, nat_le, nat_lt}
use Rattle.std.specs.Prelude.{Contains, IsSome, flat_map, filter_map}
use Rattle.std.specs.List.{list_all}
use Rattle.std.proofs.lemmas.Bool.{leb-true, ltb-false, ltb-true, and_parts as both}
use Rattle.std.proofs.Math.Dec.{ltb}
use Rattle.std.proofs.lemmas.List.Elements.{Contains-append_cases, Contains-append_right}
use Rattle.walrus_base.specs.declared.locals.ModuleLocals.{ModuleLocals}
use Rattle.walrus_base.specs.Operators.{Arg, Index, Label, Local, Number, Count, Byte, S32, S64, Bits32, Bits64, Value, Heap, Block, Access, Op, arg_locals, op_locals, locals_of}
use Rattle.walrus_base.proofs.Lists.{Contains-none, Contains-uncons}
use Rattle.wasm_opcodes.specs.declared.one_byte.TheConstants.{REF_FUNC}
use Rattle.walrus_model.specs.Classes.{is_plain}
use Rattle.walrus_model.specs.Blocks.{are_nested}
use Rattle.walrus_model.specs.PlainBodies.{are_plain, is_plain_arg, is_plain_op}
use Rattle.walrus_contents.specs.References.{op_ref}
use Rattle.walrus_contents.specs.Named.{NamesNoTypes, local_type_names, type_at}

module _ (first count : ℕ) where
  abbrev Within : ℕ → Type 0
  Within x = (first ≤ x) × (x < first + count)

  arg_within : (a : Arg) → is_plain_arg first count a ≡ true → (x : ℕ) → Contains (arg_locals a) x → Within x
  arg_within (Local n) is x c =
      let p = both (nat_le first n) (nat_lt n (first + count)) is in
      ⊎_elim (λ (e : n ≡ x). subst Within e (leb-true first n p.0, ltb-true n (first + count) p.1)) (λ h. absurd (Contains-none x h)) (Contains-uncons n x [] c)
  arg_within (Index i) is x c = absurd (Contains-none x c)
  arg_within (Label n) is x c = absurd (Contains-none x c)
  arg_within (Number n) is x c = absurd (Contains-none x c)
  arg_within (Count n) is x c = absurd (Contains-none x c)
  arg_within (Byte n) is x c = absurd (Contains-none x c)
  arg_within (S32 z) is x c = absurd (Contains-none x c)
  arg_within (S64 z) is x c = absurd (Contains-none x c)
  arg_within (Bits32 n) is x c = absurd (Contains-none x c)
  arg_within (Bits64 n) is x c = absurd (Contains-none x c)
  arg_within (Value v) is x c = absurd (Contains-none x c)
  arg_within (Heap h) is x c = absurd (Contains-none x c)
  arg_within (Block b) is x c = absurd (Contains-none x c)
  arg_within (Access flags memory offset) is x c = absurd (Contains-none x c)

  args_within : (xs : List Arg) → list_all (is_plain_arg first count) xs ≡ true → (x : ℕ) → Contains (flat_map arg_locals xs) x → Within x
  args_within [] is x c = absurd (Contains-none x c)
  args_within (a ∷ xs) is x c =
      let p = both (is_plain_arg first count a) (list_all (is_plain_arg first count) xs) is in
      ⊎_elim (λ h. arg_within a p.0 x h) (λ h. args_within xs p.1 x h) (Contains-append_cases (arg_locals a) (flat_map arg_locals xs) x c)

  -- each local that it names is one of its own
  pub locals_within : (ops : List Op) → list_all (is_plain_op first count) ops ≡ true → (x : ℕ) → Contains (locals_of ops) x → Within x
  locals_within [] is x c = absurd (Contains-none x c)
  locals_within (o ∷ ops) is x c =
      let p = both (is_plain_op first count o) (list_all (is_plain_op first count) ops) is in
      let q = both _ (list_all (is_plain_arg first count) o.args) p.0 in
      ⊎_elim (λ h. args_within o.args q.1 x h) (λ h. locals_within ops p.1 x h) (Contains-append_cases (op_locals o) (locals_of ops) x c)

none_named : {A B : Type 0} (f : A → List B) (xs : List A) → ((x : A) → Contains xs x → f x ≡ []) → flat_map f xs ≡ []
none_named f [] h = refl
none_named {A} {B} f (x ∷ xs) h = ap₂ (λ (ys zs : List B). ys ++ zs) (h x (0, omega arith, refl)) (none_named f xs (λ y c. h y (Contains-append_right (x ∷ []) xs y c)))

-- locals that are there and name no types
pub no_types : (all : ModuleLocals) (used : List ℕ) → ((x : ℕ) → Contains used x → IsSome (type_at all x) × (local_type_names all x ≡ [])) → NamesNoTypes all used
no_types all used h = ((λ x c. (h x c).0), none_named (local_type_names all) used (λ x c. (h x c).1))

-- ---- ref.func

not_that : (a b c : Bool) → (not (a || b) && c) ≡ true → b ≡ false
not_that a false c is = refl
not_that true true c is = absurd cc
not_that false true c is = absurd cc

no_ref : (first count : ℕ) (o : Op) → is_plain_op first count o ≡ true → op_ref o ≡ None
no_ref first count o is =
    let plain = (both (is_plain o.op) (list_all (is_plain_arg first count) o.args) is).0 in
    let other : (o.op == REF_FUNC) ≡ false = not_that _ _ _ plain in
    rw other refl

pub no_refs : (first count : ℕ) (ops : List Op) → list_all (is_plain_op first count) ops ≡ true → filter_map op_ref ops ≡ []
no_refs first count [] is = refl
no_refs first count (o ∷ ops) is =
    let p = both (is_plain_op first count o) (list_all (is_plain_op first count) ops) is in
    let here : op_ref o ≡ None = no_ref first count o p.0 in
    rw here (no_refs first count ops p.1)

-- plain operators, of which nesting is said apart
pub each_plain : (first count : ℕ) (ops : List Op) → are_plain first count ops ≡ true → list_all (is_plain_op first count) ops ≡ true
each_plain first count ops is = (both (list_all (is_plain_op first count) ops) (are_nested ops) is).0

-- ---- places one behind another

pub one_more : (P : ℕ → Type 0) (first n place : ℕ) → ((x : ℕ) → first ≤ x → x < first + n → P x) → place ≡ first + n → P place → (x : ℕ) → first ≤ x → x < first + (n + 1) → P x
one_more P first n place before at here x low high = by_test (ltb x (first + n)) refl
  where
    by_test : (b : Bool) → ltb x (first + n) ≡ b → P x
    by_test true is = before x low (ltb-true x (first + n) is)
    by_test false is = let up = ltb-false x (first + n) is in subst P (omega (arith, at, up, low, high)) here
