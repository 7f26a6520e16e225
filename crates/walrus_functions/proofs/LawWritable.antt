-- What can't be written isn't well formed.
use Rattle.std.proofs.Common.{◌≡◌, ℕ, zero, suc, false, List, [], ◌∷◌, ◌++◌, map, Option, Some, replicate, slice_get, sym, ap, ◌∙◌, inl, inr}
use Rattle.std.specs.Prelude.{Contains}
use Rattle.std.specs.List.{AllByRecursion}
use Rattle.std.proofs.lemmas.List.Elements.{All-from_recursion, All-contains, Contains-append_cases}
use Rattle.std.proofs.lemmas.Option.{slice_get_within, get_or_from_slice_get}
use Rattle.wasm_forms.specs.declared.types.RawVal.{RawVal}
use Rattle.wasm_forms.specs.Reading.{◌>>=◌}
use Rattle.wasm_forms.proofs.Bind.{bind_some, some_same}
use Rattle.walrus_base.specs.Arena.{item_at}
use Rattle.walrus_base.specs.Types.{ValType}
use Rattle.walrus_base.specs.Operators.{locals_of}
use Rattle.walrus_code.specs.FromRaw.{val_of, ops_of}
use Rattle.walrus_code.specs.Names.{Lookup, named_val}
use Rattle.walrus_code.specs.Results.{val_is_exact}
use Rattle.walrus_bodies.specs.Body.{declared_types}
use Rattle.walrus_bodies.specs.Emitting.{IsNotWritable}
use Rattle.walrus_functions.specs.DeclaredLocals.{IsDeclared}
use Rattle.walrus_functions.specs.EmittedBody.{Source, index_in}
use Rattle.walrus_functions.specs.Laws.{SourceIsWellFormed, UnwritableIsIllFormed}
use Rattle.walrus_bodies.proofs.LawNamed.{via, plain, each_append, NoExact, val_inexact, HasIndex, ops_found, ReadOp, each_read, no_unspelled}

-- ---- the types that are declared

each_replicate : {X : Type 0} (P : X → Type 0) (n : ℕ) (x : X) → P x → AllByRecursion P (replicate n x)
each_replicate P zero x has = tt
each_replicate P (suc n) x has = (has, each_replicate P n x has)

types_inexact : (names : Lookup) (ds : List (ℕ × RawVal)) (types : List (ValType ℕ)) → declared_types names ds ≡ Some types → AllByRecursion NoExact types
types_inexact names [] types is = plain (AllByRecursion NoExact) [] types tt is
types_inexact names (d ∷ ds) types is =
    let b = bind_some (named_val names (val_of d.1)) (λ v. declared_types names ds >>= λ others. Some (replicate d.0 v ++ others)) types is in
    let first = each_replicate NoExact d.0 b.0 (val_inexact names d.1 b.0 b.1) in
    via (AllByRecursion NoExact) (declared_types names ds) (λ others. replicate d.0 b.0 ++ others) types (λ others e. each_append NoExact (replicate d.0 b.0) others first (types_inexact names ds others e)) b.2

module _ (slots : List (Option (ValType ℕ))) where
  -- a local whose type isn't exact
  abbrev Inexact : ℕ → Type 0
  Inexact x = (v : ValType ℕ) → item_at slots x ≡ Some v → val_is_exact v ≡ false

  further_inexact : (types : List (ValType ℕ)) (further : List ℕ) → map Some types ≡ map (item_at slots) further → AllByRecursion NoExact types → AllByRecursion Inexact further
  further_inexact [] [] same all = tt
  further_inexact [] (x ∷ further) same all = absurd cc
  further_inexact (t ∷ types) [] same all = absurd cc
  further_inexact (t ∷ types) (x ∷ further) same all =
      let tail : map Some types ≡ map (item_at slots) further = cc in
      let head : Some t ≡ item_at slots x = cc in
      (λ v is. ap val_is_exact (sym (some_same t v (head ∙ is))) ∙ all.0, further_inexact types further tail all.1)

-- ---- a body that is well formed

at_index : (xs : List ℕ) (n x : ℕ) → slice_get xs n ≡ Some x → Contains xs x
at_index xs n x is = (n, slice_get_within xs n x is, get_or_from_slice_get xs n x x is)

module _ (s : Source) (w : SourceIsWellFormed s) where
  Declared : ℕ → Type 0
  Declared x = IsDeclared s.slots (locals_of s.ops) s.parameters x

  -- a declared local is one of the further ones
  is_further : (x : ℕ) → Declared x → Contains w.further x
  unfolding Declared
  is_further x d =
      let read = w.reads.operators in
      let places = slice_get (s.parameters ++ w.further) in
      let all = ops_found w.names places (ops_of read.texts) s.ops read.named in
      let index = All-contains (HasIndex w.names places) (locals_of s.ops) x (All-from_recursion (HasIndex w.names places) (locals_of s.ops) all) d.is_used in
      elim (Contains-append_cases s.parameters w.further x (at_index (s.parameters ++ w.further) index.0 x index.1)) as (λ _. Contains w.further x) [
        | inl parameter ↦ absurd (d.no_parameter parameter)
        | inr further ↦ further
      ]

  inexact : (x : ℕ) (v : ValType ℕ) → Declared x → item_at s.slots x ≡ Some v → val_is_exact v ≡ false
  inexact x v d is =
      let all = further_inexact s.slots w.types w.further w.typed (types_inexact w.names w.reads.declared w.types w.reads.typed) in
      All-contains (Inexact s.slots) w.further x (All-from_recursion (Inexact s.slots) w.further all) (is_further x d) v is

  writable_ops : (order : List ℕ) → IsNotWritable s.names (index_in s order) s.features s.ops → ⊥
  writable_ops order (inl nests) = let nested = w.reads.operators.nested in cc
  writable_ops order (inr (inl allows)) = let allowed = w.reads.operators.allowed in cc
  writable_ops order (inr (inr (o, (has, unspelled)))) =
      let read = w.reads.operators in
      let places = slice_get (s.parameters ++ w.further) in
      let all = each_read w.names places read.texts w.reads.back s.ops read.spelled read.named in
      let one = All-contains (ReadOp w.names places) s.ops o (All-from_recursion (ReadOp w.names places) s.ops all) has in
      no_unspelled w.names s.names places (index_in s order) o one unspelled

pub ill_formed : UnwritableIsIllFormed
unfolding Declared
ill_formed s (inl (order, (declared, ops))) w = writable_ops s w order ops
ill_formed s (inr (inl blocks)) w = let hold = w.reads.operators.blocks in cc
ill_formed s (inr (inr (inl fits))) w = fits w.fits
ill_formed s (inr (inr (inr (x, (v, (declared, typed, exact)))))) w = let plain_type = inexact s w x v declared typed in cc
