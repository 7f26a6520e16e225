-- A body that stays in its place, as it is written where nothing is told of its locals.
use Rattle.std.proofs.Common.{◌≡◌, ℕ, ◌+◌, ◌-◌, ◌<◌, ◌≤◌, ◌^◌, ◌++◌, Bool, true, false, List, [], length, Option, Some, None, Result, Ok, Err, IfOk, IsErrAnd, refl, sym, ap, ap₂, ◌∙◌, subst, arith}
use Rattle.std.specs.Prelude.{IfSome, IsSome}
use Rattle.std.specs.List.{range_with_len}
use Rattle.wasm_forms.specs.declared.types.RawVal.{RawVal}
use Rattle.walrus_base.specs.Arena.{item_at}
use Rattle.walrus_base.specs.Operators.{Op, locals_of}
use Rattle.walrus_base.specs.Types.{ValType}
use Rattle.walrus_code.specs.declared.error.IrError.{IrError}
use Rattle.walrus_bodies.specs.Blocks.{blocks_hold}
use Rattle.walrus_bodies.specs.Locals.{AreMarked}
use Rattle.walrus_bodies.specs.Plain.{are_plain}
use Rattle.walrus_bodies.specs.Text.{first_local_of}
use Rattle.walrus_bodies.specs.declared.text.Text.{Text}
use Rattle.walrus_functions.specs.Appending.{AppendsBody}
use Rattle.walrus_functions.specs.EmittedBody.{EmitsBody, Source, index_in}
use Rattle.walrus_functions.specs.Kept.{KeepsIndices, StayInPlace}
use Rattle.walrus_functions.specs.Writing.{DeclaresLocals, HasSignature, LocalsDeclared, WritesBehind}
use Rattle.walrus_functions.proofs.AppendLemmas.{same_refusal}
use Rattle.walrus_functions.proofs.InPlaceLemmas.{as_many, marked, uses}
use Rattle.walrus_functions.proofs.KeptLemmas.{typed_by}
use Rattle.walrus_functions.proofs.KeptWritten as written
use Rattle.walrus_functions.proofs.WrittenLemmas.{few_declarations, refused_declared}

-- the parameters of a body that stands as in the input
pub first_args : (o : Option Text) (t : Text) (args : List ℕ) (params : ℕ) → o ≡ Some t → IfSome o (λ text. args ≡ range_with_len (first_local_of text) params) → args ≡ range_with_len (first_local_of t) params
first_args o t args params is h = subst (λ (p : Option Text). IfSome p (λ text. args ≡ range_with_len (first_local_of text) params)) is h

-- the places of those that are declared
pub same_places : (from given many first params count : ℕ) → from ≡ first → given ≡ params → many ≡ count → range_with_len (from + given) ((from + many) - (from + given)) ≡ range_with_len (first + params) (count - params)
same_places from given many first params count e f g =
    let one : from + given ≡ first + params = omega (arith, e, f) in
    let two : (from + many) - (from + given) ≡ count - params = omega (arith, e, f, g) in
    ap₂ range_with_len one two

module _ (s : Source) (ops : List Op) (first params count : ℕ) (same : s.ops ≡ ops) (plain : are_plain first count ops ≡ true) (stay : StayInPlace s.slots (locals_of ops) first params count) (few : count < 2 ^ 32) (args_are : s.parameters ≡ range_with_len first params) where
  abbrev flags : List Bool
  flags = uses first count ops plain

  abbrev order : List ℕ
  order = range_with_len (first + params) (count - params)

  many : length flags ≡ count
  many = as_many first count ops plain

  kept : KeepsIndices s.slots flags first params count
  kept = stay flags (marked first count ops plain)

  are_marked : AreMarked first flags (locals_of s.ops)
  are_marked = subst (λ (os : List Op). AreMarked first flags (locals_of os)) (sym same) (marked first count ops plain)

  pub agree : (i : ℕ) → i < count → index_in s order (first + i) ≡ Some i
  agree i low = written.agree s flags first params count are_marked many kept few args_are i low

  pub there : (x : ℕ) → first + params ≤ x → x < first + count → IsSome (item_at s.slots x)
  there x from low =
      let back : x ≡ first + (x - first) = omega (arith, from) in
      let t = typed_by (item_at s.slots (first + (x - first))) (kept.low (x - first) (omega (arith, from)) (omega (arith, from, low))) in
      subst (λ (o : Option (ValType ℕ)). IsSome o) (sym (ap (item_at s.slots) back ∙ t.1.0)) refl

  module _ (coded : List ℕ) (is : coded ≡ order) where
    -- one of them can't be declared
    pub refused : {X Y : Type 0} (view : Y → List (ℕ × RawVal)) (r : Result X IrError) (e : IrError) → IsErrAnd r (λ x. x ≡ e) → DeclaresLocals s.names s.slots coded view (Err e) → EmitsBody s (λ _. []) (λ _. []) (λ _ _. None) (λ _. []) (λ _. []) r
    refused view r e failed h =
        refused_declared s order (written.declared s flags first params count are_marked many kept few args_are) (λ _. []) (λ _. []) (λ _ _. None) (λ _. []) (λ _. []) view r e failed (subst (λ (ps : List ℕ). DeclaresLocals s.names s.slots ps view (Err e)) is h)

    module _ (ds : List (ℕ × RawVal)) (are : LocalsDeclared s.names s.slots coded ds) where
      locals_declared : LocalsDeclared s.names s.slots order ds
      locals_declared = subst (λ (ps : List ℕ). LocalsDeclared s.names s.slots ps ds) is are

      pub few_written : length ds < 2 ^ 32
      few_written = few_declarations s order (written.declared s flags first params count are_marked many kept few args_are) ds locals_declared (written.few_order s flags first params count are_marked many kept few args_are)

      -- the whole
      pub made : HasSignature s.def s.slots s.parameters → blocks_hold s.is_function_type s.ops ≡ true → {X : Type 0} (new old : List ℕ) (i : X → List ℕ) (u : X → List Bool) (r : Result X IrError)
          → (bytes places : List ℕ) × (WritesBehind s.names (index_in s order) s.features s.ops ds (λ _. bytes) (λ _. places) r × IfOk r (λ _. new ≡ old ++ bytes))
          → AppendsBody s false i u old new r
      made fits blocks {X} new old i u r w =
          let ids = range_with_len first count in
          (w.0, w.1, index_in s order, ids, flags, (written.emitted s flags first params count are_marked many kept few args_are ids refl ds locals_declared fits blocks w.0 w.1 (λ _. ids) (λ _. flags) r (known r) w.2.0, untold r w.2.1))
        where
          known : (r : Result X IrError) → IfOk r (λ _. (range_with_len first count ≡ range_with_len first count) × (flags ≡ flags))
          known (Ok x) = (refl, refl)
          known (Err e) = tt

          untold : (r : Result X IrError) → IfOk r (λ _. new ≡ old ++ w.0) → IfOk r (λ x. (new ≡ old ++ w.0) × (false ≡ true → (i x ≡ range_with_len first count) × (u x ≡ flags)))
          untold (Ok x) h = (h, λ wrong. absurd cc)
          untold (Err e) h = tt

-- ---- what is told in any case

-- all is told, whether it is asked for or not
pub always : {X : Type 0} (s : Source) (tells : Bool) (i : X → List ℕ) (u : X → List Bool) (old new : List ℕ) (r : Result X IrError)
    → (bytes places : List ℕ) × (numbers : ℕ → Option ℕ) × (EmitsBody s (λ _. bytes) (λ _. places) (λ _. numbers) i u r × IfOk r (λ _. new ≡ old ++ bytes))
    → AppendsBody s tells i u old new r
always s tells i u old new (Ok x) w = (w.0, w.1, w.2, i x, u x, (w.3.0, (w.3.1, λ asked. (refl, refl))))
always {X} s tells i u old new (Err e) w = (w.0, w.1, w.2, [], [], (same_refusal {X = X} {Y = X} s (λ _. w.0) (λ _. w.1) (λ _. w.2) i u (λ _. w.0) (λ _. w.1) (λ _. w.2) (λ _. []) (λ _. []) e w.3.0, tt))

-- where it isn't asked for, nothing need be told
pub silent : {X : Type 0} (s : Source) (tells : Bool) (i : X → List ℕ) (u : X → List Bool) (old new : List ℕ) (r : Result X IrError) → tells ≡ false → AppendsBody s false i u old new r → AppendsBody s tells i u old new r
silent s tells i u old new r none h = subst (λ (b : Bool). AppendsBody s b i u old new r) (sym none) h
