-- A catch that bytes spell names a tag.
use Rattle.std.proofs.Common.{◌≡◌, ℕ, zero, suc, ◌+◌, ◌*◌, Bool, true, false, List, [], ◌∷◌, ◌++◌, length, map, zip, refl, sym, ap, ◌∙◌, subst, ⊎_elim}
use Rattle.std.specs.Prelude.{Option, Some, None, slice_get, Contains, nat_lt}
use Rattle.std.specs.List.{AllZip}
use Rattle.wasm_forms.specs.Reading.{◌>>=◌}
use Rattle.wasm_forms.specs.Grammar.{Form, Is, IsRow, Led, Where, U32, choose}
use Rattle.wasm_operators.specs.declared.kind.Kind.{Kind}
use Rattle.wasm_operators.specs.declared.kind.Kind.TheVariants as kinds
use Rattle.wasm_operators.specs.declared.operator.RawArg.{RawArg}
use Rattle.wasm_operators.specs.declared.operator.RawArg.TheVariants as raw
use Rattle.wasm_operators.specs.Operators as wire
use Rattle.wasm_operators.specs.Table.{kinds_of}
use Rattle.wasm_operators.specs.Forms.{arg_form, args_form, behind, operator_of, is_prefix, operator_from, operator}
use Rattle.wasm_frames.specs.Record as frames
use Rattle.wasm_forms.proofs.Bind.{some_same, bind_some}
use Rattle.walrus_base.specs.Operators.{Tags, Item, Arg, Index, Op}
use Rattle.walrus_code.specs.FromRaw.{arg_of, op_of, ops_of}
use Rattle.walrus_code.specs.Names.{Lookup, named_arg, named_args, named_op, named_ops}
use Rattle.walrus_model.specs.BlockHandlers.{params_of}
use Rattle.walrus_model.specs.ReadFunction.{locals_from}
use Rattle.walrus_model.specs.Abstract.{Body, Function}
use Rattle.walrus_model.specs.Config.{Config}
use Rattle.walrus_model.specs.Names.{body_of_kind, body_of_function}
use Rattle.walrus_model.specs.Reads.{declared}
use Rattle.walrus_model.specs.Sections.{Said, body_with, types_of, function_with}
use Rattle.walrus_theorem.specs.Headline.{ReadsBody}
use Rattle.walrus_model.proofs.StepPlain.{CatchesTags}
use Rattle.walrus_base.proofs.Lists.{Contains-none, Contains-uncons}

-- ---- one operator

-- if it is a catch, its one argument is a tag
abbrev CatchIsTag : wire.Op → Type 0
CatchIsTag t = t.op ≡ 0x07 → (n : ℕ) × (t.args ≡ raw.Tag n ∷ [])

seven_kinds : kinds_of 0x07 ≡ Some (kinds.Tag ∷ [])
unfolding kinds_of
seven_kinds = refl

nil_append : {A : Type 0} (x : A) (xs ys : List A) → xs ≡ x ∷ [] → ys ≡ [] → xs ++ ys ≡ x ∷ []
nil_append x xs ys e f = ap (λ l. l ++ ys) e ∙ ap (λ l. x ∷ l) f

tag_args : (bytes : List ℕ) (xs : List RawArg) → Is (args_form (kinds.Tag ∷ [])) bytes xs → (n : ℕ) × (xs ≡ raw.Tag n ∷ [])
unfolding args_form arg_form
tag_args bytes xs (pair, (is, (front, (back, (parts, (n, (made, number)), rest))))) = (n, is ∙ nil_append (raw.Tag n) pair.0 pair.1 made rest.1)

behind_catches : (k : ℕ) (o : Option (List Kind)) → kinds_of k ≡ o → (bytes : List ℕ) (t : wire.Op) → Is (behind k o) bytes t → CatchIsTag t
behind_catches k None at bytes t is seven = absurd is
behind_catches k (Some ks) at bytes t (xs, (made, are)) seven =
    let here : 0x07 ≡ k = sym seven ∙ ap (λ (x : wire.Op). x.op) made in
    let same : ks ≡ kinds.Tag ∷ [] = some_same ks (kinds.Tag ∷ []) (sym at ∙ ap kinds_of (sym here) ∙ seven_kinds) in
    let found = tag_args bytes xs (subst (λ l. Is (args_form l) bytes xs) same are) in
    (found.0, ap (λ (x : wire.Op). x.args) made ∙ found.1)

of_catches : (k : ℕ) (bytes : List ℕ) (t : wire.Op) → Is (operator_of k) bytes t → CatchIsTag t
unfolding operator_of
of_catches k bytes t is = behind_catches k (kinds_of k) refl bytes t is

chosen_catches : (b : Bool) (f g : Form wire.Op) → ((bytes : List ℕ) (t : wire.Op) → Is f bytes t → CatchIsTag t) → ((bytes : List ℕ) (t : wire.Op) → Is g bytes t → CatchIsTag t) → (bytes : List ℕ) (t : wire.Op) → Is (choose b f g) bytes t → CatchIsTag t
chosen_catches true f g hf hg bytes t is = hf bytes t is
chosen_catches false f g hf hg bytes t is = hg bytes t is

from_catches : (b : ℕ) (bytes : List ℕ) (t : wire.Op) → Is (operator_from b) bytes t → CatchIsTag t
unfolding operator_from
from_catches b bytes t is =
    chosen_catches (is_prefix b) (Led (Where (λ n. nat_lt n 65536) U32) (λ n. operator_of (b * 65536 + n))) (operator_of b)
    (λ bytes t is. of_catches (b * 65536 + is.0) is.1.1.0 t is.1.1.1.2)
    (λ bytes t is. of_catches b bytes t is)
    bytes t is

operator_catches : (bytes : List ℕ) (t : wire.Op) → Is operator bytes t → CatchIsTag t
unfolding operator
operator_catches bytes t is = from_catches is.0 is.1.1.0 t is.1.1.1.2

abbrev AllCatch : List wire.Op → Type 0
AllCatch [] = Unit {0}
AllCatch (t ∷ ts) = CatchIsTag t × AllCatch ts

row_catches : (ts : List wire.Op) (bytes : List ℕ) → IsRow (Is operator) bytes ts → AllCatch ts
row_catches [] bytes is = tt
row_catches (t ∷ ts) bytes is = (operator_catches is.0 t is.1.1.1, row_catches ts is.1.0 is.1.1.2)

-- ---- with each index looked up

module _ (names : Lookup) (locals : ℕ → Option ℕ) where
  tag_named : (n : ℕ) (xs : List Arg) → named_args names locals (Index (Tags, n) ∷ []) ≡ Some xs → (k : ℕ) × (xs ≡ Index (Tags, k) ∷ [])
  tag_named n xs e =
      let one = bind_some (named_arg names locals (Index (Tags, n))) (λ found. Some (found ∷ [])) xs e in
      let inner = bind_some (names Tags n) (λ found. Some (Index (Tags, found))) one.0 one.1 in
      (inner.0, sym (some_same (one.0 ∷ []) xs one.2) ∙ ap (λ (a : Arg). a ∷ []) (sym (some_same (Index (Tags, inner.0)) one.0 inner.2)))

  index_space : (x : Item) (k : ℕ) (rest : List Arg) → Index x ∷ rest ≡ Index (Tags, k) ∷ [] → x.0 ≡ Tags
  index_space x k rest e =
      let heads : Index x ≡ Index (Tags, k) = cc in
      let is : x ≡ (Tags, k) = cc in
      ap (λ (y : Item). y.0) is

  one_catches : (t : wire.Op) (o : Op) → named_op names locals (op_of t) ≡ Some o → CatchIsTag t → (x : Item) (rest : List Arg) → o.op ≡ 0x07 → o.args ≡ Index x ∷ rest → x.0 ≡ Tags
  one_catches t o e catch x rest seven is =
      let found = bind_some (named_args names locals (map arg_of t.args)) (λ xs. Some (let p : Op = record { op = t.op; args = xs } in p)) o e in
      let made : (let p : Op = record { op = t.op; args = found.0 } in p) ≡ o = some_same (let p : Op = record { op = t.op; args = found.0 } in p) o found.2 in
      let tag = catch (ap (λ (p : Op). p.op) made ∙ seven) in
      let named = tag_named tag.0 found.0 (subst (λ l. named_args names locals (map arg_of l) ≡ Some found.0) tag.1 found.1) in
      index_space x named.0 rest (sym is ∙ sym (ap (λ (p : Op). p.args) made) ∙ named.1)

  ops_catch : (ts : List wire.Op) (ops : List Op) → named_ops names locals (ops_of ts) ≡ Some ops → AllCatch ts → CatchesTags ops
  ops_catch [] ops e all o x rest at seven is = absurd (Contains-none o (subst (λ l. Contains l o) (sym (some_same [] ops e)) at))
  ops_catch (t ∷ ts) ops e all o x rest at seven is =
      let first = bind_some (named_op names locals (op_of t)) (λ found. named_ops names locals (ops_of ts) >>= λ others. Some (found ∷ others)) ops e in
      let second = bind_some (named_ops names locals (ops_of ts)) (λ others. Some (first.0 ∷ others)) ops first.2 in
      ⊎_elim
      (λ (here : first.0 ≡ o). one_catches t first.0 first.1 all.0 x rest (ap (λ (p : Op). p.op) here ∙ seven) (ap (λ (p : Op). p.args) here ∙ is))
      (λ later. ops_catch ts second.0 second.1 all.1 o x rest later seven is)
      (Contains-uncons first.0 o second.0 (subst (λ l. Contains l o) (sym (some_same (first.0 ∷ second.0) ops second.2)) at))

-- ---- the bodies of a module

module _ (c : Config) (s : frames.Module) where
  abbrev AllSaid : List Said → Type 0
  AllSaid [] = Unit {0}
  AllSaid (said ∷ rest) = CatchesTags said.1 × AllSaid rest

  said_catches : (f : ℕ × frames.Body) (said : Said) → ReadsBody c s f said → CatchesTags said.1
  said_catches f said read = ops_catch (declared s) (locals_from 0 (length (params_of (types_of s f.0)) + length said.0)) read.operators.texts said.1 read.operators.named (row_catches read.operators.texts read.back read.operators.spelled)

  pub all_said : (fs : List (ℕ × frames.Body)) (bodies : List Said) → AllZip (ReadsBody c s) fs bodies → AllSaid bodies
  all_said [] [] read = tt
  all_said [] (said ∷ rest) read = absurd read
  all_said (f ∷ fs) [] read = absurd read
  all_said (f ∷ fs) (said ∷ rest) read = (said_catches f said read.0, all_said fs rest read.1)

  abbrev pub BodyCatches : Function → Type 0
  BodyCatches f = (b : Body) → body_of_kind f.kind ≡ Some b → CatchesTags b.operators

  abbrev pub AllCatches : List Function → Type 0
  AllCatches [] = Unit {0}
  AllCatches (f ∷ fs) = BodyCatches f × AllCatches fs

  pub local_catches : (tys : List ℕ) (bodies : List Said) → AllSaid bodies → AllCatches (map (function_with s) (zip tys bodies))
  local_catches [] bodies all = tt
  local_catches (ty ∷ tys) [] all = tt
  local_catches (ty ∷ tys) (said ∷ rest) all = (
    (λ b e. subst (λ (x : Body). CatchesTags x.operators) (some_same (body_with (params_of (types_of s ty)) said) b e) all.0),
    local_catches tys rest all.1,
  )

  pub catches_at : (fs : List Function) → AllCatches fs → (i : ℕ) (b : Body) → body_of_function (slice_get fs i) ≡ Some b → CatchesTags b.operators
  catches_at [] all i b e = absurd (cc)
  catches_at (f ∷ fs) all zero b e = all.0 b e
  catches_at (f ∷ fs) all (suc i) b e = catches_at fs all.1 i b e

  pub all_append : (fs gs : List Function) → AllCatches fs → AllCatches gs → AllCatches (fs ++ gs)
  all_append [] gs h k = k
  all_append (f ∷ fs) gs h k = (h.0, all_append fs gs h.1 k)
