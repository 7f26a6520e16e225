-- What the loop over the operators of a body keeps.
use Rattle.std.proofs.Common.{◌≡◌, ℕ, zero, suc, ◌+◌, ◌-◌, ◌<◌, ◌≤◌, true, false, List, [], ◌∷◌, ◌++◌, Option, Some, None, Result, Ok, Err, IsErrAnd, cond, refl, ap, ◌∙◌, sym, arith, append_assoc}
use Rattle.wasm_forms.specs.Reading.{◌>>=◌}
use Rattle.walrus_base.specs.Operators.{Op}
use Rattle.walrus_code.specs.declared.error.IrError.{IrError}
use Rattle.walrus_code.specs.declared.error.IrError.TheVariants.{Malformed, Memory, NoIndex, NotWritable, TooLarge}
use Rattle.walrus_bodies.specs.declared.blocks.Opened.{Opened}
use Rattle.walrus_bodies.specs.Blocks.{is_none_open}
use Rattle.walrus_bodies.specs.Body.{Context}
use Rattle.walrus_bodies.specs.Reader.{Refuses, Gives, next_at, ops_at, ended, behind}

more_left : (most turn : ℕ) → turn < most → most - turn ≡ suc (most - (turn + 1))
more_left most turn below = omega arith

behind-behind : (done : List Op) (x : Op) (rest : Option (List Op)) → behind (done ++ x ∷ []) rest ≡ behind done (rest >>= λ ops. Some (x ∷ ops))
behind-behind done x None = refl
behind-behind done x (Some ops) = ap Some (append_assoc done (x ∷ []) ops)

ended-behind : (done : List Op) (x : Op) (rest : List ℕ) → behind done (ended (x ∷ []) rest) ≡ ended (done ++ x ∷ []) rest
ended-behind done x [] = refl
ended-behind done x (b ∷ rest) = refl

behind-nothing : (o : Option (List Op)) → behind [] o ≡ o
behind-nothing None = refl
behind-nothing (Some ops) = refl

module _ (c : Context) (locals : ℕ → Option ℕ) where
  pub ops_at-next : (most : ℕ) (blocks : List Opened) (bytes : List ℕ) (x : Op × List Opened × List ℕ) → next_at c locals blocks bytes ≡ Some x → ops_at c locals (suc most) blocks bytes ≡ cond (is_none_open x.1) (ended (x.0 ∷ []) x.2) (ops_at c locals most x.1 x.2 >>= λ rest. Some (x.0 ∷ rest))
  unfolding ops_at
  ops_at-next most blocks bytes x is = rw is refl

  ops_at-none : (most : ℕ) (blocks : List Opened) (bytes : List ℕ) → next_at c locals blocks bytes ≡ None → ops_at c locals most blocks bytes ≡ None
  unfolding ops_at
  ops_at-none zero blocks bytes is = refl
  ops_at-none (suc most) blocks bytes is = rw is refl

  pub ops_at-zero : (blocks : List Opened) (bytes : List ℕ) → ops_at c locals 0 blocks bytes ≡ None
  unfolding ops_at
  ops_at-zero blocks bytes = refl

  -- an operator that isn't the last one
  pub step_more : (whole : Option (List Op)) (done : List Op) (most turn : ℕ) (blocks : List Opened) (bytes : List ℕ) (x : Op × List Opened × List ℕ) → behind done (ops_at c locals (most - turn) blocks bytes) ≡ whole → turn < most → next_at c locals blocks bytes ≡ Some x → is_none_open x.1 ≡ false → behind (done ++ x.0 ∷ []) (ops_at c locals (most - (turn + 1)) x.1 x.2) ≡ whole
  step_more whole done most turn blocks bytes x so_far below is more =
      behind-behind done x.0 (ops_at c locals (most - (turn + 1)) x.1 x.2)
      ∙ ap (behind done) (sym (rw (more_left most turn below, ops_at-next (most - (turn + 1)) blocks bytes x is, more) refl))
      ∙ so_far

  -- the last operator
  pub step_last : (whole : Option (List Op)) (done : List Op) (most turn : ℕ) (blocks : List Opened) (bytes : List ℕ) (x : Op × List Opened × List ℕ) → behind done (ops_at c locals (most - turn) blocks bytes) ≡ whole → turn < most → next_at c locals blocks bytes ≡ Some x → is_none_open x.1 ≡ true → ended (done ++ x.0 ∷ []) x.2 ≡ whole
  step_last whole done most turn blocks bytes x so_far below is closed =
      sym (ended-behind done x.0 x.2)
      ∙ ap (behind done) (sym (rw (more_left most turn below, ops_at-next (most - (turn + 1)) blocks bytes x is, closed) refl))
      ∙ so_far

  -- no operator
  pub step_none : (whole : Option (List Op)) (done : List Op) (left : ℕ) (blocks : List Opened) (bytes : List ℕ) → behind done (ops_at c locals left blocks bytes) ≡ whole → next_at c locals blocks bytes ≡ None → whole ≡ None
  step_none whole done left blocks bytes so_far is = sym so_far ∙ ap (behind done) (ops_at-none left blocks bytes is)

  -- no room for one
  pub step_out : (whole : Option (List Op)) (done : List Op) (most turn : ℕ) (blocks : List Opened) (bytes : List ℕ) → behind done (ops_at c locals (most - turn) blocks bytes) ≡ whole → most ≤ turn → whole ≡ None
  step_out whole done most turn blocks bytes so_far past =
      let none_left : most - turn ≡ 0 = omega arith in
      sym so_far ∙ ap (behind done) (nothing none_left)
    where
      nothing : most - turn ≡ 0 → ops_at c locals (most - turn) blocks bytes ≡ None
      nothing none_left = rw none_left (ops_at-zero blocks bytes)

  pub start : (most : ℕ) (blocks : List Opened) (bytes : List ℕ) → behind [] (ops_at c locals (most - 0) blocks bytes) ≡ ops_at c locals most blocks bytes
  start most blocks bytes = let same : most - 0 ≡ most = omega arith in rw same (behind-nothing (ops_at c locals most blocks bytes))

-- a refusal is passed on where what is read can't be there without the part
pub refused : {Y W : Type 0} (e : IrError) (part : Option Y) (whole : Option W) → Refuses e part → (part ≡ None → whole ≡ None) → Refuses e whole
refused Malformed part whole is so = so is
refused (Memory e) part whole is so = tt
refused NoIndex part whole is so = is
refused NotWritable part whole is so = is
refused TooLarge part whole is so = is

pub passed_on : {Z W : Type 0} (view : Z → W) (result : Result Z IrError) (e : IrError) (whole : Option W) → IsErrAnd result (λ x. x ≡ e) → Refuses e whole → Gives view result whole
passed_on view (Ok x) e whole is gives = absurd is
passed_on view (Err x) e whole is gives = rw is gives

pub same_given : {Z W : Type 0} (view : Z → W) (result : Result Z IrError) {part whole : Option W} → part ≡ whole → Gives view result part → Gives view result whole
same_given view result is gives = rw (← is) gives
