-- The locals that operators use are what the look-up of locals finds for those that their text names.
use Rattle.std.proofs.Common.{◌≡◌, ℕ, List, [], ◌∷◌, refl, sym, ap, ◌∙◌, subst, ⊎_elim}
use Rattle.std.specs.Prelude.{Option, Some, Contains, flat_map}
use Rattle.std.specs.List.{AllByRecursion}
use Rattle.wasm_forms.specs.Reading.{◌>>=◌}
use Rattle.wasm_forms.proofs.Bind.{some_same, bind_some}
use Rattle.walrus_base.specs.Operators.{Memories, Arg, Index, Label, Local, Number, Count, Byte, S32, S64, Bits32, Bits64, Value, Heap, Block, Access, Op, arg_locals, op_locals, locals_of}
use Rattle.walrus_code.specs.Names.{Lookup, named_heap, named_val, named_block, named_arg, named_args, named_op, named_ops}
use Rattle.walrus_base.proofs.Lists.{Contains-none, Contains-uncons}
use Rattle.walrus_theorem.proofs.StepHandlers.{Contains-split}

-- P holds of the numbers of locals that an argument, or operators, name
module _ (P : ℕ → Type 0) where
  abbrev pub ArgHolds : Arg → Type 0
  ArgHolds (Local n) = P n
  ArgHolds arg = Unit {0}

  abbrev pub OpsHold : List Op → Type 0
  OpsHold ops = AllByRecursion (λ (o : Op). AllByRecursion ArgHolds o.args) ops

module _ (names : Lookup) (locals : ℕ → Option ℕ) (P : ℕ → Type 0) where
  abbrev Found : ℕ → Type 0
  Found x = (n : ℕ) × (P n × (locals n ≡ Some x))

  nothing : {A : Type 0} (a b : Arg) (x : ℕ) → a ≡ b → arg_locals a ≡ [] → Contains (arg_locals b) x → A
  nothing a b x e none at = absurd (Contains-none x (subst (λ l. Contains l x) (ap arg_locals (sym e) ∙ none) at))

  arg_found : (a b : Arg) → ArgHolds P a → named_arg names locals a ≡ Some b → (x : ℕ) → Contains (arg_locals b) x → Found x
  arg_found (Local n) b u e x at =
      let y = bind_some (locals n) (λ found. Some (Local found)) b e in
      ⊎_elim (λ (is : y.0 ≡ x). (n, (u, y.1 ∙ ap Some is))) (λ rest. absurd (Contains-none x rest)) (Contains-uncons y.0 x [] (subst (λ z. Contains (arg_locals z) x) (sym (some_same (Local y.0) b y.2)) at))
  arg_found (Index z) b u e x at = let y = bind_some (names z.0 z.1) (λ found. Some (Index (z.0, found))) b e in nothing (Index (z.0, y.0)) b x (some_same _ b y.2) refl at
  arg_found (Value v) b u e x at = let y = bind_some (named_val names v) (λ found. Some (Value found)) b e in nothing (Value y.0) b x (some_same _ b y.2) refl at
  arg_found (Heap h) b u e x at = let y = bind_some (named_heap names h) (λ found. Some (Heap found)) b e in nothing (Heap y.0) b x (some_same _ b y.2) refl at
  arg_found (Block k) b u e x at = let y = bind_some (named_block names k) (λ found. Some (Block found)) b e in nothing (Block y.0) b x (some_same _ b y.2) refl at
  arg_found (Access flags memory offset) b u e x at = let y = bind_some (names Memories memory) (λ found. Some (Access flags found offset)) b e in nothing (Access flags y.0 offset) b x (some_same _ b y.2) refl at
  arg_found (Label n) b u e x at = nothing (Label n) b x (some_same _ b e) refl at
  arg_found (Number n) b u e x at = nothing (Number n) b x (some_same _ b e) refl at
  arg_found (Count n) b u e x at = nothing (Count n) b x (some_same _ b e) refl at
  arg_found (Byte n) b u e x at = nothing (Byte n) b x (some_same _ b e) refl at
  arg_found (S32 n) b u e x at = nothing (S32 n) b x (some_same _ b e) refl at
  arg_found (S64 n) b u e x at = nothing (S64 n) b x (some_same _ b e) refl at
  arg_found (Bits32 n) b u e x at = nothing (Bits32 n) b x (some_same _ b e) refl at
  arg_found (Bits64 n) b u e x at = nothing (Bits64 n) b x (some_same _ b e) refl at

  args_found : (xs ys : List Arg) → AllByRecursion (ArgHolds P) xs → named_args names locals xs ≡ Some ys → (x : ℕ) → Contains (flat_map arg_locals ys) x → Found x
  args_found [] ys h e x at = absurd (Contains-none x (subst (λ l. Contains (flat_map arg_locals l) x) (sym (some_same [] ys e)) at))
  args_found (a ∷ xs) ys h e x at =
      let y = bind_some (named_arg names locals a) (λ found. named_args names locals xs >>= λ others. Some (found ∷ others)) ys e in
      let z = bind_some (named_args names locals xs) (λ others. Some (y.0 ∷ others)) ys y.2 in
      ⊎_elim (arg_found a y.0 h.0 y.1 x) (args_found xs z.0 h.1 z.1 x) (Contains-split x (arg_locals y.0) (flat_map arg_locals z.0) (subst (λ l. Contains (flat_map arg_locals l) x) (sym (some_same (y.0 ∷ z.0) ys z.2)) at))

  pub ops_found : (os ops : List Op) → OpsHold P os → named_ops names locals os ≡ Some ops → (x : ℕ) → Contains (locals_of ops) x → Found x
  ops_found [] ops h e x at = absurd (Contains-none x (subst (λ l. Contains (locals_of l) x) (sym (some_same [] ops e)) at))
  ops_found (o ∷ os) ops h e x at =
      let y = bind_some (named_op names locals o) (λ found. named_ops names locals os >>= λ others. Some (found ∷ others)) ops e in
      let z = bind_some (named_ops names locals os) (λ others. Some (y.0 ∷ others)) ops y.2 in
      let a = bind_some (named_args names locals o.args) (λ args. let p : Op = record { op = o.op; args = args } in Some p) y.0 y.1 in
      ⊎_elim
      (λ here. args_found o.args a.0 h.0 a.1 x (subst (λ (p : Op). Contains (op_locals p) x) (sym (some_same _ y.0 a.2)) here))
      (ops_found os z.0 h.1 z.1 x)
      (Contains-split x (op_locals y.0) (locals_of z.0) (subst (λ l. Contains (locals_of l) x) (sym (some_same (y.0 ∷ z.0) ops z.2)) at))
