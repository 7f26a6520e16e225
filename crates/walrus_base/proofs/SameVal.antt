-- Whether two value types are one; whether a list has a number; and the least number of which something holds.
use Rattle.std.proofs.Common.{◌≡◌, ℕ, zero, suc, ◌<◌, ◌≤◌, Bool, true, false, List, [], ◌∷◌, refl, sym, ap, ap₂, ◌∙◌, subst, arith, inl, inr, ◌⊎◌, ⊎_elim}
use Rattle.std.specs.Prelude.{Option, Some, None, Contains, option_map, nat_eq, if◌then◌else◌}
use Rattle.std.proofs.lemmas.Bool.{cases_lt}
use Rattle.std.proofs.lemmas.Bool.Decides.{eqb_tells}
use Rattle.walrus_base.specs.Types.{AbstractHeap, FuncHeap, ExternHeap, AnyHeap, EqHeap, I31Heap, StructHeap, ArrayHeap, ExnHeap, NoneHeap, NoExternHeap, NoFuncHeap, NoExnHeap, HeapType, OfHeap, Concrete, Exact, RefType, ValType, I32, I64, F32, F64, V128, Ref}
use Rattle.walrus_base.specs.Shape.{place_in}
use Rattle.walrus_base.proofs.Lists.{Contains-head, Contains-tail, Contains-uncons, Contains-none}

-- it holds, or it does not
abbrev pub Told : Type 0 → Type 0
Told A = A ⊎ (A → ⊥)

code : AbstractHeap → ℕ
code FuncHeap = 0
code ExternHeap = 1
code AnyHeap = 2
code EqHeap = 3
code I31Heap = 4
code StructHeap = 5
code ArrayHeap = 6
code ExnHeap = 7
code NoneHeap = 8
code NoExternHeap = 9
code NoFuncHeap = 10
code NoExnHeap = 11

decode : ℕ → AbstractHeap
decode zero = FuncHeap
decode (suc zero) = ExternHeap
decode (suc (suc zero)) = AnyHeap
decode (suc (suc (suc zero))) = EqHeap
decode (suc (suc (suc (suc zero)))) = I31Heap
decode (suc (suc (suc (suc (suc zero))))) = StructHeap
decode (suc (suc (suc (suc (suc (suc zero)))))) = ArrayHeap
decode (suc (suc (suc (suc (suc (suc (suc zero))))))) = ExnHeap
decode (suc (suc (suc (suc (suc (suc (suc (suc zero)))))))) = NoneHeap
decode (suc (suc (suc (suc (suc (suc (suc (suc (suc zero))))))))) = NoExternHeap
decode (suc (suc (suc (suc (suc (suc (suc (suc (suc (suc zero)))))))))) = NoFuncHeap
decode (suc (suc (suc (suc (suc (suc (suc (suc (suc (suc (suc n))))))))))) = NoExnHeap

decoded : (h : AbstractHeap) → decode (code h) ≡ h
unfolding code decode
decoded FuncHeap = refl
decoded ExternHeap = refl
decoded AnyHeap = refl
decoded EqHeap = refl
decoded I31Heap = refl
decoded StructHeap = refl
decoded ArrayHeap = refl
decoded ExnHeap = refl
decoded NoneHeap = refl
decoded NoExternHeap = refl
decoded NoFuncHeap = refl
decoded NoExnHeap = refl

pub told_nat : (x y : ℕ) → Told (x ≡ y)
told_nat x y = ⊎_elim (λ h. inl h.1) (λ h. inr h.1) (eqb_tells x y)

told_by : {A B : Type 0} → (A → B) → (B → A) → Told A → Told B
told_by f g (inl h) = inl (f h)
told_by f g (inr h) = inr (λ b. h (g b))

pub told_both : {A B : Type 0} → Told A → Told B → Told (A × B)
told_both (inl a) (inl b) = inl (a, b)
told_both (inl a) (inr b) = inr (λ h. b h.1)
told_both (inr a) b = inr (λ h. a h.0)

pub told_not : {A : Type 0} → Told A → Told (A → ⊥)
told_not (inl a) = inr (λ h. h a)
told_not (inr a) = inl a

told_abstract : (h k : AbstractHeap) → Told (h ≡ k)
told_abstract h k = told_by (λ (e : code h ≡ code k). sym (decoded h) ∙ ap decode e ∙ decoded k) (λ (e : h ≡ k). ap code e) (told_nat (code h) (code k))

told_bool : (a b : Bool) → Told (a ≡ b)
told_bool true true = inl refl
told_bool false false = inl refl
told_bool true false = inr (λ e. cc)
told_bool false true = inr (λ e. cc)

abbrev plain : AbstractHeap → HeapType ℕ
plain h = OfHeap h

of_abstract : (h k : AbstractHeap) → plain h ≡ plain k → h ≡ k
of_abstract h k e = cc

of_concrete : (t u : ℕ) → Concrete t ≡ Concrete u → t ≡ u
of_concrete t u e = cc

of_exact : (t u : ℕ) → Exact t ≡ Exact u → t ≡ u
of_exact t u e = cc

of_ref : (x y : RefType ℕ) → Ref x ≡ Ref y → x ≡ y
of_ref x y e = cc

told_heap : (h k : HeapType ℕ) → Told (h ≡ k)
told_heap (OfHeap h) (OfHeap k) = told_by (λ (e : h ≡ k). ap OfHeap e) (λ e. of_abstract h k e) (told_abstract h k)
told_heap (Concrete t) (Concrete u) = told_by (λ (e : t ≡ u). ap Concrete e) (λ e. of_concrete t u e) (told_nat t u)
told_heap (Exact t) (Exact u) = told_by (λ (e : t ≡ u). ap Exact e) (λ e. of_exact t u e) (told_nat t u)
told_heap (OfHeap h) (Concrete t) = inr (λ e. cc)
told_heap (OfHeap h) (Exact t) = inr (λ e. cc)
told_heap (Concrete t) (OfHeap h) = inr (λ e. cc)
told_heap (Concrete t) (Exact u) = inr (λ e. cc)
told_heap (Exact t) (OfHeap h) = inr (λ e. cc)
told_heap (Exact t) (Concrete u) = inr (λ e. cc)

told_ref : (x y : RefType ℕ) → Told (x ≡ y)
told_ref x y = told_by
    (λ (h : (x.nullable ≡ y.nullable) × (x.heap ≡ y.heap)). ap₂ (λ n k. record { nullable = n; heap = k }) h.0 h.1)
    (λ (e : x ≡ y). (ap (λ r. r.nullable) e, ap (λ r. r.heap) e))
    (told_both (told_bool x.nullable y.nullable) (told_heap x.heap y.heap))

pub told_val : (v w : ValType ℕ) → Told (v ≡ w)
told_val I32 I32 = inl refl
told_val I64 I64 = inl refl
told_val F32 F32 = inl refl
told_val F64 F64 = inl refl
told_val V128 V128 = inl refl
told_val (Ref x) (Ref y) = told_by (λ (e : x ≡ y). ap Ref e) (λ e. of_ref x y e) (told_ref x y)
told_val v w = inr (λ e. cc)

of_some : (v w : ValType ℕ) → Some v ≡ Some w → v ≡ w
of_some v w e = cc

pub told_type : (o : Option (ValType ℕ)) (w : ValType ℕ) → Told (o ≡ Some w)
told_type None w = inr (λ e. cc)
told_type (Some v) w = told_by (λ (e : v ≡ w). ap Some e) (λ e. of_some v w e) (told_val v w)

-- ---- lists of numbers

told_next : (y : ℕ) (ys : List ℕ) (x : ℕ) → Told (y ≡ x) → Told (Contains ys x) → Told (Contains (y ∷ ys) x)
told_next y ys x (inl h) t = inl (subst (Contains (y ∷ ys)) h (Contains-head y ys))
told_next y ys x (inr h) (inl t) = inl (Contains-tail y x ys t)
told_next y ys x (inr h) (inr t) = inr (λ at. ⊎_elim h t (Contains-uncons y x ys at))

pub told_in : (xs : List ℕ) (x : ℕ) → Told (Contains xs x)
told_in [] x = inr (λ at. Contains-none x at)
told_in (y ∷ ys) x = told_next y ys x (told_nat y x) (told_in ys x)

-- what isn't there has no place
placed_next : (o : Option ℕ) → o ≡ None → option_map suc o ≡ None
placed_next o e = ap (option_map suc) e

not_placed : (y : ℕ) (ys : List ℕ) (x : ℕ) → ((nat_eq y x ≡ true) × (y ≡ x)) ⊎ ((nat_eq y x ≡ false) × (y ≡ x → ⊥)) → (Contains (y ∷ ys) x → ⊥) → place_in ys x ≡ None → place_in (y ∷ ys) x ≡ None
not_placed y ys x (inl h) away e = absurd (away (subst (Contains (y ∷ ys)) h.1 (Contains-head y ys)))
not_placed y ys x (inr h) away e = ap (λ (b : Bool). if b then Some 0 else option_map suc (place_in ys x)) h.0 ∙ placed_next (place_in ys x) e

pub unplaced : (xs : List ℕ) (x : ℕ) → (Contains xs x → ⊥) → place_in xs x ≡ None
unplaced [] x away = refl
unplaced (y ∷ ys) x away = not_placed y ys x (eqb_tells y x) away (unplaced ys x (λ at. away (Contains-tail y x ys at)))

abbrev Placed : List ℕ → ℕ → Type 0
Placed xs x = (k : ℕ) × (place_in xs x ≡ Some k)

placed_by : (y : ℕ) (ys : List ℕ) (x : ℕ) → ((nat_eq y x ≡ true) × (y ≡ x)) ⊎ ((nat_eq y x ≡ false) × (y ≡ x → ⊥)) → (Contains ys x → Placed ys x) → (y ≡ x) ⊎ Contains ys x → Placed (y ∷ ys) x
placed_by y ys x (inl h) next at = (0, ap (λ (b : Bool). if b then Some 0 else option_map suc (place_in ys x)) h.0)
placed_by y ys x (inr h) next (inl e) = absurd (h.1 e)
placed_by y ys x (inr h) next (inr at) =
    let p = next at in
    (suc p.0, ap (λ (b : Bool). if b then Some 0 else option_map suc (place_in ys x)) h.0 ∙ ap (option_map suc) p.1)

pub placed : (xs : List ℕ) (x : ℕ) → Contains xs x → (k : ℕ) × (place_in xs x ≡ Some k)
placed [] x at = absurd (Contains-none x at)
placed (y ∷ ys) x at = placed_by y ys x (eqb_tells y x) (placed ys x) (Contains-uncons y x ys at)

-- ---- the least

module _ (P : ℕ → Type 0) (told : (x : ℕ) → Told (P x)) where
  abbrev pub Least : ℕ → Type 0
  Least m = P m × ((y : ℕ) → P y → m ≤ y)

  NoneBelow : ℕ → Type 0
  NoneBelow n = (y : ℕ) → y < n → P y → ⊥

  least_at : (n : ℕ) → NoneBelow n → Told (P n) → ((m : ℕ) × Least m) ⊎ NoneBelow (suc n)
  unfolding NoneBelow
  least_at n none (inl p) = inl (n, (p, λ y q. at_least n y (λ lt. none y lt q)))
    where
      at_least : (n y : ℕ) → (y < n → ⊥) → n ≤ y
      at_least n y h = omega (arith, h)
  least_at n none (inr p) = inr (λ y lt q. above y lt q)
    where
      one : (y : ℕ) → y < suc n → (y < n) ⊎ (y ≡ n)
      one y lt = ⊎_elim (λ h. inl h) (λ h. let e : y ≡ n = omega (arith, h, lt) in inr e) (cases_lt y n)

      above : (y : ℕ) → y < suc n → P y → ⊥
      above y lt q = ⊎_elim (λ h. none y h q) (λ e. p (subst P e q)) (one y lt)

  least_below : (n : ℕ) → ((m : ℕ) × Least m) ⊎ NoneBelow n
  unfolding NoneBelow
  least_below zero = inr (λ y lt p. absurd (omega (arith, lt)))
  least_below (suc n) = ⊎_elim (λ h. inl h) (λ none. least_at n none (told n)) (least_below n)

  pub least : (n : ℕ) → P n → (m : ℕ) × Least m
  unfolding NoneBelow
  least n p = ⊎_elim (λ h. h) (λ none. absurd (none n (omega arith) p)) (least_below (suc n))
