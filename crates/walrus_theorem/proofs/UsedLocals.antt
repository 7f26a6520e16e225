-- Used locals get one number under two renamings, and the bodies are one.
use Rattle.std.proofs.Common.{◌≡◌, ℕ, ◌+◌, ◌<◌, ◌≤◌, List, [], ◌∷◌, ◌++◌, length, map, refl, sym, ap, ap₂, ◌∙◌, subst, arith, inl, inr, ◌⊎◌, ⊎_elim, length-append}
use Rattle.std.specs.Prelude.{Option, Some, None, IsSome, Contains, option_map, slice_get}
use Rattle.std.specs.List.{range_with_len}
use Rattle.std.proofs.lemmas.Bool.{cases_lt}
use Rattle.std.proofs.lemmas.Option.{slice_get_within, slice_get_past, same_Some}
use Rattle.std.proofs.lemmas.List.FromFn.{length-range_with_len}
use Rattle.walrus_base.specs.Types.{ValType, map_val, val_names}
use Rattle.walrus_base.specs.Operators.{Types, Item, Op, type_item, locals_of, names_of}
use Rattle.walrus_base.specs.Shape.{place_in}
use Rattle.walrus_model.specs.DeclaredLocals.{rank}
use Rattle.walrus_model.specs.Abstract.{Body}
use Rattle.walrus_model.specs.Sections.{Said, body_with}
use Rattle.walrus_model.specs.Refers.{named_by, IsUsed, used_locals, local_names}
use Rattle.walrus_model.specs.Renaming.{Renaming}
use Rattle.walrus_model.specs.Same.{SameBody}
use Rattle.walrus_theorem.specs.Pinned.{LocalHasType, DeclaresLocal, LocalTypeBeginsBefore, LocalTypeGoesBefore, LocalGoesBefore}
use Rattle.walrus_theorem.specs.Spelling.{UsesAll}
use Rattle.walrus_base.proofs.Lists.{Contains-head, Contains-tail, Contains-uncons, Contains-none}
use Rattle.walrus_base.proofs.Agree.{Ordered, Rising, NoGap, Compared, compared, agree}
use Rattle.walrus_model.proofs.Alike.{On, val_one, ops_one}
use Rattle.walrus_model.proofs.OpsFollow.{ops_locals_follow}
use Rattle.walrus_base.proofs.Lookups.{place_range, place_past}
use Rattle.walrus_base.proofs.SameVal.{Told, told_both, told_not, told_in, told_val, told_type, unplaced, placed, least}
use Rattle.walrus_model.proofs.OneList.{got_at}
use Rattle.walrus_model.proofs.TypeLists.{got_right as behind}

-- ---- the order of declared locals is total

module _ (a : Body) where
  abbrev Of : ValType ℕ → ℕ → Type 0
  Of v x = DeclaresLocal a x × LocalHasType a x v

  told_of : (v : ValType ℕ) (x : ℕ) → Told (Of v x)
  told_of v x = told_both (told_both (told_in (used_locals a) x) (told_not (told_in a.parameters x))) (told_type (a.local_type x) v)

  one_type : (o : Option (ValType ℕ)) (v w : ValType ℕ) → o ≡ Some v → o ≡ Some w → v ≡ w
  one_type o v w e f = let p : Some v ≡ Some w = sym e ∙ f in cc

  -- of two types the one begins before the other
  begin : (v w : ValType ℕ) (x y : ℕ) → Of v x → Of w y → (v ≡ w → ⊥) → LocalTypeBeginsBefore a v w ⊎ LocalTypeBeginsBefore a w v
  begin v w x y px py apart =
      let m = least (Of v) (told_of v) x px in
      let n = least (Of w) (told_of w) y py in
      begins m.0 n.0 m.1 n.1 (compared m.0 n.0)
    where
      begins : (i j : ℕ) → (Of v i × ((z : ℕ) → Of v z → i ≤ z)) → (Of w j × ((z : ℕ) → Of w z → j ≤ z)) → Compared i j → LocalTypeBeginsBefore a v w ⊎ LocalTypeBeginsBefore a w v
      begins i j p q (inl h) = inl (i, (p.0.0, p.0.1, λ z dz tz. let far : j ≤ z = q.1 z (dz, tz) in omega (arith, h, far)))
      begins i j p q (inr (inl h)) = absurd (apart (one_type (a.local_type j) v w (subst (λ z. LocalHasType a z v) h p.0.1) q.0.1))
      begins i j p q (inr (inr h)) = inr (j, (q.0.0, q.0.1, λ z dz tz. let far : i ≤ z = p.1 z (dz, tz) in omega (arith, h, far)))

  module _ (v w : ValType ℕ) (x y : ℕ) (px : Of v x) (py : Of w y) where
    forth : (LocalTypeGoesBefore a v w ⊎ ((v ≡ w) × (x < y))) → LocalGoesBefore a x y
    forth h = (v, (w, (px.1, py.1, h)))

    back : (LocalTypeGoesBefore a w v ⊎ ((w ≡ v) × (y < x))) → LocalGoesBefore a y x
    back h = (w, (v, (py.1, px.1, h)))

    by_number : v ≡ w → Compared x y → Ordered (LocalGoesBefore a) x y
    by_number e (inl h) = inl (forth (inr (e, h)))
    by_number e (inr (inl h)) = inr (inl h)
    by_number e (inr (inr h)) = inr (inr (back (inr (sym e, h))))

    by_beginning : rank v ≡ rank w → (v ≡ w → ⊥) → Ordered (LocalGoesBefore a) x y
    by_beginning e apart = ⊎_elim
        (λ b. inl (forth (inl (inr (e, b)))))
        (λ b. inr (inr (back (inl (inr (sym e, b))))))
        (begin v w x y px py apart)

    by_rank : Compared (rank v) (rank w) → Ordered (LocalGoesBefore a) x y
    by_rank (inl h) = inl (forth (inl (inl h)))
    by_rank (inr (inl h)) = ⊎_elim (λ e. by_number e (compared x y)) (λ apart. by_beginning h apart) (told_val v w)
    by_rank (inr (inr h)) = inr (inr (back (inl (inl h))))

  type_of : (o : Option (ValType ℕ)) → IsSome o → (v : ValType ℕ) × (o ≡ Some v)
  type_of (Some v) h = (v, refl)
  type_of None h = absurd (cc)

  pub total : ((x : ℕ) → IsUsed a x → IsSome (a.local_type x)) → (x y : ℕ) → DeclaresLocal a x → DeclaresLocal a y → Ordered (LocalGoesBefore a) x y
  total typed x y dx dy =
      let v = type_of (a.local_type x) (typed x dx.0) in
      let w = type_of (a.local_type y) (typed y dy.0) in
      by_rank v.0 w.0 x y (dx, v.1) (dy, w.1) (compared (rank v.0) (rank w.0))

-- ---- numbers in a range of parameters

pub no_some : {A X : Type 0} (x : X) → Some x ≡ None → A
no_some x e = absurd (cc)

in_range : (n m k : ℕ) → place_in (range_with_len 0 n) m ≡ Some k → (m ≡ k) × (m < n)
in_range n m k e = ⊎_elim
    (λ (lt : m < n). (same_Some m k (sym (place_range 0 n m m (omega arith) lt) ∙ e), lt))
    (λ (le : n ≤ m). no_some k (sym e ∙ place_past 0 n m (omega (arith, le))))
    (cases_lt m n)

pub past_range : (n m : ℕ) → place_in (range_with_len 0 n) m ≡ None → n ≤ m
past_range n m e = ⊎_elim
    (λ (lt : m < n). no_some m (sym (place_range 0 n m m (omega arith) lt) ∙ e))
    (λ (le : n ≤ m). le)
    (cases_lt m n)

pub unmap : (f : ℕ → ℕ) (xs : List ℕ) (y : ℕ) → Contains (map f xs) y → (x : ℕ) × Contains xs x × (f x ≡ y)
unmap f [] y at = absurd (Contains-none y at)
unmap f (x ∷ xs) y at = ⊎_elim
    (λ (e : f x ≡ y). (x, Contains-head x xs, e))
    (λ (rest : Contains (map f xs) y). let u = unmap f xs y rest in (u.0, Contains-tail x u.0 xs u.1, u.2))
    (Contains-uncons (f x) y (map f xs) at)

within : {X Y : Type 0} (f : X → Y) (xs : List Y) (k : ℕ) (o : Option X) → IsSome o → slice_get xs k ≡ option_map f o → k < length xs
within f xs k (Some x) h e = slice_get_within xs k (f x) e
within f xs k None h e = absurd (cc)

-- ---- one body

module _ (a : Body) (i : ℕ) (ps : List (ValType ℕ)) (typed : (x : ℕ) → IsUsed a x → IsSome (a.local_type x)) where
  -- a body with parameters of these types is a under r, and uses all the locals that it declares
  pub record Comes (r : Renaming) (said : Said) : Type 0 where
    pub same : SameBody r i a (body_with ps said)
    pub uses : UsesAll (body_with ps said)
    pub rises : Rising (DeclaresLocal a) (LocalGoesBefore a) (r.locals i)

  module _ (r : Renaming) (said : Said) (c : Comes r said) where
    at_parameter : (x k : ℕ) → IsUsed a x → place_in a.parameters x ≡ Some k → r.locals i x ≡ k
    at_parameter x k u e = (in_range (length ps) (r.locals i x) k (c.same.parameters x u ∙ e)).0

    low : (x : ℕ) → DeclaresLocal a x → length ps ≤ r.locals i x
    low x d = past_range (length ps) (r.locals i x) (c.same.parameters x d.0 ∙ unplaced a.parameters x d.1)

    high : (x : ℕ) → IsUsed a x → r.locals i x < length ps + length said.0
    high x u =
        let lt : r.locals i x < length (ps ++ said.0) = within (map_val (r.numbers Types)) (ps ++ said.0) (r.locals i x) (a.local_type x) (typed x u) (c.same.types x u) in
        omega (arith, lt, length-append ps said.0)

    -- the local that a declared local of the new body stands for
    pub stands_for : (m : ℕ) → length ps ≤ m → m < length ps + length said.0 → (k : ℕ) × IsUsed a k × (r.locals i k ≡ m)
    stands_for m le lt =
        let longer : length (range_with_len 0 (length ps)) ≡ length ps = length-range_with_len 0 (length ps) in
        let used : Contains (locals_of said.1) m = c.uses m (omega (arith, le, longer)) (omega (arith, lt, longer)) in
        let names : locals_of said.1 ≡ map (r.locals i) (used_locals a) = ap locals_of c.same.operators ∙ ops_locals_follow r (r.locals i) a.operators in
        unmap (r.locals i) (used_locals a) m (subst (λ l. Contains l m) names used)

    pub no_parameter : (k m : ℕ) → IsUsed a k → r.locals i k ≡ m → length ps ≤ m → Contains a.parameters k → ⊥
    no_parameter k m u e le at =
        let p = placed a.parameters k at in
        let lt : r.locals i k < length ps = (in_range (length ps) (r.locals i k) p.0 (c.same.parameters k u ∙ p.1)).1 in
        omega (arith, lt, le, e)

    full : NoGap (DeclaresLocal a) (length ps) (r.locals i)
    full x m d le lt =
        let h : r.locals i x < length ps + length said.0 = high x d.0 in
        let k = stands_for m le (omega (arith, lt, h)) in
        (k.0, (k.1, no_parameter k.0 m k.1 k.2 le), k.2)

  module _ (r s : Renaming) (said other : Said) (c : Comes r said) (d : Comes s other) where
    pub used_one : (x : ℕ) → IsUsed a x → r.locals i x ≡ s.locals i x
    used_one x u = ⊎_elim
        (λ (at : Contains a.parameters x). let p = placed a.parameters x at in at_parameter r said c x p.0 u p.1 ∙ sym (at_parameter s other d x p.0 u p.1))
        (λ away. agree (DeclaresLocal a) (LocalGoesBefore a) (total a typed) (length ps) (r.locals i) (s.locals i) c.rises d.rises (low r said c) (low s other d) (full r said c) (full s other d) x (u, away))
        (told_in a.parameters x)

    type_one : (o : Option (ValType ℕ)) → On r s (named_by (λ v. map type_item (val_names v)) o) → option_map (map_val (r.numbers Types)) o ≡ option_map (map_val (s.numbers Types)) o
    type_one None on = refl
    type_one (Some v) on = ap Some (val_one r s v on)

    module _ (on_ops : On r s (names_of a.operators)) (on_locals : (x : ℕ) → IsUsed a x → On r s (local_names a x)) where
      pub operators_one : said.1 ≡ other.1
      operators_one = c.same.operators ∙ ops_one r s (r.locals i) (s.locals i) a.operators on_ops used_one ∙ sym d.same.operators

      pub local_there : (k : ℕ) → k < length said.0 → slice_get said.0 k ≡ slice_get other.0 k
      local_there k lt =
          let m : ℕ = length ps + k in
          let z = stands_for r said c (length ps + k) (omega arith) (omega (arith, lt)) in
          let e : s.locals i z.0 ≡ length ps + k = sym (used_one z.0 z.1) ∙ z.2 in
          sym (behind ps said.0 k (length ps + k) refl)
          ∙ ap (slice_get (ps ++ said.0)) (sym z.2)
          ∙ c.same.types z.0 z.1
          ∙ type_one (a.local_type z.0) (on_locals z.0 z.1)
          ∙ sym (d.same.types z.0 z.1)
          ∙ ap (slice_get (ps ++ other.0)) e
          ∙ behind ps other.0 k (length ps + k) refl

  on_back : (r s : Renaming) (xs : List Item) → On r s xs → On s r xs
  on_back r s xs on x at = sym (on x at)

  -- both bodies say the same
  pub one_said : (r s : Renaming) (said other : Said) → Comes r said → Comes s other → On r s (names_of a.operators) → ((x : ℕ) → IsUsed a x → On r s (local_names a x)) → said ≡ other
  one_said r s said other c d on_ops on_locals =
      let there : (k : ℕ) → k < length said.0 → slice_get said.0 k ≡ slice_get other.0 k = local_there r s said other c d on_ops on_locals in
      let back : (k : ℕ) → k < length other.0 → slice_get other.0 k ≡ slice_get said.0 k = local_there s r other said d c (on_back r s (names_of a.operators) on_ops) (λ x u. on_back r s (local_names a x) (on_locals x u)) in
      ap₂ (λ (ts : List (ValType ℕ)) (os : List Op). (ts, os))
      (got_at said.0 other.0 (λ k. ⊎_elim (there k) (λ past. ⊎_elim (λ lt. sym (back k lt)) (λ too. slice_get_past said.0 k past ∙ sym (slice_get_past other.0 k too)) (cases_lt k (length other.0))) (cases_lt k (length said.0))))
      (operators_one r s said other c d on_ops on_locals)
