-- A module that is written has no more items than what it is written as.
use Rattle.std.proofs.Common.{◌≡◌, ℕ, zero, suc, ◌+◌, ◌<◌, ◌≤◌, List, [], ◌∷◌, length, refl, sym, ◌∙◌, subst, arith, inl, inr}
use Rattle.std.specs.Prelude.{Option, Some, None, IsSome, Contains, AllPairs, All, ◌≢◌}
use Rattle.walrus_base.specs.Operators.{Space, Types, Functions, Tables, Memories, Tags, Globals, Elements, DataSegments}
use Rattle.walrus_model.proofs.LawOrder.{In}
use Rattle.walrus_model.specs.Abstract.{Abstract, Element}
use Rattle.walrus_model.specs.Config.{Config}
use Rattle.walrus_model.specs.Declared.{HasDeclaredSegment}
use Rattle.walrus_model.specs.Live.{Has, IsLive}
use Rattle.walrus_model.specs.Renaming.{Renaming}
use Rattle.walrus_model.specs.Same.{BothAnd}
use Rattle.walrus_theorem.specs.Pinned.{IsWrittenAs}
use Rattle.walrus_base.proofs.Agree.{Compared, compared}
use Rattle.walrus_base.proofs.Lists.{Contains-none}
use Rattle.walrus_model.proofs.Orders.{is_some_by}
use Rattle.walrus_model.proofs.Pigeon.{rising_distinct, all_in, counted}
use Rattle.walrus_base.proofs.SameVal.{Told, told_nat}

pub second : {X Y : Type 0} (S : X → Y → Type 0) (a : Option X) (b : Option Y) → IsSome a → BothAnd S a b → IsSome b
second S (Some x) (Some y) h s = refl
second S (Some x) None h s = absurd s
second S None b h s = absurd s

module _ (c : Config) (v n : Abstract) (is : IsWrittenAs c v n) where
  abbrev t : Renaming
  t = is.written.renaming

  -- what is written has a number there
  pub lands : (space : Space) (i : ℕ) → Has v space i → Has n space (t.numbers space i)
  lands Types i h = second _ (v.types i) (n.types (t.numbers Types i)) h (is.written.carried.types.same i h)
  lands Functions i h = second _ (v.functions i) (n.functions (t.numbers Functions i)) h (is.written.carried.functions.same i h)
  lands Tables i h = second _ (v.tables i) (n.tables (t.numbers Tables i)) h (is.written.carried.tables.same i h)
  lands Memories i h = second _ (v.memories i) (n.memories (t.numbers Memories i)) h (is.written.carried.memories.same i h)
  lands Tags i h = second _ (v.tags i) (n.tags (t.numbers Tags i)) h (is.written.carried.tags.same i h)
  lands Globals i h = second _ (v.globals i) (n.globals (t.numbers Globals i)) h (is.written.carried.globals.same i h)
  lands Elements i h = second _ (v.elements i) (n.elements (t.numbers Elements i)) h (is.written.carried.elements.same i h)
  lands DataSegments i h = second _ (v.data_segments i) (n.data_segments (t.numbers DataSegments i)) h (is.written.carried.data_segments.same i h)

  type_one : (i j : ℕ) → IsLive v (Types, i) → IsLive v (Types, j) → t.numbers Types i ≡ t.numbers Types j → Compared i j → i ≡ j
  type_one i j a b e (inl h) = let lt : t.numbers Types i < t.numbers Types j = is.pinned.types_rise i j a b h in absurd (omega (arith, e, lt))
  type_one i j a b e (inr (inl h)) = h
  type_one i j a b e (inr (inr h)) = let lt : t.numbers Types j < t.numbers Types i = is.pinned.types_rise j i b a h in absurd (omega (arith, e, lt))

  pub one_item : (space : Space) (i j : ℕ) → Has v space i → Has v space j → t.numbers space i ≡ t.numbers space j → i ≡ j
  one_item Types i j a b e = type_one i j a b e (compared i j)
  one_item Functions i j a b e = is.written.carried.apart Functions (λ z. cc) i j a b e
  one_item Tables i j a b e = is.written.carried.apart Tables (λ z. cc) i j a b e
  one_item Memories i j a b e = is.written.carried.apart Memories (λ z. cc) i j a b e
  one_item Tags i j a b e = is.written.carried.apart Tags (λ z. cc) i j a b e
  one_item Globals i j a b e = is.written.carried.apart Globals (λ z. cc) i j a b e
  one_item Elements i j a b e = is.written.carried.apart Elements (λ z. cc) i j a b e
  one_item DataSegments i j a b e = is.written.carried.apart DataSegments (λ z. cc) i j a b e

  -- the number of the added segment
  pub record Segment : Type 0 where
    pub number : ℕ
    pub at : IsSome (n.elements number)
    pub last : (i : ℕ) → IsLive v (Elements, i) → t.numbers Elements i < number

  pub segment_by : (gs : List ℕ) (f : ℕ) → Contains gs f → (o : Option ℕ) → HasDeclaredSegment (IsLive v) t v n gs o → Segment
  segment_by [] f at o h = absurd (Contains-none f at)
  segment_by (g ∷ gs) f at o h = record { number = h.0; at = is_some_by (n.elements h.0) _ h.2.is; last = h.2.last }

  module _ (k : ℕ) (positive : 0 < k) (small : (space : Space) (i : ℕ) → Has n space i → i + 1 < k) where
    pred : (d : ℕ) → 0 < d → (e : ℕ) × (d ≡ e + 1)
    pred zero h = absurd (omega (arith, h))
    pred (suc e) h = (e, omega arith)

    module _ (space : Space) (numbers : List ℕ) (rise : AllPairs (λ i j. i < j) numbers) (many : k ≤ length numbers) where
      few : (g : ℕ → ℕ) → ((x y : ℕ) → In x numbers → In y numbers → g x ≡ g y → x ≡ y) → ((x : ℕ) → In x numbers → Has n space (g x)) → ⊥
      few g one land =
          let e = pred k positive in
          let long : length numbers ≤ e.0 = counted e.0 g numbers (rising_distinct numbers rise) one (λ x h. low e.0 (g x) e.1 (small space (g x) (land x h))) in
          omega (arith, long, many, e.1)
        where
          low : (e x : ℕ) → k ≡ e + 1 → x + 1 < k → x < e
          low e x p q = omega (arith, p, q)

      pub too_many : All (Has v space) numbers → ⊥
      too_many has = few (t.numbers space)
          (λ x y hx hy e. one_item space x y (all_in (Has v space) numbers has x hx) (all_in (Has v space) numbers has y hy) e)
          (λ x h. lands space x (all_in (Has v space) numbers has x h))

    module _ (numbers : List ℕ) (rise : AllPairs (λ i j. i < j) numbers) (many : k ≤ length numbers) (es : ℕ → Option Element) (id : ℕ) (others : (i : ℕ) → i ≢ id → es i ≡ v.elements i) (seg : Segment) where
      choose : (i : ℕ) → Told (i ≡ id) → ℕ
      choose i (inl e) = seg.number
      choose i (inr e) = t.numbers Elements i

      live : (i : ℕ) → IsSome (es i) → (i ≡ id → ⊥) → IsLive v (Elements, i)
      live i h away = subst (λ o. IsSome o) (others i away) h

      one_by : (i j : ℕ) → IsSome (es i) → IsSome (es j) → (a : Told (i ≡ id)) → (b : Told (j ≡ id)) → choose i a ≡ choose j b → i ≡ j
      unfolding choose
      one_by i j h l (inl a) (inl b) e = a ∙ sym b
      one_by i j h l (inl a) (inr b) e = let lt : t.numbers Elements j < seg.number = seg.last j (live j l b) in absurd (omega (arith, e, lt))
      one_by i j h l (inr a) (inl b) e = let lt : t.numbers Elements i < seg.number = seg.last i (live i h a) in absurd (omega (arith, e, lt))
      one_by i j h l (inr a) (inr b) e = one_item Elements i j (live i h a) (live j l b) e

      lands_by : (i : ℕ) → IsSome (es i) → (a : Told (i ≡ id)) → IsSome (n.elements (choose i a))
      unfolding choose
      lands_by i h (inl a) = seg.at
      lands_by i h (inr a) = lands Elements i (live i h a)

      pub too_many_segments : All (λ i. IsSome (es i)) numbers → ⊥
      too_many_segments has = few Elements numbers rise many (λ i. choose i (told_nat i id))
          (λ x y hx hy e. one_by x y (all_in (λ i. IsSome (es i)) numbers has x hx) (all_in (λ i. IsSome (es i)) numbers has y hy) (told_nat x id) (told_nat y id) e)
          (λ x h. lands_by x (all_in (λ i. IsSome (es i)) numbers has x h) (told_nat x id))
