-- Each subject has one name in both modules, or none.
use Rattle.std.proofs.Common.{◌≡◌, ℕ, ◌≤◌, Bool, true, false, List, [], ◌∷◌, length, refl, sym, ap, ap₂, ◌∙◌, arith, ⊎_elim}
use Rattle.std.specs.Prelude.{Option, Some, None, IsSome}
use mathlib.Core.Path.{fun_ext}
use Rattle.walrus_base.specs.Operators.{Space, Types, Functions, Tables, Memories, Tags, Globals, Elements, DataSegments, Item}
use Rattle.walrus_model.specs.Abstract.{Abstract, Name, Subject, TheModule, AnItem, ALocal}
use Rattle.walrus_model.specs.Config.{Config}
use Rattle.walrus_model.specs.Live.{IsLive}
use Rattle.walrus_model.specs.Names.{last_name, own_name, IsNoType, MayBeNamed, AreNamed, WritesNames}
use Rattle.walrus_model.specs.Renaming.{Renaming, renamed}
use Rattle.walrus_theorem.specs.Once.{Premises}
use Rattle.walrus_theorem.proofs.Numbers.{numbers_one}
use Rattle.walrus_theorem.proofs.Shaped.{Side}
use Rattle.walrus_theorem.proofs.Things.{body_at, locals_one}

-- lists of one name or none, by their last ones
short : (xs ys : List Name) → length xs ≤ 1 → length ys ≤ 1 → last_name xs ≡ last_name ys → xs ≡ ys
short [] [] a b e = refl
short [] (y ∷ []) a b e = absurd (cc)
short (x ∷ []) [] a b e = absurd (cc)
short (x ∷ []) (y ∷ []) a b e = let p : x ≡ y = cc in ap (λ (z : Name). z ∷ []) p
short (x ∷ z ∷ zs) ys a b e = absurd (omega (arith, a))
short [] (y ∷ z ∷ zs) a b e = absurd (omega (arith, b))
short (x ∷ []) (y ∷ z ∷ zs) a b e = absurd (omega (arith, b))

one_way : (o q : Option Name) → (IsSome o → o ≡ q) → (IsSome q → q ≡ o) → o ≡ q
one_way None None h k = refl
one_way (Some x) q h k = h refl
one_way None (Some y) h k = sym (k refl)

module _ (c : Config) (v : Abstract) (p : Premises v) (n m : Abstract) (a : Side c v n) (b : Side c v m) where
  abbrev r : Renaming
  r = a.is.written.renaming

  abbrev s : Renaming
  s = b.is.written.renaming

  module _ (wanted : Subject → Option Name) (an : AreNamed wanted (IsLive v) r v n) (am : AreNamed wanted (IsLive v) s v m)
      (type_names_n : (i : ℕ) → IsLive v (Types, i) → own_name n (AnItem (Types, r.numbers Types i)) ≡ own_name v (AnItem (Types, i)))
      (type_names_m : (i : ℕ) → IsLive v (Types, i) → own_name m (AnItem (Types, s.numbers Types i)) ≡ own_name v (AnItem (Types, i))) where
    -- an item of a space without types
    item : (x y : Item) → IsNoType x → IsLive v x → y ≡ renamed r x → own_name n (AnItem y) ≡ own_name m (AnItem y)
    item x y plain live e =
        let one : renamed r x ≡ renamed s x = ap (λ (k : ℕ). (x.0, k)) (numbers_one c v n m a b x.0 x.1 live) in
        ap (λ z. own_name n (AnItem z)) e ∙ an.items x live plain ∙ sym (am.items x live plain) ∙ ap (λ z. own_name m (AnItem z)) (sym one ∙ sym e)

    no_type : (space : Space) (k : ℕ) (x : Item) → (space ≡ Types → ⊥) → ◌≡◌ {A = Item} (space, k) (renamed r x) → IsNoType x
    no_type space k (Types, i) away e = absurd (away (ap (λ (z : Item). z.0) e))
    no_type space k (Functions, i) away e = tt
    no_type space k (Tables, i) away e = tt
    no_type space k (Memories, i) away e = tt
    no_type space k (Tags, i) away e = tt
    no_type space k (Globals, i) away e = tt
    no_type space k (Elements, i) away e = tt
    no_type space k (DataSegments, i) away e = tt

    of_space : (space : Space) (k : ℕ) → (space ≡ Types → ⊥) → (x : Item) × IsLive v x × ◌≡◌ {A = Item} (space, k) (renamed r x) → own_name n (AnItem (space, k)) ≡ own_name m (AnItem (space, k))
    of_space space k away h = item h.0 (space, k) (no_type space k h.0 away h.2) h.1 h.2

    of_type : (k : ℕ) → IsSome (n.types k) → own_name n (AnItem (Types, k)) ≡ own_name m (AnItem (Types, k))
    of_type k h = ⊎_elim
        (λ (found : (i : ℕ) × IsLive v (Types, i) × (r.numbers Types i ≡ k)).
        let one : s.numbers Types found.0 ≡ k = sym (numbers_one c v n m a b Types found.0 found.1) ∙ found.2 in
        ap (λ j. own_name n (AnItem (Types, j))) (sym found.2) ∙ type_names_n found.0 found.1 ∙ sym (type_names_m found.0 found.1) ∙ ap (λ j. own_name m (AnItem (Types, j))) one)
        (λ none. absurd none)
        (a.is.written.carried.types.onto k h)

    of_local : (f y : ℕ) → MayBeNamed (IsLive v) r v (ALocal f y) → own_name n (ALocal f y) ≡ own_name m (ALocal f y)
    of_local f y h =
        let g = body_at (v.functions h.0) h.1 h.4 in
        let function : r.numbers Functions h.0 ≡ s.numbers Functions h.0 = numbers_one c v n m a b Functions h.0 h.3 in
        let local : r.locals h.0 h.2 ≡ s.locals h.0 h.2 = locals_one c v p n m a b h.0 g.0 h.1 g.1 g.2 h.2 h.5 in
        ap₂ (λ (i j : ℕ). own_name n (ALocal i j)) h.6 h.7
        ∙ an.locals h.0 h.1 h.2 h.3 h.4 h.5
        ∙ sym (am.locals h.0 h.1 h.2 h.3 h.4 h.5)
        ∙ ap₂ (λ (i j : ℕ). own_name m (ALocal i j)) (sym function ∙ sym h.6) (sym local ∙ sym h.7)

    named_so : (x : Subject) → IsSome (own_name n x) → own_name n x ≡ own_name m x
    named_so TheModule h = an.module_name ∙ sym am.module_name
    named_so (AnItem (Types, k)) h = of_type k (a.shaped.types_there k h)
    named_so (AnItem (Functions, k)) h = of_space Functions k (λ e. cc) (an.only (AnItem (Functions, k)) h)
    named_so (AnItem (Tables, k)) h = of_space Tables k (λ e. cc) (an.only (AnItem (Tables, k)) h)
    named_so (AnItem (Memories, k)) h = of_space Memories k (λ e. cc) (an.only (AnItem (Memories, k)) h)
    named_so (AnItem (Tags, k)) h = of_space Tags k (λ e. cc) (an.only (AnItem (Tags, k)) h)
    named_so (AnItem (Globals, k)) h = of_space Globals k (λ e. cc) (an.only (AnItem (Globals, k)) h)
    named_so (AnItem (Elements, k)) h = of_space Elements k (λ e. cc) (an.only (AnItem (Elements, k)) h)
    named_so (AnItem (DataSegments, k)) h = of_space DataSegments k (λ e. cc) (an.only (AnItem (DataSegments, k)) h)
    named_so (ALocal f y) h = of_local f y (an.only (ALocal f y) h)

module _ (c : Config) (v : Abstract) (p : Premises v) (n m : Abstract) (a : Side c v n) (b : Side c v m) where
  by_flag : (flag : Bool) → c.writes_names ≡ flag → WritesNames flag (own_name v) (IsLive v) a.is.written.renaming v n → WritesNames flag (own_name v) (IsLive v) b.is.written.renaming v m → (x : Subject) → n.named x ≡ m.named x
  by_flag false e an am x = an x ∙ sym (am x)
  by_flag true e an am x = short (n.named x) (m.named x) (a.shaped.named_once x) (b.shaped.named_once x)
      (one_way (own_name n x) (own_name m x)
      (named_so c v p n m a b (own_name v) an am (a.is.pinned.type_names e) (b.is.pinned.type_names e) x)
      (named_so c v p m n b a (own_name v) am an (b.is.pinned.type_names e) (a.is.pinned.type_names e) x))

  pub named_same : n.named ≡ m.named
  named_same = fun_ext (by_flag c.writes_names refl a.is.written.names b.is.written.names)
