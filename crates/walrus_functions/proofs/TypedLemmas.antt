-- The locals that are declared, and that they rise.
use Rattle.std.proofs.Common.{◌≡◌, ℕ, ◌<◌, ◌⊎◌, ⊎_elim, inl, inr, Bool, true, false, List, [], ◌∷◌, ◌++◌, ◌+◌, ◌≤◌, length, map, drop, Option, Some, None, sym, ap, ap₂, ◌∙◌, subst, arith, append_assoc}
use Rattle.std.specs.Prelude.{slice_index_or, All, Contains}
use Rattle.std.specs.List.{AllByRecursion}
use Rattle.std.specs.List.Sorted.{IsStrictlySortedBy}
use Rattle.std.specs.Ordering.{nat_cmp}
use Rattle.std.specs.declared.cmp.Ordering.TheVariants.{Less}
use Rattle.std.proofs.lemmas.List.{append-nil, drop_all, drop_more}
use Rattle.std.proofs.lemmas.List.Elements.{All-push, All-weaker, Contains-append_left, Contains-push, Contains-push_cases}
use Rattle.walrus_base.specs.Arena.{item_at}
use Rattle.walrus_base.specs.Id.{place}
use Rattle.walrus_base.specs.Types.{ValType}
use Rattle.walrus_base.specs.declared.id.Id.{Id}
use Rattle.walrus_base.specs.declared.keys.LocalKey.{LocalKey}
use Rattle.walrus_functions.specs.Declaring.{AreTyped}

abbrev entry : ℕ → ValType ℕ → ℕ × ValType ℕ
entry x v = (x, v)

same_entry : (x y : ℕ) (v w : ValType ℕ) → x ≡ y → v ≡ w → entry x v ≡ entry y w
same_entry x y v w h k = ap₂ entry h k

module _ (slots : List (Option (ValType ℕ))) (is_parameter : ℕ → Bool) where
  sound_more : (used : List ℕ) (x : ℕ) (found : List (ℕ × ValType ℕ)) → AreTyped slots used is_parameter found → All (λ (e : ℕ × ValType ℕ). Contains (used ++ x ∷ []) e.0 × (is_parameter e.0 ≡ false) × (item_at slots e.0 ≡ Some e.1)) found
  sound_more used x found h = All-weaker (λ (e : ℕ × ValType ℕ). Contains used e.0 × (is_parameter e.0 ≡ false) × (item_at slots e.0 ≡ Some e.1)) (λ (e : ℕ × ValType ℕ). Contains (used ++ x ∷ []) e.0 × (is_parameter e.0 ≡ false) × (item_at slots e.0 ≡ Some e.1))
      (λ e k. (Contains-append_left used (x ∷ []) e.0 k.0, k.1, k.2)) found h.sound

  -- one more local that isn't declared
  pub typed-skip : (used more : List ℕ) (x : ℕ) (found : List (ℕ × ValType ℕ)) → more ≡ used ++ x ∷ [] → (is_parameter x ≡ true) ⊎ (item_at slots x ≡ None) → AreTyped slots used is_parameter found → AreTyped slots more is_parameter found
  typed-skip used more x found is none h = subst (λ (us : List ℕ). AreTyped slots us is_parameter found) (sym is) (record {
    sound = sound_more used x found h;
    complete = λ y v c p t. ⊎_elim (λ before. h.complete y v before p t) (λ same. absurd (no y v (sym same) p t none)) (Contains-push_cases used x y c);
  })
    where
      no : (y : ℕ) (v : ValType ℕ) → y ≡ x → is_parameter y ≡ false → item_at slots y ≡ Some v → (is_parameter x ≡ true) ⊎ (item_at slots x ≡ None) → ⊥
      no y v same p t (inl e) = let wrong : true ≡ false = sym e ∙ ap is_parameter (sym same) ∙ p in absurd cc
      no y v same p t (inr e) = let wrong : None ≡ Some v = sym e ∙ ap (item_at slots) (sym same) ∙ t in absurd cc

  -- one more that is
  pub typed-more : (used more : List ℕ) (x : ℕ) (v : ValType ℕ) (found all : List (ℕ × ValType ℕ)) → more ≡ used ++ x ∷ [] → all ≡ found ++ (x, v) ∷ [] → is_parameter x ≡ false → item_at slots x ≡ Some v → AreTyped slots used is_parameter found → AreTyped slots more is_parameter all
  typed-more used more x v found all is grown free there h = subst (λ (us : List ℕ). AreTyped slots us is_parameter all) (sym is) (subst (λ (es : List (ℕ × ValType ℕ)). AreTyped slots (used ++ x ∷ []) is_parameter es) (sym grown) (record {
    sound = All-push (λ (e : ℕ × ValType ℕ). Contains (used ++ x ∷ []) e.0 × (is_parameter e.0 ≡ false) × (item_at slots e.0 ≡ Some e.1)) found (x, v) (sound_more used x found h) (Contains-push used x, free, there);
    complete = λ y w c p t. ⊎_elim (λ before. Contains-append_left found ((x, v) ∷ []) (y, w) (h.complete y w before p t)) (λ same. here y w (sym same) t) (Contains-push_cases used x y c);
  }))
    where
      here : (y : ℕ) (w : ValType ℕ) → y ≡ x → item_at slots y ≡ Some w → Contains (found ++ (x, v) ∷ []) (y, w)
      here y w same t =
          let types : v ≡ w = (let both : Some v ≡ Some w = sym there ∙ ap (item_at slots) (sym same) ∙ t in cc) in
          subst (λ (e : ℕ × ValType ℕ). Contains (found ++ (x, v) ∷ []) e) (same_entry x y v w (sym same) types) (Contains-push found (x, v))

-- ---- places that rise

abbrev Rise : List ℕ → Type 0
Rise places = IsStrictlySortedBy nat_cmp places

abbrev Local : Type 0
Local = Id LocalKey

all_without : {X : Type 0} (P : X → Type 0) (xs : List X) (y : X) (ys : List X) → AllByRecursion P (xs ++ y ∷ ys) → AllByRecursion P (xs ++ ys)
all_without P [] y ys h = h.1
all_without P (x ∷ xs) y ys h = (h.0, all_without P xs y ys h.1)

rise_without : (xs : List ℕ) (y : ℕ) (ys : List ℕ) → Rise (xs ++ y ∷ ys) → Rise (xs ++ ys)
unfolding IsStrictlySortedBy
rise_without [] y ys h = h.1
rise_without (x ∷ xs) y ys h = (all_without (λ (z : ℕ). nat_cmp x z ≡ Less) xs y ys h.0, rise_without xs y ys h.1)

-- those that were taken, the next one, and those that are left
rise_next : (had : List ℕ) (ids : List Local) (i : ℕ) (d : Local) → i < length ids → Rise (had ++ map place (drop i ids)) → Rise (had ++ place (slice_index_or ids i d) ∷ map place (drop (i + 1) ids))
rise_next had ids i d low h = subst (λ (left : List Local). Rise (had ++ map place left)) (drop_more ids i d low) h

-- the next one isn't taken
pub rise_skip : (had : List ℕ) (ids : List Local) (i : ℕ) → i < length ids → Rise (had ++ map place (drop i ids)) → Rise (had ++ map place (drop (i + 1) ids))
rise_skip had [] i low h = absurd (omega (arith, low))
rise_skip had (id ∷ ids) i low h =
    let all = id ∷ ids in
    rise_without had (place (slice_index_or all i id)) (map place (drop (i + 1) all)) (rise_next had all i id low h)

-- the next one is taken
pub rise_more : (had now : List ℕ) (ids : List Local) (i : ℕ) (d : Local) → i < length ids → now ≡ had ++ place (slice_index_or ids i d) ∷ [] → Rise (had ++ map place (drop i ids)) → Rise (now ++ map place (drop (i + 1) ids))
rise_more had now ids i d low is h =
    let left = map place (drop (i + 1) ids) in
    let x = place (slice_index_or ids i d) in
    subst Rise (sym (ap (λ (xs : List ℕ). xs ++ left) is ∙ append_assoc had (x ∷ []) left)) (rise_next had ids i d low h)

-- none is left
pub rise_all : (had : List ℕ) (ids : List Local) (i : ℕ) → length ids ≤ i → Rise (had ++ map place (drop i ids)) → Rise had
rise_all had ids i past h = subst Rise (ap (λ (left : List Local). had ++ map place left) (drop_all i ids past) ∙ append-nil had) h
