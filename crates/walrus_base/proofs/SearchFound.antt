-- What a search of an arena's entries finds.
use Rattle.std.proofs.Common.{◌≡◌, ℕ, suc, ◌+◌, Bool, true, false, cond, List, [], ◌∷◌, Option, Some, None, find, option_map, sym, ap, subst, refl, arith}
use Rattle.std.proofs.lemmas.Option.{none-some, some_pair_parts, cond_some}
use Rattle.walrus_base.specs.Arena.{item_at, entries, entries_from}

module _ {T : Type 0} (p : ℕ × T → Bool) where
  -- the entry stands n places behind the first one, and passes
  pub record StandsAt (k : ℕ) (ss : List (Option T)) (e : ℕ × T) : Type 0 where
    pub behind : ℕ
    pub place : e.0 ≡ k + behind
    pub item : item_at ss behind ≡ Some e.1
    pub passes : p e ≡ true

  one_more : (k : ℕ) (s : Option T) (ss : List (Option T)) (e : ℕ × T) → StandsAt (k + 1) ss e → StandsAt k (s ∷ ss) e
  one_more k s ss e f = record { behind = suc f.behind; place = let q : e.0 ≡ k + 1 + f.behind = f.place in omega arith; item = f.item; passes = f.passes }

  at_front : (k : ℕ) (x : T) (ss : List (Option T)) (e : ℕ × T) → p (k, x) ≡ true → ◌≡◌ {A = Option (ℕ × T)} (Some (k, x)) (Some e) → StandsAt k (Some x ∷ ss) e
  at_front k x ss e passes is =
      let parts = some_pair_parts k e.0 x e.1 is in
      let P : ℕ → Type 0 = λ n. p (n, x) ≡ true in
      let Q : T → Type 0 = λ y. p (e.0, y) ≡ true in
      record {
        behind = 0;
        place = let q : k ≡ e.0 = parts.0 in omega arith;
        item = ap (λ (y : T). Some y) parts.1;
        passes = subst Q parts.1 (subst P parts.0 passes);
      }

  pub found_from : (k : ℕ) (ss : List (Option T)) (e : ℕ × T) → find p (entries_from k ss) ≡ Some e → StandsAt k ss e
  found_from k [] e h = absurd (none-some e h)
  found_from k (None ∷ ss) e h = one_more k None ss e (found_from (k + 1) ss e h)
  found_from k (Some x ∷ ss) e h = choose (p (k, x)) refl h (found_from (k + 1) ss e) where
    choose : (b : Bool) → p (k, x) ≡ b → cond b (Some (k, x)) (find p (entries_from (k + 1) ss)) ≡ Some e → (find p (entries_from (k + 1) ss) ≡ Some e → StandsAt (k + 1) ss e) → StandsAt k (Some x ∷ ss) e
    choose true is h later = at_front k x ss e is h
    choose false is h later = one_more k (Some x) ss e (later h)

  -- what is found passes
  pub found-passes : (ss : List (Option T)) (e : ℕ × T) → find p (entries ss) ≡ Some e → p e ≡ true
  found-passes ss e h = (found_from 0 ss e h).passes

  -- what is found stands at its place
  pub found-item : (ss : List (Option T)) (e : ℕ × T) → find p (entries ss) ≡ Some e → item_at ss e.0 ≡ Some e.1
  found-item ss e h =
      let f = found_from 0 ss e h in
      let P : ℕ → Type 0 = λ n. item_at ss n ≡ Some e.1 in
      let q : f.behind ≡ e.0 = let r : e.0 ≡ 0 + f.behind = f.place in omega arith in
      subst P q f.item

  -- what is found, where only its place is known
  pub record IsFound (ss : List (Option T)) (n : ℕ) : Type 0 where
    pub entry : ℕ × T
    pub at_place : entry.0 ≡ n
    pub found : find p (entries ss) ≡ Some entry
    pub item : item_at ss n ≡ Some entry.1
    pub passes : p entry ≡ true

  pub is_found : (ss : List (Option T)) (n : ℕ) → Some n ≡ option_map (λ e. e.0) (find p (entries ss)) → IsFound ss n
  is_found ss n h = choose (find p (entries ss)) refl h where
    choose : (o : Option (ℕ × T)) → find p (entries ss) ≡ o → Some n ≡ option_map (λ e. e.0) o → IsFound ss n
    choose None is h = absurd (none-some n (sym h))
    choose (Some e) is h =
        let same : e.0 ≡ n = sym (cond_some true n e.0 h).1 in
        let P : ℕ → Type 0 = λ k. item_at ss k ≡ Some e.1 in
        record { entry = e; at_place = same; found = is; item = subst P same (found-item ss e is); passes = found-passes ss e is }
