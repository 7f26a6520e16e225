-- The rules on what is named, on exports, limits and offsets are kept.
use Rattle.std.proofs.Common.{◌≡◌, ◌≢◌, ℕ, List, map, refl, sym, ap, ◌∙◌, subst, inl, inr, ⊎_elim}
use Rattle.std.specs.Prelude.{Option, Some, None, IsSome, Contains, AllPairs}
use Rattle.walrus_base.specs.Types.{ValType, map_val, map_comp}
use Rattle.walrus_base.specs.Operators.{Space, Types, Functions, Tables, Memories, Globals, Elements, Item, type_item, Op, names_of}
use Rattle.walrus_model.specs.Abstract.{Abstract, Origin, ImportedBy, Defined, Table, Memory, Global, Export}
use Rattle.walrus_model.specs.Live.{IsLive}
use Rattle.walrus_model.specs.Refers.{used_locals, named_by, written_in}
use Rattle.walrus_model.specs.Renaming.{Renaming, renamed, renamed_export, renamed_const, renamed_origin}
use Rattle.walrus_model.specs.Roots.{IsImported}
use Rattle.walrus_model.specs.Rules.{IsImportedGlobal, IndicesHold, LimitsHold, IsAtMost, MemoryHolds, IsEmptyFunctionType, ExportsHold}
use Rattle.walrus_model.specs.Same.{SameBody, SameFunction}
use Rattle.walrus_model.specs.Spaces.{Thing, look, names_in_thing}
use Rattle.walrus_model.specs.RulesCarried.{TakenOver}
use Rattle.walrus_model.proofs.Spaces.{written_in_look}
use Rattle.walrus_model.proofs.Follow.{names_follow_lem, used_follow}
use Rattle.walrus_model.proofs.OpsFollow.{const_follows}
use Rattle.walrus_base.proofs.Lists.{Contains-head, Contains-none, Contains-append_2}
use Rattle.walrus_model.proofs.Seen.{same_sub}
use Rattle.walrus_model.proofs.TakingOver.{Came, came, came_or, was_at, went, names_chosen, live_after, Contains-map_back}
use Rattle.walrus_model.proofs.TypeRules.{body_came, body_was}
use Rattle.walrus_base.proofs.Lookups.{still_some as there_by, pairs_map}
use Rattle.walrus_base.proofs.ShapesKept.{made_of as mapped}

pub functions_no_types : Functions ≡ Types → ⊥
functions_no_types e = cc

pub functions_no_elements : Functions ≡ Elements → ⊥
functions_no_elements e = cc

tables_no_types : Tables ≡ Types → ⊥
tables_no_types e = cc

tables_no_elements : Tables ≡ Elements → ⊥
tables_no_elements e = cc

memories_no_types : Memories ≡ Types → ⊥
memories_no_types e = cc

memories_no_elements : Memories ≡ Elements → ⊥
memories_no_elements e = cc

globals_no_types : Globals ≡ Types → ⊥
globals_no_types e = cc

globals_no_elements : Globals ≡ Elements → ⊥
globals_no_elements e = cc

imported_kept : (r : Renaming) (o : Origin) → IsImported o → IsImported (renamed_origin r o)
imported_kept r (ImportedBy i) h = h
imported_kept r Defined h = absurd h

module _ {K Added : Item → Type 0} {Before After : Space → ℕ → ℕ → Type 0} {r : Renaming} {m n : Abstract} (c : TakenOver K Added Before After r m n) where
  -- ---- what is named is there

  named_live : (s : Space) (j : ℕ) (i : ℕ) (z : Item) → K (s, i) → r.numbers s i ≡ j → Contains (written_in n (s, j)) z → IsLive n z
  named_live s j i z k e at =
      let here : Contains (written_in n (s, r.numbers s i)) z = subst (λ (x : ℕ). Contains (written_in n (s, x)) z) (sym e) at in
      let y : (y : Item) × Contains (written_in m (s, i)) y × (renamed r y ≡ z) = Contains-map_back (renamed r) (written_in m (s, i)) z (subst (λ l. Contains l z) (names_follow_lem K Added r m n c.carried s i k) here) in
      subst (λ (x : Item). IsLive n x) y.2 (live_after c y.0 (c.named (s, i) y.0 k y.1))

  named_live_by : (s : Space) (j : ℕ) (z : Item) (o : Option (Thing s)) → look n s j ≡ o → Contains (written_in n (s, j)) z → IsLive n z
  named_live_by s j z None e at = absurd (Contains-none z (subst (λ (o : Option (Thing s)). Contains (named_by (names_in_thing s) o) z) e (subst (λ (l : List Item). Contains l z) (written_in_look n s j) at)))
  named_live_by s j z (Some y) e at = ⊎_elim
      (λ (w : Came K r m s j y). named_live s j w.from z w.chosen w.number at)
      (λ added. c.added (s, j) z added at)
      (came_or c s j y e)

  -- ---- initialisers

  -- a global that a constant expression names was named by the old one
  global_named : (ops : List Op) (g : ℕ) → Contains (names_of (renamed_const r ops)) (Globals, g) → (h : ℕ) × Contains (names_of ops) (Globals, h) × (r.numbers Globals h ≡ g)
  global_named ops g at =
      let y : (y : Item) × Contains (names_of ops) y × (renamed r y ≡ (Globals, g)) = Contains-map_back (renamed r) (names_of ops) (Globals, g) (subst (λ l. Contains l (Globals, g)) (const_follows r ops) at) in
      let space : y.0.0 ≡ Globals = ap (λ (x : Item). x.0) y.2 in
      let number : r.numbers y.0.0 y.0.1 ≡ g = ap (λ (x : Item). x.1) y.2 in
      (y.0.1, subst (λ (s : Space). Contains (names_of ops) (s, y.0.1)) space y.1, ap (λ (s : Space). r.numbers s y.0.1) (sym space) ∙ number)

  imported_global_kept : (h : ℕ) → K (Globals, h) → IsImportedGlobal m h → IsImportedGlobal n (r.numbers Globals h)
  imported_global_kept h k i =
      let w = went c Globals h i.0 k i.1 in
      (w.thing, w.is, subst (λ (x : Global). IsImported x.origin) (sym w.same) (imported_kept r i.0.origin i.2))

  pub indices_hold : IndicesHold Before m → IndicesHold After n
  indices_hold rules = record {
    written = λ x y at. named_live_by x.0 x.1 y (look n x.0 x.1) refl at;
    locals = λ f b x at used.
        let w = body_came c f b at in
        let same : SameBody r w.from w.body b = w.same in
        let u : (u : ℕ) × Contains (used_locals w.body) u × (r.locals w.from u ≡ x) = Contains-map_back (r.locals w.from) (used_locals w.body) x (subst (λ l. Contains l x) (used_follow r w.from w.body b same) used) in
        let old : IsSome (w.body.local_type u.0) = rules.locals w.from w.body u.0 (body_was c f b w) u.1 in
        subst (λ (y : ℕ). IsSome (b.local_type y)) u.2
        (subst (λ (o : Option (ValType ℕ)). IsSome o) (sym (same.types u.0 u.1)) (there_by (map_val (r.numbers Types)) (w.body.local_type u.0) old));
    exports = λ e at.
        let carried = c.carried in
        let d : (d : Export) × Contains m.exports d × (renamed_export r d ≡ e) = Contains-map_back (renamed_export r) m.exports e (subst (λ l. Contains l e) carried.exports at) in
        subst (λ (x : Export). IsLive n x.item) d.2 (live_after c d.0.item (c.exported d.0 d.1));
    start = λ f at.
        let carried = c.carried in
        let g : (g : ℕ) × (m.start ≡ Some g) × (r.numbers Functions g ≡ f) = mapped (r.numbers Functions) m.start f (sym carried.start ∙ at) in
        subst (λ (x : ℕ). IsLive n (Functions, x)) g.2 (live_after c (Functions, g.0) (c.started g.0 g.1));
    tables = λ j g t ops at has named.
        let w = came c Tables tables_no_types tables_no_elements j t at in
        let o : (o : List Op) × (w.thing.initialiser ≡ Some o) × (renamed_const r o ≡ ops) = mapped (renamed_const r) w.thing.initialiser ops (sym (ap (λ (x : Table). x.initialiser) w.same) ∙ has) in
        let h : (h : ℕ) × Contains (names_of o.0) (Globals, h) × (r.numbers Globals h ≡ g) = global_named o.0 g (subst (λ l. Contains (names_of l) (Globals, g)) (sym o.2) named) in
        let k : K (Globals, h.0) = names_chosen c Tables w.from w.thing (Globals, h.0) w.chosen w.is
        (Contains-append_2 (Globals, h.0) _ (named_by names_of w.thing.initialiser) (subst (λ (i : Option (List Op)). Contains (named_by names_of i) (Globals, h.0)) (sym o.1) h.1)) in
        subst (λ (x : ℕ). IsImportedGlobal n x) h.2 (imported_global_kept h.0 k (rules.tables w.from h.0 w.thing o.0 w.is o.1 h.1));
    globals = λ j g t ops at has named.
        let w = came c Globals globals_no_types globals_no_elements j t at in
        let o : (o : List Op) × (w.thing.initialiser ≡ Some o) × (renamed_const r o ≡ ops) = mapped (renamed_const r) w.thing.initialiser ops (sym (ap (λ (x : Global). x.initialiser) w.same) ∙ has) in
        let h : (h : ℕ) × Contains (names_of o.0) (Globals, h) × (r.numbers Globals h ≡ g) = global_named o.0 g (subst (λ l. Contains (names_of l) (Globals, g)) (sym o.2) named) in
        let k : K (Globals, h.0) = names_chosen c Globals w.from w.thing (Globals, h.0) w.chosen w.is
        (Contains-append_2 (Globals, h.0) _ (named_by names_of w.thing.initialiser) (subst (λ (i : Option (List Op)). Contains (named_by names_of i) (Globals, h.0)) (sym o.1) h.1)) in
        ⊎_elim
        (λ i. inl (subst (λ (x : ℕ). IsImportedGlobal n x) h.2 (imported_global_kept h.0 k i)))
        (λ before. inr (subst (λ (x : ℕ). After Globals x j) h.2 (subst (λ (y : ℕ). After Globals (r.numbers Globals h.0) y) w.number (c.globals_rise h.0 w.from k w.chosen before))))
        (rules.globals w.from h.0 w.thing o.0 w.is o.1 h.1);
  }

  -- ---- limits

  pub limits_hold : LimitsHold m → LimitsHold n
  limits_hold rules = record {
    tables = λ j t at.
        let w = came c Tables tables_no_types tables_no_elements j t at in
        subst (λ (x : Table). IsAtMost x.ty.limits.minimum x.ty.limits.maximum) (sym w.same) (rules.tables w.from w.thing w.is);
    memories = λ j t at.
        let w = came c Memories memories_no_types memories_no_elements j t at in
        subst (λ (x : Memory). MemoryHolds x.ty) (sym w.same) (rules.memories w.from w.thing w.is);
  }

  -- ---- exports and start

  empty_kept : (t : ℕ) → K (Types, t) → IsEmptyFunctionType m t → IsEmptyFunctionType n (r.numbers Types t)
  empty_kept t k h =
      let w = went c Types t h.0 k h.1 in
      (w.thing, w.is, ap (λ s. s.comp) (same_sub (r.numbers Types) t h.0 w.thing w.same) ∙ ap (map_comp (r.numbers Types)) h.2)

  pub exports_hold : ExportsHold m → ExportsHold n
  exports_hold rules =
      let carried = c.carried in
      record {
        distinct = subst (λ l. AllPairs (λ (d : Export) (e : Export). d.name ≢ e.name) l) (sym carried.exports) (pairs_map (λ (d : Export) (e : Export). d.name ≢ e.name) (renamed_export r) m.exports rules.distinct);
        start = λ j g starts at.
            let i : (i : ℕ) × (m.start ≡ Some i) × (r.numbers Functions i ≡ j) = mapped (r.numbers Functions) m.start j (sym carried.start ∙ starts) in
            let w = was_at c Functions j g i.0 (c.started i.0 i.1) i.2 at in
            let same : SameFunction r i.0 w.thing g = w.same in
            let k : K (Types, w.thing.ty) = names_chosen c Functions i.0 w.thing (type_item w.thing.ty) (c.started i.0 i.1) w.is (Contains-head (type_item w.thing.ty) _) in
            subst (λ (t : ℕ). IsEmptyFunctionType n t) (sym same.ty) (empty_kept w.thing.ty k (rules.start i.0 w.thing i.1 w.is));
      }
