-- The functions of what was written stand in the order in which they are written, and what isn't a function in each module that was read.
use Rattle.std.proofs.Common.{◌≡◌, ℕ, ◌<◌, length, refl, sym, ap, ◌∙◌, subst, arith, inl, inr}
use Rattle.std.proofs.lemmas.List.{length-map}
use Rattle.std.specs.Prelude.{Option, Some, IsSome, is_some, option_map}
use Rattle.walrus_base.specs.Operators.{Space, Types, Functions, Tables, Memories, Tags, Globals, Elements, DataSegments, Item}
use Rattle.walrus_model.specs.Abstract.{Abstract, Origin, Body, FunctionKind, ImportedFunction, LocalFunction, Uninitialised, Function, Table, Memory, Tag, Global}
use Rattle.walrus_model.specs.Config.{Config}
use Rattle.walrus_model.specs.Live.{IsLive}
use Rattle.walrus_model.specs.Order.{size, FunctionsByIndex, FunctionsByImport, OriginsInOrder, ByImport}
use Rattle.walrus_model.specs.Renaming.{Renaming, renamed_op}
use Rattle.walrus_model.specs.Same.{BothAnd, SameBody, SameKind, SameFunction}
use Rattle.walrus_model.proofs.PipelineOps.{at_both, both_at}
use Rattle.walrus_model.proofs.Steps.{given}
use Rattle.walrus_base.proofs.Agree.{Compared, compared}
use Rattle.walrus_theorem.proofs.AgainRan.{Ran}
use Rattle.walrus_theorem.proofs.AgainTypes.{g, old_function}
use Rattle.walrus_model.proofs.StepPlain.{IsPlain}
use Rattle.walrus_base.proofs.Lookups.{still_some as some_map}
use Rattle.walrus_base.proofs.Standing.{some_of, was_some as map_some}
use Rattle.walrus_model.proofs.Planned.{origins_one_way as origins_turn, both_one_way as both_turn}

-- a list in which later ones are in order is in order
rising_by : (os : ℕ → Option Origin) → ((i j : ℕ) → i < j → IsSome (os i) → IsSome (os j) → BothAnd (OriginsInOrder i j) (os i) (os j)) → (i j : ℕ) → IsSome (os i) → IsSome (os j) → BothAnd (OriginsInOrder i j) (os i) (os j) → Compared i j → i < j
rising_by os rule i j hi hj h (inl less) = less
rising_by os rule i j hi hj h (inr (inl is)) =
    let own : BothAnd (OriginsInOrder i i) (os i) (os i) = subst (λ k. BothAnd (OriginsInOrder i k) (os i) (os k)) (sym is) h in
    absurd (both_turn (OriginsInOrder i i) (OriginsInOrder i i) (origins_turn i i) (os i) (os i) own own)
rising_by os rule i j hi hj h (inr (inr less)) = absurd (both_turn (OriginsInOrder i j) (OriginsInOrder j i) (origins_turn i j) (os i) (os j) h (rule j i less hj hi))

-- ---- what isn't a function

pub others_rise : (n : Abstract) → IsPlain n → (space : Space) → (space ≡ Types → ⊥) → (space ≡ Functions → ⊥) → (i j : ℕ) → IsLive n (space, i) → IsLive n (space, j) → ByImport n space i j → i < j
others_rise n plain Types other local i j hi hj h = absurd (other refl)
others_rise n plain Functions other local i j hi hj h = absurd (local refl)
others_rise n plain Tables other local i j hi hj h = rising_by (λ k. option_map (λ (t : Table). t.origin) (n.tables k)) (λ a b less ha hb. plain.in_order Tables other a b (map_some _ (n.tables a) ha) (map_some _ (n.tables b) hb) less) i j (some_map _ (n.tables i) hi) (some_map _ (n.tables j) hj) h (compared i j)
others_rise n plain Memories other local i j hi hj h = rising_by (λ k. option_map (λ (t : Memory). t.origin) (n.memories k)) (λ a b less ha hb. plain.in_order Memories other a b (map_some _ (n.memories a) ha) (map_some _ (n.memories b) hb) less) i j (some_map _ (n.memories i) hi) (some_map _ (n.memories j) hj) h (compared i j)
others_rise n plain Tags other local i j hi hj h = rising_by (λ k. option_map (λ (t : Tag). t.origin) (n.tags k)) (λ a b less ha hb. plain.in_order Tags other a b (map_some _ (n.tags a) ha) (map_some _ (n.tags b) hb) less) i j (some_map _ (n.tags i) hi) (some_map _ (n.tags j) hj) h (compared i j)
others_rise n plain Globals other local i j hi hj h = rising_by (λ k. option_map (λ (t : Global). t.origin) (n.globals k)) (λ a b less ha hb. plain.in_order Globals other a b (map_some _ (n.globals a) ha) (map_some _ (n.globals b) hb) less) i j (some_map _ (n.globals i) hi) (some_map _ (n.globals j) hj) h (compared i j)
others_rise n plain Elements other local i j hi hj h = h
others_rise n plain DataSegments other local i j hi hj h = h

same_size : (r : Renaming) (i : ℕ) (a b : Body) → SameBody r i a b → size b ≡ size a
same_size r i a b s = ap length s.operators ∙ length-map a.operators (renamed_op r (r.locals i))

module _ (K J : Item → Type 0) (c : Config) (m v n : Abstract) (ran : Ran K J c m v n) where
  abbrev after : Abstract
  after = record ran.w { elements = ran.elements }

  -- functions of n by those of w
  kinds_rise : (i j : ℕ) → IsLive ran.w (Functions, i) → IsLive ran.w (Functions, j) → (a a' b b' : FunctionKind) → SameKind ran.o.renaming i a b → SameKind ran.o.renaming j a' b'
      → ((p q : ℕ) → b ≡ ImportedFunction p → b' ≡ ImportedFunction q → g K J c m v n ran i < g K J c m v n ran j)
      → (FunctionsByImport i j a a' → g K J c m v n ran i < g K J c m v n ran j)
      → FunctionsByImport (g K J c m v n ran i) (g K J c m v n ran j) b b' → g K J c m v n ran i < g K J c m v n ran j
  kinds_rise i j hi hj (ImportedFunction p) a' (ImportedFunction q) (ImportedFunction q') s s' both first h = both q q' refl refl
  kinds_rise i j hi hj (ImportedFunction p) (LocalFunction d') (ImportedFunction q) (LocalFunction b') s s' both first h = first tt
  kinds_rise i j hi hj (LocalFunction d) (LocalFunction d') (LocalFunction b) (LocalFunction b') s s' both first (inl less) =
      let e : size b ≡ size d = same_size ran.o.renaming i d b s in
      let e' : size b' ≡ size d' = same_size ran.o.renaming j d' b' s' in
      let l : size d' < size d = omega (arith, less, e, e') in
      first (inl l)
  kinds_rise i j hi hj (LocalFunction d) (LocalFunction d') (LocalFunction b) (LocalFunction b') s s' both first (inr (e, less)) = less
  kinds_rise i j hi hj (ImportedFunction p) (ImportedFunction q') (ImportedFunction q) (LocalFunction b') s s' both first h = absurd s'
  kinds_rise i j hi hj (ImportedFunction p) Uninitialised (ImportedFunction q) (LocalFunction b') s s' both first h = absurd s'
  kinds_rise i j hi hj (ImportedFunction p) a' (ImportedFunction q) Uninitialised s s' both first h = absurd h
  kinds_rise i j hi hj (ImportedFunction p) a' (LocalFunction b) b' s s' both first h = absurd s
  kinds_rise i j hi hj (ImportedFunction p) a' Uninitialised b' s s' both first h = absurd s
  kinds_rise i j hi hj (LocalFunction d) a' (ImportedFunction q) b' s s' both first h = absurd s
  kinds_rise i j hi hj (LocalFunction d) a' Uninitialised b' s s' both first h = absurd s
  kinds_rise i j hi hj (LocalFunction d) a' (LocalFunction b) (ImportedFunction q) s s' both first h = absurd h
  kinds_rise i j hi hj (LocalFunction d) a' (LocalFunction b) Uninitialised s s' both first h = absurd h
  kinds_rise i j hi hj (LocalFunction d) (ImportedFunction q') (LocalFunction b) (LocalFunction b') s s' both first h = absurd s'
  kinds_rise i j hi hj (LocalFunction d) Uninitialised (LocalFunction b) (LocalFunction b') s s' both first h = absurd s'
  kinds_rise i j hi hj Uninitialised a' b b' s s' both first h = absurd s

  imported_rise : (i j : ℕ) (x y : Function) (p q : ℕ) → n.functions i ≡ Some x → n.functions j ≡ Some y → x.kind ≡ ImportedFunction p → y.kind ≡ ImportedFunction q → p < q → Compared i j → i < j
  imported_rise i j x y p q ex ey kx ky less (inl h) = h
  imported_rise i j x y p q ex ey kx ky less (inr (inl is)) =
      let both : Some x ≡ Some y = sym ex ∙ ap n.functions is ∙ ey in
      let same : x ≡ y = cc in
      let kinds : ImportedFunction p ≡ ImportedFunction q = sym kx ∙ ap (λ (z : Function). z.kind) same ∙ ky in
      let one : p ≡ q = cc in
      absurd (omega (arith, less, one))
  imported_rise i j x y p q ex ey kx ky less (inr (inr h)) =
      let order = ran.plain_n.in_order Functions (λ e. absurd (cc)) j i (ap is_some ey) (ap is_some ex)
      (at_both (λ (z : Function). z.kind) (FunctionsByIndex j i) (n.functions j) (n.functions i) y x ey ex (subst (λ (z : FunctionKind). FunctionsByIndex j i z x.kind) (sym ky) (subst (λ (z : FunctionKind). FunctionsByIndex j i (ImportedFunction q) z) (sym kx) h))) in
      let found : FunctionsByImport j i y.kind x.kind = both_at (λ (z : Function). z.kind) (FunctionsByImport j i) (n.functions j) (n.functions i) y x ey ex order in
      let back : q < p = subst (λ (z : FunctionKind). FunctionsByImport j i (ImportedFunction q) z) kx (subst (λ (z : FunctionKind). FunctionsByImport j i z x.kind) ky found) in
      absurd (omega (arith, less, back))

  pub functions_rise : (i j : ℕ) → IsLive n (Functions, i) → IsLive n (Functions, j) → ByImport n Functions i j → i < j
  functions_rise i j hi hj h =
      let p = old_function K J c m v n ran i hi in
      let q = old_function K J c m v n ran j hj in
      let x = some_of (ran.w.functions p.0) p.1 in
      let y = some_of (ran.w.functions q.0) q.1 in
      let u = given (SameFunction ran.o.renaming p.0) (ran.w.functions p.0) (n.functions (g K J c m v n ran p.0)) x.0 (ran.o.carried.functions.same p.0 p.1) x.1 in
      let z = given (SameFunction ran.o.renaming q.0) (ran.w.functions q.0) (n.functions (g K J c m v n ran q.0)) y.0 (ran.o.carried.functions.same q.0 q.1) y.1 in
      let here : ByImport n Functions (g K J c m v n ran p.0) (g K J c m v n ran q.0) = subst (λ k. ByImport n Functions (g K J c m v n ran p.0) k) (sym q.2) (subst (λ k. ByImport n Functions k j) (sym p.2) h) in
      let kinds : FunctionsByImport (g K J c m v n ran p.0) (g K J c m v n ran q.0) u.0.kind z.0.kind = both_at (λ (d : Function). d.kind) (FunctionsByImport (g K J c m v n ran p.0) (g K J c m v n ran q.0)) (n.functions (g K J c m v n ran p.0)) (n.functions (g K J c m v n ran q.0)) u.0 z.0 u.1 z.1 here in
      let less : g K J c m v n ran p.0 < g K J c m v n ran q.0 = kinds_rise p.0 q.0 p.1 q.1 x.0.kind y.0.kind u.0.kind z.0.kind u.2.kind z.2.kind
      (λ s t es et. imported_rise (g K J c m v n ran p.0) (g K J c m v n ran q.0) u.0 z.0 s t u.1 z.1 es et (subst (λ (d : FunctionKind). FunctionsByImport (g K J c m v n ran p.0) (g K J c m v n ran q.0) (ImportedFunction s) d) et (subst (λ (d : FunctionKind). FunctionsByImport (g K J c m v n ran p.0) (g K J c m v n ran q.0) d z.0.kind) es kinds)) (compared (g K J c m v n ran p.0) (g K J c m v n ran q.0)))
      (λ first. ran.o.rises.items Functions (λ e. absurd (cc)) p.0 q.0 p.1 q.1 (at_both (λ (d : Function). d.kind) (FunctionsByImport p.0 q.0) (ran.w.functions p.0) (ran.w.functions q.0) x.0 y.0 x.1 y.1 first))
      kinds in
      omega (arith, less, p.2, q.2)
