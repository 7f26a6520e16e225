-- What has a spelling whose sections fit passes no limit.
use Rattle.std.proofs.Common.{◌≡◌, ℕ, ◌+◌, ◌<◌, ◌≤◌, ◌^◌, List, ◌++◌, length, map, sym, ap, ◌∙◌, subst, arith, inl, inr, length-append}
use Rattle.std.specs.Prelude.{Some, All, AllPairs, Contains, ◌≢◌}
use Rattle.std.proofs.lemmas.List.{length-map}
use Rattle.std.proofs.lemmas.List.FromFn.{length-range_with_len}
use Rattle.wasm_writer.specs.Spelling.{SectionFits}
use Rattle.walrus_base.specs.Types.{ValType}
use Rattle.walrus_base.specs.Operators.{Types, Functions, Tables, Memories, locals_of}
use Rattle.walrus_model.specs.BlockHandlers.{params_of}
use Rattle.walrus_model.specs.Abstract.{Abstract, Body, Function, LocalFunction, Table, Memory}
use Rattle.walrus_model.specs.Config.{Config}
use Rattle.walrus_model.specs.Names.{body_of}
use Rattle.walrus_model.specs.Refers.{IsUsed, used_locals}
use Rattle.walrus_model.specs.Renaming.{Renaming, renamed_table, renamed_memory}
use Rattle.walrus_model.specs.Same.{SameType, SameBody, SameKind, SameFunction}
use Rattle.walrus_base.proofs.Lists.{Contains-map}
use Rattle.walrus_model.proofs.OpsFollow.{ops_locals_follow}
use Rattle.walrus_model.proofs.Orders.{is_some_by}
use Rattle.walrus_theorem.specs.OneRun.{Fits}
use Rattle.walrus_theorem.specs.Pinned.{IsWrittenAs}
use Rattle.walrus_theorem.specs.Refused.{HasDead, HasUnspelled, IllFormed, PassesLimit, PassesLimits, ManyItems, ManyLocals, TableLimit, MemoryLimit, Unfit}
use Rattle.walrus_theorem.specs.RefusedLaws.{FitsNoLimit}
use Rattle.walrus_theorem.specs.Spelling.{IsSpelling}
use Rattle.walrus_theorem.specs.Text.{Text, sections_of}
use Rattle.walrus_theorem.specs.WellMade.{IsWellFormed}
use Rattle.walrus_base.proofs.Counting.{no_longer}
use Rattle.walrus_theorem.proofs.FitsTold.{none_unfit}
use Rattle.walrus_theorem.proofs.ManyItems.{too_many}
use Rattle.walrus_theorem.proofs.ManyLocals as locals
use Rattle.walrus_theorem.proofs.OneSpelling.{told, as_told}
use Rattle.walrus_model.proofs.Pigeon.{apart_distinct, all_in}
use Rattle.walrus_theorem.proofs.Shaped.{Shaped}
use Rattle.walrus_theorem.proofs.TextFits.{UsesFew, text_fits, few_uses}
use Rattle.walrus_theorem.proofs.TextShaped.{shaped}
use Rattle.walrus_theorem.proofs.Things.{both_there, some_same, body_at, body_is, local_kind}

no_more : (further used new top : ℕ) → further ≤ used → new ≡ used → new < top → top ≤ further → ⊥
no_more further used new top low same fit many = omega (arith, low, same, fit, many)

not_past : (params further all new top : ℕ) → all ≡ params + further → params ≡ new → new + further ≤ top → top < all → ⊥
not_past params further all new top sum same fit past = omega (arith, sum, same, fit, past)

module _ (c : Config) (v n : Abstract) (t : Text) (alive : HasDead v → ⊥) (spelled : HasUnspelled c v → ⊥) (is : IsWrittenAs c v n) (spells : IsSpelling n t) (fits : All SectionFits (sections_of t)) where
  abbrev r : Renaming
  r = is.written.renaming

  says : n ≡ told t
  says = spells.says ∙ as_told t

  own : IsSpelling (told t) t
  own = subst (λ z. IsSpelling z t) says spells

  small : Fits n
  small = subst Fits (sym says) (text_fits t own fits)

  few : (f : ℕ) (b : Body) → body_of n f ≡ Some b → UsesFew b
  few = subst (λ (z : Abstract). (f : ℕ) (b : Body) → body_of z f ≡ Some b → UsesFew b) (sym says) (few_uses t own fits)

  shape : Shaped n
  shape = subst Shaped (sym spells.says) (shaped t (subst (λ z. IsSpelling z t) spells.says spells))

  positive : 0 < 2 ^ 32
  positive = omega arith

  table_fits : (i : ℕ) (x : Table) → v.tables i ≡ Some x → PassesLimit x.ty.limits → ⊥
  table_fits i x e h =
      let both = both_there (λ y z. z ≡ renamed_table r y) (v.tables i) (n.tables (r.numbers Tables i)) (is.written.carried.tables.same i (is_some_by (v.tables i) x e)) in
      let one : both.0 ≡ x = some_same both.0 x (sym both.2 ∙ e) in
      let is_it : n.tables (r.numbers Tables i) ≡ Some (renamed_table r x) = both.3 ∙ ap Some (both.4 ∙ ap (renamed_table r) one) in
      small.tables (r.numbers Tables i) (renamed_table r x) is_it h

  memory_fits : (i : ℕ) (x : Memory) → v.memories i ≡ Some x → PassesLimit x.ty.limits → ⊥
  memory_fits i x e h =
      let both = both_there (λ y z. z ≡ renamed_memory r y) (v.memories i) (n.memories (r.numbers Memories i)) (is.written.carried.memories.same i (is_some_by (v.memories i) x e)) in
      let one : both.0 ≡ x = some_same both.0 x (sym both.2 ∙ e) in
      let is_it : n.memories (r.numbers Memories i) ≡ Some (renamed_memory r x) = both.3 ∙ ap Some (both.4 ∙ ap (renamed_memory r) one) in
      small.memories (r.numbers Memories i) (renamed_memory r x) is_it h

  -- ---- locals

  -- a function with a body, and what it is written as
  record Pair (f : ℕ) (b : Body) : Type 0 where
    old : Function
    at_v : v.functions f ≡ Some old
    kind : old.kind ≡ LocalFunction b
    new : Function
    at_n : n.functions (r.numbers Functions f) ≡ Some new
    ty : new.ty ≡ r.numbers Types old.ty
    body : Body
    kind_new : new.kind ≡ LocalFunction body
    same : SameBody r f b body

  pair : (f : ℕ) (b : Body) → body_of v f ≡ Some b → Pair f b
  pair f b e =
      let g = body_at (v.functions f) b e in
      let both = both_there (SameFunction r f) (v.functions f) (n.functions (r.numbers Functions f)) (is.written.carried.functions.same f (is_some_by (v.functions f) g.0 g.1)) in
      let one : both.0 ≡ g.0 = some_same both.0 g.0 (sym both.2 ∙ g.1) in
      let same : SameFunction r f g.0 both.1 = subst (λ y. SameFunction r f y both.1) one both.4 in
      let local = local_kind r f b both.1.kind (subst (λ k. SameKind r f k both.1.kind) g.2 same.kind) in
      record { old = g.0; at_v = g.1; kind = g.2; new = both.1; at_n = both.3; ty = same.ty; body = local.0; kind_new = local.1; same = local.2 }

  module _ (f : ℕ) (b : Body) (p : Pair f b) (further : List ℕ) (apart : AllPairs (λ (x : ℕ) (y : ℕ). x ≢ y) further) (used : All (IsUsed b) further) where
    in_n : body_of n (r.numbers Functions f) ≡ Some p.body
    in_n = body_is n (r.numbers Functions f) p.new p.body p.at_n p.kind_new

    uses : used_locals p.body ≡ map (r.locals f) (used_locals b)
    uses = ap locals_of p.same.operators ∙ ops_locals_follow r (r.locals f) b.operators

    few_further : 2 ^ 32 ≤ length further → ⊥
    few_further many =
        no_more (length further) (length (used_locals b)) (length (used_locals p.body)) (2 ^ 32)
        (no_longer further (used_locals b) apart used)
        (ap (λ (l : List ℕ). length l) uses ∙ length-map (used_locals b) (r.locals f))
        (few (r.numbers Functions f) p.body in_n) many

    used_new : (y : ℕ) → IsUsed b y → IsUsed p.body (r.locals f y)
    used_new y u = subst (λ l. Contains l (r.locals f y)) (sym uses) (Contains-map (r.locals f) y (used_locals b) u)

    abbrev params : List (ValType ℕ)
    params = params_of (n.types p.new.ty)

    -- as many parameters as the type has that is written
    params_long : IsWellFormed c v p.old.ty b → length b.parameters ≡ length params
    params_long formed =
        let ty = p.old.ty in
        let type = both_there (SameType (r.numbers Types) ty) (v.types ty) (n.types (r.numbers Types ty)) (is.written.carried.types.same ty (is_some_by (v.types ty) formed.function_type.0 formed.function_type.1)) in
        sym (length-map b.parameters b.local_type)
        ∙ ap (λ l. length l) formed.typed
        ∙ length-map (params_of (v.types ty)) Some
        ∙ ap (λ o. length (params_of o)) type.2
        ∙ sym (locals.same_params (r.numbers Types) ty type.0 type.1 type.4)
        ∙ ap (λ o. length (params_of o)) (sym type.3)
        ∙ ap (λ k. length (params_of (n.types k))) (sym p.ty)

    few_locals : All (λ (x : ℕ). Contains b.parameters x → ⊥) further → 2 ^ 32 < length (b.parameters ++ further) → IsWellFormed c v p.old.ty b → ⊥
    few_locals away many formed =
        let now = shape.bodies (r.numbers Functions f) p.new p.body p.at_n p.kind_new in
        let long : length p.body.parameters ≡ length params = ap (λ (y : Body). length y.parameters) now.1 ∙ length-range_with_len 0 (length params) in
        let low : length params ≤ 2 ^ 32 = subst (λ l. l ≤ 2 ^ 32) long (small.parameters (r.numbers Functions f) p.body in_n) in
        let all : length params + length further ≤ 2 ^ 32 = locals.few b p.body f r p.same params now.0 now.1 (2 ^ 32) low (λ y u. small.used (r.numbers Functions f) p.body (r.locals f y) in_n (used_new y u)) further (apart_distinct further apart)
        (λ y i. (all_in (IsUsed b) further used y i, all_in (λ (q : ℕ). Contains b.parameters q → ⊥) further away y i)) in
        not_past (length b.parameters) (length further) (length (b.parameters ++ further)) (length params) (2 ^ 32) (length-append b.parameters further) (params_long formed) all many

  pub no_limit : PassesLimits c v → ⊥
  no_limit (ManyItems space numbers rise has many) = too_many c v n is (2 ^ 32) positive small.items space numbers rise many has
  no_limit (ManyLocals f b further e apart used away (inl many)) = few_further f b (pair f b e) further apart used many
  no_limit (ManyLocals f b further e apart used away (inr many)) =
      let p = pair f b e in
      spelled (IllFormed alive f p.old b p.at_v p.kind (λ formed. few_locals f b p further apart used away many formed))
  no_limit (TableLimit i x e h) = table_fits i x e h
  no_limit (MemoryLimit i x e h) = memory_fits i x e h
  no_limit (Unfit there h) = none_unfit c v n t alive is spells fits h

pub fits_no_limit : FitsNoLimit
fits_no_limit c v n t alive spelled is spells fits = no_limit c v n t alive spelled is spells fits
