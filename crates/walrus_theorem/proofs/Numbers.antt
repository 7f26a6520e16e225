-- Live items, and their imports, get one number under two renamings.
use Rattle.std.proofs.Common.{◌≡◌, ℕ, ◌<◌, List, [], ◌∷◌, refl, sym, ap, ◌∙◌, subst, arith, inl, inr, ◌⊎◌, ⊎_elim}
use Rattle.std.specs.Prelude.{Option, Some, None, IsSome, option_map}
use Rattle.std.proofs.lemmas.Option.{same_Some}
use Rattle.walrus_base.specs.Operators.{Space, Types, Functions, Tables, Memories, Tags, Globals, Elements, DataSegments, Item}
use Rattle.walrus_model.specs.Abstract.{Abstract, Origin, ImportedBy, Defined, Body, FunctionKind, ImportedFunction, LocalFunction, Uninitialised, Function, Import}
use Rattle.walrus_model.specs.Carried.{Carries, In}
use Rattle.walrus_model.specs.Config.{Config}
use Rattle.walrus_model.specs.Declared.{HasDeclaredSegment}
use Rattle.walrus_model.specs.Kept.{IsImportOf}
use Rattle.walrus_model.specs.Live.{IsLive}
use Rattle.walrus_model.specs.Order.{size, LargerFirst, FunctionsByImport, OriginsInOrder, ByImport}
use Rattle.walrus_model.specs.Renaming.{Renaming, renamed, renamed_origin, renamed_table, renamed_memory, renamed_tag, renamed_global, renamed_import}
use Rattle.walrus_model.specs.Same.{BothAnd, SameKind, SameFunction}
use Rattle.walrus_model.specs.WellMade.{ImportsMatch, import_in, import_of, origin_import, kind_import}
use Rattle.walrus_model.proofs.Orders.{is_some_by}
use Rattle.walrus_model.proofs.Compose.{second_there}
use Rattle.walrus_base.proofs.Agree.{Compared, compared, Ordered, Rising, NoGap, agree}
use Rattle.walrus_theorem.proofs.Shaped.{Closes, Side}
use Rattle.walrus_base.proofs.Lookups.{still_some as still}

-- ---- what is carried leaves no gap

no_gap : {X : Type 0} (K Added : ℕ → Type 0) (r : ℕ → ℕ) (S : ℕ → X → X → Type 0) (xs ys : ℕ → Option X) → Carries K Added r S xs ys → Closes ys → ((i j : ℕ) → K i → Added j → r i < j) → NoGap K 0 r
no_gap K Added r S xs ys c close last i m k le lt = ⊎_elim
    (λ found. found)
    (λ added. let far : r i < m = last i m k added in absurd (omega (arith, far, lt)))
    (c.onto m (close (r i) m lt (second_there (S i) (xs i) (ys (r i)) (c.same i k))))

-- ---- the order of live items is total

origins : (i j : ℕ) (a b : Origin) → ((p : ℕ) → a ≡ ImportedBy p → b ≡ ImportedBy p → i ≡ j) → OriginsInOrder i j a b ⊎ ((i ≡ j) ⊎ OriginsInOrder j i b a)
origins i j (ImportedBy p) (ImportedBy q) one = by (compared p q)
  where
    by : Compared p q → (p < q) ⊎ ((i ≡ j) ⊎ (q < p))
    by (inl h) = inl h
    by (inr (inl h)) = inr (inl (one p refl (ap ImportedBy (sym h))))
    by (inr (inr h)) = inr (inr h)
origins i j (ImportedBy p) Defined one = inl tt
origins i j Defined (ImportedBy q) one = inr (inr tt)
origins i j Defined Defined one = compared i j

some_origin : (a b : Origin) → a ≡ b → Some a ≡ Some b
some_origin a b e = ap (λ (o : Origin). Some o) e

pub by_origin : (i j : ℕ) (a b : Option Origin) → IsSome a → IsSome b → ((p : ℕ) → a ≡ Some (ImportedBy p) → b ≡ Some (ImportedBy p) → i ≡ j) → BothAnd (OriginsInOrder i j) a b ⊎ ((i ≡ j) ⊎ BothAnd (OriginsInOrder j i) b a)
by_origin i j (Some a) (Some b) ha hb one = origins i j a b (λ p e f. one p (some_origin a (ImportedBy p) e) (some_origin b (ImportedBy p) f))
by_origin i j (Some a) None ha hb one = absurd (cc)
by_origin i j None b ha hb one = absurd (cc)

pub locals : (i j : ℕ) (a b : Body) → Compared (size a) (size b) → LargerFirst i j a b ⊎ ((i ≡ j) ⊎ LargerFirst j i b a)
locals i j a b (inl h) = inr (inr (inl h))
locals i j a b (inr (inl h)) = by (compared i j)
  where
    by : Compared i j → LargerFirst i j a b ⊎ ((i ≡ j) ⊎ LargerFirst j i b a)
    by (inl k) = inl (inr (h, k))
    by (inr (inl k)) = inr (inl k)
    by (inr (inr k)) = inr (inr (inr (sym h, k)))
locals i j a b (inr (inr h)) = inl (inl h)

kinds : (i j : ℕ) (a b : FunctionKind) → (a ≡ Uninitialised → ⊥) → (b ≡ Uninitialised → ⊥) → ((p : ℕ) → a ≡ ImportedFunction p → b ≡ ImportedFunction p → i ≡ j) → FunctionsByImport i j a b ⊎ ((i ≡ j) ⊎ FunctionsByImport j i b a)
kinds i j (ImportedFunction p) (ImportedFunction q) ha hb one = by (compared p q)
  where
    by : Compared p q → (p < q) ⊎ ((i ≡ j) ⊎ (q < p))
    by (inl h) = inl h
    by (inr (inl h)) = inr (inl (one p refl (ap ImportedFunction (sym h))))
    by (inr (inr h)) = inr (inr h)
kinds i j (ImportedFunction p) (LocalFunction b) ha hb one = inl tt
kinds i j (LocalFunction a) (ImportedFunction q) ha hb one = inr (inr tt)
kinds i j (LocalFunction a) (LocalFunction b) ha hb one = locals i j a b (compared (size a) (size b))
kinds i j (ImportedFunction p) Uninitialised ha hb one = absurd (hb refl)
kinds i j (LocalFunction a) Uninitialised ha hb one = absurd (hb refl)
kinds i j Uninitialised b ha hb one = absurd (ha refl)

abbrev kind_of : Option Function → Option FunctionKind
kind_of o = option_map (λ f. f.kind) o

abbrev Initialised : Option Function → Type 0
Initialised o = kind_of o ≡ Some Uninitialised → ⊥

by_kind : (i j : ℕ) (a b : Option Function) → IsSome a → IsSome b → Initialised a → Initialised b → ((p : ℕ) → kind_of a ≡ Some (ImportedFunction p) → kind_of b ≡ Some (ImportedFunction p) → i ≡ j)
    → BothAnd (FunctionsByImport i j) (kind_of a) (kind_of b) ⊎ ((i ≡ j) ⊎ BothAnd (FunctionsByImport j i) (kind_of b) (kind_of a))
by_kind i j (Some a) (Some b) la lb ha hb one = kinds i j a.kind b.kind (λ e. ha (ap (λ (k : FunctionKind). Some k) e)) (λ e. hb (ap (λ (k : FunctionKind). Some k) e)) (λ p e f. one p (ap (λ (k : FunctionKind). Some k) e) (ap (λ (k : FunctionKind). Some k) f))
by_kind i j (Some a) None la lb ha hb one = absurd (cc)
by_kind i j None b la lb ha hb one = absurd (cc)

-- ---- imports and items name each other

some_import : (x y : Import) → Some x ≡ Some y → x ≡ y
some_import x y e = cc

pub one_item : (v : Abstract) → ImportsMatch v → (x y : Item) (p : ℕ) → import_of v x ≡ Some p → import_of v y ≡ Some p → x ≡ y
one_item v h x y p e f =
    let a = h.items x p e in
    let b = h.items y p f in
    let same : a.0 ≡ b.0 = some_import a.0 b.0 (sym a.1 ∙ b.1) in
    sym a.2 ∙ ap (λ (i : Import). i.item) same ∙ b.2

origin_imported : {X : Type 0} (f : X → Origin) (o : Option X) (p : ℕ) → option_map f o ≡ Some (ImportedBy p) → import_in (λ x. origin_import (f x)) o ≡ Some p
origin_imported f None p e = absurd (cc)
origin_imported f (Some x) p e = let h : f x ≡ ImportedBy p = cc in ap origin_import h

kind_imported : (o : Option Function) (p : ℕ) → kind_of o ≡ Some (ImportedFunction p) → import_in (λ f. kind_import f.kind) o ≡ Some p
kind_imported None p e = absurd (cc)
kind_imported (Some f) p e = let h : f.kind ≡ ImportedFunction p = cc in ap kind_import h

-- a function that is carried has a kind
carried_kind : (r : Renaming) (i : ℕ) (a b : FunctionKind) → SameKind r i a b → a ≡ Uninitialised → ⊥
carried_kind r i (ImportedFunction p) b s e = cc
carried_kind r i (LocalFunction f) b s e = cc
carried_kind r i Uninitialised b s e = s

initialised : (r : Renaming) (i : ℕ) (a b : Option Function) → BothAnd (SameFunction r i) a b → Initialised a
initialised r i (Some f) (Some g) s e = carried_kind r i f.kind g.kind s.kind (let h : f.kind ≡ Uninitialised = cc in h)
initialised r i (Some f) None s e = s
initialised r i None b s e = s

number_of : (space : Space) (i j : ℕ) → ◌≡◌ {A = Item} (space, i) (space, j) → i ≡ j
number_of space i j e = ap (λ (x : Item). x.1) e

-- ---- one side: what names an import there names it here

kind_carried : (r : Renaming) (i q : ℕ) (a b : FunctionKind) → SameKind r i a b → kind_import a ≡ Some q → kind_import b ≡ Some (r.imports q)
kind_carried r i q (ImportedFunction p) (ImportedFunction t) s e = let h : p ≡ q = cc in ap (λ (k : ℕ). Some k) (s ∙ ap r.imports h)
kind_carried r i q (ImportedFunction p) (LocalFunction t) s e = absurd s
kind_carried r i q (ImportedFunction p) Uninitialised s e = absurd s
kind_carried r i q (LocalFunction p) b s e = absurd (cc)
kind_carried r i q Uninitialised b s e = absurd s

function_carried : (r : Renaming) (i q : ℕ) (a b : Option Function) → BothAnd (SameFunction r i) a b → import_in (λ f. kind_import f.kind) a ≡ Some q → import_in (λ f. kind_import f.kind) b ≡ Some (r.imports q)
function_carried r i q (Some f) (Some g) s e = kind_carried r i q f.kind g.kind s.kind e
function_carried r i q (Some f) None s e = absurd s
function_carried r i q None b s e = absurd s

origin_carried : (r : Renaming) (q : ℕ) (o : Origin) → origin_import o ≡ Some q → origin_import (renamed_origin r o) ≡ Some (r.imports q)
origin_carried r q (ImportedBy p) e = let h : p ≡ q = cc in ap (λ (k : ℕ). Some (r.imports k)) h
origin_carried r q Defined e = absurd (cc)

made_carried : {X : Type 0} (r : Renaming) (q : ℕ) (origin : X → Origin) (f : X → X) → ((x : X) → origin (f x) ≡ renamed_origin r (origin x)) → (a b : Option X) → BothAnd (λ x y. y ≡ f x) a b → import_in (λ x. origin_import (origin x)) a ≡ Some q → import_in (λ x. origin_import (origin x)) b ≡ Some (r.imports q)
made_carried r q origin f law (Some x) (Some y) s e = ap (λ z. origin_import (origin z)) s ∙ ap origin_import (law x) ∙ origin_carried r q (origin x) e
made_carried r q origin f law (Some x) None s e = absurd s
made_carried r q origin f law None b s e = absurd s

made_there : {X : Type 0} (f : X → X) (a b : Option X) (x : X) → BothAnd (λ x y. y ≡ f x) a b → a ≡ Some x → b ≡ Some (f x)
made_there f (Some z) (Some y) x s e = let h : z ≡ x = cc in ap Some (s ∙ ap f h)
made_there f (Some z) None x s e = absurd s
made_there f None b x s e = absurd s

no_types : (v : Abstract) (x : Item) (q : ℕ) → import_of v x ≡ Some q → x.0 ≡ Types → ⊥
no_types v (Types, i) q h e = absurd (cc)
no_types v (Functions, i) q h e = cc
no_types v (Tables, i) q h e = cc
no_types v (Memories, i) q h e = cc
no_types v (Tags, i) q h e = cc
no_types v (Globals, i) q h e = cc
no_types v (Elements, i) q h e = cc
no_types v (DataSegments, i) q h e = cc

module _ (c : Config) (v : Abstract) where
  module _ (n : Abstract) (a : Side c v n) where
    abbrev r : Renaming
    r = a.is.written.renaming

    import_carried : (x : Item) (q : ℕ) → IsLive v x → import_of v x ≡ Some q → import_of n (renamed r x) ≡ Some (r.imports q)
    import_carried (Types, i) q live e = absurd (cc)
    import_carried (Functions, i) q live e = function_carried r i q (v.functions i) (n.functions (r.numbers Functions i)) (a.is.written.carried.functions.same i live) e
    import_carried (Tables, i) q live e = made_carried r q (λ t. t.origin) (renamed_table r) (λ x. refl) (v.tables i) (n.tables (r.numbers Tables i)) (a.is.written.carried.tables.same i live) e
    import_carried (Memories, i) q live e = made_carried r q (λ t. t.origin) (renamed_memory r) (λ x. refl) (v.memories i) (n.memories (r.numbers Memories i)) (a.is.written.carried.memories.same i live) e
    import_carried (Tags, i) q live e = made_carried r q (λ t. t.origin) (renamed_tag r) (λ x. refl) (v.tags i) (n.tags (r.numbers Tags i)) (a.is.written.carried.tags.same i live) e
    import_carried (Globals, i) q live e = made_carried r q (λ t. t.origin) (renamed_global r) (λ x. refl) (v.globals i) (n.globals (r.numbers Globals i)) (a.is.written.carried.globals.same i live) e
    import_carried (Elements, i) q live e = absurd (cc)
    import_carried (DataSegments, i) q live e = absurd (cc)

    -- two items of one number are one
    item_apart : (x y : Item) → (x.0 ≡ Types → ⊥) → IsLive v x → IsLive v y → renamed r x ≡ renamed r y → x ≡ y
    item_apart x y away lx ly e = subst At (ap (λ (z : Item). z.0) e) here y.1 ly (ap (λ (z : Item). z.1) e)
      where
        At : Space → Type 0
        At sp = (j : ℕ) → IsLive v (sp, j) → r.numbers x.0 x.1 ≡ r.numbers sp j → ◌≡◌ {A = Item} x (sp, j)

        here : At x.0
        here j lj same = ap (λ (k : ℕ). (x.0, k)) (a.is.written.carried.apart x.0 away x.1 j lx lj same)

    -- no two items name one import
    same_item : (x y : Item) (q : ℕ) → IsLive v x → IsLive v y → import_of v x ≡ Some q → import_of v y ≡ Some q → x ≡ y
    same_item x y q lx ly e f = item_apart x y (no_types v x q e) lx ly (one_item n a.shaped.matched (renamed r x) (renamed r y) (r.imports q) (import_carried x q lx e) (import_carried y q ly f))

    -- the import of an item has the number of one that brings it
    pub record Brought (x : Item) (q : ℕ) : Type 0 where
      pub number : ℕ
      pub import : Import
      pub at : v.imports number ≡ Some import
      pub item : import.item ≡ x
      pub same : r.imports number ≡ r.imports q

    brought : (x : Item) (q : ℕ) → IsLive v x → import_of v x ≡ Some q → Brought x q
    brought x q live e =
        let named = a.shaped.matched.items (renamed r x) (r.imports q) (import_carried x q live e) in
        let found : (i : ℕ) × IsImportOf (IsLive v) v i × (r.imports i ≡ r.imports q) = ⊎_elim (λ h. h) (λ none. absurd none) (a.is.written.carried.imports.onto (r.imports q) (is_some_by (n.imports (r.imports q)) named.0 named.1)) in
        let there : n.imports (r.imports found.0) ≡ Some (renamed_import r found.1.0) = made_there (renamed_import r) (v.imports found.0) (n.imports (r.imports found.0)) found.1.0 (a.is.written.carried.imports.same found.0 found.1) found.1.1 in
        let one : named.0 ≡ renamed_import r found.1.0 = some_import named.0 (renamed_import r found.1.0) (sym named.1 ∙ ap n.imports (sym found.2) ∙ there) in
        let items : renamed r x ≡ renamed r found.1.0.item = sym named.2 ∙ ap (λ (i : Import). i.item) one in
        record {
          number = found.0;
          import = found.1.0;
          at = found.1.1;
          item = sym (item_apart x found.1.0.item (no_types v x q e) live found.1.2 items);
          same = found.2;
        }

    -- two imports that bring one item have one number
    one_number : (x : Item) (i j : ℕ) (y z : Import) → IsLive v x → v.imports i ≡ Some y → v.imports j ≡ Some z → y.item ≡ x → z.item ≡ x → r.imports i ≡ r.imports j
    one_number x i j y z live ey ez hy hz =
        let ly : IsLive v y.item = subst (IsLive v) (sym hy) live in
        let lz : IsLive v z.item = subst (IsLive v) (sym hz) live in
        let first : n.imports (r.imports i) ≡ Some (renamed_import r y) = made_there (renamed_import r) (v.imports i) (n.imports (r.imports i)) y (a.is.written.carried.imports.same i (y, ey, ly)) ey in
        let second : n.imports (r.imports j) ≡ Some (renamed_import r z) = made_there (renamed_import r) (v.imports j) (n.imports (r.imports j)) z (a.is.written.carried.imports.same j (z, ez, lz)) ez in
        let from_y : import_of n (renamed r y.item) ≡ Some (r.imports i) = a.shaped.matched.imports (r.imports i) (renamed_import r y) first in
        let from_z : import_of n (renamed r z.item) ≡ Some (r.imports j) = a.shaped.matched.imports (r.imports j) (renamed_import r z) second in
        same_Some (r.imports i) (r.imports j) (sym from_y ∙ ap (λ (k : Item). import_of n (renamed r k)) (hy ∙ sym hz) ∙ from_z)

    total : (space : Space) (i j : ℕ) → IsLive v (space, i) → IsLive v (space, j) → Ordered (ByImport v space) i j
    total Types i j li lj = compared i j
    total Functions i j li lj = by_kind i j (v.functions i) (v.functions j) li lj
        (initialised r i (v.functions i) (n.functions (r.numbers Functions i)) (a.is.written.carried.functions.same i li))
        (initialised r j (v.functions j) (n.functions (r.numbers Functions j)) (a.is.written.carried.functions.same j lj))
        (λ q e f. number_of Functions i j (same_item (Functions, i) (Functions, j) q li lj (kind_imported (v.functions i) q e) (kind_imported (v.functions j) q f)))
    total Tables i j li lj = by_origin i j (option_map (λ t. t.origin) (v.tables i)) (option_map (λ t. t.origin) (v.tables j)) (still (λ t. t.origin) (v.tables i) li) (still (λ t. t.origin) (v.tables j) lj)
        (λ q e f. number_of Tables i j (same_item (Tables, i) (Tables, j) q li lj (origin_imported (λ t. t.origin) (v.tables i) q e) (origin_imported (λ t. t.origin) (v.tables j) q f)))
    total Memories i j li lj = by_origin i j (option_map (λ t. t.origin) (v.memories i)) (option_map (λ t. t.origin) (v.memories j)) (still (λ t. t.origin) (v.memories i) li) (still (λ t. t.origin) (v.memories j) lj)
        (λ q e f. number_of Memories i j (same_item (Memories, i) (Memories, j) q li lj (origin_imported (λ t. t.origin) (v.memories i) q e) (origin_imported (λ t. t.origin) (v.memories j) q f)))
    total Tags i j li lj = by_origin i j (option_map (λ t. t.origin) (v.tags i)) (option_map (λ t. t.origin) (v.tags j)) (still (λ t. t.origin) (v.tags i) li) (still (λ t. t.origin) (v.tags j) lj)
        (λ q e f. number_of Tags i j (same_item (Tags, i) (Tags, j) q li lj (origin_imported (λ t. t.origin) (v.tags i) q e) (origin_imported (λ t. t.origin) (v.tags j) q f)))
    total Globals i j li lj = by_origin i j (option_map (λ t. t.origin) (v.globals i)) (option_map (λ t. t.origin) (v.globals j)) (still (λ t. t.origin) (v.globals i) li) (still (λ t. t.origin) (v.globals j) lj)
        (λ q e f. number_of Globals i j (same_item (Globals, i) (Globals, j) q li lj (origin_imported (λ t. t.origin) (v.globals i) q e) (origin_imported (λ t. t.origin) (v.globals j) q f)))
    total Elements i j li lj = compared i j
    total DataSegments i j li lj = compared i j

    rising : (space : Space) → Rising (In (IsLive v) space) (ByImport v space) (r.numbers space)
    rising Types i j li lj b = a.is.pinned.types_rise i j li lj b
    rising Functions i j li lj b = a.is.written.rises.items Functions (λ e. cc) i j li lj b
    rising Tables i j li lj b = a.is.written.rises.items Tables (λ e. cc) i j li lj b
    rising Memories i j li lj b = a.is.written.rises.items Memories (λ e. cc) i j li lj b
    rising Tags i j li lj b = a.is.written.rises.items Tags (λ e. cc) i j li lj b
    rising Globals i j li lj b = a.is.written.rises.items Globals (λ e. cc) i j li lj b
    rising Elements i j li lj b = a.is.written.rises.items Elements (λ e. cc) i j li lj b
    rising DataSegments i j li lj b = a.is.written.rises.items DataSegments (λ e. cc) i j li lj b

    -- the added segment is the last
    last_of : (segment : Option ℕ) (fs : List ℕ) → HasDeclaredSegment (IsLive v) r v n fs segment → (i j : ℕ) → IsLive v (Elements, i) → segment ≡ Some j → r.numbers Elements i < j
    last_of segment [] h i j li e = absurd (let q : Some j ≡ None = sym e ∙ h in cc)
    last_of segment (f ∷ fs) h i j li e =
        let q : Some h.0 ≡ Some j = sym h.1 ∙ e in
        let one : h.0 ≡ j = cc in
        subst (λ k. r.numbers Elements i < k) one (h.2.last i li)

    full : (space : Space) → NoGap (In (IsLive v) space) 0 (r.numbers space)
    full Types = no_gap _ _ _ _ v.types n.types a.is.written.carried.types a.shaped.types (λ i j k none. absurd none)
    full Functions = no_gap _ _ _ _ v.functions n.functions a.is.written.carried.functions a.shaped.functions (λ i j k none. absurd none)
    full Tables = no_gap _ _ _ _ v.tables n.tables a.is.written.carried.tables a.shaped.tables (λ i j k none. absurd none)
    full Memories = no_gap _ _ _ _ v.memories n.memories a.is.written.carried.memories a.shaped.memories (λ i j k none. absurd none)
    full Tags = no_gap _ _ _ _ v.tags n.tags a.is.written.carried.tags a.shaped.tags (λ i j k none. absurd none)
    full Globals = no_gap _ _ _ _ v.globals n.globals a.is.written.carried.globals a.shaped.globals (λ i j k none. absurd none)
    full Elements = no_gap _ _ _ _ v.elements n.elements a.is.written.carried.elements a.shaped.elements (λ i j k e. last_of a.is.written.segment a.is.written.declares.functions a.is.written.declares.declared i j k e)
    full DataSegments = no_gap _ _ _ _ v.data_segments n.data_segments a.is.written.carried.data_segments a.shaped.data_segments (λ i j k none. absurd none)

    full_imports : NoGap (IsImportOf (IsLive v) v) 0 r.imports
    full_imports = no_gap _ _ _ _ v.imports n.imports a.is.written.carried.imports a.shaped.imports (λ i j k none. absurd none)

  module _ (n m : Abstract) (a : Side c v n) (b : Side c v m) where
    abbrev s : Renaming
    s = a.is.written.renaming

    abbrev t : Renaming
    t = b.is.written.renaming

    pub numbers_one : (space : Space) (i : ℕ) → IsLive v (space, i) → s.numbers space i ≡ t.numbers space i
    numbers_one space i li = agree (In (IsLive v) space) (ByImport v space) (total n a space) 0 (s.numbers space) (t.numbers space) (rising n a space) (rising m b space) (λ k l. omega arith) (λ k l. omega arith) (full n a space) (full m b space) i li

    pub imports_one : (i : ℕ) → IsImportOf (IsLive v) v i → s.imports i ≡ t.imports i
    imports_one i li = agree (IsImportOf (IsLive v) v) (λ k l. k < l) (λ k l lk ll. compared k l) 0 s.imports t.imports a.is.written.rises.imports b.is.written.rises.imports (λ k l. omega arith) (λ k l. omega arith) (full_imports n a) (full_imports m b) i li

    -- the import that a live item names
    pub named_import_one : (x : Item) (q : ℕ) → IsLive v x → import_of v x ≡ Some q → s.imports q ≡ t.imports q
    named_import_one x q live e =
        let h = brought n a x q live e in
        let k = brought m b x q live e in
        let is : IsImportOf (IsLive v) v k.number = (k.import, k.at, subst (IsLive v) (sym k.item) live) in
        sym h.same ∙ one_number n a x h.number k.number h.import k.import live h.at k.at h.item k.item ∙ imports_one k.number is ∙ k.same
