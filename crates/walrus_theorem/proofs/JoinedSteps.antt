-- A renaming that moves locals alone, and then another one.
use Rattle.std.proofs.Common.{◌≡◌, ℕ, ◌<◌, List, [], ◌∷◌, length, map, refl, sym, ap, ap₂, ◌∙◌, subst, inl, inr, arith, ⊎_elim}
use Rattle.std.specs.Prelude.{Option, Some, None, Contains, option_map}
use Rattle.walrus_base.specs.Types.{ValType, map_val}
use Rattle.walrus_base.specs.Operators.{Types, Item, function_item, BlockType, NoResult, OneResult, OfType, Arg, Index, Label, Local, Number, Count, Byte, S32, S64, Bits32, Bits64, Value, Heap, Block, Access, Op, locals_of}
use Rattle.walrus_model.specs.Abstract.{Body, FunctionKind, ImportedFunction, LocalFunction, Uninitialised, Function}
use Rattle.walrus_model.specs.Declared.{ref_func}
use Rattle.walrus_model.specs.Order.{size, LargerFirst, FunctionsByImport}
use Rattle.walrus_model.specs.Refers.{IsUsed, used_locals}
use Rattle.walrus_model.specs.Renaming.{Renaming, joined, renamed_block, renamed_arg, renamed_op, renamed_ops}
use Rattle.walrus_model.specs.Same.{SameBody, SameKind, SameFunction}
use Rattle.walrus_base.proofs.Lists.{map-map, map-same, Contains-map, Contains-head, Contains-tail, Contains-uncons, Contains-none}
use Rattle.walrus_model.proofs.OpsFollow.{ops_locals_follow}
use Rattle.walrus_theorem.proofs.Straight.{straight}
use Rattle.walrus_base.proofs.TypeMaps.{heap-map, val-map}
use Rattle.walrus_theorem.proofs.UsedLocals.{unmap}
use Rattle.std.proofs.lemmas.List.{length-map}

module _ (move : ℕ → ℕ → ℕ) where
  abbrev r : Renaming
  r = straight move

  -- used locals of a body that is put through it
  pub used_map : (i : ℕ) (a b : Body) → SameBody r i a b → used_locals b ≡ map (move i) (used_locals a)
  used_map i a b s = ap locals_of s.operators ∙ ops_locals_follow r (move i) a.operators

  pub used_there : (i : ℕ) (a b : Body) → SameBody r i a b → (x : ℕ) → IsUsed a x → IsUsed b (move i x)
  used_there i a b s x u = subst (λ l. Contains l (move i x)) (sym (used_map i a b s)) (Contains-map (move i) x (used_locals a) u)

  pub used_back : (i : ℕ) (a b : Body) → SameBody r i a b → (y : ℕ) → IsUsed b y → (x : ℕ) × IsUsed a x × (move i x ≡ y)
  used_back i a b s y u = unmap (move i) (used_locals a) y (subst (λ l. Contains l y) (used_map i a b s) u)

  same_size : (i : ℕ) (a b : Body) → SameBody r i a b → size b ≡ size a
  same_size i a b s = ap (λ (os : List Op). length os) s.operators ∙ length-map a.operators (renamed_op r (move i))

  -- references to functions are the same
  pub refs_there : (i : ℕ) (a b : Body) (f : ℕ) → SameBody r i a b → Contains a.operators (ref_func f) → Contains b.operators (ref_func f)
  refs_there i a b f s at = subst (λ l. Contains l (ref_func f)) (sym s.operators) (Contains-map (renamed_op r (move i)) (ref_func f) a.operators at)

  un_index : (l : ℕ → ℕ) (x : Item) (a : Arg) → renamed_arg r l a ≡ Index x → a ≡ Index x
  un_index l x (Index y) e = e
  un_index l x (Access flags memory offset) e = absurd (cc)
  un_index l x (Value v) e = absurd (cc)
  un_index l x (Heap h) e = absurd (cc)
  un_index l x (Block b) e = absurd (cc)
  un_index l x (Label n) e = absurd (cc)
  un_index l x (Local n) e = absurd (cc)
  un_index l x (Number n) e = absurd (cc)
  un_index l x (Count n) e = absurd (cc)
  un_index l x (Byte n) e = absurd (cc)
  un_index l x (S32 n) e = absurd (cc)
  un_index l x (S64 n) e = absurd (cc)
  un_index l x (Bits32 n) e = absurd (cc)
  un_index l x (Bits64 n) e = absurd (cc)

  un_args : (l : ℕ → ℕ) (x : Item) (xs : List Arg) → map (renamed_arg r l) xs ≡ Index x ∷ [] → xs ≡ Index x ∷ []
  un_args l x [] e = absurd (cc)
  un_args l x (a ∷ []) e = let h : renamed_arg r l a ≡ Index x = cc in ap (λ z. z ∷ []) (un_index l x a h)
  un_args l x (a ∷ b ∷ bs) e = absurd (cc)

  un_ref : (l : ℕ → ℕ) (f : ℕ) (o : Op) → renamed_op r l o ≡ ref_func f → o ≡ ref_func f
  un_ref l f o e = ap₂ (λ n xs. record { op = n; args = xs }) (ap (λ (z : Op). z.op) e) (un_args l (function_item f) o.args (ap (λ (z : Op). z.args) e))

  un_refs : (l : ℕ → ℕ) (f : ℕ) (os : List Op) → Contains (renamed_ops r l os) (ref_func f) → Contains os (ref_func f)
  un_refs l f [] at = absurd (Contains-none (ref_func f) at)
  un_refs l f (o ∷ os) at = ⊎_elim
      (λ (e : renamed_op r l o ≡ ref_func f). subst (Contains (o ∷ os)) (un_ref l f o e) (Contains-head o os))
      (λ (rest : Contains (renamed_ops r l os) (ref_func f)). Contains-tail o (ref_func f) os (un_refs l f os rest))
      (Contains-uncons (renamed_op r l o) (ref_func f) (renamed_ops r l os) at)

  pub refs_back : (i : ℕ) (a b : Body) (f : ℕ) → SameBody r i a b → Contains b.operators (ref_func f) → Contains a.operators (ref_func f)
  refs_back i a b f s at = un_refs (move i) f a.operators (subst (λ l. Contains l (ref_func f)) s.operators at)

  -- functions go in the same order

  larger : (i j : ℕ) (a b d e : Body) → size b ≡ size a → size e ≡ size d → LargerFirst i j a d → LargerFirst i j b e
  larger i j a b d e p q (inl h) = inl (omega (arith, p, q, h))
  larger i j a b d e p q (inr h) = inr (p ∙ h.0 ∙ sym q, h.1)

  pub by_kinds : (i j : ℕ) (a b d e : FunctionKind) → SameKind r i a b → SameKind r j d e → FunctionsByImport i j a d → FunctionsByImport i j b e
  by_kinds i j (ImportedFunction p) (ImportedFunction q) (ImportedFunction x) (ImportedFunction y) s t h = let k : p < x = h in omega (arith, s, t, k)
  by_kinds i j (ImportedFunction p) (ImportedFunction q) (LocalFunction x) (LocalFunction y) s t h = tt
  by_kinds i j (LocalFunction p) (LocalFunction q) (LocalFunction x) (LocalFunction y) s t h = larger i j p q x y (same_size i p q s) (same_size j x y t) h
  by_kinds i j (LocalFunction p) b (ImportedFunction x) e s t h = absurd h
  by_kinds i j a b Uninitialised e s t h = absurd t
  by_kinds i j Uninitialised b (ImportedFunction x) e s t h = absurd s
  by_kinds i j Uninitialised b (LocalFunction x) e s t h = absurd s
  by_kinds i j (ImportedFunction p) (LocalFunction q) (ImportedFunction x) e s t h = absurd s
  by_kinds i j (ImportedFunction p) Uninitialised (ImportedFunction x) e s t h = absurd s
  by_kinds i j (ImportedFunction p) (LocalFunction q) (LocalFunction x) e s t h = absurd s
  by_kinds i j (ImportedFunction p) Uninitialised (LocalFunction x) e s t h = absurd s
  by_kinds i j (LocalFunction p) (ImportedFunction q) (LocalFunction x) e s t h = absurd s
  by_kinds i j (LocalFunction p) Uninitialised (LocalFunction x) e s t h = absurd s
  by_kinds i j (ImportedFunction p) (ImportedFunction q) (ImportedFunction x) (LocalFunction y) s t h = absurd t
  by_kinds i j (ImportedFunction p) (ImportedFunction q) (ImportedFunction x) Uninitialised s t h = absurd t
  by_kinds i j (ImportedFunction p) (ImportedFunction q) (LocalFunction x) (ImportedFunction y) s t h = absurd t
  by_kinds i j (ImportedFunction p) (ImportedFunction q) (LocalFunction x) Uninitialised s t h = absurd t
  by_kinds i j (LocalFunction p) (LocalFunction q) (LocalFunction x) (ImportedFunction y) s t h = absurd t
  by_kinds i j (LocalFunction p) (LocalFunction q) (LocalFunction x) Uninitialised s t h = absurd t

  -- both, one after the other

  module _ (s : Renaming) where
    abbrev t : Renaming
    t = joined r s

    block_joined : (b : BlockType) → renamed_block s (renamed_block r b) ≡ renamed_block t b
    block_joined NoResult = refl
    block_joined (OneResult v) = ap OneResult (val-map (s.numbers Types) (λ i. i) v)
    block_joined (OfType n) = refl

    arg_joined : (l k : ℕ → ℕ) (a : Arg) → renamed_arg s l (renamed_arg r k a) ≡ renamed_arg t (λ x. l (k x)) a
    arg_joined l k (Index x) = refl
    arg_joined l k (Access flags memory offset) = refl
    arg_joined l k (Value v) = ap Value (val-map (s.numbers Types) (λ i. i) v)
    arg_joined l k (Heap h) = ap Heap (heap-map (s.numbers Types) (λ i. i) h)
    arg_joined l k (Block b) = ap Block (block_joined b)
    arg_joined l k (Label n) = refl
    arg_joined l k (Local n) = refl
    arg_joined l k (Number n) = refl
    arg_joined l k (Count n) = refl
    arg_joined l k (Byte n) = refl
    arg_joined l k (S32 n) = refl
    arg_joined l k (S64 n) = refl
    arg_joined l k (Bits32 n) = refl
    arg_joined l k (Bits64 n) = refl

    op_joined : (l k : ℕ → ℕ) (o : Op) → renamed_op s l (renamed_op r k o) ≡ renamed_op t (λ x. l (k x)) o
    op_joined l k o = ap (λ xs. record { op = o.op; args = xs }) (map-map (renamed_arg s l) (renamed_arg r k) o.args ∙ map-same (λ a. renamed_arg s l (renamed_arg r k a)) (renamed_arg t (λ x. l (k x))) o.args (arg_joined l k))

    ops_joined : (l k : ℕ → ℕ) (os : List Op) → renamed_ops s l (renamed_ops r k os) ≡ renamed_ops t (λ x. l (k x)) os
    ops_joined l k os = map-map (renamed_op s l) (renamed_op r k) os ∙ map-same (λ a. renamed_op s l (renamed_op r k a)) (renamed_op t (λ x. l (k x))) os (op_joined l k)

    type_joined : (o : Option (ValType ℕ)) → option_map (map_val (s.numbers Types)) (option_map (map_val (λ i. i)) o) ≡ option_map (map_val (s.numbers Types)) o
    type_joined None = refl
    type_joined (Some v) = ap Some (val-map (s.numbers Types) (λ i. i) v)

    body_joined : (i : ℕ) (a b d : Body) → SameBody r i a b → SameBody s i b d → SameBody t i a d
    body_joined i a b d p q = record {
      operators = q.operators ∙ ap (renamed_ops s (s.locals i)) p.operators ∙ ops_joined (s.locals i) (move i) a.operators;
      apart = λ x y ux uy e. p.apart x y ux uy (q.apart (move i x) (move i y) (used_there i a b p x ux) (used_there i a b p y uy) e);
      types = λ x u. q.types (move i x) (used_there i a b p x u) ∙ ap (option_map (map_val (s.numbers Types))) (p.types x u) ∙ type_joined (a.local_type x);
      parameters = λ x u. q.parameters (move i x) (used_there i a b p x u) ∙ p.parameters x u;
    }

    kind_joined : (i : ℕ) (a b d : FunctionKind) → SameKind r i a b → SameKind s i b d → SameKind t i a d
    kind_joined i (ImportedFunction p) (ImportedFunction q) (ImportedFunction x) h k = k ∙ ap s.imports h
    kind_joined i (LocalFunction p) (LocalFunction q) (LocalFunction x) h k = body_joined i p q x h k
    kind_joined i Uninitialised b d h k = absurd h
    kind_joined i (ImportedFunction p) (LocalFunction q) d h k = absurd h
    kind_joined i (ImportedFunction p) Uninitialised d h k = absurd h
    kind_joined i (LocalFunction p) (ImportedFunction q) d h k = absurd h
    kind_joined i (LocalFunction p) Uninitialised d h k = absurd h
    kind_joined i (ImportedFunction p) (ImportedFunction q) (LocalFunction x) h k = absurd k
    kind_joined i (ImportedFunction p) (ImportedFunction q) Uninitialised h k = absurd k
    kind_joined i (LocalFunction p) (LocalFunction q) (ImportedFunction x) h k = absurd k
    kind_joined i (LocalFunction p) (LocalFunction q) Uninitialised h k = absurd k

    pub function_joined : (i : ℕ) (f g h : Function) → SameFunction r i f g → SameFunction s i g h → SameFunction t i f h
    function_joined i f g h p q = record { ty = q.ty ∙ ap (s.numbers Types) p.ty; kind = kind_joined i f.kind g.kind h.kind p.kind q.kind }
