-- In a module that was written for one that was read, each function that ref.func names is exported or listed.
use Rattle.std.proofs.Common.{◌≡◌, ℕ, List, [], ◌∷◌, map, refl, sym, ap, ap₂, ◌∙◌, subst, inl, inr, ⊎_elim, ◌⊎◌}
use Rattle.std.specs.Prelude.{Option, Some, None, option_map, is_some, Contains}
use Rattle.walrus_base.specs.Operators.{Functions, Globals, Elements, Item, Arg, Index, Label, Local, Number, Count, Byte, S32, S64, Bits32, Bits64, Value, Heap, Block, Access, Op, function_item}
use Rattle.walrus_model.specs.Abstract.{Abstract, Body, Function, Global, Element, ElementItems, ListedFunctions, Expressions}
use Rattle.walrus_model.specs.Config.{Config}
use Rattle.walrus_model.specs.Live.{IsLive}
use Rattle.walrus_model.specs.Names.{body_of, body_of_function}
use Rattle.walrus_model.specs.Renaming.{Renaming, renamed, renamed_arg, renamed_op, renamed_ops, renamed_const, renamed_global, renamed_element, renamed_element_items, renamed_export}
use Rattle.walrus_model.specs.Same.{BothAnd, SameBody, SameFunction}
use Rattle.walrus_model.specs.Declared.{ref_func, Lists, IsRefInBody, IsRefInGlobal, IsUndeclared, HasDeclaredSegment}
use Rattle.walrus_model.specs.Out.{OutOf}
use Rattle.walrus_base.proofs.Lists.{Contains-map, Contains-none}
use Rattle.walrus_model.proofs.Steps.{given}
use Rattle.walrus_model.proofs.PipelineOps.{from_map, kind_body_on, kind_body_back}
use Rattle.walrus_model.proofs.Reach.{taken}

-- ---- bodies

pub body_pair_back : (r : Renaming) (i : ℕ) (a b : Option Function) → BothAnd (SameFunction r i) a b → (d : Body) → body_of_function b ≡ Some d → (x : Body) × (body_of_function a ≡ Some x) × SameBody r i x d
body_pair_back r i (Some f) (Some g) s d e = kind_body_back r i f.kind g.kind s.kind d e
body_pair_back r i (Some f) None s d e = absurd s
body_pair_back r i None b s d e = absurd s

pub body_pair_on : (r : Renaming) (i : ℕ) (a b : Option Function) → BothAnd (SameFunction r i) a b → (d : Body) → body_of_function a ≡ Some d → (x : Body) × (body_of_function b ≡ Some x) × SameBody r i d x
body_pair_on r i (Some f) (Some g) s d e = kind_body_on r i f.kind g.kind s.kind d e
body_pair_on r i (Some f) None s d e = absurd s
body_pair_on r i None b s d e = absurd s

pub body_there : (o : Option Function) (b : Body) → body_of_function o ≡ Some b → (f : Function) × (o ≡ Some f)
body_there (Some f) b e = (f, refl)
body_there None b e = absurd (cc)

-- ---- ref.func

module _ (r : Renaming) where
  abbrev Old : ℕ → List Op → Type 0
  Old f ops = (g : ℕ) × Contains ops (ref_func g) × (r.numbers Functions g ≡ f)

  module _ (l : ℕ → ℕ) (f : ℕ) where
    function_back : (x : Item) → renamed r x ≡ function_item f → (g : ℕ) × (x ≡ function_item g) × (r.numbers Functions g ≡ f)
    function_back (space, i) e =
        let is : space ≡ Functions = ap (λ (z : Item). z.0) e in
        (i, ap (λ s. let y : Item = (s, i) in y) is, ap (λ s. r.numbers s i) (sym is) ∙ ap (λ (z : Item). z.1) e)

    arg_back : (a : Arg) → renamed_arg r l a ≡ Index (function_item f) → (g : ℕ) × (a ≡ Index (function_item g)) × (r.numbers Functions g ≡ f)
    arg_back (Index x) e = let is : renamed r x ≡ function_item f = cc in let old = function_back x is in (old.0, ap Index old.1, old.2)
    arg_back (Local x) e = absurd (cc)
    arg_back (Value v) e = absurd (cc)
    arg_back (Heap h) e = absurd (cc)
    arg_back (Block b) e = absurd (cc)
    arg_back (Access flags memory offset) e = absurd (cc)
    arg_back (Label n) e = absurd (cc)
    arg_back (Number n) e = absurd (cc)
    arg_back (Count n) e = absurd (cc)
    arg_back (Byte n) e = absurd (cc)
    arg_back (S32 n) e = absurd (cc)
    arg_back (S64 n) e = absurd (cc)
    arg_back (Bits32 n) e = absurd (cc)
    arg_back (Bits64 n) e = absurd (cc)

    args_back : (args : List Arg) → map (renamed_arg r l) args ≡ Index (function_item f) ∷ [] → (g : ℕ) × (args ≡ Index (function_item g) ∷ []) × (r.numbers Functions g ≡ f)
    args_back [] e = absurd (cc)
    args_back (a ∷ []) e = let is : renamed_arg r l a ≡ Index (function_item f) = cc in let old = arg_back a is in (old.0, ap (λ x. x ∷ []) old.1, old.2)
    args_back (a ∷ b ∷ rest) e = absurd (cc)

    ref_back : (o : Op) → renamed_op r l o ≡ ref_func f → (g : ℕ) × (o ≡ ref_func g) × (r.numbers Functions g ≡ f)
    ref_back o e =
        let old = args_back o.args (ap (λ (x : Op). x.args) e) in
        (old.0, ap₂ (λ op args. record { op = op; args = args }) (ap (λ (x : Op). x.op) e) old.1, old.2)

    refs_back : (ops : List Op) → Contains (renamed_ops r l ops) (ref_func f) → Old f ops
    refs_back ops at =
        let found = from_map (renamed_op r l) (ref_func f) ops at in
        let old = ref_back found.0 found.2 in
        (old.0, subst (λ (o : Op). Contains ops o) old.1 found.1, old.2)

  lists_on : (x : ElementItems) (g : ℕ) → Lists x g → Lists (renamed_element_items r x) (r.numbers Functions g)
  lists_on (ListedFunctions fs) g at = Contains-map (r.numbers Functions) g fs at
  lists_on (Expressions ty es) g at = Contains-map (renamed_const r) (ref_func g ∷ []) es at

  initialiser_back : (f : ℕ) (o : Option (List Op)) (ops : List Op) → option_map (renamed_const r) o ≡ Some ops → Contains ops (ref_func f) → (old : List Op) × (o ≡ Some old) × Old f old
  initialiser_back f None ops e at = absurd (cc)
  initialiser_back f (Some old) ops e at =
      let is : renamed_const r old ≡ ops = cc in
      (old, refl, refs_back (λ x. x) f old (subst (λ l. Contains l (ref_func f)) (sym is) at))

-- n is what comes of the chosen items of m
module _ (K : Item → Type 0) (c : Config) (m n : Abstract) (o : OutOf K c m n) where
  abbrev r : Renaming
  r = o.renaming

  -- a function of n, by that of m
  pub old_function : (i : ℕ) → IsLive n (Functions, i) → (j : ℕ) × K (Functions, j) × (r.numbers Functions j ≡ i)
  old_function i h = ⊎_elim (λ found. found) (λ none. absurd none) (o.carried.functions.onto i h)

  -- a body of n, by that of m
  pub old_body : (i : ℕ) (d : Body) → body_of n i ≡ Some d → (j : ℕ) × (b : Body) × K (Functions, j) × (r.numbers Functions j ≡ i) × (body_of m j ≡ Some b) × SameBody r j b d
  old_body i d at =
      let there = body_there (n.functions i) d at in
      let old = old_function i (ap is_some there.1) in
      let pair = body_pair_back r old.0 (m.functions old.0) (n.functions (r.numbers Functions old.0)) (o.carried.functions.same old.0 old.1) d (ap (λ q. body_of n q) old.2 ∙ at) in
      (old.0, pair.0, old.1, old.2, pair.1, pair.2)

  -- chosen items are chosen in n, as is the segment that was added
  module _ (L : Item → Type 0) (image : (x : Item) → K x → L (renamed o.renaming x)) (segment : (j : ℕ) → o.segment ≡ Some j → L (Elements, j)) where
    abbrev OldNamed : ℕ → Type 0
    OldNamed f = (g : ℕ) × (IsRefInBody K m g ⊎ IsRefInGlobal K m g) × (r.numbers Functions g ≡ f)

    in_body : (f : ℕ) → IsRefInBody L n f → OldNamed f
    in_body f (i, d, k, at, has) =
        let old = old_body i d at in
        let ref = refs_back r (r.locals old.0) f old.1.operators (subst (λ (ops : List Op). Contains ops (ref_func f)) old.5.operators has) in
        (ref.0, inl (old.0, old.1, old.2, old.4, ref.1), ref.2)

    in_global : (f : ℕ) → IsRefInGlobal L n f → OldNamed f
    in_global f (i, g, ops, k, at, made, has) = ⊎_elim
        (λ found.
        let old = taken (λ x y. y ≡ renamed_global r x) (m.globals found.0) (n.globals (r.numbers Globals found.0)) g (o.carried.globals.same found.0 found.1) (ap n.globals found.2 ∙ at) in
        let ref = initialiser_back r f old.0.initialiser ops (sym (ap (λ (x : Global). x.initialiser) old.2) ∙ made) has in
        (ref.2.0, inr (found.0, old.0, ref.0, found.1, old.1, ref.1, ref.2.1), ref.2.2))
        (λ none. absurd none)
        (o.carried.globals.onto i (ap is_some at))

    old_undeclared : (f g : ℕ) → r.numbers Functions g ≡ f → IsRefInBody K m g ⊎ IsRefInGlobal K m g → IsUndeclared L n f → IsUndeclared K m g
    old_undeclared f g is named u = record {
      named = named;
      not_exported = λ e at at_g. u.not_exported (renamed_export r e) (subst (λ l. Contains l (renamed_export r e)) (sym o.carried.exports) (Contains-map (renamed_export r) e m.exports at)) (ap (renamed r) at_g ∙ ap function_item is);
      not_listed = λ i e k at lists.
          let new = given (λ x y. y ≡ renamed_element r x) (m.elements i) (n.elements (r.numbers Elements i)) e (o.carried.elements.same i k) at in
          u.not_listed (r.numbers Elements i) new.0 (image (Elements, i) k) new.1
          (subst (λ (z : Element). Lists z.items f) (sym new.2) (subst (λ q. Lists (renamed_element_items r e.items) q) is (lists_on r e.items g lists)));
    }

    listed : (fs : List ℕ) (f g : ℕ) → r.numbers Functions g ≡ f → Contains fs g → HasDeclaredSegment K r m n fs o.segment → IsUndeclared L n f → ⊥
    listed [] f g is at none u = Contains-none g at
    listed (h ∷ fs) f g is at (j, here, declared) u =
        u.not_listed j _ (segment j here) declared.is (subst (λ q. Contains (map (r.numbers Functions) (h ∷ fs)) q) is (Contains-map (r.numbers Functions) g (h ∷ fs) at))

    pub nothing_undeclared : (f : ℕ) → IsUndeclared L n f → ⊥
    nothing_undeclared f u =
        let old : OldNamed f = ⊎_elim (λ h. in_body f h) (λ h. in_global f h) u.named in
        listed o.declares.functions f old.0 old.2 ((o.declares.undeclared.are old.0).1 (old_undeclared f old.0 old.2 old.1 u)) o.declares.declared u
