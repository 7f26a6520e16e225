-- The types that legacy handlers need name types that are there.
use Rattle.std.proofs.Common.{◌≡◌, ℕ, Bool, true, false, List, [], ◌∷◌, ◌++◌, length, map, refl, sym, subst, ◌⊎◌, ⊎_elim}
use Rattle.std.specs.Prelude.{Option, Some, None, Contains, flat_map, if◌then◌else◌, ◌==◌, nat_le, nat_lt}
use Rattle.walrus_base.specs.Types.{ValType, CompType, Func, Struct, Array, val_heaps, heap_names, val_names, comp_names, sub_names}
use Rattle.walrus_base.specs.Composite.{FunctionType, function_comp}
use Rattle.walrus_base.specs.Operators.{Types, Functions, Item, type_item, BlockType, NoResult, OneResult, OfType, block_names, Arg, Index, Label, Local, Number, Count, Byte, S32, S64, Bits32, Bits64, Value, Heap, Block, Access, Op, arg_names, op_names, names_of}
use Rattle.walrus_base.specs.TypeDef.{type_params, type_results}
use Rattle.walrus_model.specs.BlockHandlers.{params_of, results_of, OpenBlock, Try, OtherBlock, opens_other, closes, without_innermost, catch_type, catch_all_type, tag_params, block_results, opened_results, caught_params, blocks_after, handler_at, handlers_from}
use Rattle.walrus_model.specs.Abstract.{Abstract, TypeDef, Body}
use Rattle.walrus_model.specs.Handlers.{tag_type}
use Rattle.walrus_model.specs.Live.{IsLive}
use Rattle.walrus_model.specs.Names.{body_of}
use Rattle.walrus_model.specs.Refers.{named_by, type_names, function_names, kind_names, local_names, used_locals}
use Rattle.walrus_model.specs.Rules.{Holds}
use Rattle.walrus_theorem.specs.OneRun.{HandlersLive}
use Rattle.walrus_base.proofs.Lists.{Contains-head, Contains-tail, Contains-uncons, Contains-none, Contains-map, Contains-append_1, Contains-append_2}
use Rattle.walrus_model.proofs.TypeRules.{Contains-flat_map}
use Rattle.walrus_model.proofs.Reach.{Contains-unmap}
use Rattle.walrus_theorem.proofs.Things.{body_at}
use Rattle.walrus_model.proofs.OrderByImport.{in_either as un_append}

pub un_flat : {A B : Type 0} (f : A → List B) (xs : List A) (y : B) → Contains (flat_map f xs) y → (x : A) × Contains xs x × Contains (f x) y
un_flat f [] y at = absurd (Contains-none y at)
un_flat f (x ∷ xs) y at = ⊎_elim
    (λ (h : Contains (f x) y). (x, Contains-head x xs, h))
    (λ (h : Contains (flat_map f xs) y). let u = un_flat f xs y h in (u.0, Contains-tail x u.0 xs u.1, u.2))
    (un_append (f x) (flat_map f xs) y at)

module _ (m : Abstract) (holds : Holds m) where
  abbrev On : List (ValType ℕ) → Type 0
  On vs = (v : ValType ℕ) → Contains vs v → (t : ℕ) → Contains (val_names v) t → IsLive m (Types, t)

  on_none : On []
  on_none v at = absurd (Contains-none v at)

  comp_live : (ps rs : List (ValType ℕ)) → On ps → On rs → (t : ℕ) → Contains (comp_names (Func ps rs)) t → IsLive m (Types, t)
  comp_live ps rs op or t at =
      let h = un_flat heap_names (flat_map val_heaps ps ++ flat_map val_heaps rs) t at in
      ⊎_elim
      (λ i. let v = un_flat val_heaps ps h.0 i in op v.0 v.1 t (Contains-flat_map heap_names (val_heaps v.0) h.0 t v.2 h.2))
      (λ i. let v = un_flat val_heaps rs h.0 i in or v.0 v.1 t (Contains-flat_map heap_names (val_heaps v.0) h.0 t v.2 h.2))
      (un_append (flat_map val_heaps ps) (flat_map val_heaps rs) h.0 h.1)

  type_live : (i : ℕ) (x : TypeDef) → m.types i ≡ Some x → (t : ℕ) → Contains (comp_names x.sub.comp) t → IsLive m (Types, t)
  type_live i x e t at = holds.indices.written (Types, i) (type_item t) (subst (λ o. Contains (named_by type_names o) (type_item t)) (sym e)
      (Contains-append_2 (type_item t) (map type_item x.group) (map type_item (sub_names x.sub)) (Contains-map type_item t (sub_names x.sub) (Contains-append_2 t x.sub.supertypes (comp_names x.sub.comp) at))))

  in_params : (ps rs : List (ValType ℕ)) → ((t : ℕ) → Contains (comp_names (Func ps rs)) t → IsLive m (Types, t)) → On ps
  in_params ps rs live v at t has =
      let h = un_flat heap_names (val_heaps v) t has in
      live t (Contains-flat_map heap_names (flat_map val_heaps ps ++ flat_map val_heaps rs) h.0 t (Contains-append_1 h.0 (flat_map val_heaps ps) (flat_map val_heaps rs) (Contains-flat_map val_heaps ps v h.0 at h.1)) h.2)

  in_results : (ps rs : List (ValType ℕ)) → ((t : ℕ) → Contains (comp_names (Func ps rs)) t → IsLive m (Types, t)) → On rs
  in_results ps rs live v at t has =
      let h = un_flat heap_names (val_heaps v) t has in
      live t (Contains-flat_map heap_names (flat_map val_heaps ps ++ flat_map val_heaps rs) h.0 t (Contains-append_2 h.0 (flat_map val_heaps ps) (flat_map val_heaps rs) (Contains-flat_map val_heaps rs v h.0 at h.1)) h.2)

  comp_params : (c : CompType ℕ) → ((t : ℕ) → Contains (comp_names c) t → IsLive m (Types, t)) → On (type_params c)
  comp_params (Func ps rs) live = in_params ps rs live
  comp_params (Struct fields) live = on_none
  comp_params (Array element) live = on_none

  comp_results : (c : CompType ℕ) → ((t : ℕ) → Contains (comp_names c) t → IsLive m (Types, t)) → On (type_results c)
  comp_results (Func ps rs) live = in_results ps rs live
  comp_results (Struct fields) live = on_none
  comp_results (Array element) live = on_none

  params_live : (i : ℕ) (o : Option TypeDef) → m.types i ≡ o → On (params_of o)
  params_live i None e = on_none
  params_live i (Some x) e = comp_params x.sub.comp (type_live i x e)

  results_live : (i : ℕ) (o : Option TypeDef) → m.types i ≡ o → On (results_of o)
  results_live i None e = on_none
  results_live i (Some x) e = comp_results x.sub.comp (type_live i x e)

  tag_live : (o : Option ℕ) → On (tag_params m.types (tag_type m) o)
  tag_live None = on_none
  tag_live (Some t) = params_live t (m.types t) refl

  block_live : (b : BlockType) → ((t : ℕ) → Contains (block_names b) t → IsLive m (Types, t)) → On (block_results m.types (tag_type m) b)
  block_live NoResult live = on_none
  block_live (OneResult v) live = λ w at t has. ⊎_elim (λ (e : v ≡ w). live t (subst (λ z. Contains (val_names z) t) (sym e) has)) (λ none. absurd (Contains-none w none)) (Contains-uncons v w [] at)
  block_live (OfType i) live = results_live i (m.types i) refl

  abbrev Fine : List Arg → Type 0
  Fine xs = (y : Item) → Contains (flat_map arg_names xs) y → IsLive m y

  opened : (xs : List Arg) → Fine xs → On (opened_results m.types (tag_type m) xs)
  opened [] f = on_none
  opened (Block b ∷ xs) f = block_live b (λ t at. f (type_item t) (Contains-append_1 (type_item t) (map type_item (block_names b)) (flat_map arg_names xs) (Contains-map type_item t (block_names b) at)))
  opened (Index x ∷ xs) f = on_none
  opened (Access flags memory offset ∷ xs) f = on_none
  opened (Value v ∷ xs) f = on_none
  opened (Heap h ∷ xs) f = on_none
  opened (Label n ∷ xs) f = on_none
  opened (Local n ∷ xs) f = on_none
  opened (Number n ∷ xs) f = on_none
  opened (Count n ∷ xs) f = on_none
  opened (Byte n ∷ xs) f = on_none
  opened (S32 n ∷ xs) f = on_none
  opened (S64 n ∷ xs) f = on_none
  opened (Bits32 n ∷ xs) f = on_none
  opened (Bits64 n ∷ xs) f = on_none

  caught : (xs : List Arg) → On (caught_params m.types (tag_type m) xs)
  caught [] = on_none
  caught (Index x ∷ xs) = tag_live (tag_type m x.1)
  caught (Block b ∷ xs) = on_none
  caught (Access flags memory offset ∷ xs) = on_none
  caught (Value v ∷ xs) = on_none
  caught (Heap h ∷ xs) = on_none
  caught (Label n ∷ xs) = on_none
  caught (Local n ∷ xs) = on_none
  caught (Number n ∷ xs) = on_none
  caught (Count n ∷ xs) = on_none
  caught (Byte n ∷ xs) = on_none
  caught (S32 n ∷ xs) = on_none
  caught (S64 n ∷ xs) = on_none
  caught (Bits32 n ∷ xs) = on_none
  caught (Bits64 n ∷ xs) = on_none

  abbrev AllOn : List OpenBlock → Type 0
  AllOn [] = Unit {0}
  AllOn (Try r ∷ bs) = On r × AllOn bs
  AllOn (OtherBlock ∷ bs) = AllOn bs

  inner : (bs : List OpenBlock) → AllOn bs → AllOn (without_innermost bs)
  inner [] h = h
  inner (Try r ∷ bs) h = h.1
  inner (OtherBlock ∷ bs) h = h

  after_by : (x y z : Bool) (r : List (ValType ℕ)) (bs : List OpenBlock) → On r → AllOn bs → AllOn (if x then Try r ∷ bs else (if y then OtherBlock ∷ bs else (if z then without_innermost bs else bs)))
  after_by true y z r bs on h = (on, h)
  after_by false true z r bs on h = h
  after_by false false true r bs on h = inner bs h
  after_by false false false r bs on h = h

  -- each function type of these is one of live types
  abbrev Types_live : List FunctionType → Type 0
  Types_live fs = (f : FunctionType) → Contains fs f → On f.params × On f.results

  none_live : Types_live []
  none_live f at = absurd (Contains-none f at)

  one_live : (ps rs : List (ValType ℕ)) → On ps → On rs → Types_live (record { params = ps; results = rs } ∷ [])
  one_live ps rs op or f at = ⊎_elim
      (λ (e : record { params = ps; results = rs } ≡ f). subst (λ (g : FunctionType). On g.params × On g.results) e (op, or))
      (λ none. absurd (Contains-none f none))
      (Contains-uncons (record { params = ps; results = rs }) f [] at)

  if_live : (x : Bool) (fs gs : List FunctionType) → Types_live fs → Types_live gs → Types_live (if x then fs else gs)
  if_live true fs gs f g = f
  if_live false fs gs f g = g

  catch_live : (p r : List (ValType ℕ)) → On p → On r → Types_live (catch_type p r)
  catch_live [] r op or = if_live (nat_le (length r) 1) [] (record { params = []; results = r } ∷ []) none_live (one_live [] r on_none or)
  catch_live (v ∷ p) r op or = one_live (v ∷ p) r op or

  at_live : (bs : List OpenBlock) (o : Op) → AllOn bs → Types_live (handler_at m.types (tag_type m) bs o)
  at_live [] o h = none_live
  at_live (OtherBlock ∷ bs) o h = none_live
  at_live (Try r ∷ bs) o h = if_live (o.op == 0x07) (catch_type (caught_params m.types (tag_type m) o.args) r) (if o.op == 0x19 then catch_all_type r else [])
      (catch_live (caught_params m.types (tag_type m) o.args) r (caught o.args) h.0)
      (if_live (o.op == 0x19) (catch_all_type r) [] (if_live (nat_lt 1 (length r)) (record { params = []; results = r } ∷ []) [] (one_live [] r on_none h.0) none_live) none_live)

  all_live : (bs : List OpenBlock) (ops : List Op) → AllOn bs → ((y : Item) → Contains (names_of ops) y → IsLive m y) → Types_live (handlers_from m.types (tag_type m) bs ops)
  all_live bs [] h names = none_live
  all_live bs (o ∷ ops) h names = λ f at. ⊎_elim
      (λ here. at_live bs o h f here)
      (λ later. all_live (blocks_after m.types (tag_type m) bs o) ops
      (after_by (o.op == 0x06) (opens_other o.op) (closes o.op) (opened_results m.types (tag_type m) o.args) bs (opened o.args (λ y has. names y (Contains-append_1 y (op_names o) (names_of ops) has))) h)
      (λ y has. names y (Contains-append_2 y (op_names o) (names_of ops) has)) f later)
      (un_append (handler_at m.types (tag_type m) bs o) (handlers_from m.types (tag_type m) (blocks_after m.types (tag_type m) bs o) ops) f at)

  body_names : (f : ℕ) (b : Body) → body_of m f ≡ Some b → (y : Item) → Contains (names_of b.operators) y → IsLive m y
  body_names f b e y at =
      let g = body_at (m.functions f) b e in
      holds.indices.written (Functions, f) y (subst (λ o. Contains (named_by function_names o) y) (sym g.1)
      (Contains-tail (type_item g.0.ty) y (kind_names g.0.kind) (subst (λ z. Contains (kind_names z) y) (sym g.2) (Contains-append_1 y (names_of b.operators) (flat_map (local_names b) (used_locals b)) at))))

pub handlers_live : HandlersLive
handlers_live m holds f b e comp at t has =
    let u = Contains-unmap function_comp (handlers_from m.types (tag_type m) (OtherBlock ∷ []) b.operators) comp at in
    let on = all_live m holds (OtherBlock ∷ []) b.operators tt (body_names m holds f b e) u.0 u.1 in
    comp_live m holds u.0.params u.0.results on.0 on.1 t (subst (λ z. Contains (comp_names z) t) (sym u.2) has)
