-- The types that legacy handlers need follow a renaming.
use Rattle.std.proofs.Common.{◌≡◌, ℕ, Bool, true, false, List, [], ◌∷◌, ◌++◌, length, map, refl, sym, ap, ap₂, ◌∙◌, subst, eqb-true}
use Rattle.std.proofs.lemmas.List.{map-append, length-map}
use Rattle.std.specs.Prelude.{flat_map, Option, Some, None, option_map, Contains, nat_le, nat_lt, ◌==◌, if◌then◌else◌}
use Rattle.walrus_base.specs.Types.{ValType, CompType, Func, Struct, Array, SubType, map_val, map_comp}
use Rattle.walrus_base.specs.Composite.{FunctionType, function_comp}
use Rattle.walrus_base.specs.TypeDef.{type_params, type_results}
use Rattle.walrus_base.specs.Operators.{Types, Tags, Item, type_item, BlockType, NoResult, OneResult, OfType, block_names, Arg, Index, Label, Local, Number, Count, Byte, S32, S64, Bits32, Bits64, Value, Heap, Block, Access, Op, arg_names, op_names, names_of}
use Rattle.walrus_functions.specs.Handlers.{params_of, results_of, OpenBlock, Try, OtherBlock, opens_other, closes, without_innermost, catch_type, catch_all_type, tag_params, block_results, opened_results, caught_params, blocks_after, handler_at, handlers_from}
use Rattle.walrus_model.specs.Abstract.{Abstract, TypeDef, Body, Tag}
use Rattle.walrus_model.specs.Handlers.{tag_type, handlers_of}
use Rattle.walrus_model.specs.Refers.{named_by, tag_names, written_in}
use Rattle.walrus_model.specs.Renaming.{Renaming, renamed_block, renamed_arg, renamed_op, renamed_ops, renamed_tag}
use Rattle.walrus_model.specs.Same.{BothAnd, SameType, SameBody}
use Rattle.walrus_model.specs.Carried.{Carried}
use Rattle.walrus_base.proofs.Lists.{map-map, Contains-head, Contains-tail, Contains-append_1, Contains-append_2}
use Rattle.walrus_model.proofs.Seen.{same_sub}
use Rattle.walrus_model.proofs.StepPlain.{CatchesTags}

module _ (f : ℕ → ℕ) where
  abbrev vals : List (ValType ℕ) → List (ValType ℕ)
  vals vs = map (map_val f) vs

  abbrev through : FunctionType → FunctionType
  through x = record { params = vals x.params; results = vals x.results }

  abbrev block_through : OpenBlock → OpenBlock
  block_through (Try rs) = Try (vals rs)
  block_through OtherBlock = OtherBlock

  comp_params : (c : CompType ℕ) → type_params (map_comp f c) ≡ vals (type_params c)
  comp_params (Func ps rs) = refl
  comp_params (Struct fields) = refl
  comp_params (Array element) = refl

  comp_results : (c : CompType ℕ) → type_results (map_comp f c) ≡ vals (type_results c)
  comp_results (Func ps rs) = refl
  comp_results (Struct fields) = refl
  comp_results (Array element) = refl

  if_none : (t : Bool) (x : FunctionType) → (if t then [] else through x ∷ []) ≡ map through (if t then [] else x ∷ [])
  if_none true x = refl
  if_none false x = refl

  if_one : (t : Bool) (x : FunctionType) → (if t then through x ∷ [] else []) ≡ map through (if t then x ∷ [] else [])
  if_one true x = refl
  if_one false x = refl

  catch_pair : (p q : List (ValType ℕ)) → catch_type (vals p) (vals q) ≡ map through (catch_type p q)
  catch_pair [] q = ap (λ k. if nat_le k 1 then [] else record { params = []; results = vals q } ∷ []) (length-map q (map_val f)) ∙ if_none (nat_le (length q) 1) (record { params = []; results = q })
  catch_pair (v ∷ p) q = refl

  catch_all_pair : (q : List (ValType ℕ)) → catch_all_type (vals q) ≡ map through (catch_all_type q)
  catch_all_pair q = ap (λ k. if nat_lt 1 k then record { params = []; results = vals q } ∷ [] else []) (length-map q (map_val f)) ∙ if_one (nat_lt 1 (length q)) (record { params = []; results = q })

  inner_pair : (blocks : List OpenBlock) → without_innermost (map block_through blocks) ≡ map block_through (without_innermost blocks)
  inner_pair [] = refl
  inner_pair (b ∷ blocks) = refl

  after_pair : (a b c : Bool) (p q : List (ValType ℕ)) (blocks : List OpenBlock) → p ≡ vals q
      → (if a then Try p ∷ map block_through blocks else (if b then OtherBlock ∷ map block_through blocks else (if c then without_innermost (map block_through blocks) else map block_through blocks)))
      ≡ map block_through (if a then Try q ∷ blocks else (if b then OtherBlock ∷ blocks else (if c then without_innermost blocks else blocks)))
  after_pair true b c p q blocks e = ap (λ x. Try x ∷ map block_through blocks) e
  after_pair false true c p q blocks e = refl
  after_pair false false true p q blocks e = inner_pair blocks
  after_pair false false false p q blocks e = refl

  either_pair : (a b : Bool) (xs xs' ys ys' : List FunctionType) → (a ≡ true → xs ≡ map through xs') → ys ≡ map through ys' → (if a then xs else (if b then ys else [])) ≡ map through (if a then xs' else (if b then ys' else []))
  either_pair true b xs xs' ys ys' h k = h refl
  either_pair false true xs xs' ys ys' h k = k
  either_pair false false xs xs' ys ys' h k = refl

module _ (K A : Item → Type 0) (r : Renaming) (m n : Abstract) (closed : (x y : Item) → K x → Contains (written_in m x) y → K y) (c : Carried K A r m n) where
  abbrev f : ℕ → ℕ
  f = r.numbers Types

  abbrev AllIn : List Item → Type 0
  AllIn xs = (y : Item) → Contains xs y → K y

  params_pair : (t : ℕ) (a b : Option TypeDef) → BothAnd (SameType f t) a b → params_of b ≡ vals f (params_of a)
  params_pair t (Some x) (Some y) s = ap (λ (z : SubType ℕ). type_params z.comp) (same_sub f t x y s) ∙ comp_params f x.sub.comp
  params_pair t (Some x) None s = absurd s
  params_pair t None b s = absurd s

  results_pair : (t : ℕ) (a b : Option TypeDef) → BothAnd (SameType f t) a b → results_of b ≡ vals f (results_of a)
  results_pair t (Some x) (Some y) s = ap (λ (z : SubType ℕ). type_results z.comp) (same_sub f t x y s) ∙ comp_results f x.sub.comp
  results_pair t (Some x) None s = absurd s
  results_pair t None b s = absurd s

  block_pair : (b : BlockType) → AllIn (map type_item (block_names b)) → block_results n.types (tag_type n) (renamed_block r b) ≡ vals f (block_results m.types (tag_type m) b)
  block_pair NoResult h = refl
  block_pair (OneResult v) h = refl
  block_pair (OfType t) h = results_pair t (m.types t) (n.types (f t)) (c.types.same t (h (type_item t) (Contains-head (type_item t) [])))

  module _ (l : ℕ → ℕ) where
    opened_pair : (args : List Arg) → AllIn (flat_map arg_names args) → opened_results n.types (tag_type n) (map (renamed_arg r l) args) ≡ vals f (opened_results m.types (tag_type m) args)
    opened_pair [] h = refl
    opened_pair (Block b ∷ args) h = block_pair b (λ y at. h y (Contains-append_1 y (map type_item (block_names b)) (flat_map arg_names args) at))
    opened_pair (Index x ∷ args) h = refl
    opened_pair (Label k ∷ args) h = refl
    opened_pair (Local k ∷ args) h = refl
    opened_pair (Number k ∷ args) h = refl
    opened_pair (Count k ∷ args) h = refl
    opened_pair (Byte k ∷ args) h = refl
    opened_pair (S32 k ∷ args) h = refl
    opened_pair (S64 k ∷ args) h = refl
    opened_pair (Bits32 k ∷ args) h = refl
    opened_pair (Bits64 k ∷ args) h = refl
    opened_pair (Value v ∷ args) h = refl
    opened_pair (Heap k ∷ args) h = refl
    opened_pair (Access x y z ∷ args) h = refl

    tags_pair : (i : ℕ) (a b : Option Tag) → m.tags i ≡ a → K (Tags, i) → BothAnd (λ x y. y ≡ renamed_tag r x) a b → tag_params n.types (tag_type n) (option_map (λ t. t.ty) b) ≡ vals f (tag_params m.types (tag_type m) (option_map (λ t. t.ty) a))
    tags_pair i (Some x) (Some y) at k e =
        let k_type : K (Types, x.ty) = closed (Tags, i) (type_item x.ty) k (subst (λ (o : Option Tag). Contains (named_by tag_names o) (type_item x.ty)) (sym at) (Contains-head (type_item x.ty) [])) in
        ap (λ (t : Tag). params_of (n.types t.ty)) e ∙ params_pair x.ty (m.types x.ty) (n.types (f x.ty)) (c.types.same x.ty k_type)
    tags_pair i (Some x) None at k e = absurd e
    tags_pair i None b at k e = absurd e

    tag_pair : (i : ℕ) → K (Tags, i) → tag_params n.types (tag_type n) (tag_type n (r.numbers Tags i)) ≡ vals f (tag_params m.types (tag_type m) (tag_type m i))
    tag_pair i k = tags_pair i (m.tags i) (n.tags (r.numbers Tags i)) refl k (c.tags.same i k)

    caught_pair : (args : List Arg) → ((x : Item) (rest : List Arg) → args ≡ Index x ∷ rest → x.0 ≡ Tags) → AllIn (flat_map arg_names args) → caught_params n.types (tag_type n) (map (renamed_arg r l) args) ≡ vals f (caught_params m.types (tag_type m) args)
    caught_pair [] tag h = refl
    caught_pair (Index (space, i) ∷ args) tag h =
        let e : space ≡ Tags = tag (space, i) args refl in
        subst (λ s. tag_params n.types (tag_type n) (tag_type n (r.numbers s i)) ≡ vals f (tag_params m.types (tag_type m) (tag_type m i))) (sym e)
        (tag_pair i (subst (λ s. K (s, i)) e (h (space, i) (Contains-head (space, i) (flat_map arg_names args)))))
    caught_pair (Block b ∷ args) tag h = refl
    caught_pair (Label k ∷ args) tag h = refl
    caught_pair (Local k ∷ args) tag h = refl
    caught_pair (Number k ∷ args) tag h = refl
    caught_pair (Count k ∷ args) tag h = refl
    caught_pair (Byte k ∷ args) tag h = refl
    caught_pair (S32 k ∷ args) tag h = refl
    caught_pair (S64 k ∷ args) tag h = refl
    caught_pair (Bits32 k ∷ args) tag h = refl
    caught_pair (Bits64 k ∷ args) tag h = refl
    caught_pair (Value v ∷ args) tag h = refl
    caught_pair (Heap k ∷ args) tag h = refl
    caught_pair (Access x y z ∷ args) tag h = refl

    handler_pair : (blocks : List OpenBlock) (o : Op) → (o.op ≡ 0x07 → (x : Item) (rest : List Arg) → o.args ≡ Index x ∷ rest → x.0 ≡ Tags) → AllIn (op_names o) → handler_at n.types (tag_type n) (map (block_through f) blocks) (renamed_op r l o) ≡ map (through f) (handler_at m.types (tag_type m) blocks o)
    handler_pair [] o tag h = refl
    handler_pair (OtherBlock ∷ around) o tag h = refl
    handler_pair (Try q ∷ around) o tag h = either_pair f (o.op == 0x07) (o.op == 0x19)
        (catch_type (caught_params n.types (tag_type n) (map (renamed_arg r l) o.args)) (vals f q)) (catch_type (caught_params m.types (tag_type m) o.args) q)
        (catch_all_type (vals f q)) (catch_all_type q)
        (λ seven. ap (λ p. catch_type p (vals f q)) (caught_pair o.args (tag (eqb-true o.op 0x07 seven)) h) ∙ catch_pair f (caught_params m.types (tag_type m) o.args) q)
        (catch_all_pair f q)

    from_pair : (blocks : List OpenBlock) (ops : List Op) → CatchesTags ops → AllIn (names_of ops) → handlers_from n.types (tag_type n) (map (block_through f) blocks) (renamed_ops r l ops) ≡ map (through f) (handlers_from m.types (tag_type m) blocks ops)
    from_pair blocks [] tag h = refl
    from_pair blocks (o ∷ ops) tag h =
        let here : AllIn (op_names o) = λ y at. h y (Contains-append_1 y (op_names o) (names_of ops) at) in
        let after : blocks_after n.types (tag_type n) (map (block_through f) blocks) (renamed_op r l o) ≡ map (block_through f) (blocks_after m.types (tag_type m) blocks o) =
        after_pair f (o.op == 0x06) (opens_other o.op) (closes o.op) (opened_results n.types (tag_type n) (map (renamed_arg r l) o.args)) (opened_results m.types (tag_type m) o.args) blocks (opened_pair o.args here) in
        ap₂ ◌++◌
        (handler_pair blocks o (λ seven x rest is. tag o x rest (Contains-head o ops) seven is) here)
        (ap (λ b. handlers_from n.types (tag_type n) b (renamed_ops r l ops)) after
        ∙ from_pair (blocks_after m.types (tag_type m) blocks o) ops
        (λ p x rest at seven is. tag p x rest (Contains-tail o p ops at) seven is)
        (λ y at. h y (Contains-append_2 y (op_names o) (names_of ops) at)))
        ∙ sym (map-append (through f) (handler_at m.types (tag_type m) blocks o) (handlers_from m.types (tag_type m) (blocks_after m.types (tag_type m) blocks o) ops))

  pub handlers_follow : (i : ℕ) (a b : Body) → SameBody r i a b → CatchesTags a.operators → AllIn (names_of a.operators) → handlers_of n b ≡ map (map_comp f) (handlers_of m a)
  handlers_follow i a b s tag h =
      ap (λ ops. map function_comp (handlers_from n.types (tag_type n) (OtherBlock ∷ []) ops)) s.operators
      ∙ ap (map function_comp) (from_pair (r.locals i) (OtherBlock ∷ []) a.operators tag h)
      ∙ map-map function_comp (through f) (handlers_from m.types (tag_type m) (OtherBlock ∷ []) a.operators)
      ∙ sym (map-map (map_comp f) function_comp (handlers_from m.types (tag_type m) (OtherBlock ∷ []) a.operators))
