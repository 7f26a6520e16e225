-- The worked examples.
use Rattle.std.proofs.Common.{◌≡◌, ℕ, zero, suc, pred, ◌<◌, Bool, true, false, [], ◌∷◌, map, refl, sym, ap, ◌∙◌, subst, inl, inr, ⊎_elim, arith}
use Rattle.std.specs.Prelude.{Some, None, IsTrue, IsSome, ◌⊎◌, Contains}
use Rattle.walrus_base.specs.Types.{CompType, Func, I32, sub_names}
use Rattle.walrus_base.specs.Composite.{function_comp}
use Rattle.walrus_base.specs.Operators.{Space, Types, Functions, Tables, Memories, Tags, Globals, Elements, DataSegments, Item, Op}
use Rattle.walrus_functions.specs.Handlers.{handlers_of}
use Rattle.walrus_model.specs.Abstract.{TypeDef, Body}
use Rattle.walrus_model.specs.Roots.{exported, start, data_segment, element_segment, asked_for}
use Rattle.walrus_model.specs.Reached.{Reached, root, step, HasRoots, IsClosed}
use Rattle.walrus_model.specs.Kept.{Kept, IsSpareMemory, IsImportOf}
use Rattle.walrus_model.specs.Same.{SameType, SameFunction, BothAnd}
use Rattle.walrus_model.specs.Renaming.{Renaming}
use Rattle.walrus_model.specs.Carried.{Carries, Carried, In, KeepsApart}
use Rattle.walrus_model.specs.Out.{MayBeAdded, IsHandlerType, Out}
use Rattle.walrus_model.specs.Order.{ByIndex}
use Rattle.walrus_model.specs.Names.{body_of}
use Rattle.walrus_model.specs.Declared.{ref_func, IsUndeclared, Declares}
use Rattle.walrus_model.specs.Handlers.{tag_type}
use Rattle.walrus_model.specs.Sections.{export_of, body_with}
use Rattle.walrus_model.specs.Examples.{two_functions, one_function, export_f, just_end, plain, SmallOnes, alone, function_type, struct_of, empty_struct, with_handler, structs, pair_shape}
use Rattle.walrus_base.specs.Shape.{Own, Other, in_its_group, HasShape, OfGroup, NoShapes, AndShape, Filled}
use Rattle.walrus_base.proofs.Lists.{Contains-head, Contains-uncons, Contains-none}
use Rattle.walrus_model.proofs.Least.{lies_within}

-- ---- what is kept of the two functions

pub second_reached : Reached two_functions (Functions, 1)
second_reached = root (Functions, 1) (exported (export_of (export_f 1)) (Contains-head (export_of (export_f 1)) []) refl)

type_reached : Reached two_functions (Types, 0)
type_reached = step (Functions, 1) (Types, 0) second_reached (inl (Contains-head (Types, 0) []))

-- these two and nothing else
unfoldable pub is_kept : Item → Bool
is_kept (Types, zero) = true
is_kept (Types, suc i) = false
is_kept (Functions, zero) = false
is_kept (Functions, suc zero) = true
is_kept (Functions, suc (suc i)) = false
is_kept (Tables, i) = false
is_kept (Memories, i) = false
is_kept (Tags, i) = false
is_kept (Globals, i) = false
is_kept (Elements, i) = false
is_kept (DataSegments, i) = false

pub only_one : {A : Type 0} (x y : A) → Contains (x ∷ []) y → x ≡ y
only_one x y at = ⊎_elim (λ e. e) (λ none. absurd (Contains-none y none)) (Contains-uncons x y [] at)

holds_roots : HasRoots two_functions is_kept
unfolding is_kept
holds_roots x (exported e at is) = subst (λ y. IsTrue (is_kept y)) (sym (is ∙ ap (λ e. e.item) (sym (only_one (export_of (export_f 1)) e at)))) refl
holds_roots x (start f at is) = absurd (cc)
holds_roots x (data_segment i d at kind is) = absurd (cc)
holds_roots x (element_segment i e at kind is) = absurd (cc)
holds_roots x (asked_for at) = absurd (Contains-none x at)

is_type : (y : Item) → Contains ((Types, 0) ∷ []) y → IsTrue (is_kept y)
unfolding is_kept
is_type y at = subst (λ y. IsTrue (is_kept y)) (only_one (Types, 0) y at) refl

is_closed : IsClosed two_functions is_kept
unfolding is_kept
is_closed (Types, zero) y in_set (inl at) = is_type y at
is_closed (Types, suc i) y in_set refers = absurd (cc)
is_closed (Functions, zero) y in_set refers = absurd (cc)
is_closed (Functions, suc zero) y in_set (inl at) = is_type y at
is_closed (Functions, suc (suc i)) y in_set refers = absurd (cc)
is_closed (Tables, i) y in_set refers = absurd (cc)
is_closed (Memories, i) y in_set refers = absurd (cc)
is_closed (Tags, i) y in_set refers = absurd (cc)
is_closed (Globals, i) y in_set refers = absurd (cc)
is_closed (Elements, i) y in_set refers = absurd (cc)
is_closed (DataSegments, i) y in_set refers = absurd (cc)
is_closed (Types, zero) y in_set (inr none) = absurd none
is_closed (Functions, suc zero) y in_set (inr (t, at, is)) = absurd (Contains-none t at)

no_spare : (x : Item) → IsSpareMemory two_functions x → ⊥
no_spare x spare = let live = spare.first.live in absurd (cc)

kept_is : (x : Item) → Kept two_functions x → IsTrue (is_kept x)
kept_is x k = ⊎_elim (λ h. lies_within two_functions (λ y. IsTrue (is_kept y)) holds_roots is_closed x h) (λ spare. absurd (no_spare x spare)) k

pub first_is_not : Kept two_functions (Functions, 0) → ⊥
unfolding is_kept
first_is_not k = let yes : false ≡ true = kept_is (Functions, 0) k in cc

-- ---- what comes out

new_numbers : Space → ℕ → ℕ
new_numbers Functions i = pred i
new_numbers Types i = i
new_numbers Tables i = i
new_numbers Memories i = i
new_numbers Tags i = i
new_numbers Globals i = i
new_numbers Elements i = i
new_numbers DataSegments i = i

renaming : Renaming
renaming = record { numbers = new_numbers; imports = λ i. i; locals = λ f x. x }

Added : Item → Type 0
Added = MayBeAdded (Kept two_functions) renaming two_functions one_function None

types_carried : Carries (In (Kept two_functions) Types) (In Added Types) (renaming.numbers Types) (SameType (renaming.numbers Types)) two_functions.types one_function.types
unfolding is_kept renaming new_numbers
types_carried = record { same = same; onto = onto } where
  same : (i : ℕ) → Kept two_functions (Types, i) → BothAnd (SameType (renaming.numbers Types) i) (two_functions.types i) (one_function.types (renaming.numbers Types i))
  same zero k = record { group = refl; position = refl; sub = refl }
  same (suc i) k = let no = kept_is (Types, suc i) k in absurd (cc)

  onto : (j : ℕ) → IsSome (one_function.types j) → ((i : ℕ) × Kept two_functions (Types, i) × (renaming.numbers Types i ≡ j)) ⊎ In Added Types j
  onto zero there = inl (0, inl type_reached, refl)
  onto (suc j) there = absurd (cc)

functions_carried : Carries (In (Kept two_functions) Functions) (In Added Functions) (renaming.numbers Functions) (SameFunction renaming) two_functions.functions one_function.functions
unfolding is_kept renaming new_numbers
functions_carried = record { same = same; onto = onto } where
  same : (i : ℕ) → Kept two_functions (Functions, i) → BothAnd (SameFunction renaming i) (two_functions.functions i) (one_function.functions (renaming.numbers Functions i))
  same zero k = absurd (first_is_not k)
  same (suc zero) k = record {
    ty = refl;
    kind = record {
      operators = refl;
      apart = λ x y at to e. absurd (Contains-none x at);
      types = λ x at. absurd (Contains-none x at);
      parameters = λ x at. absurd (Contains-none x at);
    };
  }
  same (suc (suc i)) k = let no = kept_is (Functions, suc (suc i)) k in absurd (cc)

  onto : (j : ℕ) → IsSome (one_function.functions j) → ((i : ℕ) × Kept two_functions (Functions, i) × (renaming.numbers Functions i ≡ j)) ⊎ In Added Functions j
  onto zero there = inl (1, inl second_reached, refl)
  onto (suc j) there = absurd (cc)

-- nothing of another kind is kept, and none is there

pub not_kept : (x : Item) → is_kept x ≡ false → Kept two_functions x → ⊥
not_kept x isn k = let yes : is_kept x ≡ true = kept_is x k in cc

none_carried : {X : Type 0} (K A : ℕ → Type 0) (r : ℕ → ℕ) (S : ℕ → X → X → Type 0) → ((i : ℕ) → K i → ⊥) → Carries K A r S (λ i. None) (λ i. None)
none_carried K A r S none = record { same = λ i k. absurd (none i k); onto = λ j there. absurd (cc) }

no_import : (i : ℕ) → IsImportOf (Kept two_functions) two_functions i → ⊥
no_import i (x, is, k) = cc

pub only_second : (i : ℕ) → Kept two_functions (Functions, i) → i ≡ 1
unfolding is_kept
only_second zero k = absurd (first_is_not k)
only_second (suc zero) k = refl
only_second (suc (suc i)) k = absurd (not_kept (Functions, suc (suc i)) refl k)

functions_apart : KeepsApart (In (Kept two_functions) Functions) (renaming.numbers Functions)
functions_apart i j k l e = only_second i k ∙ sym (only_second j l)

kept_apart : (space : Space) → (space ≡ Types → ⊥) → KeepsApart (In (Kept two_functions) space) (renaming.numbers space)
unfolding is_kept
kept_apart Types h = absurd (h refl)
kept_apart Functions h = functions_apart
kept_apart Tables h = λ i j k l e. absurd (not_kept (Tables, i) refl k)
kept_apart Memories h = λ i j k l e. absurd (not_kept (Memories, i) refl k)
kept_apart Tags h = λ i j k l e. absurd (not_kept (Tags, i) refl k)
kept_apart Globals h = λ i j k l e. absurd (not_kept (Globals, i) refl k)
kept_apart Elements h = λ i j k l e. absurd (not_kept (Elements, i) refl k)
kept_apart DataSegments h = λ i j k l e. absurd (not_kept (DataSegments, i) refl k)

all_carried : Carried (Kept two_functions) Added renaming two_functions one_function
unfolding is_kept renaming new_numbers
all_carried = record {
  types = types_carried;
  imports = none_carried _ _ _ _ no_import;
  functions = functions_carried;
  tables = none_carried _ _ _ _ (λ i. not_kept (Tables, i) refl);
  memories = none_carried _ _ _ _ (λ i. not_kept (Memories, i) refl);
  tags = none_carried _ _ _ _ (λ i. not_kept (Tags, i) refl);
  globals = none_carried _ _ _ _ (λ i. not_kept (Globals, i) refl);
  elements = none_carried _ _ _ _ (λ i. not_kept (Elements, i) refl);
  data_segments = none_carried _ _ _ _ (λ i. not_kept (DataSegments, i) refl);
  imports_apart = λ i j k l e. absurd (no_import i k);
  apart = kept_apart;
  exports = refl;
  start = refl;
}

not_before_itself : ByIndex two_functions Functions 1 1 → ⊥
not_before_itself (inl less) = let l : 1 < 1 = less in omega arith
not_before_itself (inr (same, less)) = let l : 1 < 1 = less in omega arith

kept_rise : (space : Space) → (space ≡ Types → ⊥) → (i j : ℕ) → Kept two_functions (space, i) → Kept two_functions (space, j) → ByIndex two_functions space i j → renaming.numbers space i < renaming.numbers space j
unfolding is_kept
kept_rise Types h i j k l before = absurd (h refl)
kept_rise Functions h i j k l before = absurd (not_before_itself (subst (λ x. ByIndex two_functions Functions x 1) (only_second i k) (subst (λ y. ByIndex two_functions Functions i y) (only_second j l) before)))
kept_rise Tables h i j k l before = absurd (not_kept (Tables, i) refl k)
kept_rise Memories h i j k l before = absurd (not_kept (Memories, i) refl k)
kept_rise Tags h i j k l before = absurd (not_kept (Tags, i) refl k)
kept_rise Globals h i j k l before = absurd (not_kept (Globals, i) refl k)
kept_rise Elements h i j k l before = absurd (not_kept (Elements, i) refl k)
kept_rise DataSegments h i j k l before = absurd (not_kept (DataSegments, i) refl k)

-- the body of each function that is kept is empty
empty_bodies : (i : ℕ) (b : Body) → Kept two_functions (Functions, i) → body_of two_functions i ≡ Some b → b.operators ≡ just_end
empty_bodies i b k is =
    let second : body_of two_functions 1 ≡ Some b = subst (λ f. body_of two_functions f ≡ Some b) (only_second i k) is in
    let same : body_with [] ([], just_end) ≡ b = cc in
    ap (λ b. b.operators) (sym same)

no_undeclared : (f : ℕ) → IsUndeclared (Kept two_functions) two_functions f → ⊥
no_undeclared f u = ⊎_elim
    (λ body. let at = subst (λ ops. Contains ops (ref_func f)) (empty_bodies body.0 body.1 body.2 body.3) body.4 in
    let same : 0x0B ≡ 0xD2 = ap (λ (o : Op). o.op) (only_one (record { op = 0x0B; args = [] }) (ref_func f) at) in omega arith)
    (λ global. let is = global.4 in absurd (cc))
    u.named

nothing_declared : Declares (Kept two_functions) renaming two_functions one_function None
nothing_declared = record {
  functions = [];
  undeclared = record { rising = λ i j d less at. absurd (omega arith); are = λ f. (λ at. absurd (Contains-none f at), λ u. absurd (no_undeclared f u)) };
  declared = refl;
}

no_handlers : (comp : CompType ℕ) → IsHandlerType (Kept two_functions) two_functions comp → ⊥
no_handlers comp (f, b, k, is, at) =
    Contains-none comp (subst (λ ops. Contains (map function_comp (handlers_of two_functions.types (tag_type two_functions) ops)) comp) (empty_bodies f b k is) at)

comes_out : Out plain two_functions one_function
unfolding Added
comes_out = record {
  renaming = renaming;
  segment = None;
  carried = all_carried;
  rises = record { items = kept_rise; imports = λ i j k l less. absurd (no_import i k) };
  declares = nothing_declared;
  handlers = λ comp h. absurd (no_handlers comp h);
  names = record { module_name = refl; items = λ x k kind. refl; locals = λ f b x k is used. refl; only = λ y named. absurd (cc) };
  producers = refl;
  customs = refl;
}

pub kept_and_out : Kept two_functions (Functions, 1) × Kept two_functions (Types, 0) × (Kept two_functions (Functions, 0) → ⊥) × Out plain two_functions one_function
kept_and_out = (inl second_reached, inl type_reached, first_is_not, comes_out)

-- ---- single definitions

-- the members of the pair of structs

pair_first : TypeDef
pair_first = record { group = 0 ∷ 1 ∷ []; sub = empty_struct }

pair_second : TypeDef
pair_second = record { group = 0 ∷ 1 ∷ []; sub = struct_of 0 }

has_shape : HasShape with_handler.types 1 (OfGroup (record { is_final = true; supertypes = []; comp = Func (I32 ∷ []) [] } ∷ []) NoShapes 0)
has_shape = (alone 1 (function_type (I32 ∷ []) []), refl, refl, in_its_group (alone 1 (function_type (I32 ∷ []) [])) ∷ [], refl, refl, refl)

in_group : HasShape structs.types 1 (pair_shape 1)
unfolding pair_first pair_second
in_group = (pair_second, refl, refl, in_its_group pair_first ∷ in_its_group pair_second ∷ [], refl, refl, refl)

outside : HasShape structs.types 2 (OfGroup (struct_of Filled ∷ []) (AndShape (pair_shape 1) NoShapes) 0)
outside = (alone 2 (struct_of 1), refl, refl, in_its_group (alone 2 (struct_of 1)) ∷ [], refl, refl, (1, [], refl, in_group, refl))

not_merged : SameType (λ t. 0) 1 (alone 1 (struct_of 0)) (alone 0 (struct_of 0)) → ⊥
not_merged s = let e : Own 0 ∷ [] ≡ Other 0 ∷ [] = ap sub_names s.sub in absurd (cc)

pub small_ones_lem : SmallOnes
small_ones_lem = record {
  handlers = refl;
  named = refl;
  a_local = refl;
  produced_first = refl;
  debug_name = refl;
  no_debug_name = refl;
  shape = has_shape;
  in_group = in_group;
  outside = outside;
  merged = record { group = refl; position = refl; sub = refl };
  not_merged = not_merged;
}
