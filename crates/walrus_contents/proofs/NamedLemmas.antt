-- How what the parts of an item name comes together.
use Rattle.std.proofs.Common.{inl, inr, ◌≡◌, ◌⊎◌, ℕ, zero, suc, ◌+◌, ◌<◌, ⊎_elim, List, [], ◌∷◌, ◌++◌, Option, Some, length, map, take, drop, get_or, ap, sym, ◌∙◌, subst, refl, arith, add-one, append_assoc, drop-cons}
use Rattle.std.specs.Prelude.{◌↔◌, Contains, IsSome, option_map, flat_map, Result, Ok, Err, MatchResult}
use Rattle.std.proofs.lemmas.List.{map-append, map_more}
use Rattle.std.proofs.lemmas.List.Elements.{Contains-append_cases, Contains-append_left, Contains-append_right, Contains-push_cases}
use Rattle.std.specs.Global.{Vec}
use Rattle.walrus_base.specs.Arena.{item_at}
use Rattle.walrus_base.specs.declared.locals.ModuleLocals.{ModuleLocals}
use Rattle.walrus_base.specs.Operators.{Functions, Item, locals_of, names_of, type_item}
use Rattle.walrus_items.specs.Function.{body_of}
use Rattle.walrus_items.specs.LocalFunction.{LocalFunction}
use Rattle.walrus_code.specs.Code.{item_of}
use Rattle.walrus_code.specs.declared.items.ItemId.{ItemId}
use Rattle.walrus_items.specs.Functions.{FunctionValue, functions}
use Rattle.walrus_items.specs.declared.function_kind.FunctionKind.{FunctionKind}
use Rattle.walrus_items.specs.declared.function_kind.FunctionKind.TheVariants.{Import, Local, Uninitialized}
use Rattle.walrus_model.specs.Abstract as abstract
use Rattle.walrus_model.specs.Refers.{IsUsed, body_names, function_names, kind_names, named_by, written_in}
use Rattle.walrus_contents.specs.View.{body, contents_view, function, kind_of}
use Rattle.walrus_contents.specs.declared.parts.Contents.{Contents}
use Rattle.walrus_items.specs.declared.error.Error.{Error}
use Rattle.walrus_items.specs.declared.error.Error.TheVariants.{Memory, DeadItem}
use Rattle.walrus_base.proofs.Lists.{Contains-head, Contains-tail}
use Rattle.walrus_contents.specs.Named.{AreThere, IsReady, IsUnready, OneIsMissing, Puts, PutsAll, PutsTypes, items_in, local_type_names}
use Rattle.walrus_contents.specs.There.{IsRefusal, IsSound, IsUnsound, NoBody, NoLocal}
use Rattle.walrus_model.proofs.KeptFollow.{not_none as some_none}

-- a refusal for one reason is one for each reason that follows from it
pub refusal_map : (P Q : Type 0) → (P → Q) → (e : Error) → IsRefusal P e → IsRefusal Q e
refusal_map P Q f (Memory m) h = h
refusal_map P Q f DeadItem h = f h
refusal_map P Q f e h = absurd h

-- what isn't sound can't be
pub unsound_not : (v : abstract.Abstract) (x : Item) → IsUnsound v x → IsSound v x → ⊥
unsound_not v x (NoBody i f same at e) s = s.initialised i f same at e
unsound_not v x (NoLocal i f b l same at e used none) s = let there : IsSome (b.local_type l) = s.locals i f b l same at e used in absurd (some_none (b.local_type l) there none)

-- ---- rows

module _ {X Z : Type 0} (value : X → Z) where
  -- what stands at a place is among the whole
  pub among : (xs : List X) (i : ℕ) (d : X) → i < length xs → Contains (map value xs) (value (get_or xs i d))
  among [] i d lt = absurd (omega arith)
  among (x ∷ xs) zero d lt = Contains-head (value x) (map value xs)
  among (x ∷ xs) (suc i) d lt = Contains-tail (value x) (value (get_or xs i d)) (map value xs) (among xs i d (omega arith))

  -- what holds of those before, and of the next one, holds of all up to it
  pub row_more : (P : Z → Type 0) (xs : List X) (i : ℕ) (d : X) → i < length xs → ((z : Z) → Contains (map value (take i xs)) z → P z) → P (value (get_or xs i d)) → (z : Z) → Contains (map value (take (i + 1) xs)) z → P z
  row_more P xs i d lt before now z c =
      let next = value (get_or xs i d) in
      let at : Contains (map value (take i xs) ++ next ∷ []) z = subst (λ (zs : List Z). Contains zs z) (map_more value xs i d lt) c in
      ⊎_elim (λ h. before z h) (λ (e : next ≡ z). subst P e now) (Contains-push_cases (map value (take i xs)) next z at)

  -- a step where each puts one
  pub map_step : {W Y : Type 0} (f : W → Y) (g : Z → Y) (put : List W) (one : W) (xs : List X) (i : ℕ) (d : X) (all : List Y) → i < length xs
      → map f put ++ map g (map value (drop i xs)) ≡ all → f one ≡ g (value (get_or xs i d))
      → map f (put ++ one ∷ []) ++ map g (map value (drop (i + 1) xs)) ≡ all
  map_step {Y = Y} f g put one xs i d all lt so_far same =
      let x = get_or xs i d in
      let rest = map g (map value (drop (i + 1) xs)) in
      let whole : drop i xs ≡ x ∷ drop (i + 1) xs = rw add-one (drop-cons xs i d lt) in
      ap (λ (t : List Y). t ++ rest) (map-append f put (one ∷ [])) ∙ append_assoc (map f put) (f one ∷ []) rest
      ∙ ap (λ (y : Y). map f put ++ y ∷ rest) same
      ∙ ap (λ (t : List X). map f put ++ map g (map value t)) (sym whole) ∙ so_far

-- two rows, one behind another
pub two_rows : {Y : Type 0} (old n1 n2 a b : List Y) → n1 ≡ old ++ a → n2 ≡ n1 ++ b → n2 ≡ old ++ (a ++ b)
two_rows {Y = Y} old n1 n2 a b e1 e2 = e2 ∙ ap (λ (t : List Y). t ++ b) e1 ∙ append_assoc old a b

-- ---- items in any order

-- those of a list, in order
puts_list : (old new : Vec ItemId) (xs : List Item) → Puts old new xs → PutsAll old new (Contains xs)
puts_list old new xs puts = record { added = xs; behind = puts; are = λ y. ((λ at. at), (λ at. at)) }

-- those of one kind, and behind them those of another
pub puts_both : (P Q : Item → Type 0) (old now new : Vec ItemId) → PutsAll old now P → PutsAll now new Q → PutsAll old new (λ y. P y ⊎ Q y)
puts_both P Q old now new first second = record {
  added = first.added ++ second.added;
  behind = two_rows (items_in old) (items_in now) (items_in new) first.added second.added first.behind second.behind;
  are = λ y. (
    (λ at. ⊎_elim (λ h. inl ((first.are y).0 h)) (λ h. inr ((second.are y).0 h)) (Contains-append_cases first.added second.added y at)),
    (λ is. ⊎_elim (λ p. Contains-append_left first.added second.added y ((first.are y).1 p)) (λ q. Contains-append_right first.added second.added y ((second.are y).1 q)) is),
  );
}

-- those of two lists
puts_lists : (xs ys : List Item) (old now new : Vec ItemId) → PutsAll old now (Contains xs) → PutsAll now new (Contains ys) → PutsAll old new (Contains (xs ++ ys))
puts_lists xs ys old now new first second =
    let put = puts_both (Contains xs) (Contains ys) old now new first second in
    record {
      added = put.added;
      behind = put.behind;
      are = λ y. (
        (λ at. ⊎_elim (λ h. Contains-append_left xs ys y h) (λ h. Contains-append_right xs ys y h) ((put.are y).0 at)),
        (λ at. (put.are y).1 (Contains-append_cases xs ys y at)),
      );
    }

-- what was put where nothing stood is all that stands there
pub all_put : (P : Item → Type 0) (old new : Vec ItemId) → old.items ≡ [] → PutsAll old new P → (y : Item) → Contains (items_in new) y ↔ P y
all_put P old new none put y =
    subst (λ (xs : List Item). Contains xs y ↔ P y) (sym (put.behind ∙ ap (λ (ids : List ItemId). map item_of ids ++ put.added) none)) (put.are y)

-- ---- functions

pub same_some : {X : Type 0} (o : Option X) (x y : X) → o ≡ Some x → o ≡ Some y → x ≡ y
same_some {X = X} o x y p q = let e : ◌≡◌ {A = Option X} (Some x) (Some y) = sym p ∙ q in cc

pub result_map : {T : Type 0} (A B P Q : Type 0) → (A → B) → (P → Q) → (r : Result T Error) → MatchResult r (λ _. A) (IsRefusal P) → MatchResult r (λ _. B) (IsRefusal Q)
result_map A B P Q f g (Ok x) h = f h
result_map A B P Q f g (Err e) h = refusal_map P Q g e h

-- what a body names: what its operators do, and the types of its locals
pub body_named : {T : Type 0} (all : ModuleLocals) (f : LocalFunction) (r : Result T Error) (old now new : Vec ItemId) → PutsAll old now (Contains (names_of (body_of f)))
    → MatchResult r (λ _. PutsTypes all (locals_of (body_of f)) now new) (IsRefusal (OneIsMissing all (locals_of (body_of f))))
    → MatchResult r (λ _. AreThere all (locals_of (body_of f)) × PutsAll old new (Contains (body_names (body all f)))) (IsRefusal (OneIsMissing all (locals_of (body_of f))))
body_named all f r old now new first h =
    let used = locals_of (body_of f) in
    let types = flat_map (local_type_names all) used in
    result_map (PutsTypes all used now new) (AreThere all used × PutsAll old new (Contains (body_names (body all f)))) (OneIsMissing all used) (OneIsMissing all used)
    (λ x. (x.0, puts_lists (names_of (body_of f)) types old now new first (puts_list now new types x.1)))
    (λ missing. missing) r h

-- what a function names: its type, and what its body does
pub type_and_body : {T : Type 0} (all : ModuleLocals) (f : FunctionValue) (r : Result T Error) (old now new : Vec ItemId)
    → (id : ItemId) → item_of id ≡ type_item (function all f).ty → now.items ≡ old.items ++ id ∷ []
    → MatchResult r (λ _. IsReady all f.kind × PutsAll now new (Contains (kind_names (kind_of all f.kind)))) (IsRefusal (IsUnready all f.kind))
    → MatchResult r (λ _. IsReady all f.kind × PutsAll old new (Contains (function_names (function all f)))) (IsRefusal (IsUnready all f.kind))
type_and_body all f r old now new id is pushed h =
    let ty = type_item (function all f).ty ∷ [] in
    let names = kind_names (kind_of all f.kind) in
    let first : Puts old now ty = ap (λ (ids : List ItemId). map item_of ids) pushed ∙ map-append item_of old.items (id ∷ []) ∙ ap (λ (y : Item). items_in old ++ y ∷ []) is in
    result_map (IsReady all f.kind × PutsAll now new (Contains names)) (IsReady all f.kind × PutsAll old new (Contains (function_names (function all f))))
    (IsUnready all f.kind) (IsUnready all f.kind)
    (λ x. (x.0, puts_lists ty names old now new (puts_list old now ty first) x.1))
    (λ unready. unready) r h

module _ (c : Contents) where
  abbrev v : abstract.Abstract
  v = contents_view c

  ready_kind : (k : FunctionKind) → IsReady c.locals k → kind_of c.locals k ≡ abstract.Uninitialised → ⊥
  ready_kind (Import i) h e = absurd (cc)
  ready_kind (Local f) h e = absurd (cc)
  ready_kind (Uninitialized ty) h e = absurd h

  ready_locals : (k : FunctionKind) → IsReady c.locals k → (b : abstract.Body) → kind_of c.locals k ≡ abstract.LocalFunction b → (l : ℕ) → IsUsed b l → IsSome (b.local_type l)
  ready_locals (Import i) h b e l u = absurd (cc)
  ready_locals (Local f) h b e l u =
      let same : body c.locals f ≡ b = cc in
      subst (λ (x : abstract.Body). IsUsed x l → IsSome (x.local_type l)) same (h l) u
  ready_locals (Uninitialized ty) h b e l u = absurd h

  module _ (i : ℕ) (f : FunctionValue) (is : item_at (functions c.funcs) i ≡ Some f) where
    seen_at : (j : ℕ) (g : abstract.Function) → ◌≡◌ {A = Item} (Functions, i) (Functions, j) → v.functions j ≡ Some g → function c.locals f ≡ g
    seen_at j g same at =
        let number : i ≡ j = ap (λ (x : Item). x.1) same in
        same_some (v.functions j) (function c.locals f) g (ap (option_map (function c.locals)) (subst (λ (n : ℕ). item_at (functions c.funcs) n ≡ Some f) number is)) at

    sound_ready : IsReady c.locals f.kind → IsSound v (Functions, i)
    sound_ready h = record {
      live = subst (λ (o : Option FunctionValue). IsSome (option_map (function c.locals) o)) (sym is) refl;
      initialised = λ j g same at e. ready_kind f.kind h (ap (λ (x : abstract.Function). x.kind) (seen_at j g same at) ∙ e);
      locals = λ j g b l same at e u. ready_locals f.kind h b (ap (λ (x : abstract.Function). x.kind) (seen_at j g same at) ∙ e) l u;
    }

    unready_unsound : (k : FunctionKind) → f.kind ≡ k → IsUnready c.locals k → IsUnsound v (Functions, i)
    unready_unsound (Import n) e u = absurd u
    unready_unsound (Local n) e u = NoLocal i (function c.locals f) (body c.locals n) u.0 refl (ap (option_map (function c.locals)) is) (ap (kind_of c.locals) e) u.1.0 u.1.1
    unready_unsound (Uninitialized ty) e u = NoBody i (function c.locals f) refl (ap (option_map (function c.locals)) is) (ap (kind_of c.locals) e)

    -- what stands written in a function, in the words of the abstract module
    pub function_named : {T : Type 0} (r : Result T Error) (old new : Vec ItemId)
        → MatchResult r (λ _. IsReady c.locals f.kind × PutsAll old new (Contains (function_names (function c.locals f)))) (IsRefusal (IsUnready c.locals f.kind))
        → MatchResult r (λ _. IsSound v (Functions, i) × PutsAll old new (Contains (written_in v (Functions, i)))) (IsRefusal (IsUnsound v (Functions, i)))
    function_named r old new h = result_map
        (IsReady c.locals f.kind × PutsAll old new (Contains (function_names (function c.locals f))))
        (IsSound v (Functions, i) × PutsAll old new (Contains (written_in v (Functions, i))))
        (IsUnready c.locals f.kind) (IsUnsound v (Functions, i))
        (λ x. (sound_ready x.0, subst (λ (o : Option FunctionValue). PutsAll old new (Contains (named_by function_names (option_map (function c.locals) o)))) (sym is) x.1))
        (unready_unsound f.kind refl)
        r h
