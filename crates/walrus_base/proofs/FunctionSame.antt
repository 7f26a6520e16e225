-- When two types of functions are the same.
use Rattle.std.proofs.Common.{◌≡◌, ◌==◌, ◌≤◌, ℕ, Bool, true, List, [], ◌∷◌, ◌++◌, map, take, drop, length, Decides, ◌&&◌, refl, ap, sym, ◌∙◌, arith, eqb-true, eq-eqb, Ordering, Less, Equal, Greater}
use Rattle.std.proofs.lemmas.List.{take-map, drop-map, take-append-drop, map-append, length-map, length-take-le}
use Rattle.std.specs.Ordering.{is_eq}
use Rattle.std.specs.Cmp.{IsTotalOrder}
use Rattle.std.specs.Cmp.Lexicographic.{pointwise}
use Rattle.std.proofs.lemmas.Bool.Decides.{Decides-and, Decides-like}
use Rattle.walrus_base.specs.Types.{ValType}
use Rattle.std.proofs.lemmas.Grind.{common_steps}
use Rattle.walrus_base.specs.Value.{val_type}
use Rattle.walrus_base.specs.declared.value.ValType.{ValType as DeclaredValType}
use Rattle.walrus_base.specs.declared.composite.FunctionType.{FunctionType as DeclaredFunctionType}
use Rattle.walrus_base.specs.Composite.{FunctionType, function_type}
use Rattle.walrus_base.specs.contracts.value.ValTypePartialEq.TheImpl as val_equality
use Rattle.walrus_base.specs.contracts.composite.FunctionTypeOrd.TheImpl as order
use Rattle.walrus_base.specs.contracts.composite.FunctionTypeOrd.TheImpl.Laws as order_laws
use Rattle.walrus_base.specs.contracts.composite.FunctionTypePartialEq.TheImpl as equality

cons_same : {B : Type 0} (x y : B) (xs ys : List B) → x ≡ y → xs ≡ ys → x ∷ xs ≡ y ∷ ys
cons_same x y xs ys p q = cc

pub cons_head : {B : Type 0} (x y : B) (xs ys : List B) → x ∷ xs ≡ y ∷ ys → x ≡ y
cons_head x y xs ys p = cc

pub cons_tail : {B : Type 0} (x y : B) (xs ys : List B) → x ∷ xs ≡ y ∷ ys → xs ≡ ys
cons_tail x y xs ys p = cc

-- two value types are equal to the program where they are the same
pub val_same : (a b : DeclaredValType) → Decides ((val_equality.ghosts).eq a b) (val_type a ≡ val_type b)
val_same a b = grind (arith, common_steps)

-- the same for lists of values that are seen through v
pub pointwise_same : {A B : Type 0} (E : A → A → Bool) (v : A → B) → ((a b : A) → Decides (E a b) (v a ≡ v b)) → (xs ys : List A) → Decides (pointwise E xs ys) (map v xs ≡ map v ys)
pointwise_same E v each [] [] = (λ _. refl, λ _. refl)
pointwise_same E v each [] (y ∷ ys) = (λ h. absurd cc, λ h. absurd cc)
pointwise_same E v each (x ∷ xs) [] = (λ h. absurd cc, λ h. absurd cc)
pointwise_same {A} {B} E v each (x ∷ xs) (y ∷ ys) =
    let head : Decides (E x y) (v x ≡ v y) = each x y in
    let tail : Decides (pointwise E xs ys) (map v xs ≡ map v ys) = pointwise_same E v each xs ys in
    let both : Decides (E x y && pointwise E xs ys) ((v x ≡ v y) × (map v xs ≡ map v ys)) = Decides-and _ _ head tail in
    Decides-like _ (λ h. cons_same _ _ _ _ h.0 h.1) (λ h. (cons_head _ _ _ _ h, cons_tail _ _ _ _ h)) both

abbrev function_with : List (ValType ℕ) → List (ValType ℕ) → FunctionType
function_with a b = record { params = a; results = b }

both_lists : (a b c d : List (ValType ℕ)) → a ≡ c → b ≡ d → function_with a b ≡ function_with c d
both_lists a b c d p q = cc

-- parts of the same lengths of what is the same are the same
parts_same : {A B : Type 0} (v : A → B) (n m : ℕ) (xs ys : List A) → n ≡ m → map v xs ≡ map v ys → (map v (take n xs) ≡ map v (take m ys)) × (map v (drop n xs) ≡ map v (drop m ys))
parts_same v n m xs ys count all = (
  sym (take-map v n xs) ∙ ap (λ l. take n l) all ∙ ap (λ k. take k (map v ys)) count ∙ take-map v m ys,
  sym (drop-map v n xs) ∙ ap (λ l. drop n l) all ∙ ap (λ k. drop k (map v ys)) count ∙ drop-map v m ys,
)

-- the first part has its length
part_length : {A B : Type 0} (v : A → B) (n : ℕ) (xs : List A) → n ≤ length xs → length (map v (take n xs)) ≡ n
part_length v n xs within = length-map (take n xs) v ∙ length-take-le n xs within

-- both parts are all
both_parts : {A B : Type 0} (v : A → B) (n : ℕ) (xs : List A) → map v xs ≡ map v (take n xs) ++ map v (drop n xs)
both_parts v n xs = ap (λ l. map v l) (sym (take-append-drop n xs)) ∙ map-append v (take n xs) (drop n xs)

-- what has the same parts is the same
same_whole : {A B : Type 0} (v : A → B) (n m : ℕ) (xs ys : List A) → n ≤ length xs → m ≤ length ys → map v (take n xs) ≡ map v (take m ys) → map v (drop n xs) ≡ map v (drop m ys) → (n ≡ m) × (map v xs ≡ map v ys)
same_whole v n m xs ys within inside first rest = (
  sym (part_length v n xs within) ∙ ap (λ l. length l) first ∙ part_length v m ys inside,
  both_parts v n xs ∙ ap (λ l. l ++ map v (drop n xs)) first ∙ ap (λ l. map v (take m ys) ++ l) rest ∙ sym (both_parts v m ys),
)

pub function_same : (f g : DeclaredFunctionType) → Decides ((equality.ghosts).eq f g) (function_type f ≡ function_type g)
function_same f g =
    let counts : Decides (f.param_count == g.param_count) (f.param_count ≡ g.param_count) = (eqb-true f.param_count g.param_count, eq-eqb f.param_count g.param_count) in
    let values = pointwise_same _ val_type val_same f.values.items g.values.items in
    Decides-like _
    (λ h. let parts = parts_same val_type f.param_count g.param_count f.values.items g.values.items h.0 h.1 in both_lists _ _ _ _ parts.0 parts.1)
    (λ h. same_whole val_type f.param_count g.param_count f.values.items g.values.items f.within g.within (ap (λ t. t.params) h) (ap (λ t. t.results) h))
    (Decides-and _ _ counts values)

pub is_equal : (o : Ordering) → is_eq o ≡ true → o ≡ Equal
is_equal Less h = absurd cc
is_equal Equal h = refl
is_equal Greater h = absurd cc

-- types that are the same are equal in their order
pub function_equal : (f g : DeclaredFunctionType) → function_type f ≡ function_type g → (order.ghosts).cmp f g ≡ Equal
function_equal f g same = is_equal _ (sym (order_laws.matches_eq-law f g) ∙ (function_same f g).1 same)

-- and only these
pub equal_function : (f g : DeclaredFunctionType) → (order.ghosts).cmp f g ≡ Equal → function_type f ≡ function_type g
equal_function f g same = (function_same f g).0 (order_laws.matches_eq-law f g ∙ ap is_eq same)

pub order_total : IsTotalOrder (order.ghosts).cmp
order_total = order_laws.total-law
