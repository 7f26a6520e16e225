-- Operators that stand in front of a body nest with it where they nest by themselves, closed.
use Rattle.std.proofs.Common.{◌≡◌, ℕ, Bool, true, false, List, [], ◌∷◌, ◌++◌, Option, Some, None, cond, refl, sym, subst}
use Rattle.std.proofs.lemmas.Bool.{false≢true as untrue}
use Rattle.std.specs.Prelude.{nat_eq}
use Rattle.wasm_opcodes.specs.declared.one_byte.TheConstants.{IF, ELSE, TRY, CATCH, END, DELEGATE, CATCH_ALL}
use Rattle.walrus_base.specs.Operators.{Arg, Op}
use Rattle.walrus_bodies.specs.Blocks.{are_nested, behind_catch, behind_catch_all, behind_delegate, behind_else, blocks_after, blocks_behind, blocks_meant, labels_below, nests, opens_plain}
use Rattle.walrus_bodies.specs.declared.blocks.Opened.{Opened}
use Rattle.walrus_bodies.specs.declared.blocks.Opened.TheVariants.{Plain, If, Try, Handled}

-- ---- the outermost open block is the function

abbrev pub Bottom : List Opened → Type 0
Bottom [] = Unit {0}
Bottom (b ∷ []) = b ≡ Plain
Bottom (b ∷ c ∷ around) = Bottom (c ∷ around)

abbrev pub InFunction : Option (List Opened) → Type 0
InFunction None = Unit {0}
InFunction (Some blocks) = Bottom blocks

by_test : (P : Option (List Opened) → Type 0) (t : Bool) (a b : Option (List Opened)) → P a → P b → P (cond t a b)
by_test P true a b p q = p
by_test P false a b p q = q

around_is : (b : Opened) (around : List Opened) → Bottom (b ∷ around) → Bottom around
around_is b [] h = tt
around_is b (c ∷ around) h = h

behind_else_is : (blocks : List Opened) → Bottom blocks → InFunction (behind_else blocks)
behind_else_is [] h = tt
behind_else_is (If ∷ []) h = refl
behind_else_is (If ∷ c ∷ around) h = h
behind_else_is (Plain ∷ around) h = tt
behind_else_is (Try ∷ around) h = tt
behind_else_is (Handled ∷ around) h = tt

behind_catch_is : (blocks : List Opened) → Bottom blocks → InFunction (behind_catch blocks)
behind_catch_is [] h = tt
behind_catch_is (Try ∷ around) h = h
behind_catch_is (Plain ∷ around) h = tt
behind_catch_is (If ∷ around) h = tt
behind_catch_is (Handled ∷ around) h = tt

behind_catch_all_is : (blocks : List Opened) → Bottom blocks → InFunction (behind_catch_all blocks)
behind_catch_all_is [] h = tt
behind_catch_all_is (Try ∷ []) h = let no : Try ≡ Plain = h in absurd (cc)
behind_catch_all_is (Try ∷ c ∷ around) h = h
behind_catch_all_is (Plain ∷ around) h = tt
behind_catch_all_is (If ∷ around) h = tt
behind_catch_all_is (Handled ∷ around) h = tt

behind_delegate_is : (blocks : List Opened) → Bottom blocks → InFunction (behind_delegate blocks)
behind_delegate_is [] h = tt
behind_delegate_is (Try ∷ around) h = around_is Try around h
behind_delegate_is (Handled ∷ around) h = around_is Handled around h
behind_delegate_is (Plain ∷ around) h = tt
behind_delegate_is (If ∷ around) h = tt

behind_is : (op : ℕ) (b : Opened) (around : List Opened) → Bottom (b ∷ around) → InFunction (blocks_behind op (b ∷ around))
behind_is op b around h =
    by_test InFunction (opens_plain op) _ _ h
    (by_test InFunction (nat_eq op IF) _ _ h
    (by_test InFunction (nat_eq op TRY) _ _ h
    (by_test InFunction (nat_eq op ELSE) _ _ (behind_else_is (b ∷ around) h)
    (by_test InFunction (nat_eq op CATCH) _ _ (behind_catch_is (b ∷ around) h)
    (by_test InFunction (nat_eq op CATCH_ALL) _ _ (behind_catch_all_is (b ∷ around) h)
    (by_test InFunction (nat_eq op DELEGATE) _ _ (behind_delegate_is (b ∷ around) h)
    (by_test InFunction (nat_eq op END) _ _ (around_is b around h) h)))))))

pub after_is : (op : ℕ) (args : List Arg) (blocks : List Opened) → Bottom blocks → InFunction (blocks_after op args blocks)
after_is op args [] h = tt
after_is op args (b ∷ around) h = by_test InFunction (labels_below (blocks_meant op (b ∷ around)) args) _ _ (behind_is op b around h) tt

-- ---- one operator closes at most one block

abbrev pub StaysOpen : Option (List Opened) → Type 0
StaysOpen None = Unit {0}
StaysOpen (Some []) = ⊥
StaysOpen (Some (b ∷ around)) = Unit {0}

behind_open : (op : ℕ) (b c : Opened) (around : List Opened) → StaysOpen (blocks_behind op (b ∷ c ∷ around))
behind_open op b c around =
    by_test StaysOpen (opens_plain op) _ _ tt
    (by_test StaysOpen (nat_eq op IF) _ _ tt
    (by_test StaysOpen (nat_eq op TRY) _ _ tt
    (by_test StaysOpen (nat_eq op ELSE) _ _ (with_else b)
    (by_test StaysOpen (nat_eq op CATCH) _ _ (with_catch b)
    (by_test StaysOpen (nat_eq op CATCH_ALL) _ _ (with_catch_all b)
    (by_test StaysOpen (nat_eq op DELEGATE) _ _ (with_delegate b)
    (by_test StaysOpen (nat_eq op END) _ _ tt tt)))))))
  where
    with_else : (b : Opened) → StaysOpen (behind_else (b ∷ c ∷ around))
    with_else If = tt
    with_else Plain = tt
    with_else Try = tt
    with_else Handled = tt

    with_catch : (b : Opened) → StaysOpen (behind_catch (b ∷ c ∷ around))
    with_catch If = tt
    with_catch Plain = tt
    with_catch Try = tt
    with_catch Handled = tt

    with_catch_all : (b : Opened) → StaysOpen (behind_catch_all (b ∷ c ∷ around))
    with_catch_all If = tt
    with_catch_all Plain = tt
    with_catch_all Try = tt
    with_catch_all Handled = tt

    with_delegate : (b : Opened) → StaysOpen (behind_delegate (b ∷ c ∷ around))
    with_delegate If = tt
    with_delegate Plain = tt
    with_delegate Try = tt
    with_delegate Handled = tt

pub after_open : (op : ℕ) (args : List Arg) (b c : Opened) (around : List Opened) → StaysOpen (blocks_after op args (b ∷ c ∷ around))
after_open op args b c around = by_test StaysOpen (labels_below (blocks_meant op (b ∷ c ∷ around)) args) _ _ (behind_open op b c around) tt

pub closes_all : (after : Option (List Opened)) → StaysOpen after → nests after [] ≡ true → ⊥
closes_all None stays closed = untrue closed
closes_all (Some []) stays closed = stays
closes_all (Some (b ∷ around)) stays closed = untrue closed

-- ---- where the operators but for the last one lead to, the body begins

alone : (b : Opened) → b ≡ Plain → (own : List Op) → nests (Some (Plain ∷ [])) own ≡ true → nests (Some (b ∷ [])) own ≡ true
alone b is own h = subst (λ (x : Opened). nests (Some (x ∷ [])) own ≡ true) (sym is) h

pub nests_on : (state : Option (List Opened)) (front : List Op) (last : Op) (own : List Op) → InFunction state → nests state (front ++ last ∷ []) ≡ true → nests (Some (Plain ∷ [])) own ≡ true
    → nests state (front ++ own) ≡ true
nests_on None front last own h closed nested = absurd (untrue closed)
nests_on (Some blocks) (o ∷ front) last own h closed nested = nests_on (blocks_after o.op o.args blocks) front last own (after_is o.op o.args blocks h) closed nested
nests_on (Some []) [] last own h closed nested = absurd (untrue closed)
nests_on (Some (b ∷ [])) [] last own h closed nested = alone b h own nested
nests_on (Some (b ∷ c ∷ around)) [] last own h closed nested = absurd (closes_all (blocks_after last.op last.args (b ∷ c ∷ around)) (after_open last.op last.args b c around) closed)

pub front_nests : (front : List Op) (last : Op) (own : List Op) → are_nested (front ++ last ∷ []) ≡ true → are_nested own ≡ true → are_nested (front ++ own) ≡ true
front_nests front last own closed nested = nests_on (Some (Plain ∷ [])) front last own refl closed nested
