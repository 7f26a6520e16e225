-- When two items are one.
use Rattle.std.proofs.Common.{◌≡◌, ℕ, zero, suc, true, false, refl, sym, ap, ap₂, subst, ◌∙◌, eqb-true}
use Rattle.std.proofs.lemmas.Bool.{eqb-false, true_from_ne_false, and_parts as both}
use Rattle.std.specs.Prelude.{nat_eq}
use Rattle.walrus_base.specs.Operators.{Space, Types, Functions, Tables, Memories, Tags, Globals, Elements, DataSegments, Item}
use Rattle.walrus_items.specs.Items.{space_number, is_item}

space_at : ℕ → Space
space_at zero = Types
space_at (suc zero) = Functions
space_at (suc (suc zero)) = Tables
space_at (suc (suc (suc zero))) = Memories
space_at (suc (suc (suc (suc zero)))) = Tags
space_at (suc (suc (suc (suc (suc zero))))) = Globals
space_at (suc (suc (suc (suc (suc (suc zero)))))) = Elements
space_at (suc (suc (suc (suc (suc (suc (suc n))))))) = DataSegments

number_leads_back : (s : Space) → space_at (space_number s) ≡ s
unfolding space_at
number_leads_back Types = refl
number_leads_back Functions = refl
number_leads_back Tables = refl
number_leads_back Memories = refl
number_leads_back Tags = refl
number_leads_back Globals = refl
number_leads_back Elements = refl
number_leads_back DataSegments = refl

nat_same : (n : ℕ) → nat_eq n n ≡ true
nat_same n = true_from_ne_false (nat_eq n n) (λ differs. eqb-false n n differs refl)

-- items that are told to be one are
pub is_item-same : (x y : Item) → is_item x y ≡ true → x ≡ y
is_item-same x y h =
    let parts = both (nat_eq (space_number x.0) (space_number y.0)) (nat_eq x.1 y.1) h in
    let space : x.0 ≡ y.0 = sym (number_leads_back x.0) ∙ ap space_at (eqb-true (space_number x.0) (space_number y.0) parts.0) ∙ number_leads_back y.0 in
    ap₂ (λ (s : Space) (n : ℕ). (s, n)) space (eqb-true x.1 y.1 parts.1)

pub is_item-refl : (x : Item) → is_item x x ≡ true
is_item-refl x = rw (nat_same (space_number x.0)) (nat_same x.1)

-- one item is told to be one
pub same-is_item : (x y : Item) → x ≡ y → is_item x y ≡ true
same-is_item x y h = subst (λ (z : Item). is_item x z ≡ true) h (is_item-refl x)
