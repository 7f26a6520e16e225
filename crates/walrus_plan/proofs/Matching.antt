-- Items and imports that name each other, index space by index space.
use Rattle.std.proofs.Common.{◌≡◌, ℕ, List, [], ◌∷◌, Some, None, refl, sym, ap, ◌∙◌, subst}
use Rattle.std.specs.Prelude.{Option, IsSome, option_map}
use Rattle.walrus_base.specs.Arena.{item_at}
use Rattle.walrus_base.specs.Operators.{Space, Types, Functions, Tables, Memories, Tags, Globals, Elements, DataSegments, Item}
use Rattle.walrus_base.specs.declared.locals.ModuleLocals.{ModuleLocals}
use Rattle.walrus_items.specs.Functions.{FunctionValue}
use Rattle.walrus_items.specs.Kinds.{imported}
use Rattle.walrus_items.specs.Imports.{ImportValue}
use Rattle.walrus_items.specs.declared.function_kind.FunctionKind.{FunctionKind}
use Rattle.walrus_items.specs.declared.function_kind.FunctionKind.TheVariants as kind
use Rattle.walrus_items.specs.Globals.{GlobalValue}
use Rattle.walrus_items.specs.Memories.{MemoryValue}
use Rattle.walrus_items.specs.Tables.{TableValue}
use Rattle.walrus_items.specs.Tags.{TagValue}
use Rattle.walrus_model.specs.Abstract.{Abstract, Import}
use Rattle.walrus_model.specs.WellMade.{ImportsMatch, import_in, import_of, kind_import, origin_import}
use Rattle.walrus_base.proofs.Standing.{some_inj}
use Rattle.walrus_theorem.specs.Refused.{LacksIndex, NotBrought}
use Rattle.walrus_contents.specs.View as seen
use Rattle.walrus_model.proofs.Walked.{Walked, next_there, walk_goes, walk_ends}
use Rattle.walrus_plan.specs.Matched.{AreAnswered, AreImportsAnswered, AreItemsAnswered, IsAnswered, IsNamedBy, IsUnanswered}
use Rattle.walrus_plan.specs.Origins.{function_import}

seen_at : {A B : Type 0} (f : A → B) (o : Option A) (x : B) → option_map f o ≡ Some x → IsSome o
seen_at f (Some e) x at = refl
seen_at f None x at = absurd (cc)

-- ---- one import

module _ (v : Abstract) (o : Option ImportValue) (i : ℕ) (at : v.imports i ≡ option_map seen.import_of o) (x : Item) where
  pub named_by : (e : ImportValue) → o ≡ Some e → imported e.kind ≡ x → IsNamedBy v x i
  named_by e is same = (seen.import_of e, at ∙ ap (option_map seen.import_of) is, same)

  pub other_named : (e : ImportValue) → o ≡ Some e → (imported e.kind ≡ x → ⊥) → IsNamedBy v x i → ⊥
  other_named e is differ named = differ (ap (λ (y : Import). y.item) (some_inj (seen.import_of e) named.0 (sym (at ∙ ap (option_map seen.import_of) is) ∙ named.1)) ∙ named.2)

  pub none_named : (IsSome o → ⊥) → IsNamedBy v x i → ⊥
  none_named none named = none (seen_at seen.import_of o named.0 (sym at ∙ named.1))

-- ---- what an item says

pub origin_back : (o : Option ℕ) → origin_import (seen.origin_of o) ≡ o
origin_back None = refl
origin_back (Some i) = refl

kind_back : (all : ModuleLocals) (k : FunctionKind) → kind_import (seen.kind_of all k) ≡ function_import k
kind_back all (kind.Import i) = refl
kind_back all (kind.Local f) = refl
kind_back all (kind.Uninitialized ty) = refl

pub function_says : (all : ModuleLocals) (f : FunctionValue) → kind_import (seen.function all f).kind ≡ function_import f.kind
function_says all f = kind_back all f.kind

pub table_says : (t : TableValue) → origin_import (seen.table_of t).origin ≡ t.imported_by
table_says t = origin_back t.imported_by

pub memory_says : (t : MemoryValue) → origin_import (seen.memory_of t).origin ≡ t.imported_by
memory_says t = origin_back t.imported_by

pub tag_says : (t : TagValue) → origin_import (seen.tag_of t).origin ≡ t.imported_by
tag_says t = origin_back t.imported_by

pub global_says : (t : GlobalValue) → origin_import (seen.global_of t).origin ≡ t.imported_by
global_says t = origin_back t.imported_by

-- ---- a walk over the items of an index space

abbrev pub AnsweredAt : Abstract → Space → ℕ → Type 0
AnsweredAt v space i = IsAnswered v (import_of v (space, i)) (space, i)

has_item : {A B : Type 0} (f : A → B) (get : B → Option ℕ) (o : Option A) (j : ℕ) → import_in get (option_map f o) ≡ Some j → IsSome o
has_item f get (Some x) j is = refl
has_item f get None j is = absurd (cc)

module _ {A B : Type 0} (f : A → B) (get : B → Option ℕ) (v : Abstract) (space : Space) (slots : List (Option A)) (same : (i : ℕ) → import_of v (space, i) ≡ import_in get (option_map f (item_at slots i))) where
  module _ (left after : List (ℕ × A)) (e : ℕ × A) (steps : left ≡ e ∷ after) (w : Walked (AnsweredAt v space) slots left) (o : Option ℕ) (says : get (f e.1) ≡ o) where
    says_here : import_of v (space, e.0) ≡ o
    says_here = same e.0 ∙ ap (λ (x : Option A). import_in get (option_map f x)) (next_there (AnsweredAt v space) slots left after e steps w) ∙ says

    pub answers_go : IsAnswered v o (space, e.0) → Walked (AnsweredAt v space) slots after
    answers_go answered = walk_goes (AnsweredAt v space) slots left after e steps (subst (λ (x : Option ℕ). IsAnswered v x (space, e.0)) (sym says_here) answered) w

    pub lacks_here : IsUnanswered v o (space, e.0) → LacksIndex v
    lacks_here un = NotBrought (space, e.0) un.0 (says_here ∙ un.1.0) (λ y at same. un.1.1 (y, at, same))

  pub all_answered : (left : List (ℕ × A)) → left ≡ [] → Walked (AnsweredAt v space) slots left → AreAnswered v space
  all_answered left none w i j says = walk_ends (AnsweredAt v space) slots left none w i (has_item f get (item_at slots i) j (sym (same i) ∙ says)) j says

-- ---- a walk over all imports

abbrev pub MatchedAt : Abstract → List (Option ImportValue) → ℕ → Type 0
MatchedAt v slots i = (x : Import) → option_map seen.import_of (item_at slots i) ≡ Some x → import_of v x.item ≡ Some i

module _ (v : Abstract) (slots : List (Option ImportValue)) (same : (i : ℕ) → v.imports i ≡ option_map seen.import_of (item_at slots i)) where
  module _ (left after : List (ℕ × ImportValue)) (e : ℕ × ImportValue) (steps : left ≡ e ∷ after) (w : Walked (MatchedAt v slots) slots left) where
    here : option_map seen.import_of (item_at slots e.0) ≡ Some (seen.import_of e.1)
    here = ap (option_map seen.import_of) (next_there (MatchedAt v slots) slots left after e steps w)

    pub import_there : v.imports e.0 ≡ Some (seen.import_of e.1)
    import_there = same e.0 ∙ here

    pub imports_go : import_of v (imported e.1.kind) ≡ Some e.0 → Walked (MatchedAt v slots) slots after
    imports_go is = walk_goes (MatchedAt v slots) slots left after e steps
        (λ x at. subst (λ (y : Import). import_of v y.item ≡ Some e.0) (some_inj (seen.import_of e.1) x (sym here ∙ at)) is)
        w

  pub imports_all : (left : List (ℕ × ImportValue)) → left ≡ [] → Walked (MatchedAt v slots) slots left → AreImportsAnswered v
  imports_all left none w i x at =
      let at_here : option_map seen.import_of (item_at slots i) ≡ Some x = sym (same i) ∙ at in
      walk_ends (MatchedAt v slots) slots left none w i (seen_at seen.import_of (item_at slots i) x at_here) x at_here

-- ---- both ways

item_answered : (v : Abstract) → AreItemsAnswered v → (x : Item) (i : ℕ) → import_of v x ≡ Some i → IsNamedBy v x i
item_answered v all (Functions, n) i is = all.functions n i is
item_answered v all (Tables, n) i is = all.tables n i is
item_answered v all (Memories, n) i is = all.memories n i is
item_answered v all (Tags, n) i is = all.tags n i is
item_answered v all (Globals, n) i is = all.globals n i is
item_answered v all (Types, n) i is = absurd (cc)
item_answered v all (Elements, n) i is = absurd (cc)
item_answered v all (DataSegments, n) i is = absurd (cc)

pub match_both : (v : Abstract) → AreImportsAnswered v → AreItemsAnswered v → ImportsMatch v
match_both v imports items = record { items = item_answered v items; imports = imports }
