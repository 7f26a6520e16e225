-- What is told of items: exports by what they export, and lists of links.
use Rattle.std.proofs.Common.{◌≡◌, ℕ, ◌+◌, Bool, true, false, cond, List, [], ◌∷◌, ◌++◌, map, filter, Option, Some, refl, sym, ap, ap₂, ◌∙◌, eqb-true}
use Rattle.std.specs.Prelude.{if◌then◌else◌, nat_eq}
use Rattle.std.specs.Borrow.{Bor}
use Rattle.std.specs.Global.{Vec}
use Rattle.std.specs.HashMap.{HashMap, get}
use Rattle.std.proofs.lemmas.Bool.{and_parts as both}
use Rattle.std.proofs.lemmas.List.{append-nil, map-append}
use Rattle.std.proofs.lemmas.List.Elements.{filter-append}
use Rattle.walrus.specs.Base.Operators.{Item}
use Rattle.walrus.specs.Model.Abstract.{Export, Name}
use Rattle.walrus.specs.Contents.View.{export_of}
use Rattle.walrus.specs.Items.Exports.{ExportValue}
use Rattle.walrus.specs.Items.Items.{is_item}
use Rattle.walrus.specs.Items.Kinds.{exported}
use Rattle.walrus_tools.specs.LinkSteps.{GroupsExports, key_of, names_at, names_of, same_key, texts, texts_of}
use Rattle.walrus_tools.specs.Links.{LinkTold}
use Rattle.walrus_tools.specs.declared.export_groups.ExportGroups.{ExportGroups}

-- ---- one name more

abbrev Texts : Type 0
Texts = Vec (Bor (List ℕ))

abbrev pub name_if : Bool → List ℕ → List (List ℕ)
name_if b name = if b then name ∷ [] else []

one_more : (b : Bool) (old_q old_k new_q : Option Texts) (v : Texts) (name : List ℕ) → new_q ≡ cond b (Some v) old_q → (b ≡ true → old_q ≡ old_k) → texts v.items ≡ texts_of old_k ++ name ∷ []
    → texts_of new_q ≡ texts_of old_q ++ name_if b name
one_more true old_q old_k new_q v name is same adds = ap texts_of is ∙ adds ∙ ap (λ (o : Option Texts). texts_of o ++ name ∷ []) (sym (same refl))
one_more false old_q old_k new_q v name is same adds = ap texts_of is ∙ sym (append-nil (texts_of old_q))

-- one key
one_key : (k q : ℕ × ℕ) → same_key k q ≡ true → k ≡ q
one_key k q h =
    let parts = both (nat_eq k.0 q.0) (nat_eq k.1 q.1) h in
    ap₂ (λ (a b : ℕ). (a, b)) (eqb-true k.0 q.0 parts.0) (eqb-true k.1 q.1 parts.1)

module _ {S : Type 0} (m n : HashMap (ℕ × ℕ) Texts S) (k : ℕ × ℕ) (v : Texts) (name : List ℕ) (adds : texts v.items ≡ texts_of (get same_key m k) ++ name ∷ []) where
  -- a list under a key has a name more
  pub name_added : ((q : ℕ × ℕ) → get same_key n q ≡ cond (same_key k q) (Some v) (get same_key m q)) → (q : ℕ × ℕ) → texts_of (get same_key n q) ≡ texts_of (get same_key m q) ++ name_if (same_key k q) name
  name_added updates q =
      one_more (same_key k q) (get same_key m q) (get same_key m k) (get same_key n q) v name (updates q) (λ t. ap (λ (p : ℕ × ℕ). get same_key m p) (sym (one_key k q t))) adds

-- ---- exports by what they export

-- the names of one export more
names_more : (all : List ExportValue) (e : ExportValue) (x : Item) → names_of (all ++ e ∷ []) x ≡ names_of all x ++ name_if (is_item (exported e.item) x) e.name
names_more all e x =
    ap (map (λ (d : ExportValue). d.name)) (filter-append (λ (d : ExportValue). is_item (exported d.item) x) all (e ∷ []))
    ∙ map-append (λ (d : ExportValue). d.name) (filter (λ (d : ExportValue). is_item (exported d.item) x) all) (filter (λ (d : ExportValue). is_item (exported d.item) x) (e ∷ []))
    ∙ ap (λ (ns : List (List ℕ)). names_of all x ++ ns) (last (is_item (exported e.item) x) refl)
  where
    last : (b : Bool) → is_item (exported e.item) x ≡ b → map (λ (d : ExportValue). d.name) (filter (λ (d : ExportValue). is_item (exported d.item) x) (e ∷ [])) ≡ name_if b e.name
    last true is = ap (λ (b : Bool). map (λ (d : ExportValue). d.name) (cond b (e ∷ []) [])) is
    last false is = ap (λ (b : Bool). map (λ (d : ExportValue). d.name) (cond b (e ∷ []) [])) is

-- the next export stands under the key of what it exports
pub next_grouped : (all : List ExportValue) (e : ExportValue) (old new : ExportGroups) → GroupsExports all old
    → ((other : ℕ × ℕ) → names_at new other ≡ names_at old other ++ name_if (same_key (key_of (exported e.item)) other) e.name) → GroupsExports (all ++ e ∷ []) new
next_grouped all e old new grouped adds x =
    adds (key_of x) ∙ ap (λ (ns : List (List ℕ)). ns ++ name_if (is_item (exported e.item) x) e.name) (grouped x) ∙ sym (names_more all e x)

-- ---- lists

-- ---- one link

-- the names under which a module exports an item
pub exported_so : (all : List ExportValue) (x : Item) → names_of all x ≡ map (λ (e : Export). e.name) (filter (λ (e : Export). is_item e.item x) (map export_of all))
exported_so [] x = refl
exported_so (e ∷ all) x = step (is_item (exported e.item) x) (filter (λ (d : ExportValue). is_item (exported d.item) x) all) (filter (λ (d : Export). is_item d.item x) (map export_of all)) (exported_so all x) where
  step : (b : Bool) (own : List ExportValue) (other : List Export) → map (λ (d : ExportValue). d.name) own ≡ map (λ (d : Export). d.name) other
      → map (λ (d : ExportValue). d.name) (cond b (e ∷ own) own) ≡ map (λ (d : Export). d.name) (cond b (export_of e ∷ other) other)
  step true own other same = ap (λ (ns : List (List ℕ)). e.name ∷ ns) same
  step false own other same = same

abbrev told : Item → List Name → List Name → Option ℕ → LinkTold
told x name exports size = record { item = x; name = name; exports = exports; size = size }

pub link_same : (x : Item) (n m e f : List Name) (s t : Option ℕ) → n ≡ m → e ≡ f → s ≡ t → told x n e s ≡ told x m f t
link_same x n m e f s t a b c = ap (λ (y : List Name). told x y e s) a ∙ ap (λ (y : List Name). told x m y s) b ∙ ap (λ (y : Option ℕ). told x m f y) c
