-- The namings of a text give to each subject what its maps hold for it, so that they tell the maps.
use Rattle.std.proofs.Common.{◌≡◌, ℕ, Bool, true, false, List, [], ◌∷◌, ◌++◌, map, refl, sym, ap, ap₂, ◌∙◌, arith}
use Rattle.std.specs.Prelude.{◌≢◌, Option, Some, None, All, flat_map, option_to_list, ◌==◌, ◌&&◌, if◌then◌else◌}
use Rattle.std.specs.List.{AllByRecursion}
use Rattle.std.proofs.lemmas.List.{append-nil}
use Rattle.std.proofs.lemmas.List.Elements.{All-head, All-tail, recursion_from_All}
use Rattle.std.proofs.lemmas.Bool.{eqb-true, and_parts as and_both, false≢true as untrue}
use mathlib.Core.Path.{fun_ext}
use Rattle.wasm_payloads.specs.declared.naming.NameSpace.{NameSpace}
use Rattle.wasm_payloads.specs.declared.naming.NameSpace.TheVariants as spaces
use Rattle.wasm_payloads.specs.Names.{Named, ItemName, LocalName}
use Rattle.walrus_base.specs.Operators.{Space, Types, Functions, Tables, Memories, Tags, Globals, Elements, DataSegments, Item}
use Rattle.walrus_model.specs.Abstract.{Abstract, Name, Subject, TheModule, AnItem, ALocal}
use Rattle.walrus_theorem.specs.Namings.{space_of, naming_of, subsection, is_same, is_in_range, names_given, names_in_range}
use Rattle.walrus_theorem.specs.Text.{NameMap, NameText, further_spaces, module_naming, space_namings, function_namings, namings_of}
use Rattle.walrus_theorem.specs.Spelling.{MapStands, NamesStand}
use Rattle.walrus_model.proofs.LawOrder.{Sorted, sorted_of}
use Rattle.walrus_theorem.proofs.OneName.{looked, looked_at, Lower, MapGood, one_map, one_maps}
use Rattle.walrus_theorem.proofs.TextNames.{given_append}

-- ---- namings one after another

given_each : {A : Type 0} (f : A → List Named) (xs : List A) (x : Subject) → names_given (flat_map f xs) x ≡ flat_map (λ y. names_given (f y) x) xs
given_each f [] x = refl
given_each f (y ∷ ys) x = given_append (f y) (flat_map f ys) x ∙ ap (λ l. names_given (f y) x ++ l) (given_each f ys x)

-- what the four parts of a text give
parts_given : (t : NameText) (x : Subject) → names_given (namings_of t) x ≡ names_given (module_naming t.module_name) x ++ names_given (space_namings t spaces.Functions) x ++ flat_map (λ f. names_given (function_namings f) x) t.locals ++ flat_map (λ s. names_given (space_namings t s) x) further_spaces
parts_given t x =
    given_append (module_naming t.module_name ++ space_namings t spaces.Functions ++ flat_map function_namings t.locals) (flat_map (space_namings t) further_spaces) x
    ∙ ap₂ ◌++◌
    (given_append (module_naming t.module_name ++ space_namings t spaces.Functions) (flat_map function_namings t.locals) x
    ∙ ap₂ ◌++◌ (given_append (module_naming t.module_name) (space_namings t spaces.Functions) x) (given_each function_namings t.locals x))
    (given_each (space_namings t) further_spaces x)

none_each : {A B : Type 0} (f : A → List B) (xs : List A) → ((x : A) → f x ≡ []) → flat_map f xs ≡ []
none_each f [] h = refl
none_each f (x ∷ xs) h = ap₂ ◌++◌ (h x) (none_each f xs h)

-- ---- to the module

items_to_module : (s : NameSpace) (m : NameMap) → names_given (map (λ (e : ℕ × Name). ItemName s e.0 e.1) m) TheModule ≡ []
items_to_module s [] = refl
items_to_module s (e ∷ es) = items_to_module s es

locals_to_module : (f : ℕ) (m : NameMap) → names_given (map (λ (e : ℕ × Name). LocalName f e.0 e.1) m) TheModule ≡ []
locals_to_module f [] = refl
locals_to_module f (e ∷ es) = locals_to_module f es

module_to_module : (o : Option Name) → names_given (module_naming o) TheModule ≡ option_to_list o
module_to_module None = refl
module_to_module (Some name) = refl

pub module_given : (t : NameText) → names_given (namings_of t) TheModule ≡ option_to_list t.module_name
module_given t =
    parts_given t TheModule
    ∙ ap₂ ◌++◌ (ap₂ ◌++◌ (ap₂ ◌++◌ (module_to_module t.module_name) (items_to_module spaces.Functions (t.items spaces.Functions)))
    (none_each (λ f. names_given (function_namings f) TheModule) t.locals (λ f. locals_to_module f.0 f.1)))
    (none_each (λ s. names_given (space_namings t s) TheModule) further_spaces (λ s. items_to_module s (t.items s)))
    ∙ append-nil (option_to_list t.module_name ++ [] ++ []) ∙ append-nil (option_to_list t.module_name ++ []) ∙ append-nil (option_to_list t.module_name)

-- ---- to an item

module_to_item : (o : Option Name) (y : Item) → names_given (module_naming o) (AnItem y) ≡ []
module_to_item None y = refl
module_to_item (Some name) y = refl

locals_to_item : (f : ℕ) (m : NameMap) (y : Item) → names_given (map (λ (e : ℕ × Name). LocalName f e.0 e.1) m) (AnItem y) ≡ []
locals_to_item f [] y = refl
locals_to_item f (e ∷ es) y = locals_to_item f es y

abbrev picked : Bool → NameMap → ℕ → List Name
picked true m i = looked m i
picked false m i = []

items_to_item : (s : NameSpace) (w : Space) (i : ℕ) (m : NameMap) (b : Bool) → (subsection (space_of s) == subsection w) ≡ b → names_given (map (λ (e : ℕ × Name). ItemName s e.0 e.1) m) (AnItem (w, i)) ≡ picked b m i
items_to_item s w i [] true is = refl
items_to_item s w i [] false is = refl
items_to_item s w i (e ∷ es) true is = ap₂ (λ (b : Bool) (l : List Name). (if b && e.0 == i then e.1 ∷ [] else []) ++ l) is (items_to_item s w i es true is)
items_to_item s w i (e ∷ es) false is = ap₂ (λ (b : Bool) (l : List Name). (if b && e.0 == i then e.1 ∷ [] else []) ++ l) is (items_to_item s w i es false is)

items_sum : (t : NameText) (w : Space) (i : ℕ) → names_given (namings_of t) (AnItem (w, i)) ≡ [] ++ picked (subsection (space_of spaces.Functions) == subsection w) (t.items spaces.Functions) i ++ [] ++ flat_map (λ s. picked (subsection (space_of s) == subsection w) (t.items s) i) further_spaces
items_sum t w i =
    parts_given t (AnItem (w, i))
    ∙ ap₂ ◌++◌ (ap₂ ◌++◌ (ap₂ ◌++◌ (module_to_item t.module_name (w, i)) (items_to_item spaces.Functions w i (t.items spaces.Functions) (subsection (space_of spaces.Functions) == subsection w) refl))
    (none_each (λ f. names_given (function_namings f) (AnItem (w, i))) t.locals (λ f. locals_to_item f.0 f.1 (w, i))))
    (ap (λ f. flat_map f further_spaces) (fun_ext (λ s. items_to_item s w i (t.items s) (subsection (space_of s) == subsection w) refl)))

pub item_given : (t : NameText) (s : NameSpace) (i : ℕ) → names_given (namings_of t) (AnItem (space_of s, i)) ≡ looked (t.items s) i
item_given t spaces.Functions i = items_sum t Functions i ∙ append-nil (looked (t.items spaces.Functions) i ++ []) ∙ append-nil (looked (t.items spaces.Functions) i)
item_given t spaces.Types i = items_sum t Types i ∙ append-nil (looked (t.items spaces.Types) i)
item_given t spaces.Tables i = items_sum t Tables i ∙ append-nil (looked (t.items spaces.Tables) i)
item_given t spaces.Memories i = items_sum t Memories i ∙ append-nil (looked (t.items spaces.Memories) i)
item_given t spaces.Globals i = items_sum t Globals i ∙ append-nil (looked (t.items spaces.Globals) i)
item_given t spaces.Elements i = items_sum t Elements i ∙ append-nil (looked (t.items spaces.Elements) i)
item_given t spaces.DataSegments i = items_sum t DataSegments i ∙ append-nil (looked (t.items spaces.DataSegments) i)
item_given t spaces.Tags i = items_sum t Tags i ∙ append-nil (looked (t.items spaces.Tags) i)

-- ---- to a local

module_to_local : (o : Option Name) (f x : ℕ) → names_given (module_naming o) (ALocal f x) ≡ []
module_to_local None f x = refl
module_to_local (Some name) f x = refl

items_to_local : (s : NameSpace) (m : NameMap) (f x : ℕ) → names_given (map (λ (e : ℕ × Name). ItemName s e.0 e.1) m) (ALocal f x) ≡ []
items_to_local s [] f x = refl
items_to_local s (e ∷ es) f x = items_to_local s es f x

locals_to_local : (g : ℕ) (m : NameMap) (f x : ℕ) (b : Bool) → (g == f) ≡ b → names_given (map (λ (e : ℕ × Name). LocalName g e.0 e.1) m) (ALocal f x) ≡ (if b then looked m x else [])
locals_to_local g [] f x true is = refl
locals_to_local g [] f x false is = refl
locals_to_local g (e ∷ es) f x true is = ap₂ (λ (b : Bool) (l : List Name). (if b && e.0 == x then e.1 ∷ [] else []) ++ l) is (locals_to_local g es f x true is)
locals_to_local g (e ∷ es) f x false is = ap₂ (λ (b : Bool) (l : List Name). (if b && e.0 == x then e.1 ∷ [] else []) ++ l) is (locals_to_local g es f x false is)

locals_each : (fs : List (ℕ × NameMap)) (f x : ℕ) → flat_map (λ g. names_given (function_namings g) (ALocal f x)) fs ≡ looked_at fs f x
locals_each [] f x = refl
locals_each (g ∷ gs) f x = ap₂ ◌++◌ (locals_to_local g.0 g.1 f x (g.0 == f) refl) (locals_each gs f x)

pub local_given : (t : NameText) (f x : ℕ) → names_given (namings_of t) (ALocal f x) ≡ looked_at t.locals f x
local_given t f x =
    parts_given t (ALocal f x)
    ∙ ap₂ ◌++◌ (ap₂ ◌++◌ (ap₂ ◌++◌ (module_to_local t.module_name f x) (items_to_local spaces.Functions (t.items spaces.Functions) f x)) (locals_each t.locals f x))
    (none_each (λ s. names_given (space_namings t s) (ALocal f x)) further_spaces (λ s. items_to_local s (t.items s) f x))
    ∙ append-nil (looked_at t.locals f x)

-- ---- what is out of range is given nothing

one_space : (a b : Space) → subsection a ≡ subsection b → a ≡ b
one_space Types Types e = refl
one_space Functions Functions e = refl
one_space Tables Tables e = refl
one_space Memories Memories e = refl
one_space Tags Tags e = refl
one_space Globals Globals e = refl
one_space Elements Elements e = refl
one_space DataSegments DataSegments e = refl
one_space a b e = absurd (omega (arith, e))

same_subject : (x y : Subject) → is_same x y ≡ true → x ≡ y
same_subject TheModule TheModule is = refl
same_subject TheModule (AnItem b) is = absurd (untrue is)
same_subject TheModule (ALocal g b) is = absurd (untrue is)
same_subject (AnItem a) TheModule is = absurd (untrue is)
same_subject (AnItem a) (ALocal g b) is = absurd (untrue is)
same_subject (ALocal f a) TheModule is = absurd (untrue is)
same_subject (ALocal f a) (AnItem b) is = absurd (untrue is)
same_subject (AnItem a) (AnItem b) is =
    let both = and_both (subsection a.0 == subsection b.0) (a.1 == b.1) is in
    ap₂ (λ (s : Space) (i : ℕ). AnItem (s, i)) (one_space a.0 b.0 (eqb-true (subsection a.0) (subsection b.0) both.0)) (eqb-true a.1 b.1 both.1)
same_subject (ALocal f a) (ALocal g b) is =
    let both = and_both (f == g) (a == b) is in
    ap₂ ALocal (eqb-true f g both.0) (eqb-true a b both.1)

module _ (n : Abstract) where
  abbrev IsThere : Named → Type 0
  IsThere x = is_in_range n (naming_of x).0 ≡ true

  none_to : (y : Named) (x : Subject) (b : Bool) → IsThere y → is_in_range n x ≡ false → is_same (naming_of y).0 x ≡ b → (if b then (naming_of y).1 ∷ [] else []) ≡ []
  none_to y x false is out same = refl
  none_to y x true is out same = absurd (untrue (sym out ∙ ap (is_in_range n) (sym (same_subject (naming_of y).0 x same)) ∙ is))

  nothing_out : (ys : List Named) (x : Subject) → All IsThere ys → is_in_range n x ≡ false → names_given ys x ≡ []
  nothing_out [] x all out = refl
  nothing_out (y ∷ ys) x all out = ap₂ ◌++◌ (none_to y x (is_same (naming_of y).0 x) (All-head IsThere y ys all) out refl) (nothing_out ys x (All-tail IsThere y ys all) out)

  by_range : (ys : List Named) (x : Subject) (b : Bool) → All IsThere ys → is_in_range n x ≡ b → names_in_range n ys x ≡ names_given ys x
  by_range ys x true all is = ap (λ (b : Bool). if b then names_given ys x else []) is
  by_range ys x false all is = ap (λ (b : Bool). if b then names_given ys x else []) is ∙ sym (nothing_out ys x all is)

  pub all_given : (ys : List Named) (x : Subject) → All IsThere ys → names_in_range n ys x ≡ names_given ys x
  all_given ys x all = by_range ys x (is_in_range n x) all refl

-- ---- the whole

one_option : (a b : Option Name) → option_to_list a ≡ option_to_list b → a ≡ b
one_option None None e = refl
one_option None (Some y) e = absurd cc
one_option (Some x) None e = absurd cc
one_option (Some x) (Some y) e = cc

map_sorted : (m : NameMap) → MapStands m → Sorted Lower m
map_sorted m h = sorted_of Lower m h.0

maps_good : (fs : List (ℕ × NameMap)) → AllByRecursion (λ (f : ℕ × NameMap). (f.1 ≢ []) × MapStands f.1) fs → AllByRecursion (λ (f : ℕ × NameMap). MapGood f.1) fs
maps_good [] h = tt
maps_good (f ∷ fs) h = ((h.0.0, map_sorted f.1 h.0.1), maps_good fs h.1)

functions_good : (fs : List (ℕ × NameMap)) → All (λ (f : ℕ × NameMap). (f.1 ≢ []) × MapStands f.1) fs → AllByRecursion (λ (f : ℕ × NameMap). MapGood f.1) fs
functions_good fs h = maps_good fs (recursion_from_All (λ (f : ℕ × NameMap). (f.1 ≢ []) × MapStands f.1) fs h)

pub one_names : (n : Abstract) (s t : NameText) → NamesStand n s → NamesStand n t → ((x : Subject) → names_in_range n (namings_of s) x ≡ names_in_range n (namings_of t) x) → s ≡ t
one_names n s t h g same =
    let given : (x : Subject) → names_given (namings_of s) x ≡ names_given (namings_of t) x = (λ x. sym (all_given n (namings_of s) x h.are_there) ∙ same x ∙ all_given n (namings_of t) x g.are_there) in
    let title : s.module_name ≡ t.module_name = one_option s.module_name t.module_name (sym (module_given s) ∙ given TheModule ∙ module_given t) in
    let items : (space : NameSpace) → s.items space ≡ t.items space = (λ space. one_map (s.items space) (t.items space) (map_sorted (s.items space) (h.items space)) (map_sorted (t.items space) (g.items space)) (λ i. sym (item_given s space i) ∙ given (AnItem (space_of space, i)) ∙ item_given t space i)) in
    let locals : s.locals ≡ t.locals = one_maps s.locals t.locals (sorted_of Lower s.locals h.functions) (sorted_of Lower t.locals g.functions) (functions_good s.locals h.locals) (functions_good t.locals g.locals) (λ f x. sym (local_given s f x) ∙ given (ALocal f x) ∙ local_given t f x) in
    ap₂ (λ (m : Option Name) (l : List (ℕ × NameMap)). record { module_name = m; items = s.items; locals = l }) title locals
    ∙ ap (λ (i : NameSpace → NameMap). record { module_name = t.module_name; items = i; locals = t.locals }) (fun_ext items)
