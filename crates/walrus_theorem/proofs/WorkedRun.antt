-- The steps, one by one, for the two functions of the worked row: all is parsed, gc drops the first function, and the one that is left is written.
use Rattle.std.proofs.Common.{◌≡◌, ℕ, zero, suc, pred, ◌<◌, Bool, true, false, List, [], ◌∷◌, refl, sym, ap, ◌∙◌, subst, inl, inr, ⊎_elim, arith}
use Rattle.std.specs.Prelude.{Option, Some, None, IsTrue, IsSome, All, Contains, slice_get, get_or, ◌⊎◌, ◌↔◌, if◌then◌else◌}
use Rattle.std.proofs.lemmas.List.Elements.{All-contains_itself}
use Rattle.wasm_writer.specs.Spelling.{SectionFits}
use Rattle.walrus_base.specs.Operators as items
use Rattle.walrus_base.specs.Operators.{Space, Types, Functions, Tables, Memories, Globals, Elements, DataSegments, Item}
use Rattle.walrus_model.specs.Abstract.{Abstract, Name, AnItem, TypeDef, Body, Function}
use Rattle.walrus_model.specs.Carried.{Carries, Carried, In}
use Rattle.walrus_model.specs.Config.{Config}
use Rattle.walrus_model.specs.Declared.{ref_func, IsRefInBody, IsRefInGlobal}
use Rattle.walrus_model.specs.Examples.{two_functions, export_f}
use Rattle.walrus_model.specs.Kept.{Kept, IsSpareMemory, IsImportOf}
use Rattle.walrus_model.specs.Live.{IsLive}
use Rattle.walrus_model.specs.Names.{body_of, last_name, name_of, own_name, names_that_count, or_else, synthetic_name, WritesNames}
use Rattle.walrus_model.specs.Order.{ByImport}
use Rattle.walrus_model.specs.Out.{IsTheSegment}
use Rattle.walrus_model.specs.Pipeline.{Collected, KeepsOnly}
use Rattle.walrus_model.specs.Producers.{produced, if_written}
use Rattle.walrus_model.specs.Reached.{Reached, root, step, HasRoots, IsClosed}
use Rattle.walrus_model.specs.Renaming.{Renaming, unchanged}
use Rattle.walrus_model.specs.Roots.{exported, start, data_segment, element_segment, asked_for}
use Rattle.walrus_model.specs.Same.{BothAnd, SameFunction, SameKind}
use Rattle.walrus_model.specs.Sections.{export_of}
use Rattle.walrus_model.proofs.HoldExample.{two_functions_hold}
use Rattle.walrus_model.proofs.Least.{lies_within}
use Rattle.walrus_base.proofs.Lists.{Contains-head, Contains-none}
use Rattle.walrus_model.proofs.Examples.{only_one as one_alone}
use Rattle.walrus_theorem.specs.Chain.{ParsedAs, AndThose, NoFunction, NoMore, IsWholeBody, IsBehind}
use Rattle.walrus_theorem.specs.Examples.{one_function, one_function_bytes, two_functions_bytes, RowRuns}
use Rattle.walrus_theorem.specs.Headline.{ReadsModule, ComesTo}
use Rattle.walrus_theorem.specs.Pinned.{IsWrittenAs, LocalGoesBefore}
use Rattle.walrus_theorem.specs.Text.{sections_of}
use Rattle.walrus_theorem.specs.Spelling.{written_as}
use Rattle.walrus_theorem.proofs.NeedsBase.{no_item, one_carried, no_items, given, are_given, empty_if, NamesNone, declares_none}
use Rattle.walrus_theorem.proofs.NotBoth.{not_both}
use Rattle.walrus_theorem.proofs.OneOutput.{one_output}
use Rattle.walrus_theorem.proofs.ReadExample.{two_functions_read, one_function_read, same_modules}
use Rattle.walrus_theorem.proofs.Runs.{leaves_itself, runs_output}
use Rattle.walrus_theorem.proofs.SpelledFits.{spelled_fits}
use Rattle.walrus_theorem.proofs.Worked.{one_spelled}
use Rattle.walrus_theorem.proofs.WorkedWritten.{the_type, the_body, the_function, same_type, no_ref, no_local}

-- ---- parsed: the same items, with the names that count, and with this program among the producers

name_list : Option Name → List Name
name_list None = []
name_list (Some name) = name ∷ []

last_of_list : (o : Option Name) → last_name (name_list o) ≡ o
unfolding name_list
last_of_list None = refl
last_of_list (Some name) = refl

abbrev parsed : Config → Abstract
parsed c = record two_functions { producers = produced []; named = λ y. name_list (name_of c two_functions y) }

no_type_name : (synthetic : Bool) (i : ℕ) → or_else (last_name (names_that_count synthetic two_functions (AnItem (Types, i)))) (if synthetic then synthetic_name two_functions (AnItem (Types, i)) else None) ≡ None
no_type_name true i = refl
no_type_name false i = refl

pub two_there : (f : ℕ) → IsSome (two_functions.functions f) ↔ (f < 2)
two_there zero = (λ h. omega arith, λ l. refl)
two_there (suc zero) = (λ h. omega arith, λ l. refl)
two_there (suc (suc f)) = (λ h. absurd (no_item f h), λ (l : suc (suc f) < 2). absurd (omega (arith, l)))

each_is : (f : ℕ) (g : Function) → two_functions.functions f ≡ Some g → the_function ≡ g
each_is zero g e = cc
each_is (suc zero) g e = cc
each_is (suc (suc f)) g e = absurd (let no : None ≡ Some g = e in cc)

each_body : (f : ℕ) (b : Body) → body_of two_functions f ≡ Some b → the_body ≡ b
each_body zero b e = cc
each_body (suc zero) b e = cc
each_body (suc (suc f)) b e = absurd (let no : None ≡ Some b = e in cc)

-- an empty body says the same under any renaming
same_kind : (r : Renaming) (i : ℕ) → SameKind r i the_function.kind the_function.kind
same_kind r i = record { operators = refl; apart = λ x y ux uy e. absurd (no_local x ux); types = λ x u. refl; parameters = λ x u. refl }

both_same : {X : Type 0} (S : X → X → Type 0) (o : Option X) → ((x : X) → o ≡ Some x → S x x) → IsSome o → BothAnd S o o
both_same S None same there = absurd (no_item 0 there)
both_same S (Some x) same there = same x refl

functions_stay : (A : ℕ → Type 0) → Carries (In (IsLive two_functions) Functions) A (λ i. i) (SameFunction unchanged) two_functions.functions two_functions.functions
functions_stay A = record {
  same = λ i there. both_same (SameFunction unchanged i) (two_functions.functions i) (λ g e. subst (λ (h : Function). SameFunction unchanged i h h) (each_is i g e) (record { ty = refl; kind = same_kind unchanged i })) there;
  onto = λ j there. inl (j, there, refl);
}

no_import : (K : Item → Type 0) (i : ℕ) → IsImportOf K two_functions i → ⊥
no_import K i h = let e : None ≡ Some h.0 = h.1 in cc

two_carried : (c : Config) → Carried (IsLive two_functions) (IsBehind 1) unchanged two_functions (parsed c)
two_carried c = record {
  types = one_carried _ (λ i. i) _ the_type the_type refl same_type;
  imports = no_items _ _ _ _ (no_import (IsLive two_functions));
  functions = functions_stay _;
  tables = no_items _ _ _ _ no_item;
  memories = no_items _ _ _ _ no_item;
  tags = no_items _ _ _ _ no_item;
  globals = no_items _ _ _ _ no_item;
  elements = no_items _ _ _ _ no_item;
  data_segments = no_items _ _ _ _ no_item;
  imports_apart = λ i j li lj e. e;
  apart = λ space away i j li lj e. e;
  exports = refl;
  start = refl;
}

whole_body : (f : ℕ) → IsWholeBody unchanged f the_body the_body
whole_body f = record {
  parameters = refl;
  types = λ x v e. absurd (let no : None ≡ Some v = e in cc);
  counted = record {
    locals = [];
    distinct = λ i j d less at. absurd (omega arith);
    are = λ x. (λ at. absurd (Contains-none x at), λ d. absurd (no_local x d.0));
    count = refl;
  };
  rise = λ x y hx hy less. less;
}

two_parsed : (c : Config) → ParsedAs c two_functions (parsed c)
two_parsed c = record {
  types = the_type ∷ [];
  functions = 2;
  all_types = the_type ∷ [];
  types_read = λ i. refl;
  functions_read = two_there;
  handlers = AndThose 0 (1 ∷ []) _ _ _ (NoMore _) (AndThose 1 [] _ _ _ (NoMore _) (NoFunction _));
  types_made = λ i. refl;
  no_handlers = λ f past. refl;
  renaming = unchanged;
  carried = two_carried c;
  bodies = λ f a b is was. subst (λ (d : Body). IsWholeBody unchanged f d b) (each_body f a is) (subst (IsWholeBody unchanged f the_body) (each_body f b was) (whole_body f));
  in_place = λ x. refl;
  imports_in_place = λ i. refl;
  table_segments = λ table segment. refl;
  memory_segments = λ memory segment. refl;
  section_roots = refl;
  customs = refl;
  producers = refl;
  own = last_of_list _;
  items = λ x live. last_of_list _;
  added = λ i past. last_of_list _ ∙ no_type_name c.synthetic_names i;
  locals = λ f b x is there. last_of_list _;
}

-- ---- what gc leaves: function 1, which is exported, and its type

-- all but the first function
abbrev isnt_first : Item → Bool
isnt_first (Functions, zero) = false
isnt_first (Functions, suc i) = true
isnt_first (Types, i) = true
isnt_first (Tables, i) = true
isnt_first (Memories, i) = true
isnt_first (items.Tags, i) = true
isnt_first (Globals, i) = true
isnt_first (Elements, i) = true
isnt_first (DataSegments, i) = true

is_type : (y : Item) → Contains ((Types, 0) ∷ []) y → IsTrue (isnt_first y)
is_type y at = subst (λ y. IsTrue (isnt_first y)) (one_alone (Types, 0) y at) refl

module _ (c : Config) where
  second_reached : Reached (parsed c) (Functions, 1)
  second_reached = root (Functions, 1) (exported (export_of (export_f 1)) (Contains-head (export_of (export_f 1)) []) refl)

  type_reached : Reached (parsed c) (Types, 0)
  type_reached = step (Functions, 1) (Types, 0) second_reached (inl (Contains-head (Types, 0) []))

  has_roots : HasRoots (parsed c) isnt_first
  has_roots x (exported e at is) = subst (λ y. IsTrue (isnt_first y)) (sym (is ∙ ap (λ e. e.item) (sym (one_alone (export_of (export_f 1)) e at)))) refl
  has_roots x (start f at is) = absurd (cc)
  has_roots x (data_segment i d at kind is) = absurd (cc)
  has_roots x (element_segment i e at kind is) = absurd (cc)
  has_roots x (asked_for at) = absurd (Contains-none x at)

  is_closed : IsClosed (parsed c) isnt_first
  is_closed (Types, zero) y in_set (inl at) = is_type y at
  is_closed (Types, zero) y in_set (inr none) = absurd none
  is_closed (Types, suc i) y in_set (inl at) = absurd (Contains-none y at)
  is_closed (Types, suc i) y in_set (inr none) = absurd none
  is_closed (Functions, zero) y in_set refers = absurd (cc)
  is_closed (Functions, suc zero) y in_set (inl at) = is_type y at
  is_closed (Functions, suc zero) y in_set (inr (t, at, is)) = absurd (Contains-none t at)
  is_closed (Functions, suc (suc i)) y in_set (inl at) = absurd (Contains-none y at)
  is_closed (Functions, suc (suc i)) y in_set (inr (t, at, is)) = absurd (Contains-none t at)
  is_closed (Tables, i) y in_set (inl at) = absurd (Contains-none y at)
  is_closed (Tables, i) y in_set (inr (e, holds, is)) = absurd (no_item i holds)
  is_closed (Memories, i) y in_set (inl at) = absurd (Contains-none y at)
  is_closed (Memories, i) y in_set (inr (d, holds, is)) = absurd (no_item i holds)
  is_closed (items.Tags, i) y in_set (inl at) = absurd (Contains-none y at)
  is_closed (items.Tags, i) y in_set (inr none) = absurd none
  is_closed (Globals, i) y in_set (inl at) = absurd (Contains-none y at)
  is_closed (Globals, i) y in_set (inr none) = absurd none
  is_closed (Elements, i) y in_set (inl at) = absurd (Contains-none y at)
  is_closed (Elements, i) y in_set (inr none) = absurd none
  is_closed (DataSegments, i) y in_set (inl at) = absurd (Contains-none y at)
  is_closed (DataSegments, i) y in_set (inr none) = absurd none

  no_spare : (x : Item) → IsSpareMemory (parsed c) x → ⊥
  no_spare x spare = no_item spare.memory spare.first.live

  first_is_not : Kept (parsed c) (Functions, 0) → ⊥
  first_is_not k = ⊎_elim (λ h. let no : false ≡ true = lies_within (parsed c) (λ y. IsTrue (isnt_first y)) has_roots is_closed (Functions, 0) h in cc) (λ spare. no_spare (Functions, 0) spare) k

-- function 1 alone
abbrev only_second : ℕ → Option Function
only_second zero = None
only_second (suc zero) = Some the_function
only_second (suc (suc f)) = None

abbrev left : Config → Abstract
left c = record (parsed c) { functions = only_second }

nothing_kept : {X : Type 0} (K : ℕ → Type 0) → KeepsOnly {X = X} K (slice_get []) (slice_get [])
nothing_kept {X = X} K = record { kept = λ i k. refl; left = λ i x e. absurd (let no : ◌≡◌ {A = Option X} None (Some x) = e in cc) }

types_kept : (c : Config) → KeepsOnly (In (Kept (parsed c)) Types) (parsed c).types (left c).types
types_kept c = record { kept = λ i k. refl; left = those } where
  those : (i : ℕ) (x : TypeDef) → (left c).types i ≡ Some x → Kept (parsed c) (Types, i) × ((parsed c).types i ≡ Some x)
  those zero x e = (inl (type_reached c), e)
  those (suc i) x e = absurd (let no : None ≡ Some x = e in cc)

functions_kept : (c : Config) → KeepsOnly (In (Kept (parsed c)) Functions) (parsed c).functions (left c).functions
functions_kept c = record { kept = stays; left = those } where
  stays : (i : ℕ) → Kept (parsed c) (Functions, i) → only_second i ≡ (parsed c).functions i
  stays zero k = absurd (first_is_not c k)
  stays (suc zero) k = refl
  stays (suc (suc i)) k = refl

  those : (i : ℕ) (x : Function) → only_second i ≡ Some x → Kept (parsed c) (Functions, i) × ((parsed c).functions i ≡ Some x)
  those zero x e = absurd (cc)
  those (suc zero) x e = (inl (second_reached c), e)
  those (suc (suc i)) x e = absurd (cc)

two_collected : (c : Config) → Collected (parsed c) (left c)
two_collected c = record {
  types = types_kept c;
  imports = nothing_kept _;
  functions = functions_kept c;
  tables = nothing_kept _;
  memories = nothing_kept _;
  tags = nothing_kept _;
  globals = nothing_kept _;
  elements = nothing_kept _;
  data_segments = nothing_kept _;
  exports = refl;
  start = refl;
  customs = refl;
  producers = refl;
  named = λ y h. refl;
  table_segments = λ table k segment. refl;
  memory_segments = λ memory k segment. refl;
  handler_types = λ f k. refl;
  section_roots = refl;
}

-- ---- what that is written as: function 1 has index 0

abbrev new_numbers : Space → ℕ → ℕ
new_numbers Functions i = pred i
new_numbers Types i = i
new_numbers Tables i = i
new_numbers Memories i = i
new_numbers items.Tags i = i
new_numbers Globals i = i
new_numbers Elements i = i
new_numbers DataSegments i = i

abbrev place : Renaming
place = record { numbers = new_numbers; imports = λ i. i; locals = λ f x. x }

only_one : (i : ℕ) → IsSome (only_second i) → i ≡ 1
only_one zero h = absurd (no_item 0 h)
only_one (suc zero) h = refl
only_one (suc (suc i)) h = absurd (no_item i h)

second_carried : (A : ℕ → Type 0) → Carries (λ i. IsSome (only_second i)) A (λ i. pred i) (SameFunction place) only_second (slice_get (the_function ∷ []))
second_carried A = record { same = same; onto = onto } where
  same : (i : ℕ) → IsSome (only_second i) → BothAnd (SameFunction place i) (only_second i) (slice_get (the_function ∷ []) (pred i))
  same zero h = absurd (no_item 0 h)
  same (suc zero) h = record { ty = refl; kind = same_kind place 1 }
  same (suc (suc i)) h = absurd (no_item i h)

  onto : (j : ℕ) → IsSome (slice_get (the_function ∷ []) j) → ((i : ℕ) × IsSome (only_second i) × (pred i ≡ j)) ⊎ A j
  onto zero h = inl (1, refl, refl)
  onto (suc j) h = absurd (no_item j h)

module _ (c : Config) where
  apart_left : (space : Space) (i j : ℕ) → IsLive (left c) (space, i) → IsLive (left c) (space, j) → new_numbers space i ≡ new_numbers space j → i ≡ j
  apart_left Functions i j li lj e = only_one i li ∙ sym (only_one j lj)
  apart_left Types i j li lj e = e
  apart_left Tables i j li lj e = e
  apart_left Memories i j li lj e = e
  apart_left items.Tags i j li lj e = e
  apart_left Globals i j li lj e = e
  apart_left Elements i j li lj e = e
  apart_left DataSegments i j li lj e = e

  not_before_itself : ByImport (left c) Functions 1 1 → ⊥
  not_before_itself h = ⊎_elim (λ (l : 1 < 1). absurd (omega (arith, l))) (λ l. absurd (omega (arith, l.1))) h

  rises_left : (space : Space) → (space ≡ Types → ⊥) → (i j : ℕ) → IsLive (left c) (space, i) → IsLive (left c) (space, j) → ByImport (left c) space i j → new_numbers space i < new_numbers space j
  rises_left Types away i j li lj before = absurd (away refl)
  rises_left Functions away i j li lj before =
      absurd (not_before_itself (subst (λ k. ByImport (left c) Functions 1 k) (only_one j lj) (subst (λ k. ByImport (left c) Functions k j) (only_one i li) before)))
  rises_left Tables away i j li lj before = absurd (no_item i li)
  rises_left Memories away i j li lj before = absurd (no_item i li)
  rises_left items.Tags away i j li lj before = absurd (no_item i li)
  rises_left Globals away i j li lj before = absurd (no_item i li)
  rises_left Elements away i j li lj before = absurd (no_item i li)
  rises_left DataSegments away i j li lj before = absurd (no_item i li)

  body_left : (f : ℕ) (b : Body) → body_of (left c) f ≡ Some b → the_body ≡ b
  body_left zero b e = absurd (cc)
  body_left (suc zero) b e = cc
  body_left (suc (suc f)) b e = absurd (cc)

  names_none : NamesNone (left c)
  names_none f u = ⊎_elim
      (λ (h : IsRefInBody (IsLive (left c)) (left c) f). no_ref f (subst (λ (b : Body). Contains b.operators (ref_func f)) (sym (body_left h.0 h.1 h.3)) h.4))
      (λ (h : IsRefInGlobal (IsLive (left c)) (left c) f). no_item h.0 h.3)
      u.named

  no_type : (f : ℕ) (b : Body) (x y : ℕ) → body_of (left c) f ≡ Some b → LocalGoesBefore b x y → ⊥
  no_type f b x y e g =
      let here : LocalGoesBefore the_body x y = subst (λ (d : Body). LocalGoesBefore d x y) (sym (body_left f b e)) g in
      let typed : None ≡ Some here.0 = here.1.1.0 in
      cc

  left_carried : Carried (IsLive (left c)) (IsTheSegment None) place (left c) one_function
  left_carried = record {
    types = one_carried _ (λ i. i) _ the_type the_type refl (record { group = refl; position = refl; sub = refl });
    imports = no_items _ _ _ _ (λ i h. let e : None ≡ Some h.0 = h.1 in cc);
    functions = second_carried _;
    tables = no_items _ _ _ _ no_item;
    memories = no_items _ _ _ _ no_item;
    tags = no_items _ _ _ _ no_item;
    globals = no_items _ _ _ _ no_item;
    elements = no_items _ _ _ _ no_item;
    data_segments = no_items _ _ _ _ no_item;
    imports_apart = λ i j li lj e. e;
    apart = λ space away i j li lj e. apart_left space i j li lj e;
    exports = refl;
    start = refl;
  }

  -- where neither names nor producers are written
  left_written : c.writes_names ≡ false → c.writes_producers ≡ false → IsWrittenAs c (left c) one_function
  left_written names producers = record {
    written = record {
      renaming = place;
      segment = None;
      indices = given (left c) place;
      carried = left_carried;
      rises = record { items = rises_left; imports = λ i j li lj less. less };
      declares = declares_none (left c) one_function place names_none;
      names = subst (λ b. WritesNames b (own_name (left c)) (IsLive (left c)) place (left c) one_function) (sym names) (λ y. empty_if _ [] refl);
      producers = subst (λ b. one_function.producers ≡ if_written b (left c).producers) (sym producers) refl;
      indexed = are_given (left c) place;
      customs = refl;
    };
    pinned = record {
      types_rise = λ i j li lj less. less;
      type_names = λ e. absurd (let no : false ≡ true = sym names ∙ e in cc);
      locals = λ f b x y e dx dy g. absurd (no_type f b x y e g);
    };
  }

-- ---- the run

read_again : (c : Config) → ReadsModule c (written_as one_spelled.text) one_function
read_again c = subst (λ bytes. ReadsModule c bytes one_function) one_spelled.written (subst (ReadsModule c one_function_bytes) (sym same_modules) (one_function_read c))

row_fits : (c : Config) → All SectionFits (sections_of one_spelled.text)
row_fits c = let ss = sections_of one_spelled.text in λ i s less. spelled_fits c one_function one_spelled.text (get_or ss i s) one_spelled.spells (read_again c) (All-contains_itself ss i s less)

comes_to_one : (c : Config) → c.writes_names ≡ false → c.writes_producers ≡ false → ComesTo c two_functions_bytes one_function_bytes
comes_to_one c names producers =
    runs_output c two_functions_bytes one_function_bytes two_functions (parsed c) (left c) (left c) (two_functions_read c) two_functions_hold (two_parsed c) (two_collected c) (leaves_itself (left c) (names_none c))
    (record { module_written = one_function; written = left_written c names producers; spelled = one_spelled; fits = row_fits c })

pub row_runs : (c : Config) → c.writes_names ≡ false → c.writes_producers ≡ false → RowRuns c
row_runs c names producers =
    let comes = comes_to_one c names producers in
    record { comes = comes; alone = λ output other. one_output c two_functions_bytes one_function_bytes output comes other; not_too_large = not_both c two_functions_bytes one_function_bytes comes }
