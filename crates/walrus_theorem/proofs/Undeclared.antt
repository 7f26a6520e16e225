-- The module without the added segment is written as the one with it.
use Rattle.std.proofs.Common.{◌≡◌, ℕ, ◌<◌, Bool, true, false, List, [], ◌∷◌, ◌++◌, map, refl, sym, ap, ap₂, ◌∙◌, subst, arith, inl, inr, ◌⊎◌, ⊎_elim}
use Rattle.std.specs.Prelude.{Option, Some, None, IsSome, Contains, filter, not, ◌||◌, if◌then◌else◌, ◌≢◌}
use Rattle.walrus_base.specs.Operators.{Space, Types, Functions, Tables, Memories, Tags, Globals, Elements, DataSegments, Item}
use Rattle.walrus_model.specs.Abstract.{Abstract, Subject, TheModule, AnItem, ALocal, Indices, Custom, Element, DeclaredElements, ListedFunctions, Import}
use Rattle.walrus_model.specs.Carried.{Carries, Carried, In}
use Rattle.walrus_model.specs.Config.{Config}
use Rattle.walrus_model.specs.Customs.{no_indices, fixed, is_dylink, is_debug_name, written_customs}
use Rattle.walrus_model.specs.Declared.{IsUndeclared, AreUndeclared, HasDeclaredSegment, Declares}
use Rattle.walrus_model.specs.Kept.{IsImportOf}
use Rattle.walrus_model.specs.Live.{IsLive}
use Rattle.walrus_model.specs.Names.{own_name, MayBeNamed, AreNamed, WritesNames}
use Rattle.walrus_model.specs.Order.{Rises, ByImport}
use Rattle.walrus_model.specs.Out.{IsTheSegment, Written}
use Rattle.walrus_model.specs.Renaming.{Renaming, renamed, renamed_element, renamed_import}
use Rattle.walrus_model.specs.Same.{BothAnd}
use Rattle.walrus_theorem.specs.Chain.{AddsSegment, Leaves}
use Rattle.walrus_theorem.specs.Pinned.{IsWrittenAs}
use Rattle.walrus_base.proofs.Lists.{Contains-head, Contains-tail}
use Rattle.walrus_model.proofs.Orders.{is_some_by}
use Rattle.walrus_theorem.proofs.OneModule.{told_live}
use Rattle.walrus_theorem.proofs.Plain.{chosen_by}
use Rattle.walrus_base.proofs.SameVal.{Told, told_nat}
use Rattle.walrus_theorem.proofs.Straight.{not_there}
use Rattle.walrus_theorem.proofs.Things.{both_there, some_same}

-- each custom section has the same data under all indices
abbrev pub PlainCustoms : Abstract → Type 0
PlainCustoms m = (s : Custom) → Contains m.customs s → (a b : Indices) → s.data_under a ≡ s.data_under b

-- no import brings a segment
abbrev pub BringsNoSegment : Abstract → Type 0
BringsNoSegment m = (i : ℕ) (x : Import) → m.imports i ≡ Some x → x.item.0 ≡ Elements → ⊥

module _ (a b : Indices) where
  custom_one : (s : Custom) → s.data_under a ≡ s.data_under b → fixed a s ≡ fixed b s
  custom_one s e = ap (λ bytes. record { name = s.name; data_under = λ other. bytes }) e

  one_more : (t : Bool) (x : Custom) (xs : List Custom) → fixed a x ≡ fixed b x → map (fixed a) xs ≡ map (fixed b) xs → map (fixed a) (if t then x ∷ xs else xs) ≡ map (fixed b) (if t then x ∷ xs else xs)
  one_more true x xs e h = ap₂ ◌∷◌ e h
  one_more false x xs e h = h

  customs_one : (test : Custom → Bool) (cs : List Custom) → ((s : Custom) → Contains cs s → s.data_under a ≡ s.data_under b) → map (fixed a) (filter test cs) ≡ map (fixed b) (filter test cs)
  customs_one test [] h = refl
  customs_one test (x ∷ xs) h = one_more (test x) x (filter test xs) (custom_one x (h x (Contains-head x xs))) (customs_one test xs (λ s at. h s (Contains-tail x s xs at)))

  written_one : (cs : List Custom) → ((s : Custom) → Contains cs s → s.data_under a ≡ s.data_under b) → written_customs a cs ≡ written_customs b cs
  written_one cs h = ap (λ l. map (fixed no_indices) (filter is_dylink cs) ++ l) (customs_one (λ c. not (is_dylink c || is_debug_name c.name)) cs h)

if_told : {A X : Type 0} → Told A → Option X → Option X
if_told (inl h) o = o
if_told (inr h) o = None

told_yes : {A X : Type 0} (t : Told A) (o : Option X) → A → if_told t o ≡ o
unfolding if_told
told_yes (inl h) o a = refl
told_yes (inr h) o a = absurd (h a)

told_no : {A X : Type 0} (t : Told A) (o : Option X) → (A → ⊥) → if_told t o ≡ None
unfolding if_told
told_no (inl h) o a = absurd (a h)
told_no (inr h) o a = refl

module _ (c : Config) (w : Abstract) (customs : PlainCustoms w) (brings : BringsNoSegment w) (es : ℕ → Option Element) (f : ℕ) (fs : List ℕ) (undeclared : AreUndeclared (IsLive w) w (f ∷ fs))
    (id : ℕ) (at_id : es id ≡ Some (record { kind = DeclaredElements; items = ListedFunctions (f ∷ fs) })) (last : (i : ℕ) → IsSome (w.elements i) → i < id)
    (unnamed : own_name w (AnItem (Elements, id)) ≡ None) (others : (i : ℕ) → i ≢ id → es i ≡ w.elements i) (n : Abstract) (is : IsWrittenAs c (record w { elements = es }) n) where
  abbrev u : Abstract
  u = record w { elements = es }

  abbrev s : Renaming
  s = is.written.renaming

  abbrev the : Element
  the = record { kind = DeclaredElements; items = ListedFunctions (f ∷ fs) }

  abbrev j : ℕ
  j = is.written.renaming.numbers Elements id

  abbrev d : Carried (IsLive (record w { elements = es })) (IsTheSegment is.written.segment) is.written.renaming (record w { elements = es }) n
  d = is.written.carried

  other : (i : ℕ) → IsSome (w.elements i) → es i ≡ w.elements i
  other i h = others i (λ e. let lt : i < id = last i h in omega (arith, e, lt))

  there : (x : Item) → IsLive w x → IsLive u x
  there (Types, i) h = h
  there (Functions, i) h = h
  there (Tables, i) h = h
  there (Memories, i) h = h
  there (Tags, i) h = h
  there (Globals, i) h = h
  there (Elements, i) h = subst (λ o. IsSome o) (sym (other i h)) h
  there (DataSegments, i) h = h

  live_id : IsLive u (Elements, id)
  live_id = is_some_by (es id) the at_id

  -- it was there, or it is the segment
  back : (x : Item) → IsLive u x → (IsLive w x) ⊎ (◌≡◌ {A = Item} x (Elements, id))
  back (Types, i) h = inl h
  back (Functions, i) h = inl h
  back (Tables, i) h = inl h
  back (Memories, i) h = inl h
  back (Tags, i) h = inl h
  back (Globals, i) h = inl h
  back (Elements, i) h = ⊎_elim (λ (e : i ≡ id). inr (ap (λ k. (Elements, k)) e)) (λ (away : i ≡ id → ⊥). inl (subst (λ o. IsSome o) (others i away) h)) (told_nat i id)
  back (DataSegments, i) h = inl h

  back_other : (x : Item) → (x.0 ≡ Elements → ⊥) → IsLive u x → IsLive w x
  back_other x away h = ⊎_elim (λ l. l) (λ e. absurd (away (ap (λ (z : Item). z.0) e))) (back x h)

  nothing : (g : ℕ) → IsUndeclared (IsLive u) u g → ⊥
  nothing g h = h.not_listed id the live_id at_id ((undeclared.are g).1 (record {
    named = h.named;
    not_exported = h.not_exported;
    not_listed = λ i e l at lists. h.not_listed i e (there (Elements, i) l) (other i l ∙ at) lists;
  }))

  no_segment : (gs : List ℕ) (segment : Option ℕ) → ((g : ℕ) → Contains gs g → ⊥) → HasDeclaredSegment (IsLive u) s u n gs segment → segment ≡ None
  no_segment [] segment away h = h
  no_segment (g ∷ gs) segment away h = absurd (away g (Contains-head g gs))

  none : is.written.segment ≡ None
  none = no_segment is.written.declares.functions is.written.segment (λ g at. nothing g ((is.written.declares.undeclared.are g).0 at)) is.written.declares.declared

  imports_there : (i : ℕ) → IsImportOf (IsLive w) w i → IsImportOf (IsLive u) u i
  imports_there i (x, e, l) = (x, e, there x.item l)

  imports_back : (i : ℕ) → IsImportOf (IsLive u) u i → IsImportOf (IsLive w) w i
  imports_back i (x, e, l) = (x, e, back_other x.item (brings i x e) l)

  new_elements : Carries (In (IsLive w) Elements) (In (IsTheSegment (Some j)) Elements) (s.numbers Elements) (λ i x y. y ≡ renamed_element s x) w.elements n.elements
  new_elements = record {
    same = λ i l. subst (λ o. BothAnd (λ x y. y ≡ renamed_element s x) o (n.elements (s.numbers Elements i))) (other i l) (d.elements.same i (there (Elements, i) l));
    onto = λ k h. ⊎_elim (found k) (λ (e : is.written.segment ≡ Some k). let x : Some k ≡ None = sym e ∙ none in absurd (cc)) (d.elements.onto k h);
  }
    where
      found : (k : ℕ) → (i : ℕ) × IsLive u (Elements, i) × (s.numbers Elements i ≡ k) → ((i : ℕ) × IsLive w (Elements, i) × (s.numbers Elements i ≡ k)) ⊎ (Some j ≡ Some k)
      found k (i, l, e) = ⊎_elim
          (λ (same : i ≡ id). inr (ap Some (ap (s.numbers Elements) (sym same) ∙ e)))
          (λ (away : i ≡ id → ⊥). inl (i, subst (λ o. IsSome o) (others i away) l, e))
          (told_nat i id)

  new_carried : Carried (IsLive w) (IsTheSegment (Some j)) s w n
  new_carried = record {
    types = d.types;
    imports = chosen_by (IsImportOf (IsLive u) u) (IsImportOf (IsLive w) w) (λ i. ⊥) s.imports (λ i x y. y ≡ renamed_import s x) (λ i x y. y ≡ renamed_import s x) w.imports w.imports n.imports imports_back imports_there (λ i z both. both) d.imports;
    functions = d.functions;
    tables = d.tables;
    memories = d.memories;
    tags = d.tags;
    globals = d.globals;
    elements = new_elements;
    data_segments = d.data_segments;
    imports_apart = λ i k a b e. d.imports_apart i k (imports_there i a) (imports_there k b) e;
    apart = λ space away i k a b e. d.apart space away i k (there (space, i) a) (there (space, k) b) e;
    exports = d.exports;
    start = d.start;
  }

  before : (space : Space) (i k : ℕ) → ByImport w space i k → ByImport u space i k
  before Types i k h = h
  before Functions i k h = h
  before Tables i k h = h
  before Memories i k h = h
  before Tags i k h = h
  before Globals i k h = h
  before Elements i k h = h
  before DataSegments i k h = h

  new_rises : Rises (IsLive w) (ByImport w) s (IsImportOf (IsLive w) w)
  new_rises = record {
    items = λ space away i k a b h. is.written.rises.items space away i k (there (space, i) a) (there (space, k) b) (before space i k h);
    imports = λ i k a b h. is.written.rises.imports i k (imports_there i a) (imports_there k b) h;
  }

  segment_is : n.elements j ≡ Some (renamed_element s the)
  segment_is =
      let both = both_there (λ x y. y ≡ renamed_element s x) (es id) (n.elements j) (d.elements.same id live_id) in
      both.3 ∙ ap Some (both.4 ∙ ap (renamed_element s) (some_same both.0 the (sym both.2 ∙ at_id)))

  new_declares : Declares (IsLive w) s w n (Some j)
  new_declares = record {
    functions = f ∷ fs;
    undeclared = undeclared;
    declared = (j, refl, record { is = segment_is; last = λ i l. is.written.rises.items Elements (λ e. cc) i id (there (Elements, i) l) live_id (last i l) });
  }

  -- ---- names

  module _ (h : AreNamed (own_name u) (IsLive u) s u n) where
    unnamed_there : (x : Item) → ◌≡◌ {A = Item} x (Elements, id) → IsSome (own_name n (AnItem (renamed s x))) → ⊥
    unnamed_there x e some =
        let none_there : own_name n (AnItem (renamed s (Elements, id))) ≡ None = h.items (Elements, id) live_id tt ∙ unnamed in
        let some_there : IsSome (own_name n (AnItem (renamed s (Elements, id)))) = subst (λ z. IsSome (own_name n (AnItem (renamed s z)))) e some in
        not_there (own_name n (AnItem (renamed s (Elements, id)))) none_there some_there

    item : (y : Item) → IsSome (own_name n (AnItem y)) → (x : Item) × IsLive u x × (y ≡ renamed s x) → (x : Item) × IsLive w x × (y ≡ renamed s x)
    item y some (x, l, e) = ⊎_elim
        (λ live. (x, live, e))
        (λ is_it. absurd (unnamed_there x is_it (subst (λ z. IsSome (own_name n (AnItem z))) e some)))
        (back x l)

    may : (y : Subject) → IsSome (own_name n y) → MayBeNamed (IsLive u) s u y → MayBeNamed (IsLive w) s w y
    may TheModule some a = a
    may (AnItem (Types, i)) some a = a
    may (AnItem (Functions, i)) some a = item (Functions, i) some a
    may (AnItem (Tables, i)) some a = item (Tables, i) some a
    may (AnItem (Memories, i)) some a = item (Memories, i) some a
    may (AnItem (Tags, i)) some a = item (Tags, i) some a
    may (AnItem (Globals, i)) some a = item (Globals, i) some a
    may (AnItem (Elements, i)) some a = item (Elements, i) some a
    may (AnItem (DataSegments, i)) some a = item (DataSegments, i) some a
    may (ALocal g y) some a = a

    new_named : AreNamed (own_name w) (IsLive w) s w n
    new_named = record {
      module_name = h.module_name;
      items = λ x l p. h.items x (there x l) p;
      locals = h.locals;
      only = λ y some. may y some (h.only y some);
    }

  by_flag : (flag : Bool) → WritesNames flag (own_name u) (IsLive u) s u n → WritesNames flag (own_name w) (IsLive w) s w n
  by_flag true h = new_named h
  by_flag false h = h

  abbrev new_indices : Indices
  new_indices = λ x. if_told (told_live w x.0 x.1) (is.written.indices x)

  abbrev new_written : Written c w n
  new_written = record {
    renaming = s;
    segment = Some j;
    indices = new_indices;
    carried = new_carried;
    rises = new_rises;
    declares = new_declares;
    names = by_flag c.writes_names is.written.names;
    producers = is.written.producers;
    indexed = record {
      live = λ x l. told_yes (told_live w x.0 x.1) (is.written.indices x) l ∙ is.written.indexed.live x (there x l);
      dead = λ x away. told_no (told_live w x.0 x.1) (is.written.indices x) away;
    };
    customs = is.written.customs ∙ written_one is.written.indices new_indices w.customs (λ z at. customs z at is.written.indices new_indices);
  }

  segment_written : IsWrittenAs c w n
  segment_written = record {
    written = new_written;
    pinned = record { types_rise = is.pinned.types_rise; type_names = is.pinned.type_names; locals = is.pinned.locals };
  }

by_list : (c : Config) (w u n : Abstract) (fs : List ℕ) → PlainCustoms w → BringsNoSegment w → AreUndeclared (IsLive w) w fs → AddsSegment w u fs → IsWrittenAs c u n → IsWrittenAs c w n
by_list c w u n [] customs brings h e is = subst (λ z. IsWrittenAs c z n) e is
by_list c w u n (f ∷ fs) customs brings h e is = segment_written c w customs brings u.elements f fs h e.0.id e.0.is e.0.last e.0.unnamed e.0.others n (subst (λ z. IsWrittenAs c z n) e.1 is)

pub left_written : (c : Config) (w u n : Abstract) → PlainCustoms w → BringsNoSegment w → Leaves w u → IsWrittenAs c u n → IsWrittenAs c w n
left_written c w u n customs brings l is = by_list c w u n l.functions customs brings l.undeclared l.added is
