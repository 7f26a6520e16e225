-- What was parsed, with other names and other custom sections.
use Rattle.std.proofs.Common.{inl, inr, ⊎_elim, ◌≡◌, ℕ, ◌≤◌, Bool, true, false, List, length, refl, ap₂, subst, ◌∙◌}
use Rattle.std.specs.Prelude.{Option, Some, None, IsSome, if◌then◌else◌}
use Rattle.walrus_base.specs.Types.{CompType}
use Rattle.walrus_base.specs.Operators.{Types, Functions, Tables, Memories, Tags, Globals, Elements, DataSegments, Item}
use Rattle.walrus_model.specs.Abstract.{Abstract, Body, Custom, Name, Subject, TheModule, AnItem, ALocal, TypeDef}
use Rattle.walrus_model.specs.Config.{Config}
use Rattle.walrus_model.specs.Kept.{IsImportOf}
use Rattle.walrus_model.specs.Live.{IsLive}
use Rattle.walrus_model.specs.Names.{body_of, last_name, name_of, names_that_count, or_else, own_name, synthetic_name}
use Rattle.walrus_theorem.specs.Chain.{AddsHandlers, AndThose, AreFoundOrAdded, NoFunction, ParsedAs, handlers_by}

module _ (m : Abstract) (n : Subject → List Name) (cs : List Custom) where
  abbrev pub other : Abstract
  other = record m { named = n; customs = cs }

  live : (x : Item) → IsLive other x → IsLive m x
  live (Types, i) h = h
  live (Functions, i) h = h
  live (Tables, i) h = h
  live (Memories, i) h = h
  live (Tags, i) h = h
  live (Globals, i) h = h
  live (Elements, i) h = h
  live (DataSegments, i) h = h

  live_too : (x : Item) → IsLive m x → IsLive other x
  live_too (Types, i) h = h
  live_too (Functions, i) h = h
  live_too (Tables, i) h = h
  live_too (Memories, i) h = h
  live_too (Tags, i) h = h
  live_too (Globals, i) h = h
  live_too (Elements, i) h = h
  live_too (DataSegments, i) h = h

  same_handlers : (o : Option Body) → handlers_by m o ≡ handlers_by other o
  same_handlers None = refl
  same_handlers (Some b) = refl

  handlers_too : (places : ℕ → List ℕ) (fs : List ℕ) (old new : List TypeDef) → AddsHandlers m places fs old new → AddsHandlers other places fs old new
  handlers_too places _ _ _ (NoFunction types) = NoFunction types
  handlers_too places _ _ _ (AndThose f fs old middle new first others) = AndThose f fs old middle new (subst (λ (comps : List (CompType ℕ)). AreFoundOrAdded comps old middle (places f)) (same_handlers (body_of m f)) first) (handlers_too places fs middle new others)

  imports_live : (i : ℕ) → IsImportOf (IsLive other) other i → IsImportOf (IsLive m) m i
  imports_live i (x, is, h) = (x, is, live x.item h)

  imports_live_too : (i : ℕ) → IsImportOf (IsLive m) m i → IsImportOf (IsLive other) other i
  imports_live_too i (x, is, h) = (x, is, live_too x.item h)

module _ (before c : Config) (m v : Abstract) (n k : Subject → List Name) (cs ds : List Custom) (customs : ds ≡ cs) (h : ParsedAs before m v) where
  -- with what the names have to be; each number stays; the custom sections are given too
  pub parsed_aside : own_name (record v { named = k; customs = ds }) TheModule ≡ name_of c (other m n cs) TheModule
      → ((x : Item) → IsLive m x → own_name (record v { named = k; customs = ds }) (AnItem x) ≡ name_of c (other m n cs) (AnItem x))
      → ((i : ℕ) → length h.types ≤ i → own_name (record v { named = k; customs = ds }) (AnItem (Types, i)) ≡ None)
      → ((f : ℕ) (b : Body) (x : ℕ) → body_of m f ≡ Some b → IsSome (b.local_type x) → own_name (record v { named = k; customs = ds }) (ALocal f (h.renaming.locals f x)) ≡ name_of c (other m n cs) (ALocal f x))
      → (p : ParsedAs c (other m n cs) (record v { named = k; customs = ds })) × (p.renaming ≡ h.renaming)
  parsed_aside own items added locals = (
    record {
      types = h.types;
      functions = h.functions;
      all_types = h.all_types;
      types_read = h.types_read;
      functions_read = h.functions_read;
      handlers = handlers_too m n cs v.handler_types _ h.types h.all_types h.handlers;
      types_made = h.types_made;
      no_handlers = h.no_handlers;
      renaming = h.renaming;
      carried = record {
        types = h.carried.types;
        imports = record {
          same = λ i live_one. h.carried.imports.same i (imports_live m n cs i live_one);
          onto = λ j there. ⊎_elim (λ found. inl (found.0, imports_live_too m n cs found.0 found.1, found.2)) (λ none. inr none) (h.carried.imports.onto j there);
        };
        functions = h.carried.functions;
        tables = h.carried.tables;
        memories = h.carried.memories;
        tags = h.carried.tags;
        globals = h.carried.globals;
        elements = h.carried.elements;
        data_segments = h.carried.data_segments;
        imports_apart = λ i j one two. h.carried.imports_apart i j (imports_live m n cs i one) (imports_live m n cs j two);
        apart = λ space no i j one two. h.carried.apart space no i j (live m n cs (space, i) one) (live m n cs (space, j) two);
        exports = h.carried.exports;
        start = h.carried.start;
      };
      bodies = h.bodies;
      in_place = h.in_place;
      imports_in_place = h.imports_in_place;
      table_segments = h.table_segments;
      memory_segments = h.memory_segments;
      section_roots = h.section_roots;
      customs = customs;
      producers = h.producers;
      own = own;
      items = λ x there. items x (live m n cs x there);
      added = added;
      locals = locals;
    },
    refl,
  )

-- ---- other custom sections alone

-- with these custom sections
abbrev pub with_customs : Abstract → List Custom → Abstract
with_customs m cs = record m { customs = cs }

module _ (m : Abstract) (cs : List Custom) where
  counted_same : (t : Bool) (x : Subject) → names_that_count t m x ≡ names_that_count t (with_customs m cs) x
  counted_same true TheModule = refl
  counted_same true (AnItem x) = refl
  counted_same true (ALocal f x) = refl
  counted_same false x = refl

  synthetic_same : (x : Subject) → synthetic_name m x ≡ synthetic_name (with_customs m cs) x
  synthetic_same TheModule = refl
  synthetic_same (AnItem (Types, i)) = refl
  synthetic_same (AnItem (Functions, i)) = refl
  synthetic_same (AnItem (Tables, i)) = refl
  synthetic_same (AnItem (Memories, i)) = refl
  synthetic_same (AnItem (Tags, i)) = refl
  synthetic_same (AnItem (Globals, i)) = refl
  synthetic_same (AnItem (Elements, i)) = refl
  synthetic_same (AnItem (DataSegments, i)) = refl
  synthetic_same (ALocal f x) = refl

  -- no name depends on custom sections
  same_name : (c : Config) (x : Subject) → name_of c m x ≡ name_of c (with_customs m cs) x
  same_name c x = ap₂ (λ (l : List Name) (o : Option Name). or_else (last_name l) (if c.synthetic_names then o else None)) (counted_same c.synthetic_names x) (synthetic_same x)

module _ (c : Config) (m v : Abstract) (cs : List Custom) (h : ParsedAs c m v) where
  pub customs_aside : ParsedAs c (with_customs m cs) (with_customs v cs)
  customs_aside = (parsed_aside c c m v m.named v.named cs cs refl h (h.own ∙ same_name m cs c TheModule) (λ x there. h.items x there ∙ same_name m cs c (AnItem x)) h.added (λ f b x is typed. h.locals f b x is typed ∙ same_name m cs c (ALocal f x))).0

  pub types_aside : customs_aside.types ≡ h.types
  unfolding customs_aside parsed_aside
  types_aside = refl

  pub renaming_aside : customs_aside.renaming ≡ h.renaming
  unfolding customs_aside parsed_aside
  renaming_aside = refl
