-- A module of one function that does nothing and is exported, with any names, producers and custom sections: the rules, and the steps.
use Rattle.std.proofs.Common.{◌≡◌, ◌≢◌, ℕ, zero, suc, ◌<◌, ◌≤◌, true, List, [], ◌∷◌, length, refl, sym, ap, ◌∙◌, subst, arith, inl, inr, ⊎_elim}
use Rattle.std.specs.Prelude.{Some, None, Contains, codes}
use Rattle.std.proofs.lemmas.List.Elements.{All-nil}
use Rattle.std.proofs.lemmas.List.Kept.{AllPairs-cons}
use Rattle.walrus_base.specs.Types.{comp_names}
use Rattle.walrus_base.specs.Operators as items
use Rattle.walrus_base.specs.Operators.{Types, Functions, Tables, Memories, Globals, Elements, DataSegments, Item, Block, OfType, Op}
use Rattle.walrus_bodies.specs.Blocks.{are_nested}
use Rattle.walrus_bodies.specs.Features.{are_allowed}
use Rattle.walrus_model.specs.Abstract.{Abstract, Name, Subject, AnItem, ProducerField, TypeDef, Function, Body, Export, Custom}
use Rattle.walrus_model.specs.Config.{Config}
use Rattle.walrus_model.specs.Customs.{written_customs}
use Rattle.walrus_model.specs.Declared.{ref_func, IsRefInBody, IsRefInGlobal}
use Rattle.walrus_model.specs.Live.{IsLive}
use Rattle.walrus_model.specs.Names.{body_of, body_of_function, body_of_kind, own_name, name_of, WritesNames}
use Rattle.walrus_model.specs.Out.{IsTheSegment}
use Rattle.walrus_model.specs.Producers.{produced, if_written}
use Rattle.walrus_model.specs.Reached.{Reached, root}
use Rattle.walrus_model.specs.Refers.{written_in, IsUsed}
use Rattle.walrus_model.specs.Renaming.{unchanged}
use Rattle.walrus_model.specs.Roots.{exported}
use Rattle.walrus_model.specs.Rules.{Holds, IsFunctionType}
use Rattle.walrus_model.proofs.Examples.{only_one}
use Rattle.walrus_base.proofs.Lists.{Contains-head, Contains-none}
use Rattle.walrus_theorem.specs.Chain.{BringsTo}
use Rattle.walrus_theorem.specs.Features.{features_of}
use Rattle.walrus_theorem.specs.Pinned.{IsWrittenAs, LocalGoesBefore}
use Rattle.walrus_theorem.specs.Spelling.{UsesAll, NeedsCount}
use Rattle.walrus_theorem.specs.SpelledLaws.{BodiesNest}
use Rattle.walrus_theorem.proofs.NeedsBase.{given, are_given, declares_none, NamesNone}
use Rattle.walrus_theorem.proofs.Runs.{brings_itself}
use Rattle.walrus_theorem.proofs.WorkedSingle.{nothing_there, the_body, the_function, single, function_at, body_at, all_carried, all_rises, parsed, single_parsed, single_collected}
use Rattle.walrus_theorem.proofs.WorkedWritten.{the_type}

abbrev pub just_end : List Op
just_end = record { op = 0x0B; args = [] } ∷ []

abbrev pub f_exported : List Export
f_exported = record { name = codes "f"; item = (Functions, 0) } ∷ []

abbrev pub empty_function : List Custom → List ProducerField → (Subject → List Name) → Abstract
empty_function = single just_end f_exported None [] []

no_ref : (f : ℕ) → Contains just_end (ref_func f) → ⊥
no_ref f at = differ 0x0B 0xD2 (omega arith) (ap (λ (o : Op). o.op) (only_one (record { op = 0x0B; args = [] }) (ref_func f) at))
  where
    differ : (a b : ℕ) → a < b → a ≡ b → ⊥
    differ a b l e = omega (arith, l, e)

module _ (customs : List Custom) (producers : List ProducerField) (named : Subject → List Name) where
  abbrev m : Abstract
  m = empty_function customs producers named

  at_function : (f : ℕ) (g : Function) → m.functions f ≡ Some g → the_function just_end f_exported None ≡ g
  at_function = function_at just_end f_exported None [] [] customs producers named

  at_body : (f : ℕ) (b : Body) → body_of m f ≡ Some b → the_body just_end f_exported None ≡ b
  at_body = body_at just_end f_exported None [] [] customs producers named

  at_type : (t : ℕ) (x : TypeDef) → m.types t ≡ Some x → the_type ≡ x
  at_type zero x e = cc
  at_type (suc t) x e = absurd (nothing_there x e)

  pub empty_uses : (f : ℕ) (b : Body) → body_of m f ≡ Some b → UsesAll b
  empty_uses f b e = subst UsesAll (at_body f b e) (λ x low high. absurd (omega (arith, low, high)))

  pub empty_needs_no_count : NeedsCount m → ⊥
  empty_needs_no_count (inl (d, p)) = p
  empty_needs_no_count (inr (zero, (d, at))) = Contains-none _ at
  empty_needs_no_count (inr (suc f, (d, at))) = at

  pub empty_nests : (c : Config) → BodiesNest c m
  empty_nests c f g b is kind = subst (λ (d : Body). (are_nested d.operators ≡ true) × (are_allowed (features_of c) d.operators ≡ true)) (at_body f b (ap body_of_function is ∙ ap body_of_kind kind)) (refl, refl)

  written_live : (x y : Item) → Contains (written_in m x) y → IsLive m y
  written_live (Types, zero) y at = subst (IsLive m) (only_one (Types, 0) y at) refl
  written_live (Types, suc i) y at = absurd (Contains-none y at)
  written_live (Functions, zero) y at = subst (IsLive m) (only_one (Types, 0) y at) refl
  written_live (Functions, suc i) y at = absurd (Contains-none y at)
  written_live (Tables, i) y at = absurd (Contains-none y at)
  written_live (Memories, i) y at = absurd (Contains-none y at)
  written_live (items.Tags, i) y at = absurd (Contains-none y at)
  written_live (Globals, i) y at = absurd (Contains-none y at)
  written_live (Elements, i) y at = absurd (Contains-none y at)
  written_live (DataSegments, i) y at = absurd (Contains-none y at)

  no_block_arg : (t : ℕ) (o : Op) → Contains just_end o → Contains o.args (Block (OfType t)) → ⊥
  no_block_arg t o at block = Contains-none (Block (OfType t)) (subst (λ (p : Op). Contains p.args (Block (OfType t))) (sym (only_one (record { op = 0x0B; args = [] }) o at)) block)

  abbrev DifferentNames : Export → Export → Type 0
  DifferentNames d e = d.name ≢ e.name

  pub empty_holds : Holds m
  empty_holds = record {
    types = record {
      one_supertype = λ t x e. subst (λ (y : TypeDef). length y.sub.supertypes ≤ 1) (at_type t x e) (omega arith);
      supertypes = λ t u x e at. absurd (Contains-none u (subst (λ (y : TypeDef). Contains y.sub.supertypes u) (sym (at_type t x e)) at));
      others = λ t u x e at. absurd (Contains-none u (subst (λ (y : TypeDef). Contains (comp_names y.sub.comp) u) (sym (at_type t x e)) at));
    };
    indices = record {
      written = written_live;
      locals = λ f b x e at. absurd (Contains-none x (subst (λ (d : Body). IsUsed d x) (sym (at_body f b e)) at));
      exports = λ e at. subst (λ (d : Export). IsLive m d.item) (only_one (record { name = codes "f"; item = (Functions, 0) }) e at) refl;
      start = λ f e. absurd (nothing_there f e);
      tables = λ i g t ops e is at. absurd (nothing_there t e);
      globals = λ i g x ops e is at. absurd (nothing_there x e);
    };
    function_types = record {
      functions = λ i f e. subst (λ (g : Function). IsFunctionType m g.ty) (at_function i f e) (the_type, refl, tt);
      tags = λ i t e. absurd (nothing_there t e);
      blocks = λ f t b o e at block. absurd (no_block_arg t o (subst (λ (d : Body). Contains d.operators o) (sym (at_body f b e)) at) block);
    };
    limits = record { tables = λ i t e. absurd (nothing_there t e); memories = λ i x e. absurd (nothing_there x e) };
    exports = record {
      distinct = AllPairs-cons DifferentNames (record { name = codes "f"; item = (Functions, 0) }) [] (All-nil _) (λ i j d less at. absurd (omega arith));
      start = λ i f is at. absurd (nothing_there i is);
    };
    offsets = record { elements = λ i table e t offset is kind at. absurd (nothing_there e is); data_segments = λ i memory d x offset is kind at. absurd (nothing_there d is) };
    locals = λ f b e. subst (λ (d : Body). d.declared ≤ 50_000) (at_body f b e) (omega arith);
  }

  names_none : NamesNone m
  names_none f u = ⊎_elim
      (λ (h : IsRefInBody (IsLive m) m f). no_ref f (subst (λ (b : Body). Contains b.operators (ref_func f)) (sym (at_body h.0 h.1 h.3)) h.4))
      (λ (h : IsRefInGlobal (IsLive m) m f). nothing_there h.1 h.4)
      u.named

  no_local : (f : ℕ) (b : Body) (x y : ℕ) → body_of m f ≡ Some b → LocalGoesBefore b x y → ⊥
  no_local f b x y e g =
      let here : LocalGoesBefore (the_body just_end f_exported None) x y = subst (λ (d : Body). LocalGoesBefore d x y) (sym (at_body f b e)) g in
      nothing_there here.0 here.1.1.0

-- ---- the steps: all of it is parsed and kept, and no segment is added

module _ (c : Config) (customs : List Custom) (producers : List ProducerField) (named : Subject → List Name) where
  abbrev read : Abstract
  read = empty_function customs producers named

  abbrev pub in_memory : Abstract
  in_memory = parsed just_end f_exported None c customs producers named

  reached : Reached in_memory (Functions, 0)
  reached = root (Functions, 0) (exported (record { name = codes "f"; item = (Functions, 0) }) (Contains-head (record { name = codes "f"; item = (Functions, 0) }) []) refl)

  pub empty_brings : ((i : ℕ) → 1 ≤ i → name_of c read (AnItem (Types, i)) ≡ None) → BringsTo c read in_memory
  empty_brings unnamed = brings_itself c read in_memory in_memory
      (single_parsed just_end f_exported None c customs producers named refl refl unnamed)
      (single_collected just_end f_exported None c customs producers named reached)
      (names_none customs in_memory.producers in_memory.named)

  module _ (others : List Custom) (fields : List ProducerField) (names : Subject → List Name) where
    abbrev written : Abstract
    written = empty_function others fields names

    pub empty_written :
        WritesNames c.writes_names (own_name in_memory) (IsLive in_memory) unchanged in_memory written
        → (c.writes_names ≡ true → (i : ℕ) → IsLive in_memory (Types, i) → own_name written (AnItem (Types, i)) ≡ own_name in_memory (AnItem (Types, i)))
        → fields ≡ if_written c.writes_producers (produced producers)
        → others ≡ written_customs (given in_memory unchanged) customs
        → IsWrittenAs c in_memory written
    empty_written has_names type_names has_fields has_customs = record {
      written = record {
        renaming = unchanged;
        segment = None;
        indices = given in_memory unchanged;
        carried = all_carried just_end f_exported None [] [] customs in_memory.producers in_memory.named (λ x. IsTheSegment None x) [] others fields names;
        rises = all_rises just_end f_exported None [] [] customs in_memory.producers in_memory.named;
        declares = declares_none in_memory written unchanged (names_none customs in_memory.producers in_memory.named);
        names = has_names;
        producers = has_fields;
        indexed = are_given in_memory unchanged;
        customs = has_customs;
      };
      pinned = record {
        types_rise = λ i j li lj less. less;
        type_names = type_names;
        locals = λ f b x y e dx dy g. absurd (no_local customs in_memory.producers in_memory.named f b x y e g);
      };
    }
