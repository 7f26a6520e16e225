-- A module in the form in which modules are written is what is written of it.
use Rattle.std.proofs.Common.{◌≡◌, ℕ, ◌<◌, Bool, false, true, [], refl, sym, ap, ◌∙◌, arith}
use Rattle.std.specs.Prelude.{Some, None, if◌then◌else◌}
use Rattle.walrus_base.specs.Operators.{Space, Types, Functions, Tables, Memories, Tags, Globals, Elements, DataSegments, Item}
use Rattle.walrus_model.specs.Abstract.{Abstract, Indices, Subject, TheModule, AnItem, ALocal}
use Rattle.walrus_model.specs.Carried.{Carried}
use Rattle.walrus_model.specs.Config.{Config}
use Rattle.walrus_model.specs.Customs.{no_indices, AreIndices}
use Rattle.walrus_model.specs.Declared.{Declares}
use Rattle.walrus_model.specs.Live.{IsLive}
use Rattle.walrus_model.specs.Names.{own_name, last_name, name_of, names_that_count, or_else, synthetic_name, MayBeNamed, AreNamed, WritesNames}
use Rattle.walrus_model.specs.Order.{ByImport}
use Rattle.walrus_model.specs.Out.{IsTheSegment, Written}
use Rattle.walrus_model.specs.Renaming.{unchanged}
use Rattle.walrus_theorem.specs.Namings.{has}
use Rattle.walrus_theorem.specs.Pinned.{IsWrittenAs}
use Rattle.walrus_theorem.specs.SettledForm.{IsWrittenForm}
use Rattle.walrus_base.proofs.Lists.{Contains-none}
use Rattle.walrus_theorem.proofs.AgainKept.{live_there, live_back, nothing_again}
use Rattle.walrus_theorem.proofs.AgainOrder.{others_rise}
use Rattle.walrus_theorem.proofs.AgainParsed.{again, carried_by, last_as_list, wanted_is}
use Rattle.walrus_theorem.proofs.AgainRead.{IsReadWell}
use Rattle.walrus_theorem.proofs.Plain.{wanted}
use Rattle.walrus_model.proofs.SettleNames.{or_none}
use Rattle.walrus_theorem.proofs.StepOut.{customs_same}
use Rattle.std.proofs.lemmas.Bool.{false_from_ne_true as not_true}

-- a type has the name that it was given
type_named : (c : Config) (n : Abstract) (i : ℕ) → own_name n (AnItem (Types, i)) ≡ name_of c n (AnItem (Types, i))
type_named c n i = by c.synthetic_names where
  by : (t : Bool) → own_name n (AnItem (Types, i)) ≡ or_else (last_name (names_that_count t n (AnItem (Types, i)))) (if t then synthetic_name n (AnItem (Types, i)) else None)
  by true = sym (or_none (own_name n (AnItem (Types, i))))
  by false = sym (or_none (own_name n (AnItem (Types, i))))

module _ (c : Config) (n : Abstract) (form : IsWrittenForm c n) (well : IsReadWell c n) where
  abbrev A : Abstract
  A = again c n form well

  -- ---- carried

  carried_again : Carried (IsLive A) (IsTheSegment None) unchanged A n
  carried_again = let h = carried_by c n form well (IsLive A) (IsTheSegment None) (live_there c n form well) (live_back c n form well) in record {
    types = h.types;
    imports = h.imports;
    functions = h.functions;
    tables = h.tables;
    memories = h.memories;
    tags = h.tags;
    globals = h.globals;
    elements = h.elements;
    data_segments = h.data_segments;
    imports_apart = h.imports_apart;
    apart = h.apart;
    exports = h.exports;
    start = h.start;
  }

  -- in A as in n
  rises_again : (space : Space) → (space ≡ Types → ⊥) → (i j : ℕ) → IsLive A (space, i) → IsLive A (space, j) → ByImport A space i j → i < j
  rises_again Types other i j hi hj h = absurd (other refl)
  rises_again Functions other i j hi hj h = form.order i j h
  rises_again Tables other i j hi hj h = others_rise n well.plain Tables other (λ e. absurd (cc)) i j hi hj h
  rises_again Memories other i j hi hj h = others_rise n well.plain Memories other (λ e. absurd (cc)) i j hi hj h
  rises_again Tags other i j hi hj h = others_rise n well.plain Tags other (λ e. absurd (cc)) i j hi hj h
  rises_again Globals other i j hi hj h = others_rise n well.plain Globals other (λ e. absurd (cc)) i j hi hj h
  rises_again Elements other i j hi hj h = h
  rises_again DataSegments other i j hi hj h = h

  declares_none : Declares (IsLive A) unchanged A n None
  declares_none = record {
    functions = [];
    undeclared = record { rising = λ i j d lt below. absurd (omega (arith, below)); are = λ h. ((λ at. absurd (Contains-none h at)), (λ u. absurd (nothing_again c n form well h u))) };
    declared = refl;
  }

  -- ---- names

  own_again : (y : Subject) → own_name A y ≡ wanted c n y
  own_again y = last_as_list (wanted c n y)

  item_again : (x : Item) → IsLive n x → own_name n (AnItem x) ≡ name_of c n (AnItem x) → own_name n (AnItem x) ≡ own_name A (AnItem x)
  item_again x live is = is ∙ sym (own_again (AnItem x) ∙ wanted_is c n form well x live)

  may_again : (y : Subject) → MayBeNamed (IsLive n) unchanged n y → MayBeNamed (IsLive A) unchanged A y
  may_again TheModule may = tt
  may_again (AnItem (Types, i)) may = tt
  may_again (AnItem (Functions, i)) (x, live, is) = (x, live_there c n form well x live, is)
  may_again (AnItem (Tables, i)) (x, live, is) = (x, live_there c n form well x live, is)
  may_again (AnItem (Memories, i)) (x, live, is) = (x, live_there c n form well x live, is)
  may_again (AnItem (Tags, i)) (x, live, is) = (x, live_there c n form well x live, is)
  may_again (AnItem (Globals, i)) (x, live, is) = (x, live_there c n form well x live, is)
  may_again (AnItem (Elements, i)) (x, live, is) = (x, live_there c n form well x live, is)
  may_again (AnItem (DataSegments, i)) (x, live, is) = (x, live_there c n form well x live, is)
  may_again (ALocal h y) may = may

  named_again : AreNamed (name_of c n) (IsLive n) unchanged n n → AreNamed (own_name A) (IsLive A) unchanged A n
  named_again named = record {
    module_name = named.module_name ∙ sym (own_again TheModule);
    items = λ x live nt. let here = live_back c n form well x live in item_again x here (named.items x here nt);
    locals = λ h b x live at used. named.locals h b x live at used ∙ sym (own_again (ALocal h x));
    only = λ y is. may_again y (named.only y is);
  }

  names_by : (t : Bool) → WritesNames t (name_of c n) (IsLive n) unchanged n n → WritesNames t (own_name A) (IsLive A) unchanged A n
  names_by true h = named_again h
  names_by false h = h

  -- ---- indices

  abbrev indices : Indices
  indices x = if has n x then Some x.1 else None

  has_live : (x : Item) → IsLive n x → has n x ≡ true
  has_live (Types, i) h = h
  has_live (Functions, i) h = h
  has_live (Tables, i) h = h
  has_live (Memories, i) h = h
  has_live (Tags, i) h = h
  has_live (Globals, i) h = h
  has_live (Elements, i) h = h
  has_live (DataSegments, i) h = h

  live_has : (x : Item) → has n x ≡ true → IsLive n x
  live_has (Types, i) h = h
  live_has (Functions, i) h = h
  live_has (Tables, i) h = h
  live_has (Memories, i) h = h
  live_has (Tags, i) h = h
  live_has (Globals, i) h = h
  live_has (Elements, i) h = h
  live_has (DataSegments, i) h = h

  are_indices : AreIndices A unchanged indices
  are_indices = record {
    live = λ x h. ap (λ (b : Bool). if b then Some x.1 else None) (has_live x (live_back c n form well x h));
    dead = λ x none. ap (λ (b : Bool). if b then Some x.1 else None) (not_true (has n x) (λ h. none (live_there c n form well x (live_has x h))));
  }

  -- ---- all

  abbrev written : Written c A n
  written = record {
    renaming = unchanged;
    segment = None;
    indices = indices;
    carried = carried_again;
    rises = record { items = rises_again; imports = λ i j a b less. less };
    declares = declares_none;
    names = names_by c.writes_names form.names;
    producers = form.producers;
    indexed = are_indices;
    customs = well.customs ∙ customs_same no_indices indices n.customs well.plain.customs;
  }

  pub written_again : IsWrittenAs c A n
  written_again = record {
    written = written;
    pinned = record {
      types_rise = λ i j a b less. less;
      type_names = λ e i live. item_again (Types, i) live (type_named c n i);
      locals = λ h b x y at dx dy before. well.locals h b at x y dx dy before;
    };
  }
