-- The module of indices that records make is what a module in memory is written as: all in order, no function that is left to be declared,
-- and an index for each item that is live.
use Rattle.std.proofs.Common.{◌≡◌, ℕ, map, List, [], refl, sym, ap, ◌∙◌, subst, arith, inl, inr, ⊎_elim}
use Rattle.std.specs.Prelude.{None, Contains, IsSome, Option, unwrap_or, ◌<◌}
use Rattle.walrus_base.specs.Operators.{Item, Types}
use Rattle.walrus_contents.specs.View.{parts_view}
use Rattle.walrus_contents.specs.declared.parts.Parts.{Parts}
use Rattle.walrus_items.specs.Imports.{imports}
use Rattle.walrus_model.specs.Abstract.{Abstract, Custom, Import}
use Rattle.walrus_model.specs.Carried.{Carried}
use Rattle.walrus_model.specs.Config.{Config}
use Rattle.walrus_model.specs.Customs.{AreIndices, written_customs}
use Rattle.walrus_model.specs.Declared.{IsUndeclared, Declares, NothingUndeclared}
use Rattle.walrus_model.specs.Kept.{IsImportOf}
use Rattle.walrus_model.specs.Live.{IsLive}
use Rattle.walrus_model.specs.Names.{own_name, WritesNames}
use Rattle.walrus_model.specs.Order.{Rises, ByImport}
use Rattle.walrus_model.specs.Out.{IsTheSegment, Written}
use Rattle.walrus_model.specs.Producers.{if_written}
use Rattle.walrus_model.specs.Renaming.{Renaming}
use Rattle.walrus_model.specs.Sections.{custom_of}
use Rattle.walrus_model.proofs.Arenas.{entries_rise}
use Rattle.walrus_model.proofs.Indices.{planned_indices}
use Rattle.walrus_base.proofs.Lists.{Contains-none}
use Rattle.walrus_model.proofs.Orders.{rises_in_order}
use Rattle.walrus_model.proofs.Planned.{planned_rises}
use Rattle.walrus_theorem.specs.Pinned.{IsWrittenAs}
use Rattle.walrus_plan.specs.Brought.{import_numbers}
use Rattle.walrus_writing.specs.Customs.{Task}
use Rattle.walrus_writing.specs.Emitted.{IsWrittenWith}
use Rattle.walrus_writing.specs.Records.{Records, names_written}
use Rattle.walrus_writing.proofs.NamesAre.{types_named, writes_names}
use Rattle.walrus_writing.proofs.CarriedOver.{pinned_locals}
use Rattle.walrus_writing.proofs.ImportsCarried.{imports_ordered}
use Rattle.walrus_writing.proofs.OwnCustoms.{CustomText, Say}
use Rattle.walrus_writing.proofs.OwnSaid.{own_said}
use Rattle.walrus_theorem.proofs.SameItems.{before_back, live_back, live_on, with_own}
use Rattle.walrus_writing.proofs.WithCustoms.{carried_with, module_with, text_with}
use Rattle.walrus_writing.proofs.WrittenAs.{renaming_of}

-- A module in memory is written as this, where each function that ref.func names is declared: nothing is written so far that would
-- declare it.
module _ (c : Config) (job : Task) (with : IsWrittenWith c job.choices) (p : Parts) (declared : NothingUndeclared (parts_view p)) (r : Records p job.choices.features) (e : CustomText) (say : Say p job.choices (names_written r job.choices) job.sections e) (own : List Custom) (roots : List Item) (asked : map custom_of job.sections ≡ written_customs (λ x. r.names x.0 x.1) own) where
  abbrev V : Abstract
  V = parts_view p

  abbrev W : Abstract
  W = with_own V own roots

  abbrev N : Abstract
  N = module_with r e

  abbrev R : Renaming
  R = renaming_of r

  import_back : (i : ℕ) → IsImportOf (IsLive W) W i → IsImportOf (IsLive V) V i
  import_back i k = (k.0, k.1, live_back V own roots k.0.item k.2)

  import_on : (i : ℕ) → IsImportOf (IsLive V) V i → IsImportOf (IsLive W) W i
  import_on i k = (k.0, k.1, live_on V own roots k.0.item k.2)

  carried : Carried (IsLive W) (IsTheSegment None) R W N
  carried = let k = carried_with r e in record {
    types = record { same = k.types.same; onto = k.types.onto };
    imports = record {
      same = λ i is. k.imports.same i (import_back i is);
      onto = λ j there. ⊎_elim (λ from. inl (from.0, import_on from.0 from.1, from.2)) (λ none. inr none) (k.imports.onto j there);
    };
    functions = record { same = k.functions.same; onto = k.functions.onto };
    tables = record { same = k.tables.same; onto = k.tables.onto };
    memories = record { same = k.memories.same; onto = k.memories.onto };
    tags = record { same = k.tags.same; onto = k.tags.onto };
    globals = record { same = k.globals.same; onto = k.globals.onto };
    elements = record { same = k.elements.same; onto = k.elements.onto };
    data_segments = record { same = k.data_segments.same; onto = k.data_segments.onto };
    imports_apart = λ i j a b same. k.imports_apart i j (import_back i a) (import_back j b) same;
    apart = λ space no_type i j a b same. k.apart space no_type i j (live_back V own roots (space, i) a) (live_back V own roots (space, j) b) same;
    exports = k.exports;
    start = k.start;
  }

  there : (i : ℕ) → IsImportOf (IsLive V) V i → IsSome (V.imports i)
  there i k = subst (λ (o : Option Import). IsSome o) (sym k.1) refl

  one_way : (i j : ℕ) → i < j → j < i → ⊥
  one_way i j first second = omega (arith, first, second)

  rises : Rises (IsLive W) (ByImport W) R (IsImportOf (IsLive W) W)
  rises = record {
    items = λ space no_type i j a b before. planned_rises r.names r.plan r.numbered V N r.is_plan R (λ s n. refl) space i j (live_back V own roots (space, i) a) (live_back V own roots (space, j) b) (before_back V own roots space i j before);
    imports = λ i j k l less. rises_in_order V.imports (import_numbers p) (imports_ordered p) R.imports (λ q n at. ap (λ (o : Option ℕ). unwrap_or o 0) at) (λ a b. a < b) one_way (entries_rise (imports p.imports.now)) i j (there i (import_back i k)) (there j (import_back j l)) less;
  }

  undeclared_back : (f : ℕ) → IsUndeclared (IsLive W) W f → IsUndeclared (IsLive V) V f
  undeclared_back f u = record { named = u.named; not_exported = u.not_exported; not_listed = u.not_listed }

  -- nothing is left to be declared
  declares : Declares (IsLive W) R W N None
  declares = record {
    functions = [];
    undeclared = record {
      rising = λ i j d h within. absurd (omega (arith, within));
      are = λ f. (λ (n : Contains [] f). absurd (Contains-none f n), λ (u : IsUndeclared (IsLive W) W f). absurd (declared f (undeclared_back f u)));
    };
    declared = refl;
  }

  indexed : AreIndices W R (λ x. r.names x.0 x.1)
  indexed = let k = planned_indices r.names r.plan V R r.numbered r.is_plan (λ s i. refl) in record {
    live = λ x live. k.live x (live_back V own roots x live);
    dead = λ x dead. k.dead x (λ live. dead (live_on V own roots x live));
  }

  written_so : Written c W N
  written_so = record {
    renaming = R;
    segment = None;
    indices = λ x. r.names x.0 x.1;
    carried = carried;
    rises = rises;
    declares = declares;
    names = subst (λ b. WritesNames b (own_name W) (IsLive W) R W N) with.names_are (writes_names r job.choices e say.names_are own roots);
    producers = say.producers_are ∙ ap (λ b. if_written b V.producers) with.producers_are;
    indexed = indexed;
    customs = own_said (text_with r e) say.dylinks say.others ∙ ap (map custom_of) (sym say.split) ∙ asked;
  }

  pub written_as_said : IsWrittenAs c W N
  unfolding written_so
  written_as_said = record {
    written = written_so;
    pinned = record {
      types_rise = λ i j a b less. planned_rises r.names r.plan r.numbered V N r.is_plan R (λ s n. refl) Types i j a b less;
      type_names = λ names. types_named r job.choices e say.names_are (with.names_are ∙ names);
      locals = pinned_locals r;
    };
  }

  -- under the numbering of the records
  pub renaming_said : written_as_said.written.renaming ≡ R
  unfolding written_as_said written_so
  renaming_said = refl
