-- The call that makes an export name a function that traps, in a whole module.
use Rattle.std.proofs.Common.{◌≡◌, ℕ, Bool, true, false, List, Option, Some, None, IsSome, Result, Ok, Err, MatchResult, refl, sym, ap, ◌∙◌, subst, inl, inr, map, option_map}
use Rattle.std.specs.Prelude.{Contains, ◌&&◌, bytes_eq, option_and_then, IsErrOf}
use Rattle.std.specs.Option.{ok_or}
use Rattle.std.proofs.lemmas.Slice.Eq.{bytes_eq-Decides}
use Rattle.walrus.specs.Base.Arena.{entries, item_at, items}
use Rattle.walrus.specs.Base.Id.{place}
use Rattle.walrus.specs.Base.IdValue.{Id}
use Rattle.walrus.specs.Base.FunctionKey.{FunctionKey}
use Rattle.walrus.specs.Base.Operators.{Functions, Tables, Memories, Tags, Globals, Item, function_item}
use Rattle.walrus.specs.Items.Function.{function_type}
use Rattle.walrus.specs.Items.LocalFunction.{LocalFunction}
use Rattle.walrus.specs.Model.Abstract as abstract
use Rattle.walrus.specs.Model.Config.{Config}
use Rattle.walrus.specs.Model.Live.{IsLive}
use Rattle.walrus.proofs.Base.Lists.{Contains-map}
use Rattle.walrus.specs.Items.Errors.{out_of_memory}
use Rattle.walrus.specs.Items.Kinds.{exported}
use Rattle.walrus.specs.Items.Error.{Error}
use Rattle.walrus.specs.Items.Error.TheVariants as error
use Rattle.walrus.specs.Items.FunctionKind.{FunctionKind}
use Rattle.walrus.specs.Items.FunctionKind.TheVariants.{Import, Local, Uninitialized}
use Rattle.walrus.specs.Items.ExportItem.{ExportItem}
use Rattle.walrus.specs.Items.ExportItem.TheVariants as kinds
use Rattle.walrus.proofs.Items.ItemLemmas.{is_item-same, same-is_item}
use Rattle.walrus.specs.Items.Exports.{ExportValue, exported_function, exports, exports_item, function_named, is_function, is_function_named}
use Rattle.walrus.specs.Items.Functions.{FunctionValue, functions}
use Rattle.walrus.specs.Items.Searches.{first}
use Rattle.walrus.proofs.Base.SearchFound.{found-item, found-passes}
use Rattle.walrus.specs.Contents.View.{export_of, function, kind_of}
use Rattle.walrus.proofs.Model.Slots.{entry_in}
use Rattle.walrus.specs.Modules.Replaced.{IsReplaced, RefusesBody, ReplacesExported, ReplacesFound, ReplacesKind}
use Rattle.walrus.specs.Modules.View.{contents_of, held_view}
use Rattle.walrus.specs.Modules.Module.{Module}
use Rattle.walrus.proofs.Model.Looked.{differs}
use Rattle.walrus_tools.proofs.ExportedNames.{exported_so}
use Rattle.walrus_tools.proofs.ImportMatches.{finds}
use Rattle.walrus_examples.proofs.SnipStep.{snip_whole}
use Rattle.walrus_tools.proofs.StubCall.{traps}
use Rattle.walrus.proofs.Theorem.EditKept.{none_isnt, some_is}
use Rattle.walrus.specs.Edits.{IsWhole}
use Rattle.walrus_examples.specs.Snip.{Exports, IsKept, NamedBefore, SnipsIn}
use Rattle.walrus_examples.specs.SnipAnswers.{FindsNamed, IsNamedBefore, IsNamedFirst, RefusesSnip, Snips, SnipsHeld, first_named}
use Rattle.walrus_tools.specs.StubAnswers.{PutsTrap}
use Rattle.std.proofs.lemmas.Bool.{and_parts as both}

same_refusal : (x y : Error) → ◌≡◌ {A = Result (Id FunctionKey) Error} (Err x) (Err y) → x ≡ y
same_refusal x y e = cc

-- ---- which function is exported

-- what names the item of a function is a function's
a_function : (k : ExportItem) (n : ℕ) → exported k ≡ function_item n → (id : Id FunctionKey) × (k ≡ kinds.Function id) × (place id ≡ n)
a_function (kinds.Function f) n e = (f, refl, ap (λ (x : Item). x.1) e)
a_function (kinds.Table t) n e = absurd (let no_such : Tables ≡ Functions = ap (λ (x : Item). x.0) e in cc)
a_function (kinds.Memory m) n e = absurd (let no_such : Memories ≡ Functions = ap (λ (x : Item). x.0) e in cc)
a_function (kinds.Global g) n e = absurd (let no_such : Globals ≡ Functions = ap (λ (x : Item). x.0) e in cc)
a_function (kinds.Tag t) n e = absurd (let no_such : Tags ≡ Functions = ap (λ (x : Item). x.0) e in cc)

not_function : (k : ExportItem) → exported_function k ≡ None → is_function k ≡ true → ⊥
not_function (kinds.Function f) e is = none_isnt (sym e)
not_function (kinds.Table t) e is = let no_such : false ≡ true = is in cc
not_function (kinds.Memory m) e is = let no_such : false ≡ true = is in cc
not_function (kinds.Global g) e is = let no_such : false ≡ true = is in cc
not_function (kinds.Tag t) e is = let no_such : false ≡ true = is in cc

module _ (name : List ℕ) (all : List (Option ExportValue)) where
  abbrev among : Option (ℕ × ExportValue)
  among = first (is_function_named name) all

  -- what is found under the name is exported under it
  pub exports_named : (id : Id FunctionKey) → function_named name all ≡ Some id → (e : Exports name all) × (e.id ≡ id)
  exports_named id is =
      let x = exported_so name all id is in
      (record { at = x.at; value = x.value; there = x.there; named = x.named; id = id; is_function = x.is_function }, refl)

  -- where nothing is found none is exported
  pub exports_none : function_named name all ≡ None → Exports name all → ⊥
  exports_none none e = by among refl none where
    passes : is_function_named name e.value ≡ true
    passes = ap (λ (b : Bool). b && is_function e.value.item) ((bytes_eq-Decides e.value.name name).1 e.named) ∙ ap is_function e.is_function

    by : (o : Option (ℕ × ExportValue)) → among ≡ o → option_and_then (λ (d : ℕ × ExportValue). exported_function d.1.item) o ≡ None → ⊥
    by None found h = finds (λ (d : ℕ × ExportValue). is_function_named name d.1) (entries all) (e.at, e.value) (entry_in all e.at e.value e.there) passes found
    by (Some d) found h = not_function d.1.item h (both (bytes_eq d.1.name name) (is_function d.1.item) (found-passes (λ (d : ℕ × ExportValue). is_function_named name d.1) all d found)).1

  module _ (id : Id FunctionKey) where
    abbrev leads : Option (ℕ × ExportValue)
    leads = first (exports_item (function_item (place id))) all

    named_first_in : (o : Option (ℕ × ExportValue)) → leads ≡ o → first_named name o ≡ true → IsNamedFirst name all id
    named_first_in None found h = absurd (let no_such : false ≡ true = h in cc)
    named_first_in (Some e) found h = record { export = e; found = found; named = (bytes_eq-Decides e.1.name name).0 h }

    pub named_first : true ≡ first_named name leads → IsNamedFirst name all id
    named_first h = named_first_in leads refl (sym h)

    named_before_in : (x : Exports name all) → x.id ≡ id → (o : Option (ℕ × ExportValue)) → leads ≡ o → first_named name o ≡ false → NamedBefore x
    named_before_in x same None found h =
        let is : exported x.value.item ≡ function_item (place id) = ap exported x.is_function ∙ ap (λ (i : Id FunctionKey). function_item (place i)) same in
        absurd (finds (λ (d : ℕ × ExportValue). exports_item (function_item (place id)) d.1) (entries all) (x.at, x.value) (entry_in all x.at x.value x.there) (same-is_item (exported x.value.item) (function_item (place id)) is) found)
    named_before_in x same (Some e) found h = record {
      export_before = e;
      found = subst (λ (i : Id FunctionKey). first (exports_item (function_item (place i))) all ≡ Some e) (sym same) found;
      other = differs e.1.name name h;
    }

    pub named_before : function_named name all ≡ Some id → false ≡ first_named name leads → IsNamedBefore name all
    named_before is h = let x = exports_named id is in record { export = x.0; before = named_before_in x.0 x.1 leads refl (sym h) }

  found_in : (o : Option (Id FunctionKey)) (id : Id FunctionKey) → ◌≡◌ {A = Result (Id FunctionKey) Error} (Ok id) (ok_or o error.NotFound) → o ≡ Some id
  found_in None id e = absurd cc
  found_in (Some x) id e = let same : x ≡ id = cc in ap (λ (y : Id FunctionKey). Some y) same

  pub is_found : (id : Id FunctionKey) → Ok id ≡ ok_or (function_named name all) error.NotFound → function_named name all ≡ Some id
  is_found id e = found_in (function_named name all) id e

  not_found_in : (o : Option (Id FunctionKey)) → function_named name all ≡ o → (x : Error) → ◌≡◌ {A = Result (Id FunctionKey) Error} (Err x) (ok_or o error.NotFound) → FindsNamed name all (Err x)
  not_found_in None none x e = subst (λ (y : Error). FindsNamed name all (Err y)) (sym (same_refusal x error.NotFound e)) (exports_none none)
  not_found_in (Some f) found x e = absurd cc

  pub not_found : (x : Error) → Err x ≡ ok_or (function_named name all) error.NotFound → FindsNamed name all (Err x)
  not_found x e = not_found_in (function_named name all) refl x e

-- what the first export says of its name
pub first_told : (name : List ℕ) (v : ExportValue) (o : Option (ℕ × ExportValue)) → Some v ≡ option_map (λ (e : ℕ × ExportValue). e.1) o → bytes_eq v.name name ≡ first_named name o
first_told name v None e = absurd (none_isnt (sym e))
first_told name v (Some d) e = ap (λ (x : ExportValue). bytes_eq x.name name) (some_is e)

-- ---- the call

-- an export that stands there is exported
is_exported : (xs : List (Option ExportValue)) (p : ℕ) (e : ExportValue) → item_at xs p ≡ Some e → Contains (map export_of (items xs)) (export_of e)
is_exported xs p e at = Contains-map export_of e (items xs) (Contains-map (λ (d : ℕ × ExportValue). d.1) (p, e) _ (entry_in xs p e at))

module _ {S : Type 0} (name : List ℕ) (c : Config) (old new : Module S) (whole : IsWhole c old) where
  -- a refusal of the search is one of snipping
  pub search_refused : (e : Error) → FindsNamed name (exports old.exports) (Err e) → RefusesSnip name (contents_of old) e
  search_refused error.NotFound h = h
  search_refused error.NotReplaceable h = record { export = h.export; cause = inl h.before }
  search_refused _ h = absurd h

  module _ (id : Id FunctionKey) (is : IsNamedFirst name (exports old.exports) id) where
    abbrev e : ℕ × ExportValue
    e = is.export

    stands : item_at (exports old.exports) e.0 ≡ Some e.1
    stands = found-item (λ (d : ℕ × ExportValue). exports_item (function_item (place id)) d.1) (exports old.exports) e is.found

    its : (f : Id FunctionKey) × (e.1.item ≡ kinds.Function f) × (place f ≡ place id)
    its = a_function e.1.item (place id) (is_item-same (exported e.1.item) (function_item (place id)) (found-passes (λ (d : ℕ × ExportValue). exports_item (function_item (place id)) d.1) (exports old.exports) e is.found))

    abbrev export : Exports name (exports old.exports)
    export = record { at = e.0; value = e.1; there = stands; named = is.named; id = its.0; is_function = its.1 }

    module _ (f : FunctionValue) (there : item_at (functions old.funcs) (place id) ≡ Some f) where
      there_too : item_at (functions old.funcs) (place its.0) ≡ Some f
      there_too = ap (item_at (functions old.funcs)) its.2 ∙ there

      module _ (l : LocalFunction) (kind : f.kind ≡ Local l) (result : Id FunctionKey) (r : IsReplaced PutsTrap e l old new result) where
        its_items : SnipsIn name (functions old.funcs) (functions new.funcs) (exports old.exports) (exports new.exports)
        its_items = record {
          export = export;
          is_first = subst (λ (n : ℕ). first (exports_item (function_item n)) (exports old.exports) ≡ Some e) (sym its.2) is.found;
          old = f;
          there = there_too;
          body = l;
          has_body = kind;
          id = result;
          trap = r.function;
          typed = r.is_new.typed;
          takes = sym r.is_new.takes ∙ r.parameters;
          traps = traps (function_type l) r.args r.function r.is_new;
          no_handlers = r.is_new.handlers;
          behind = r.is_next;
          comes = r.funcs;
          named = r.exported;
        }

        done : Snips name old new × IsWhole c new
        done = (
          record { items = its_items; others = r.others },
          snip_whole c old new whole result e stands (place id) f there l kind r (traps (function_type l) r.args r.function r.is_new),
        )

      refused : (l : LocalFunction) (x : Error) → RefusesBody PutsTrap l x → x ≡ out_of_memory
      refused l x (inl memory) = memory
      refused l x (inr (args, parameters, (builder, built_so))) = built_so.called

      abbrev Answers : Result (Id FunctionKey) Error → Type 0
      Answers result = MatchResult result (λ i. Snips name old new × IsWhole c new) (RefusesSnip name (contents_of old))

      by_local : (l : LocalFunction) → f.kind ≡ Local l → (result : Result (Id FunctionKey) Error) → ReplacesKind PutsTrap e (Local l) old new result → Answers result
      by_local l kind (Ok i) r = done l kind i r
      by_local l kind (Err x) (why, same) = subst (RefusesSnip name (contents_of old)) (sym (refused l x why)) tt

      by_import : (result : Result (Id FunctionKey) Error) → IsErrOf result error.NotReplaceable → IsKept name (functions old.funcs) (exports old.exports) → Answers result
      by_import (Ok i) is_so kept = absurd (let no_such : ◌≡◌ {A = Result (Id FunctionKey) Error} (Ok i) (Err error.NotReplaceable) = is_so in cc)
      by_import (Err x) is_so kept = subst (RefusesSnip name (contents_of old)) (sym (same_refusal x error.NotReplaceable is_so)) kept

      by_kind : (k : FunctionKind) → f.kind ≡ k → (result : Result (Id FunctionKey) Error) → ReplacesKind PutsTrap e k old new result → Answers result
      by_kind (Local l) kind result r = by_local l kind result r
      by_kind (Import i) kind result (is_so, same) = by_import result is_so (record { export = export; cause = inr (record { function = f; there = there_too; imported = i; kind = kind }) })
      by_kind (Uninitialized ty) kind result r = absurd (whole.made.writable.initialised (place id) (function old.locals f) (ap (option_map (function old.locals)) there) (ap (λ (k : FunctionKind). kind_of old.locals k) kind))

    live : IsSome (option_map (function old.locals) (item_at (functions old.funcs) (place id)))
    live = subst (λ (n : ℕ). IsSome (option_map (function old.locals) (item_at (functions old.funcs) n))) its.2
        (subst (λ (x : Item). IsLive (held_view old) x) (ap exported its.1) (whole.made.rules.indices.exports (export_of e.1) (is_exported (exports old.exports) e.0 e.1 stands)))

    pub snips : (result : Result (Id FunctionKey) Error) → ReplacesExported PutsTrap id old new result → MatchResult result (λ i. Snips name old new × IsWhole c new) (RefusesSnip name (contents_of old))
    snips result h = by_slot (item_at (functions old.funcs) (place id)) refl (subst (λ (o : Option (ℕ × ExportValue)). ReplacesFound PutsTrap o (item_at (functions old.funcs) (place id)) old new result) is.found h) where
      by_slot : (o : Option FunctionValue) → item_at (functions old.funcs) (place id) ≡ o → ReplacesFound PutsTrap (Some e) o old new result → MatchResult result (λ i. Snips name old new × IsWhole c new) (RefusesSnip name (contents_of old))
      by_slot None there r = absurd (let no_such : IsSome {T = abstract.Function} None = subst (λ (o : Option FunctionValue). IsSome (option_map (function old.locals) o)) there live in cc)
      by_slot (Some f) there r = by_kind f there f.kind refl result r

pub snips_held : {S : Type 0} (name : List ℕ) (old new : Module S) → Snips name old new → SnipsHeld name (contents_of old) (contents_of new)
snips_held name old new snips = record { items = snips.items; others = ap contents_of snips.others }
