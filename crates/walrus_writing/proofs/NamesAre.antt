-- What is named in the module that parts are written as: each item and each used local by its own name, and nothing else.
use Rattle.std.proofs.Common.{⊎_elim, ◌≡◌, ℕ, zero, suc, ◌+◌, Bool, true, false, List, [], ◌∷◌, ◌++◌, map, refl, sym, ap, ◌∙◌, subst, Some, None}
use Rattle.std.specs.Prelude.{Contains, IsSome, Option, nat_eq, option_and_then, option_to_list, slice_get, unwrap_or, if◌then◌else◌}
use Rattle.std.specs.List.{IsDistinct}
use Rattle.std.proofs.lemmas.Bool.{cases_lt, eqb-true}
use Rattle.std.proofs.lemmas.Bool.Decides.{Decides-eqb}
use Rattle.std.proofs.lemmas.Cmp.{nat_eq_equiv}
use Rattle.std.proofs.lemmas.Map.Made.{IsDistinct-from_AllPairs}
use Rattle.std.proofs.lemmas.Map.Views.{Contains-from_any, list_any-from_Contains}
use Rattle.wasm_payloads.specs.declared.naming.NameSpace.{NameSpace}
use Rattle.wasm_payloads.specs.declared.naming.NameSpace.TheVariants as spaces
use Rattle.walrus_base.specs.Arena.{item_at}
use Rattle.walrus_base.specs.Locals.{locals}
use Rattle.walrus_base.specs.Operators.{Space, Types, Functions, Tables, Memories, Tags, Globals, Elements, DataSegments, Item, locals_of}
use Rattle.walrus_base.specs.declared.locals.Local.{Local}
use Rattle.walrus_bodies.specs.declared.features.Features.{Features}
use Rattle.walrus_items.specs.Function.{body_of as ops_in, args_of}
use Rattle.walrus_functions.specs.EmittedBody.{is_used}
use Rattle.walrus_functions.proofs.WrittenLemmas.{all_differ}
use Rattle.walrus_contents.specs.View.{body, parts_view}
use Rattle.walrus_contents.specs.declared.parts.Parts.{Parts}
use Rattle.walrus_model.specs.Abstract.{Abstract, ALocal, AnItem, Body, Custom, Name, Subject, TheModule}
use Rattle.walrus_model.specs.Live.{IsLive}
use Rattle.walrus_model.specs.Names.{AreNamed, IsNoType, MayBeNamed, WritesNames, body_of, body_of_function, last_name, own_name}
use Rattle.walrus_model.specs.Refers.{IsUsed}
use Rattle.walrus_model.specs.Renaming.{Renaming, renamed}
use Rattle.walrus_model.proofs.Indices.{found_at, planned_index, planned_stands}
use Rattle.walrus_base.proofs.Standing.{got_where, some_inj, stands_at}
use Rattle.walrus_writing.specs.Names.{filled, if_chosen, item_name, local_name, local_names, used_among}
use Rattle.walrus_writing.proofs.PlacedNames.{given, given_filled, gives_at, item_of_map, item_through, looked_entries, none_below, none_some}
use Rattle.walrus_theorem.specs.Examples.{no_names}
use Rattle.walrus_theorem.specs.Namings.{is_in_range, names_given, names_in_range, space_of}
use Rattle.walrus_theorem.specs.Text.{NameMap, NameText, namings_of}
use Rattle.walrus_theorem.proofs.OneName.{looked, looked_at, looked_in}
use Rattle.walrus_writing.specs.Parts.{source}
use Rattle.walrus_writing.specs.Records.{Records, names_written}
use Rattle.walrus_writing.specs.declared.write.Choices.{Choices}
use Rattle.walrus_theorem.proofs.OneNaming.{all_given, item_given, local_given, module_given}
use Rattle.walrus_theorem.proofs.OneSpelling.{names_told}
use Rattle.walrus_writing.proofs.NamesStand.{all_names, all_there, among_get, is_map, local_at, maps, named_in, names_of}
use Rattle.walrus_writing.proofs.OwnCustoms.{CustomText}
use Rattle.walrus_writing.proofs.Parted.{body_among}
use Rattle.walrus_writing.proofs.SameBodies.{placed}
use Rattle.walrus_theorem.proofs.SameItems.{live_back, live_on, with_own}
use Rattle.walrus_writing.proofs.UsedRows.{IsAt, at_place, first, planned, used}
use Rattle.walrus_writing.proofs.WithCustoms.{carried_with, module_with, text_with}
use Rattle.walrus_writing.proofs.WrittenAs.{renaming_of}
use Rattle.walrus_theorem.proofs.ManyLocals.{gap as rest_of}
use Rattle.walrus_theorem.proofs.ReadPlain.{no_names as none_given}

-- ---- lists

among_step : (z : ℕ) (b : Bool) (ids : List ℕ) (us : List Bool) (y : ℕ) → item_at (used_among (z ∷ ids) (b ∷ us)) (suc y) ≡ item_at (used_among ids us) y
among_step z true ids us y = refl
among_step z false ids us y = refl

among_head : (z : ℕ) (b : Bool) (ids : List ℕ) (us : List Bool) → item_at (used_among (z ∷ ids) (b ∷ us)) 0 ≡ (if b then Some z else None)
among_head z true ids us = refl
among_head z false ids us = refl

-- what stands among the used ones is a used one
module _ (test : ℕ → Bool) where
  used_at : (ids : List ℕ) (y x : ℕ) → slice_get ids y ≡ Some x → item_at (used_among ids (map test ids)) y ≡ (if test x then Some x else None)
  used_at [] y x e = none_some x e
  used_at (z ∷ ids) zero x e = among_head z (test z) ids (map test ids) ∙ ap (λ (n : ℕ). if test n then Some n else None) (some_inj z x e)
  used_at (z ∷ ids) (suc y) x e = among_step z (test z) ids (map test ids) y ∙ used_at ids y x e

  by_test : (b : Bool) (x z : ℕ) → (if b then Some x else None) ≡ Some z → b ≡ true
  by_test true x z e = refl
  by_test false x z e = none_some z e

  is_tested : (ids : List ℕ) (y x : ℕ) → item_at (used_among ids (map test ids)) y ≡ Some x → test x ≡ true
  is_tested ids y x e =
      let at : slice_get ids y ≡ Some x = among_get ids (map test ids) y x e in
      by_test (test x) x x (sym (used_at ids y x at) ∙ e)

-- ---- the names of a module

if_there : (b : Bool) (names : List Name) → IsSome (last_name (if b then names else [])) → b ≡ true
if_there true names h = refl
if_there false names h = absurd cc

module _ {p : Parts} {features : Features} (r : Records p features) where
  abbrev V : Abstract
  V = parts_view p

  abbrev R : Renaming
  R = renaming_of r

  abbrev L : List (Option Local)
  L = locals p.locals.now

  -- the name of an item is what is given to it
  named_item : (s : Space) (i : ℕ) → option_to_list (item_name p s i) ≡ V.named (AnItem (s, i))
  named_item Types i = refl
  named_item Functions i = refl
  named_item Tables i = refl
  named_item Memories i = refl
  named_item Tags i = refl
  named_item Globals i = refl
  named_item Elements i = refl
  named_item DataSegments i = refl

  -- ---- the maps of functions

  -- what a function's map gives to a local
  local_looked : {k i : ℕ} (a : IsAt r k i) (y : ℕ) → looked_at (all_names r).locals (first r + k) y ≡ option_to_list (item_at (names_of r a) y)
  local_looked {k} a y =
      gives_at (looked_in y) (first r) k (first r + k) (maps r) refl
      ∙ ap (given (looked_in y)) (item_of_map (λ u. filled (local_names L u)) (used r) k _ a.used_at)
      ∙ given_filled y _
      ∙ ap (λ (names : NameMap). looked names y) (named_in r a _ a.used_at)
      ∙ looked_entries (names_of r a) y

  -- the index of its function
  function_index : {k i : ℕ} → IsAt r k i → R.numbers Functions i ≡ first r + k
  function_index {k} {i} a = ap (λ (o : Option ℕ). unwrap_or o 0) (planned_index r.numbered r.is_plan Functions i (first r + k) (planned r k i a.own_at))

  -- the locals of a function in their order
  abbrev all_in : {k i : ℕ} → IsAt r k i → List ℕ
  all_in a = args_of a.row.has.local ++ a.row.has.written.order

  differ : {k i : ℕ} (a : IsAt r k i) → IsDistinct nat_eq (all_in a)
  differ a =
      let s = source p r.names features a.row.has.local in
      all_differ s a.row.has.written.order a.row.has.written.declared (IsDistinct-from_AllPairs Decides-eqb s.parameters a.row.has.written.fits.distinct)

  -- a local that stands at a place has that index
  local_index : {k i : ℕ} (a : IsAt r k i) (y x : ℕ) → slice_get a.row.has.ids y ≡ Some x → R.locals i x ≡ y
  local_index a y x at =
      a.row.locals_at x
      ∙ ap (λ (o : Option ℕ). unwrap_or o 0) (stands_at (all_in a) x y (differ a) (sym (ap (λ (l : List ℕ). slice_get l y) a.row.has.written.listed) ∙ at))

  -- whether its operators name a local
  abbrev test_in : {k i : ℕ} → IsAt r k i → ℕ → Bool
  test_in a = is_used (source p r.names features a.row.has.local)

  flags : {k i : ℕ} (a : IsAt r k i) (y : ℕ) → item_at (used_among a.row.has.ids a.row.has.used) y ≡ item_at (used_among a.row.has.ids (map (test_in a) a.row.has.ids)) y
  flags a y = ap (λ (us : List Bool). item_at (used_among a.row.has.ids us) y) a.row.has.written.uses

  -- the name of a used local
  local_named : {k i : ℕ} (a : IsAt r k i) (x : ℕ) → Contains (locals_of (ops_in a.row.has.local)) x → item_at (names_of r a) (R.locals i x) ≡ local_name L x
  local_named a x u =
      let w = a.row in
      let q = placed r _ w.t w.bytes w.has w.typed w.locals_at x u in
      let at : slice_get w.has.ids q.k ≡ Some x = ap (λ (l : List ℕ). slice_get l q.k) w.has.written.listed ∙ found_at (all_in a) x q.k q.at in
      let stands : item_at (used_among w.has.ids w.has.used) q.k ≡ Some x =
      flags a q.k ∙ used_at (test_in a) w.has.ids q.k x at ∙ ap (λ (b : Bool). if b then Some x else None) (list_any-from_Contains nat_eq_equiv x (locals_of (ops_in w.has.local)) u) in
      ap (item_at (names_of r a)) q.is
      ∙ item_through (local_name L) (used_among w.has.ids w.has.used) q.k
      ∙ ap (option_and_then (local_name L)) stands

  module _ (e : CustomText) where
    abbrev N : Abstract
    N = module_with r e

    module _ (same : e.names ≡ all_names r) where
      -- what is named
      named_is : (x : Subject) → N.named x ≡ names_given (namings_of (all_names r)) x
      named_is x =
          sym (names_told N (text_with r e) refl x)
          ∙ ap (λ (t : NameText). names_in_range N (namings_of t) x) same
          ∙ all_given N (namings_of (all_names r)) x (all_there r e)

      item_in : (s : NameSpace) (i : ℕ) → IsLive V (space_of s, i) → own_name N (AnItem (space_of s, R.numbers (space_of s) i)) ≡ own_name V (AnItem (space_of s, i))
      item_in s i live =
          let k = R.numbers (space_of s) i in
          ap last_name
          (named_is (AnItem (space_of s, k)) ∙ item_given (all_names r) s k ∙ looked_entries (map (item_name p (space_of s)) (r.plan (space_of s))) k
          ∙ ap (λ (o : Option Name). option_to_list o) (item_of_map (item_name p (space_of s)) (r.plan (space_of s)) k i (planned_stands r.numbered r.is_plan (space_of s) i live))
          ∙ named_item (space_of s) i)

      items_named : (x : Item) → IsLive V x → own_name N (AnItem (renamed R x)) ≡ own_name V (AnItem x)
      items_named (Types, i) live = item_in spaces.Types i live
      items_named (Functions, i) live = item_in spaces.Functions i live
      items_named (Tables, i) live = item_in spaces.Tables i live
      items_named (Memories, i) live = item_in spaces.Memories i live
      items_named (Tags, i) live = item_in spaces.Tags i live
      items_named (Globals, i) live = item_in spaces.Globals i live
      items_named (Elements, i) live = item_in spaces.Elements i live
      items_named (DataSegments, i) live = item_in spaces.DataSegments i live

      module_named : own_name N TheModule ≡ own_name V TheModule
      module_named = ap last_name (named_is TheModule ∙ module_given (all_names r))

      locals_named : (f : ℕ) (b : Body) (x : ℕ) → body_of V f ≡ Some b → IsUsed b x → own_name N (ALocal (R.numbers Functions f) (R.locals f x)) ≡ own_name V (ALocal f x)
      locals_named f b x is u =
          let c = body_among r f b is in
          let a : IsAt r c.0 f = at_place r c.0 f (got_where (r.own Functions) f c) in
          let held : b ≡ body p.locals.now a.row.has.local = some_inj b (body p.locals.now a.row.has.local) (sym is ∙ ap body_of_function a.row.has.is) in
          ap last_name
          (named_is (ALocal (R.numbers Functions f) (R.locals f x)) ∙ local_given (all_names r) (R.numbers Functions f) (R.locals f x)
          ∙ ap (λ (g : ℕ). looked_at (all_names r).locals g (R.locals f x)) (function_index a)
          ∙ local_looked a (R.locals f x)
          ∙ ap (λ (o : Option Name). option_to_list o) (local_named a x (subst (λ (d : Body). IsUsed d x) held u)))

      -- ---- nothing else

      abbrev IsOfALocal : ℕ → ℕ → Type 0
      IsOfALocal g y = MayBeNamed (IsLive V) R V (ALocal g y)

      named_there : (o : Option Name) → IsSome (last_name (option_to_list o)) → (name : Name) × (o ≡ Some name)
      named_there None h = absurd cc
      named_there (Some name) h = (name, refl)

      from_body : {k i : ℕ} (a : IsAt r k i) (y : ℕ) → IsSome (last_name (option_to_list (item_at (names_of r a) y))) → IsOfALocal (first r + k) y
      from_body {k} {i} a y h =
          let name = named_there (item_at (names_of r a) y) h in
          let x = local_at r a y name.0 name.1 in
          let at : slice_get a.row.has.ids y ≡ Some x.0 = among_get a.row.has.ids a.row.has.used y x.0 x.1 in
          let used : Contains (locals_of (ops_in a.row.has.local)) x.0 = Contains-from_any (λ m n e. eqb-true m n e) x.0 (locals_of (ops_in a.row.has.local)) (is_tested (test_in a) a.row.has.ids y x.0 (sym (flags a y) ∙ x.1)) in (
            i,
            body p.locals.now a.row.has.local,
            x.0,
            subst (λ o. IsSome o) (sym a.row.has.is) refl,
            ap body_of_function a.row.has.is,
            used,
            sym (function_index a),
            sym (local_index a y x.0 at),
          )

      from_map : (k y : ℕ) (o : Option NameMap) → item_at (maps r) k ≡ o → IsSome (last_name (looked_at (all_names r).locals (first r + k) y)) → IsOfALocal (first r + k) y
      from_map k y None is h =
          absurd (nothing (subst (λ (l : List Name). IsSome (last_name l)) (gives_at (looked_in y) (first r) k (first r + k) (maps r) refl ∙ ap (given (looked_in y)) is) h))
        where
          nothing : IsSome (last_name []) → ⊥
          nothing h = cc
      from_map k y (Some m) is h =
          let found = is_map r k m is in
          from_body found.at y (subst (λ (l : List Name). IsSome (last_name l)) (local_looked found.at y) h)

      local_only : (g y : ℕ) → IsSome (own_name N (ALocal g y)) → IsOfALocal g y
      local_only g y h =
          let looked : IsSome (last_name (looked_at (all_names r).locals g y)) = subst (λ (l : List Name). IsSome (last_name l)) (named_is (ALocal g y) ∙ local_given (all_names r) g y) h in
          ⊎_elim
          (λ low. absurd (nothing (subst (λ (l : List Name). IsSome (last_name l)) (none_below (looked_in y) (first r) g (maps r) low) looked)))
          (λ past.
          let k = rest_of (first r) g past in
          subst (λ (f : ℕ). IsOfALocal f y) (sym k.1) (from_map k.0 y (item_at (maps r) k.0) refl (subst (λ (f : ℕ). IsSome (last_name (looked_at (all_names r).locals f y))) k.1 looked)))
          (cases_lt g (first r))
        where
          nothing : IsSome (last_name []) → ⊥
          nothing h = cc

    -- ---- an item that is named is there

    abbrev IsOfAnItem : Item → Type 0
    IsOfAnItem y = (x : Item) × IsLive V x × (y ≡ renamed R x)

    item_only : (y : Item) → IsNoType y → IsSome (own_name N (AnItem y)) → IsOfAnItem y
    item_only (Types, k) away h = absurd away
    item_only (Functions, k) away h = ⊎_elim (λ i. ((Functions, i.0), i.1, ap (λ (n : ℕ). (Functions, n)) (sym i.2))) (λ none. absurd none) ((carried_with r e).functions.onto k (if_there _ _ h))
    item_only (Tables, k) away h = ⊎_elim (λ i. ((Tables, i.0), i.1, ap (λ (n : ℕ). (Tables, n)) (sym i.2))) (λ none. absurd none) ((carried_with r e).tables.onto k (if_there _ _ h))
    item_only (Memories, k) away h = ⊎_elim (λ i. ((Memories, i.0), i.1, ap (λ (n : ℕ). (Memories, n)) (sym i.2))) (λ none. absurd none) ((carried_with r e).memories.onto k (if_there _ _ h))
    item_only (Tags, k) away h = ⊎_elim (λ i. ((Tags, i.0), i.1, ap (λ (n : ℕ). (Tags, n)) (sym i.2))) (λ none. absurd none) ((carried_with r e).tags.onto k (if_there _ _ h))
    item_only (Globals, k) away h = ⊎_elim (λ i. ((Globals, i.0), i.1, ap (λ (n : ℕ). (Globals, n)) (sym i.2))) (λ none. absurd none) ((carried_with r e).globals.onto k (if_there _ _ h))
    item_only (Elements, k) away h = ⊎_elim (λ i. ((Elements, i.0), i.1, ap (λ (n : ℕ). (Elements, n)) (sym i.2))) (λ none. let clash : ◌≡◌ {A = Option ℕ} None (Some k) = none in none_some k clash) ((carried_with r e).elements.onto k (if_there _ _ h))
    item_only (DataSegments, k) away h = ⊎_elim (λ i. ((DataSegments, i.0), i.1, ap (λ (n : ℕ). (DataSegments, n)) (sym i.2))) (λ none. absurd none) ((carried_with r e).data_segments.onto k (if_there _ _ h))

    -- ---- with custom sections of its own, whatever roots these have

    module _ (own : List Custom) (roots : List Item) where
      abbrev W : Abstract
      W = with_own V own roots

      item_on : (y : Item) → IsOfAnItem y → (x : Item) × IsLive W x × (y ≡ renamed R x)
      item_on y from = (from.0, live_on V own roots from.0 from.1, from.2)

      only : e.names ≡ all_names r → (y : Subject) → IsSome (own_name N y) → MayBeNamed (IsLive W) R W y
      only same TheModule h = tt
      only same (AnItem (Types, k)) h = tt
      only same (AnItem (Functions, k)) h = item_on (Functions, k) (item_only (Functions, k) tt h)
      only same (AnItem (Tables, k)) h = item_on (Tables, k) (item_only (Tables, k) tt h)
      only same (AnItem (Memories, k)) h = item_on (Memories, k) (item_only (Memories, k) tt h)
      only same (AnItem (Tags, k)) h = item_on (Tags, k) (item_only (Tags, k) tt h)
      only same (AnItem (Globals, k)) h = item_on (Globals, k) (item_only (Globals, k) tt h)
      only same (AnItem (Elements, k)) h = item_on (Elements, k) (item_only (Elements, k) tt h)
      only same (AnItem (DataSegments, k)) h = item_on (DataSegments, k) (item_only (DataSegments, k) tt h)
      only same (ALocal g y) h = local_only same g y h

      are_named : e.names ≡ all_names r → AreNamed (own_name W) (IsLive W) R W N
      are_named same = record {
        module_name = module_named same;
        items = λ x live no_type. items_named same x (live_back V own roots x live);
        locals = λ f b x live is u. locals_named same f b x is u;
        only = only same;
      }

      none_named : e.names ≡ no_names → (y : Subject) → N.named y ≡ []
      none_named same y =
          sym (names_told N (text_with r e) refl y)
          ∙ ap (λ (t : NameText). names_in_range N (namings_of t) y) same
          ∙ none_given (is_in_range N y)

      writes_by : (b : Bool) → e.names ≡ if_chosen b (all_names r) → WritesNames b (own_name W) (IsLive W) R W N
      writes_by true same = are_named same
      writes_by false same = none_named same

  -- names are written where they are chosen, and else none
  pub writes_names : (choices : Choices) (e : CustomText) → e.names ≡ names_written r choices → (own : List Custom) (roots : List Item) → WritesNames choices.names (own_name (with_own V own roots)) (IsLive (with_own V own roots)) R (with_own V own roots) (module_with r e)
  writes_names choices e same own roots = writes_by e own roots choices.names same

  -- those of types are written, too
  pub types_named : (choices : Choices) (e : CustomText) → e.names ≡ names_written r choices → choices.names ≡ true → (i : ℕ) → IsLive V (Types, i) → own_name (module_with r e) (AnItem (Types, R.numbers Types i)) ≡ own_name V (AnItem (Types, i))
  types_named choices e same chosen i live = item_in e (same ∙ ap (λ (b : Bool). if_chosen b (all_names r)) chosen) spaces.Types i live
