-- The names that parts are written with stand: their maps rise, what is named is there, and they are text.
use Rattle.std.proofs.Common.{◌≡◌, ℕ, zero, suc, ◌+◌, ◌<◌, Bool, true, false, List, [], ◌∷◌, ◌++◌, length, map, refl, sym, ap, ◌∙◌, subst, arith, Some, None}
use Rattle.std.specs.Prelude.{◌≢◌, All, IsSome, Option, flat_map, option_and_then, slice_get}
use Rattle.std.specs.Str.{IsUtf8}
use Rattle.std.specs.List.{AllByRecursion}
use Rattle.std.proofs.lemmas.List.Elements.{All-append, All-map, All-nil}
use Rattle.wasm_payloads.specs.declared.naming.NameSpace.{NameSpace}
use Rattle.wasm_payloads.specs.declared.naming.NameSpace.TheVariants as spaces
use Rattle.wasm_payloads.specs.Names.{Named, ItemName, LocalName, ModuleName}
use Rattle.walrus_base.specs.Arena.{entries, item_at}
use Rattle.walrus_base.specs.Locals.{locals}
use Rattle.walrus_base.specs.Operators.{Space, Types, Functions, Tables, Memories, Tags, Globals, Elements, DataSegments}
use Rattle.walrus_base.specs.declared.locals.Local.{Local}
use Rattle.walrus_bodies.specs.declared.features.Features.{Features}
use Rattle.walrus_contents.specs.View.{parts_view}
use Rattle.walrus_contents.specs.declared.parts.Parts.{Parts}
use Rattle.walrus_base.proofs.Lookups.{then_some, there}
use Rattle.walrus_model.proofs.PlacedTypes.{zip_length}
use Rattle.walrus_model.specs.Abstract.{Abstract, ALocal, AnItem, Name}
use Rattle.walrus_model.specs.Ordered.{StandsFor}
use Rattle.walrus_model.specs.Spaces.{SameThing, Thing, look}
use Rattle.walrus_base.proofs.Standing.{got_in, some_inj}
use Rattle.walrus_writing.specs.Names.{filled, if_chosen, item_name, item_names, local_name, local_names, names_said, used_among}
use Rattle.walrus_writing.proofs.PlacedNames.{each_entry, all_entries, entries_rise_from, item_through, map_of_item, named_through, none_some as no_some}
use Rattle.walrus_writing.proofs.TextNames.{item_stands, local_stands, module_stands, stands_some}
use Rattle.walrus_theorem.specs.Examples.{no_names}
use Rattle.walrus_theorem.specs.Namings.{is_in_range, naming_of, space_of}
use Rattle.walrus_theorem.specs.Spelling.{MapStands, NamesStand}
use Rattle.walrus_theorem.specs.Text.{NameMap, NameText, function_namings, further_spaces, module_naming, namings_of, space_namings}
use Rattle.walrus_theorem.proofs.WorkedParts.{all_one}
use Rattle.walrus_writing.specs.Records.{Records, names_written}
use Rattle.walrus_writing.specs.declared.write.Choices.{Choices}
use Rattle.walrus_writing.proofs.CarriedOver.{written_along}
use Rattle.walrus_writing.proofs.OwnCustoms.{CustomText}
use Rattle.walrus_writing.proofs.UsedRows.{IsAt, any_place, first, local_there, used}
use Rattle.walrus_writing.proofs.WithCustoms.{module_with}
use Rattle.walrus_writing.proofs.WrittenAs.{module_said, renaming_of}

-- ---- lists

all_flat : {A B : Type 0} (P : B → Type 0) (f : A → List B) (xs : List A) → AllByRecursion (λ x. All P (f x)) xs → All P (flat_map f xs)
all_flat P f [] h = All-nil P
all_flat P f (x ∷ xs) h = All-append P (f x) (flat_map f xs) h.0 (all_flat P f xs h.1)

filled_some : (names m : NameMap) → filled names ≡ Some m → (m ≡ names) × (m ≢ [])
filled_some [] m e = absurd cc
filled_some (x ∷ xs) m e =
    let same : x ∷ xs ≡ m = some_inj (x ∷ xs) m e in
    (sym same, λ none. let clash : x ∷ xs ≡ [] = same ∙ none in absurd cc)

pub among_get : (ids : List ℕ) (us : List Bool) (y x : ℕ) → item_at (used_among ids us) y ≡ Some x → slice_get ids y ≡ Some x
among_get [] [] y x e = no_some x e
among_get [] (u ∷ us) y x e = no_some x e
among_get (z ∷ ids) [] y x e = no_some x e
among_get (z ∷ ids) (true ∷ us) zero x e = e
among_get (z ∷ ids) (false ∷ us) zero x e = no_some x e
among_get (z ∷ ids) (true ∷ us) (suc y) x e = among_get ids us y x e
among_get (z ∷ ids) (false ∷ us) (suc y) x e = among_get ids us y x e

-- ---- all items of the plan are there

module _ {p : Parts} {features : Features} (r : Records p features) where
  along_there : (s : Space) (k : ℕ) → k < length (r.plan s) → IsSome (look (module_said r) s k)
  along_there s k low =
      let w = written_along r s in
      let long : length (r.plan s) ≡ length w.written = zip_length (StandsFor (SameThing (renaming_of r) s) (look (parts_view p) s)) (r.plan s) w.written w.stand in
      subst (λ (o : Option (Thing s)). IsSome o) (sym (w.reads k)) (there w.written k (omega (arith, low, long)))

  pub item_there : (e : CustomText) (s : Space) (k : ℕ) → k < length (r.plan s) → is_in_range (module_with r e) (AnItem (s, k)) ≡ true
  item_there e Types k low = along_there Types k low
  item_there e Functions k low = along_there Functions k low
  item_there e Tables k low = along_there Tables k low
  item_there e Memories k low = along_there Memories k low
  item_there e Tags k low = along_there Tags k low
  item_there e Globals k low = along_there Globals k low
  item_there e Elements k low = along_there Elements k low
  item_there e DataSegments k low = along_there DataSegments k low

-- ---- names

module _ {p : Parts} {features : Features} (r : Records p features) where
  abbrev L : List (Option Local)
  L = locals p.locals.now

  -- all names
  abbrev pub all_names : NameText
  all_names = names_said p r.plan (first r) (used r)

  -- the maps of the functions with a body
  abbrev pub maps : List (Option NameMap)
  maps = map (λ u. filled (local_names L u)) (used r)

  -- the names of a body's locals
  abbrev pub names_of : {k i : ℕ} → IsAt r k i → List (Option Name)
  names_of a = map (option_and_then (local_name L)) (used_among a.row.has.ids a.row.has.used)

  pub named_in : {k i : ℕ} (a : IsAt r k i) (u : List (ℕ × ℕ)) → slice_get (used r) k ≡ Some u → local_names L u ≡ entries (names_of a)
  named_in a u at = ap (local_names L) (some_inj u _ (sym at ∙ a.used_at)) ∙ named_through (local_name L) 0 (used_among a.row.has.ids a.row.has.used)

  -- a map that stands among them
  pub record IsMap (k : ℕ) (m : NameMap) : Type 0 where
    pub i : ℕ
    pub at : IsAt r k i
    pub is : m ≡ entries (names_of at)
    pub not_empty : m ≢ []

  pub is_map : (k : ℕ) (m : NameMap) → item_at maps k ≡ Some m → IsMap k m
  is_map k m at =
      let u = map_of_item (λ u. filled (local_names L u)) (used r) k m at in
      let full = filled_some (local_names L u.0) m u.2 in
      let a = any_place r k (got_in (used r) k u.0 u.1).0 in
      record { i = a.0; at = a.1; is = full.0 ∙ named_in a.1 u.0 u.1; not_empty = full.1 }

  -- a named local
  pub local_at : {k i : ℕ} (a : IsAt r k i) (y : ℕ) (name : Name) → item_at (names_of a) y ≡ Some name → (x : ℕ) × (item_at (used_among a.row.has.ids a.row.has.used) y ≡ Some x) × (local_name L x ≡ Some name)
  local_at a y name at = then_some (local_name L) (item_at (used_among a.row.has.ids a.row.has.used) y) name (sym (item_through (local_name L) (used_among a.row.has.ids a.row.has.used) y) ∙ at)

  -- ---- maps stand

  abbrev order_of : NameSpace → List ℕ
  order_of s = r.plan (space_of s)

  items_stand : (s : NameSpace) → MapStands (item_names p r.plan (space_of s))
  items_stand s =
      let os = map (item_name p (space_of s)) (order_of s) in (
        entries_rise_from 0 os,
        each_entry (λ (e : ℕ × Name). IsUtf8 e.1) 0 os (λ i j name is at.
            let m = map_of_item (item_name p (space_of s)) (order_of s) i name at in
            stands_some (item_name p (space_of s) m.0) name (item_stands p (space_of s) m.0) m.2),
      )

  map_stands : {k i : ℕ} (a : IsAt r k i) → MapStands (entries (names_of a))
  map_stands a = (
    entries_rise_from 0 (names_of a),
    each_entry (λ (e : ℕ × Name). IsUtf8 e.1) 0 (names_of a) (λ y j name is at.
        let x = local_at a y name at in
        stands_some (local_name L x.0) name (local_stands L x.0) x.2),
  )

  -- ---- what is named is there

  module _ (e : CustomText) where
    abbrev N : Abstract
    N = module_with r e

    abbrev IsThere : Named → Type 0
    IsThere x = is_in_range N (naming_of x).0 ≡ true

    space_there : (s : NameSpace) → All IsThere (space_namings all_names s)
    space_there s =
        All-map IsThere (λ (x : ℕ × Name). ItemName s x.0 x.1) (item_names p r.plan (space_of s))
        (each_entry (λ (x : ℕ × Name). IsThere (ItemName s x.0 x.1)) 0 (map (item_name p (space_of s)) (order_of s)) (λ i j name is at.
        let m = map_of_item (item_name p (space_of s)) (order_of s) i name at in
        item_there r e (space_of s) j (omega (arith, is, (got_in (order_of s) i m.0 m.1).0))))

    spaces_there : (ss : List NameSpace) → All IsThere (flat_map (space_namings all_names) ss)
    spaces_there [] = All-nil IsThere
    spaces_there (s ∷ ss) = All-append IsThere (space_namings all_names s) (flat_map (space_namings all_names) ss) (space_there s) (spaces_there ss)

    module_there : (o : Option Name) → All IsThere (module_naming o)
    module_there None = All-nil IsThere
    module_there (Some name) = all_one IsThere (ModuleName name) refl

    -- the locals of a function
    locals_there : {k i : ℕ} (a : IsAt r k i) (j : ℕ) → j ≡ first r + k → All IsThere (function_namings (j, entries (names_of a)))
    locals_there {k} a j is =
        All-map IsThere (λ (x : ℕ × Name). LocalName j x.0 x.1) (entries (names_of a))
        (each_entry (λ (x : ℕ × Name). IsThere (LocalName j x.0 x.1)) 0 (names_of a) (λ y z name same at.
        let x = local_at a y name at in
        let low = (got_in a.row.has.ids y x.0 (among_get a.row.has.ids a.row.has.used y x.0 x.1)).0 in
        subst (λ (f : ℕ). is_in_range N (ALocal f z) ≡ true) (sym is) (local_there r e k _ a z (omega (arith, same, low)))))

    functions_there : All IsThere (flat_map function_namings all_names.locals)
    functions_there =
        all_flat IsThere function_namings all_names.locals
        (all_entries (λ (f : ℕ × NameMap). All IsThere (function_namings f)) (first r) maps (λ k j m is at.
        let map = is_map k m at in
        subst (λ (names : NameMap). All IsThere (function_namings (j, names))) (sym map.is) (locals_there map.at j is)))

    pub all_there : All IsThere (namings_of all_names)
    all_there =
        All-append IsThere (module_naming all_names.module_name ++ space_namings all_names spaces.Functions ++ flat_map function_namings all_names.locals) (flat_map (space_namings all_names) further_spaces)
        (All-append IsThere (module_naming all_names.module_name ++ space_namings all_names spaces.Functions) (flat_map function_namings all_names.locals)
        (All-append IsThere (module_naming all_names.module_name) (space_namings all_names spaces.Functions) (module_there all_names.module_name) (space_there spaces.Functions))
        functions_there)
        (spaces_there further_spaces)

    names_stand : NamesStand N all_names
    names_stand = record {
      module_name = module_stands p;
      items = items_stand;
      functions = entries_rise_from (first r) maps;
      locals = each_entry (λ (f : ℕ × NameMap). (f.1 ≢ []) × MapStands f.1) (first r) maps (λ k j m is at.
          let map = is_map k m at in
          (map.not_empty, subst MapStands (sym map.is) (map_stands map.at)));
      are_there = all_there;
    }

    none_stand : NamesStand N no_names
    none_stand = record {
      module_name = tt;
      items = λ space. ((λ i j d less at. absurd (omega (arith, at))), All-nil _);
      functions = λ i j d less at. absurd (omega (arith, at));
      locals = All-nil _;
      are_there = All-nil _;
    }

    chosen_stand : (b : Bool) → NamesStand N (if_chosen b all_names)
    chosen_stand true = names_stand
    chosen_stand false = none_stand

  -- those that are written stand
  pub written_stand : (choices : Choices) (e : CustomText) → e.names ≡ names_written r choices → NamesStand (module_with r e) e.names
  written_stand choices e same = subst (λ (t : NameText). NamesStand (module_with r e) t) (sym same) (chosen_stand e choices.names)
