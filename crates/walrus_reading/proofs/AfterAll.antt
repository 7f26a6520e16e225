-- Once all namings are taken, each item has the last name that they give it, or the one that it had.
use Rattle.std.proofs.Common.{◌≡◌, ℕ, ◌<◌, ◌≤◌, Bool, true, false, List, [], ◌∷◌, ◌++◌, refl, sym, ap, ap₂, ◌∙◌, arith}
use Rattle.std.proofs.lemmas.Bool.{both_ways, eqb-true, le-ltb, lt-ltb}
use Rattle.std.specs.Prelude.{Option, Some, None, nat_lt, if◌then◌else◌, ◌==◌, ◌&&◌}
use Rattle.wasm_payloads.specs.Names.{Named, ModuleName, ItemName, LocalName}
use Rattle.walrus_base.specs.Operators.{Space, Types, Functions, Tables, Memories, Tags, Globals, Elements, DataSegments}
use Rattle.walrus_model.specs.Abstract.{Name, AnItem, TheModule}
use Rattle.walrus_theorem.specs.Namings.{names_given, space_of, subsection}
use Rattle.walrus_reading.specs.Renamed.{last_given, named_if, renamed_by, renamed_from}
use Rattle.walrus_reading.specs.Shown.{Shown, mend_type_name, mend_function, mend_table, mend_memory, mend_tag, mend_global, mend_element, mend_data, mend_local}
use Rattle.walrus_reading.specs.TakenNames.{Bounds, all_named, local_in, naming_in, once_named, only_below, type_in}
use Rattle.walrus_reading.proofs.Becoming.{named_behind, renamed_ext, renamed_same, renamed_twice}

-- the names that one naming gives to a place
abbrev pub given_at : Option (ℕ × Name) → ℕ → List Name
given_at None i = []
given_at (Some naming) i = if naming.0 == i then naming.1 ∷ [] else []

-- and those that several give
abbrev pub given : (Named → Option (ℕ × Name)) → List Named → ℕ → List Name
given one [] i = []
given one (naming ∷ namings) i = given_at (one naming) i ++ given one namings i

once_is : (b : Bool) (name : Name) → named_if b name ≡ last_given (if b then name ∷ [] else [])
once_is true name = refl
once_is false name = refl

module _ {X : Type 0} (mend : (Option Name → Option Name) → X → X) (whole : (x : X) → mend (λ old. old) x ≡ x)
    (twice : (f g : Option Name → Option Name) (x : X) → mend g (mend f x) ≡ mend (λ old. g (f old)) x) where
  one_given : (naming : Option (ℕ × Name)) (slots : List (Option X)) → renamed_by mend naming slots ≡ renamed_from mend (λ i. last_given (given_at naming i)) 0 slots
  one_given None slots = sym (renamed_same mend whole (λ i. last_given []) 0 slots (λ n le. refl))
  one_given (Some naming) slots = renamed_ext mend (λ n. named_if (naming.0 == n) naming.1) (λ i. last_given (given_at (Some naming) i)) (λ n. once_is (naming.0 == n) naming.1) 0 slots

  module _ (b : Bounds) (field : Shown → List (Option X)) (one : Named → Option (ℕ × Name)) (step : (s : Shown) (naming : Named) → field (once_named b s naming) ≡ renamed_by mend (one naming) (field s)) where
    -- each item has the last name that is given to its place
    pub all_given : (namings : List Named) (s : Shown) → field (all_named b s namings) ≡ renamed_from mend (λ i. last_given (given one namings i)) 0 (field s)
    all_given [] s = sym (renamed_same mend whole (λ i. last_given []) 0 (field s) (λ n le. refl))
    all_given (naming ∷ namings) s =
        let first : ℕ → Option Name → Option Name = λ i. last_given (given_at (one naming) i) in
        let others : ℕ → Option Name → Option Name = λ i. last_given (given one namings i) in
        all_given namings (once_named b s naming)
        ∙ ap (renamed_from mend others 0) (step s naming ∙ one_given (one naming) (field s))
        ∙ renamed_twice mend twice first others 0 (field s)
        ∙ renamed_ext mend (λ n old. others n (first n old)) (λ i. last_given (given one (naming ∷ namings) i)) (λ n. same n) 0 (field s) where
          same : (n : ℕ) → (λ (old : Option Name). last_given (given one namings n) (last_given (given_at (one naming) n) old)) ≡ last_given (given one (naming ∷ namings) n)
          same n = λ i old. named_behind (given_at (one naming) n) (given one namings n) old i

-- ---- the items of a space

one_item : (t : Bool) (i j : ℕ) (name : Name) → given_at (if t then Some (i, name) else None) j ≡ (if t && i == j then name ∷ [] else [])
one_item true i j name = refl
one_item false i j name = refl

-- what is given to a place is what the namings give to the item of this index
pub items_given : (space : Space) (namings : List Named) (i : ℕ) → given (λ naming. naming_in naming space) namings i ≡ names_given namings (AnItem (space, i))
items_given space [] i = refl
items_given space (ModuleName name ∷ namings) i = items_given space namings i
items_given space (ItemName named j name ∷ namings) i = ap₂ (λ (xs ys : List Name). xs ++ ys) (one_item (subsection (space_of named) == subsection space) j i name) (items_given space namings i)
items_given space (LocalName f x name ∷ namings) i = items_given space namings i

types_one : (count : ℕ) (naming : Option (ℕ × Name)) (i : ℕ) → i < count → given_at (only_below count naming) i ≡ given_at naming i
types_one count None i lt = refl
types_one count (Some naming) i lt = by_test (nat_lt naming.0 count) refl (naming.0 == i) refl where
  by_test : (t : Bool) → nat_lt naming.0 count ≡ t → (h : Bool) → (naming.0 == i) ≡ h → given_at (if t then Some naming else None) i ≡ (if h then naming.1 ∷ [] else [])
  by_test true e h is = ap (λ (b : Bool). if b then naming.1 ∷ [] else []) is
  by_test false e false is = refl
  by_test false e true is = absurd (both_ways (nat_lt naming.0 count) e (lt-ltb naming.0 count (let same : naming.0 ≡ i = eqb-true naming.0 i is in omega (arith, same, lt))))

types_none : (count : ℕ) (naming : Option (ℕ × Name)) (i : ℕ) → count ≤ i → given_at (only_below count naming) i ≡ []
types_none count None i le = refl
types_none count (Some naming) i le = by_test (nat_lt naming.0 count) refl (naming.0 == i) refl where
  by_test : (t : Bool) → nat_lt naming.0 count ≡ t → (h : Bool) → (naming.0 == i) ≡ h → given_at (if t then Some naming else None) i ≡ []
  by_test false e h is = refl
  by_test true e false is = ap (λ (b : Bool). if b then naming.1 ∷ [] else []) is
  by_test true e true is = absurd (both_ways (nat_lt naming.0 count) (le-ltb naming.0 count (let same : naming.0 ≡ i = eqb-true naming.0 i is in omega (arith, same, le))) e)

-- a type that was read, and one that was added
pub types_given : (b : Bounds) (namings : List Named) (i : ℕ) → i < b.types → given (type_in b) namings i ≡ names_given namings (AnItem (Types, i))
types_given b namings i lt = each namings ∙ items_given Types namings i where
  each : (ns : List Named) → given (type_in b) ns i ≡ given (λ naming. naming_in naming Types) ns i
  each [] = refl
  each (n ∷ ns) = ap₂ (λ (xs ys : List Name). xs ++ ys) (types_one b.types (naming_in n Types) i lt) (each ns)

pub types_not_given : (b : Bounds) (namings : List Named) (i : ℕ) → b.types ≤ i → given (type_in b) namings i ≡ []
types_not_given b [] i le = refl
types_not_given b (n ∷ ns) i le = ap₂ (λ (xs ys : List Name). xs ++ ys) (types_none b.types (naming_in n Types) i le) (types_not_given b ns i le)

-- ---- all that a module shows

-- what becomes of the name of an item by these namings
abbrev pub by : List Named → Space → ℕ → Option Name → Option Name
by namings space i = last_given (names_given namings (AnItem (space, i)))

module _ (b : Bounds) (namings : List Named) (s : Shown) where
  abbrev after : Shown
  after = all_named b s namings

  -- what the namings make of the items of a space
  module _ {X : Type 0} (mend : (Option Name → Option Name) → X → X) (whole : (x : X) → mend (λ old. old) x ≡ x)
      (twice : (f g : Option Name → Option Name) (x : X) → mend g (mend f x) ≡ mend (λ old. g (f old)) x) (space : Space) (field : Shown → List (Option X))
      (step : (t : Shown) (naming : Named) → field (once_named b t naming) ≡ renamed_by mend (naming_in naming space) (field t)) where
    items_after : field after ≡ renamed_from mend (by namings space) 0 (field s)
    items_after =
        all_given mend whole twice b field (λ naming. naming_in naming space) step namings s
        ∙ renamed_ext mend (λ i. last_given (given (λ naming. naming_in naming space) namings i)) (by namings space) (λ i. ap last_given (items_given space namings i)) 0 (field s)

  pub functions_after : after.functions ≡ renamed_from mend_function (by namings Functions) 0 s.functions
  functions_after = items_after mend_function (λ x. refl) (λ f g x. refl) Functions (λ t. t.functions) (λ t naming. refl)

  pub tables_after : after.tables ≡ renamed_from mend_table (by namings Tables) 0 s.tables
  tables_after = items_after mend_table (λ x. refl) (λ f g x. refl) Tables (λ t. t.tables) (λ t naming. refl)

  pub memories_after : after.memories ≡ renamed_from mend_memory (by namings Memories) 0 s.memories
  memories_after = items_after mend_memory (λ x. refl) (λ f g x. refl) Memories (λ t. t.memories) (λ t naming. refl)

  pub tags_after : after.tags ≡ renamed_from mend_tag (by namings Tags) 0 s.tags
  tags_after = items_after mend_tag (λ x. refl) (λ f g x. refl) Tags (λ t. t.tags) (λ t naming. refl)

  pub globals_after : after.globals ≡ renamed_from mend_global (by namings Globals) 0 s.globals
  globals_after = items_after mend_global (λ x. refl) (λ f g x. refl) Globals (λ t. t.globals) (λ t naming. refl)

  pub elements_after : after.elements ≡ renamed_from mend_element (by namings Elements) 0 s.elements
  elements_after = items_after mend_element (λ x. refl) (λ f g x. refl) Elements (λ t. t.elements) (λ t naming. refl)

  pub data_after : after.data_segments ≡ renamed_from mend_data (by namings DataSegments) 0 s.data_segments
  data_after = items_after mend_data (λ x. refl) (λ f g x. refl) DataSegments (λ t. t.data_segments) (λ t naming. refl)

  pub type_names_after : after.type_names ≡ renamed_from mend_type_name (λ i. last_given (given (type_in b) namings i)) 0 s.type_names
  type_names_after = all_given mend_type_name (λ x. refl) (λ f g x. refl) b (λ t. t.type_names) (type_in b) (λ t naming. refl) namings s

  pub locals_after : after.locals ≡ renamed_from mend_local (λ i. last_given (given (local_in b) namings i)) 0 s.locals
  locals_after = all_given mend_local (λ x. refl) (λ f g x. refl) b (λ t. t.locals) (local_in b) (λ t naming. refl) namings s

-- the module's name
pub module_after : (b : Bounds) (namings : List Named) (s : Shown) → (all_named b s namings).name ≡ last_given (names_given namings TheModule) s.name
module_after b [] s = refl
module_after b (ModuleName name ∷ namings) s = module_after b namings (once_named b s (ModuleName name))
module_after b (ItemName space i name ∷ namings) s = module_after b namings (once_named b s (ItemName space i name))
module_after b (LocalName f x name ∷ namings) s = module_after b namings (once_named b s (LocalName f x name))

-- what isn't named stays
pub others_after : {Y : Type 0} (field : Shown → Y) (b : Bounds) → ((s : Shown) (naming : Named) → field (once_named b s naming) ≡ field s) → (namings : List Named) (s : Shown) → field (all_named b s namings) ≡ field s
others_after field b same [] s = refl
others_after field b same (naming ∷ namings) s = others_after field b same namings (once_named b s naming) ∙ same s naming
