-- What is spelled of bodies reads back, where their blocks nest, their operators are allowed and what they name is there.
use Rattle.std.proofs.Common.{◌≡◌, ℕ, ◌+◌, ◌≤◌, ◌<◌, true, List, [], ◌∷◌, ◌++◌, length, map, zip, refl, sym, ap, subst, ◌∙◌, arith, length-append, inr}
use Rattle.std.specs.Prelude.{Option, Some, None, IsSome, All, Contains, flat_map, replicate, slice_get, unwrap_or, option_to_list, ◌^◌}
use Rattle.std.specs.List.{AllByRecursion, AllZip}
use Rattle.std.proofs.lemmas.List.{length-map, length-replicate}
use Rattle.std.proofs.lemmas.List.FromFn.{length-range_with_len}
use Rattle.std.proofs.lemmas.List.Elements.{All-head, All-tail, recursion_from_All}
use Rattle.wasm_forms.specs.declared.types.RawVal.{RawVal}
use Rattle.wasm_entries.specs.declared.record.RawDesc.{RawDesc}
use Rattle.wasm_entries.specs.declared.record.RawDesc.TheVariants as descs
use Rattle.wasm_entries.specs.Record as entries
use Rattle.wasm_forms.specs.Grammar.{Is, IsRow}
use Rattle.wasm_forms.specs.Spelling.{row_bytes}
use Rattle.wasm_frames.specs.Record as wire
use Rattle.wasm_operators.specs.Operators as wire_operators
use Rattle.wasm_operators.specs.Forms.{operator}
use Rattle.wasm_operators.specs.Spelling.{op_bytes}
use Rattle.walrus_base.specs.Types.{ValType, val_names}
use Rattle.walrus_base.specs.Operators.{Space, Types, Functions, Tables, Memories, Tags, Globals, Elements, DataSegments, Item, type_item, names_of, locals_of}
use Rattle.walrus_code.specs.FromRaw.{val_of}
use Rattle.walrus_code.specs.Names.{named_val}
use Rattle.walrus_bodies.specs.Blocks.{are_nested, blocks_hold}
use Rattle.walrus_bodies.specs.Emitting.{AllStand}
use Rattle.walrus_bodies.specs.Features.{are_allowed}
use Rattle.walrus_bodies.specs.FunctionTypes.{is_function_def}
use Rattle.walrus_model.specs.EmittedBody.{declarations_bytes}
use Rattle.walrus_model.specs.BlockHandlers.{params_of}
use Rattle.walrus_model.proofs.CountLemmas.{how_many, declarations_stand}
use Rattle.walrus_model.specs.Groups.{types_from}
use Rattle.walrus_model.specs.Abstract.{Abstract, Body, Function, LocalFunction, FunctionKind}
use Rattle.walrus_model.specs.Config.{Config}
use Rattle.walrus_model.specs.Live.{IsLive}
use Rattle.walrus_model.specs.Names.{body_of, body_of_kind, body_of_function}
use Rattle.walrus_model.specs.Reads.{below, declared}
use Rattle.walrus_model.specs.Sections.{Said, body_with, types_of, imported, imported_type, imported_function, function_with, function_types, tables_of, memories_of, tags_of, globals_of, elements_of, data_of}
use Rattle.walrus_model.specs.Refers.{IsUsed, written_in, named_by, local_names, body_names, kind_names, function_names}
use Rattle.walrus_model.specs.Rules.{Holds}
use Rattle.walrus_base.proofs.Lists.{Contains-tail, Contains-none, Contains-append_1, Contains-append_2}
use Rattle.walrus_model.proofs.PipelineOps.{from_map}
use Rattle.walrus_model.proofs.TypeRules.{Contains-flat_map}
use Rattle.walrus_theorem.specs.Features.{features_of}
use Rattle.walrus_theorem.specs.Headline.{ReadsBody}
use Rattle.walrus_theorem.specs.Once.{TypesLocals}
use Rattle.walrus_theorem.specs.Spelling.{BodyStands, UsesAll, NeedsCount, NamesData, IsCount, IsSpelling}
use Rattle.walrus_theorem.specs.SpelledLaws.{BodiesNest}
use Rattle.walrus_theorem.specs.Text.{Text, BodyText, said, unplaced}
use Rattle.walrus_model.proofs.NamedBack.{IsFound, below_is, val_found, ops_named_back, types_named_back}
use Rattle.walrus_model.proofs.NestedBack.{function_def, blocks_fine}
use Rattle.walrus_theorem.proofs.OneSections.{laid, later}
use Rattle.walrus_theorem.proofs.OneSpelling.{told}
use Rattle.walrus_theorem.proofs.ReadFits.{some_there, zip_short}
use Rattle.walrus_theorem.proofs.SpelledFits.{all_each, all_back}
use Rattle.walrus_model.proofs.TypeLists.{got_right as behind}

-- ---- one body

pub row_is : (texts : List wire_operators.Op) → AllStand texts → IsRow (Is operator) (row_bytes op_bytes texts) texts
row_is [] h = refl
row_is (x ∷ xs) h = (op_bytes x, (row_bytes op_bytes xs, (refl, h.0, row_is xs h.1)))

how_many_long : (ds : List (ℕ × RawVal)) → length (flat_map (λ d. replicate d.0 (val_of d.1)) ds) ≡ how_many ds
how_many_long [] = refl
how_many_long (d ∷ ds) =
    let rest : List (ValType ℕ) = flat_map (λ e. replicate e.0 (val_of e.1)) ds in
    omega (arith, length-append (replicate d.0 (val_of d.1)) rest, length-replicate d.0 (val_of d.1), how_many_long ds)

as_few : (ds : List (ℕ × RawVal)) → AllByRecursion (λ (d : ℕ × RawVal). 0 < d.0) ds → length ds ≤ how_many ds
as_few [] h = omega arith
as_few (d ∷ ds) h = omega (arith, h.0, as_few ds h.1)

-- what is known of a body: its operators' blocks and features, what it names, its locals
pub record Knows (c : Config) (s : wire.Module) (b : Body) : Type 0 where
  pub nested : are_nested b.operators ≡ true
  pub allowed : are_allowed (features_of c) b.operators ≡ true
  pub blocks : blocks_hold (λ t. is_function_def (types_of s t)) b.operators ≡ true
  pub names : (y : Item) → Contains (names_of b.operators) y → IsFound (declared s) y
  pub locals : (x : ℕ) → IsUsed b x → IsSome (b.local_type x)
  pub types : (x : ℕ) (y : Item) → IsUsed b x → Contains (local_names b x) y → IsFound (declared s) y
  pub few : b.declared < 2 ^ 32
  pub uses : UsesAll b

module _ (c : Config) (s : wire.Module) (ty : ℕ) (x : BodyText) (stands : BodyStands x) (k : Knows c s (body_with (params_of (types_of s ty)) (said x))) where
  abbrev params : List (ValType ℕ)
  params = params_of (types_of s ty)

  abbrev b : Body
  b = body_with params (said x)

  filled : AllByRecursion (λ (d : ℕ × RawVal). 0 < d.0) x.declarations
  filled = recursion_from_All (λ (d : ℕ × RawVal). 0 < d.0) x.declarations stands.filled

  small : how_many x.declarations < 2 ^ 32
  small = subst (λ n. n < 2 ^ 32) (how_many_long x.declarations) k.few

  long : length b.parameters ≡ length params
  long = length-range_with_len 0 (length params)

  used : (i : ℕ) (v : ValType ℕ) → slice_get (said x).0 i ≡ Some v → IsUsed b (length params + i)
  used i v e =
      let lt : i < length (said x).0 = some_there (said x).0 i (subst IsSome (sym e) refl) in
      k.uses (length params + i) (omega (arith, long)) (omega (arith, long, lt))

  type_at : (i : ℕ) (v : ValType ℕ) → slice_get (said x).0 i ≡ Some v → b.local_type (length params + i) ≡ Some v
  type_at i v e = behind params (said x).0 i (length params + i) refl ∙ e

  type_found : (i : ℕ) (v : ValType ℕ) → slice_get (said x).0 i ≡ Some v → named_val (declared s) v ≡ Some v
  type_found i v e = val_found (declared s) v (λ y at. k.types (length params + i) y (used i v e) (subst (λ (o : Option (ValType ℕ)). Contains (named_by (λ w. map type_item (val_names w)) o) y) (sym (type_at i v e)) at))

  local_in : (y : ℕ) → Contains (locals_of (said x).1) y → y < length params + length (said x).0
  local_in y at = subst (λ n. y < n) (length-append params (said x).0) (some_there (params ++ (said x).0) y (k.locals y at))

  pub body_back : ReadsBody c s (ty, unplaced x) (said x)
  body_back = record {
    front = declarations_bytes x.declarations;
    back = row_bytes op_bytes x.operators;
    parts = refl;
    declared = x.declarations;
    declares = declarations_stand x.declarations (omega (arith, small, as_few x.declarations filled)) small stands.types;
    typed = types_named_back (declared s) x.declarations filled type_found;
    operators = record {
      texts = x.operators;
      spelled = row_is x.operators stands.operators;
      named = ops_named_back (declared s) (length params + length (said x).0) (said x).1 k.names local_in;
      nested = k.nested;
      allowed = k.allowed;
      blocks = k.blocks;
    };
  }

-- ---- all of them

-- what the bodies of a module need to read back, beside that their blocks nest
pub record BodiesHold (n : Abstract) : Type 0 where
  pub written : (f : ℕ) (g : Function) (y : Item) → n.functions f ≡ Some g → Contains (written_in n (Functions, f)) y → IsLive n y
  pub locals : TypesLocals n
  pub blocks : (f : ℕ) (b : Body) → body_of n f ≡ Some b → blocks_hold (λ t. is_function_def (n.types t)) b.operators ≡ true
  pub few : (f : ℕ) (b : Body) → body_of n f ≡ Some b → b.declared < 2 ^ 32

-- the rules give it
pub bodies_hold : (n : Abstract) → Holds n → BodiesHold n
bodies_hold n holds = record {
  written = λ f g y at has. holds.indices.written (Functions, f) y has;
  locals = holds.indices.locals;
  blocks = λ f b here. blocks_fine (λ t. is_function_def (n.types t)) b.operators (λ t o has names. function_def n t (holds.function_types.blocks f t b o here has names));
  few = λ f b here. omega (arith, holds.locals f b here);
}

kind_body : (k : FunctionKind) (b : Body) → k ≡ LocalFunction b → body_of_kind k ≡ Some b
kind_body k b e = ap body_of_kind e

-- imports bring as many types of functions as functions

pub one_imported : (i : ℕ) (d : RawDesc) → length (option_to_list (imported_type i d)) ≡ length (option_to_list (imported_function i d))
one_imported i (descs.Function ty) = refl
one_imported i (descs.Table ty) = refl
one_imported i (descs.Memory l) = refl
one_imported i (descs.Global ty) = refl
one_imported i (descs.Tag ty) = refl

pub as_many_imported : (i : ℕ) (xs : List entries.Import) → length (imported imported_type i xs) ≡ length (imported imported_function i xs)
as_many_imported i [] = refl
as_many_imported i (x ∷ xs) =
    omega (arith, length-append (option_to_list (imported_type i x.desc)) (imported imported_type (i + 1) xs), length-append (option_to_list (imported_function i x.desc)) (imported imported_function (i + 1) xs), one_imported i x.desc, as_many_imported (i + 1) xs)

module _ (c : Config) (t : Text) (spells : IsSpelling (told t) t) where
  abbrev s : wire.Module
  s = laid t

  abbrev m : Abstract
  m = told t

  zipped : length (zip t.functions (map said t.bodies)) ≤ length t.functions
  zipped = omega (arith, zip_short t.functions (map said t.bodies), length-map t.bodies said, spells.as_many_bodies)

  -- as many functions as types of functions
  pub function_below : (i : ℕ) → IsSome (m.functions i) → i < length (function_types s)
  function_below i h =
      let front : List Function = imported imported_function 0 t.imports in
      let back : List (ℕ × Said) = zip t.functions (map said t.bodies) in
      omega (
        arith,
        some_there (front ++ map (function_with s) back) i h,
        length-append front (map (function_with s) back),
        length-map back (function_with s),
        zipped,
        as_many_imported 0 t.imports,
        length-append (imported imported_type 0 t.imports) t.functions,
      )

  counted : (o : Option ℕ) (d : ℕ) → IsCount m (length t.data_segments) o → NeedsCount m → d < length t.data_segments → below (unwrap_or (later o None) 0) d ≡ Some d
  counted None d h needs lt = absurd (h needs)
  counted (Some k) d h needs lt = below_is k d (omega (arith, h.1, lt))

  live_found : (y : Item) → IsLive m y → (y.0 ≡ DataSegments → NeedsCount m) → IsFound (declared s) y
  live_found (Types, i) h d = below_is (length (types_from 0 t.types)) i (some_there (types_from 0 t.types) i h)
  live_found (Functions, i) h d = below_is (length (function_types s)) i (function_below i h)
  live_found (Tables, i) h d = below_is (length (tables_of s)) i (some_there (tables_of s) i h)
  live_found (Memories, i) h d = below_is (length (memories_of s)) i (some_there (memories_of s) i h)
  live_found (Tags, i) h d = below_is (length (tags_of s)) i (some_there (tags_of s) i h)
  live_found (Globals, i) h d = below_is (length (globals_of s)) i (some_there (globals_of s) i h)
  live_found (Elements, i) h d = below_is (length (elements_of s)) i (some_there (elements_of s) i h)
  live_found (DataSegments, i) h d = counted t.data_count i spells.data_count (d refl) (omega (arith, some_there (map data_of t.data_segments) i h, length-map t.data_segments data_of))

module _ (c : Config) (t : Text) (spells : IsSpelling (told t) t) (holds : BodiesHold (told t)) (nest : BodiesNest c (told t)) where
  abbrev w : wire.Module
  w = laid t

  abbrev n : Abstract
  n = told t

  abbrev Fine : Function → Type 0
  Fine g = (b : Body) → g.kind ≡ LocalFunction b → Knows c w b

  known : (f : ℕ) (g : Function) → n.functions f ≡ Some g → Fine g
  known f g at b is =
      let nest_b = nest f g b at is in
      let here : body_of n f ≡ Some b = ap body_of_function at ∙ kind_body g.kind b is in
      let live : (y : Item) → Contains (body_names b) y → IsLive n y = λ y has. holds.written f g y at
      (subst (λ (o : Option Function). Contains (named_by function_names o) y) (sym at)
      (Contains-tail (type_item g.ty) y (kind_names g.kind) (subst (λ (k : FunctionKind). Contains (kind_names k) y) (sym is) has))) in
      record {
        nested = nest_b.0;
        allowed = nest_b.1;
        blocks = holds.blocks f b here;
        names = λ y has. live_found c t spells y (live y (Contains-append_1 y (names_of b.operators) (flat_map (local_names b) (locals_of b.operators)) has))
            (λ is_data. inr (f, (y.1, subst (λ (o : Option Body). NamesData o y.1) (sym here) (subst (λ (z : Space). Contains (names_of b.operators) (z, y.1)) is_data has))));
        locals = λ x u. holds.locals f b x here u;
        types = λ x y u has. live_found c t spells y (live y (Contains-append_2 y (names_of b.operators) (flat_map (local_names b) (locals_of b.operators)) (in_flat b x y u has)))
            (λ is_data. absurd (no_data (b.local_type x) y has is_data));
        few = holds.few f b here;
        uses = spells.used f b here;
      }
    where
      in_flat : (d : Body) (x : ℕ) (y : Item) → IsUsed d x → Contains (local_names d x) y → Contains (flat_map (local_names d) (locals_of d.operators)) y
      in_flat d x y u has = Contains-flat_map (local_names d) (locals_of d.operators) x y u has

      no_data : (o : Option (ValType ℕ)) (y : Item) → Contains (named_by (λ v. map type_item (val_names v)) o) y → y.0 ≡ DataSegments → ⊥
      no_data None y has e = absurd (Contains-none y has)
      no_data (Some v) y has e =
          let from = from_map type_item y (val_names v) has in
          let same : Types ≡ DataSegments = ap (λ (z : Item). z.0) from.2 ∙ e in
          cc

  on_all : (fs : List ℕ) (xs : List BodyText) → All BodyStands xs → AllByRecursion Fine (map (function_with w) (zip fs (map said xs))) → length xs ≡ length fs → AllZip (ReadsBody c w) (zip fs (map unplaced xs)) (map said xs)
  on_all [] [] stands h e = tt
  on_all [] (x ∷ xs) stands h e = absurd (omega (arith, e))
  on_all (f ∷ fs) [] stands h e = tt
  on_all (f ∷ fs) (x ∷ xs) stands h e =
      (body_back c w f x (All-head BodyStands x xs stands) (h.0 (body_with (params_of (types_of w f)) (said x)) refl), on_all fs xs (All-tail BodyStands x xs stands) h.1 (omega (arith, e)))

  pub bodies_back : AllZip (ReadsBody c w) (zip t.functions (map unplaced t.bodies)) (map said t.bodies)
  bodies_back =
      on_all t.functions t.bodies spells.bodies
      (all_back Fine (imported imported_function 0 t.imports) (map (function_with w) (zip t.functions (map said t.bodies)))
      (all_each Fine (imported imported_function 0 t.imports ++ map (function_with w) (zip t.functions (map said t.bodies))) known))
      spells.as_many_bodies
