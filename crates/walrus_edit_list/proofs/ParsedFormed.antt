-- In bytes of a body that was parsed each index is the id of what it names.
use Rattle.std.proofs.Common.{◌≡◌, ◌≢◌, ℕ, zero, suc, ◌+◌, ◌<◌, List, [], ◌∷◌, ◌++◌, length, map, zip, refl, sym, ap, ap₂, ◌∙◌, subst, arith, length-append}
use Rattle.std.specs.Prelude.{AllPairs, Option, Some, is_some, option_map, option_to_list, slice_get}
use Rattle.std.specs.List.{AllByRecursion, AllZip, range_with_len}
use Rattle.std.proofs.lemmas.List.{map-append}
use Rattle.std.proofs.lemmas.List.FromFn.{get_or-map-range_with_len, length-map-range_with_len}
use Rattle.std.proofs.lemmas.Option.{slice_get-map}
use Rattle.wasm_entries.specs.Record as entries
use Rattle.wasm_entries.specs.declared.record.RawDesc.{RawDesc}
use Rattle.wasm_entries.specs.declared.record.RawDesc.TheVariants as descs
use Rattle.wasm_forms.proofs.Bind.{some_same}
use Rattle.wasm_frames.specs.Record as wire
use Rattle.wasm_payloads.specs.Names.{Named}
use Rattle.walrus_base.specs.Operators.{Space, Functions, type_item}
use Rattle.walrus_base.specs.Types.{ValType}
use Rattle.walrus_base.proofs.Lists.{map-map}
use Rattle.walrus_base.proofs.Lookups.{there as slice_there}
use Rattle.walrus_bodies.proofs.LawNamed.{each_append as all_append}
use Rattle.walrus_bodies.specs.Body.{BodyReads, context}
use Rattle.walrus_bodies.specs.FunctionTypes.{is_function_def}
use Rattle.walrus_code.specs.Names.{Lookup}
use Rattle.walrus_model.proofs.MovedBody.{moved_op, moved_reads, ops_are}
use Rattle.walrus_model.proofs.OwnOps.{declared_itself}
use Rattle.walrus_model.proofs.StepPlain.{IsPlain}
use Rattle.walrus_model.proofs.TypeLists.{got_right as behind}
use Rattle.walrus_model.specs.Abstract.{Abstract, Body, Function, LocalFunction, ProducerField}
use Rattle.walrus_model.specs.BlockHandlers.{params_of}
use Rattle.walrus_model.specs.Config.{Config}
use Rattle.walrus_model.specs.Names.{body_of_function, body_of_kind}
use Rattle.walrus_model.specs.ReadFunction.{locals_from}
use Rattle.walrus_model.specs.Reads.{declared}
use Rattle.walrus_model.specs.Renaming.{Renaming}
use Rattle.walrus_model.specs.Rules.{Holds, IsFunctionType}
use Rattle.walrus_model.specs.Same.{SameFunction}
use Rattle.walrus_model.specs.Sections.{Said, body_with, function_with, imported, imported_function, types_of}
use Rattle.walrus_theorem.proofs.ParsedWell.{Was, was}
use Rattle.walrus_theorem.proofs.ReadBodies.{IsRead, is_read_by}
use Rattle.walrus_theorem.proofs.StepHandlers.{slice_get-front}
use Rattle.walrus_theorem.proofs.StepParsed.{function_of_v, in_place, types_stay}
use Rattle.walrus_theorem.proofs.StepRead.{read_is_plain}
use Rattle.walrus_theorem.proofs.TextShaped.{all_at, local_same}
use Rattle.walrus_theorem.proofs.WellStays.{function_has, reads_in}
use Rattle.walrus_theorem.specs.Chain.{IsWholeBody, ParsedAs}
use Rattle.walrus_theorem.specs.Features.{features_of}
use Rattle.walrus_theorem.specs.Headline.{ReadsBody, ReadsModule}
use Rattle.walrus_theorem.specs.Sections.{module_of}
use Rattle.walrus_edit_list.specs.Formed.{AreFormed, IsFormed}
use Rattle.walrus_bodies.proofs.AddedLemmas.{range-both}

-- ---- what a body that was read says, each index as it was declared

module _ (c : Config) (s : wire.Module) where
  record Says (ty : ℕ) (b : Body) : Type 0 where
    said : Said
    is : b ≡ body_with (params_of (types_of s ty)) said
    text : List ℕ
    read : BodyReads (context (declared s) (λ t. is_function_def (types_of s t)) (features_of c)) (locals_from 0 (length (params_of (types_of s ty)) + length said.0)) text said.0 said.1

  -- a body that it has is read
  abbrev Fine : Function → Type 0
  Fine g = (b : Body) → g.kind ≡ LocalFunction b → Says g.ty b

  import_fine : (i : ℕ) (d : RawDesc) → AllByRecursion Fine (option_to_list (imported_function i d))
  import_fine i (descs.Function ty) = ((λ b e. absurd (cc)), tt)
  import_fine i (descs.Table ty) = tt
  import_fine i (descs.Memory l) = tt
  import_fine i (descs.Global ty) = tt
  import_fine i (descs.Tag ty) = tt

  imports_fine : (i : ℕ) (xs : List entries.Import) → AllByRecursion Fine (imported imported_function i xs)
  imports_fine i [] = tt
  imports_fine i (x ∷ xs) = all_append Fine (option_to_list (imported_function i x.desc)) (imported imported_function (i + 1) xs) (import_fine i x.desc) (imports_fine (i + 1) xs)

  functions_fine : (tys : List ℕ) (bodies : List wire.Body) (saids : List Said) → AllZip (ReadsBody c s) (zip tys bodies) saids → AllByRecursion Fine (map (function_with s) (zip tys saids))
  functions_fine [] bodies saids read = tt
  functions_fine (ty ∷ tys) [] [] read = tt
  functions_fine (ty ∷ tys) [] (said ∷ saids) read = absurd read
  functions_fine (ty ∷ tys) (body ∷ bodies) [] read = absurd read
  functions_fine (ty ∷ tys) (body ∷ bodies) (said ∷ saids) read =
      ((λ b e. record { said = said; is = local_same (body_with (params_of (types_of s ty)) said) b e; text = body.bytes; read = read.0 }), functions_fine tys bodies saids read.1)

  -- what is known of the module of these sections
  module _ (bodies : List Said) (fields : List ProducerField) (namings : List Named) (read : AllZip (ReadsBody c s) (zip s.functions s.bodies) bodies) where
    abbrev known : IsRead c (module_of s bodies fields namings)
    known = let was : IsRead c (module_of s bodies fields namings) = is_read_by c s bodies fields namings read in record {
      names = declared s;
      bodies = λ f g b e k.
          let a : Says g.ty b = all_at Fine _ f g (all_append Fine (imported imported_function 0 s.imports) (map (function_with s) (zip s.functions bodies)) (imports_fine 0 s.imports) (functions_fine s.functions s.bodies bodies read)) e b k in
          record { said = a.said; is = a.is; text = a.text; read = a.read };
      imports = was.imports;
      customs = was.customs;
    }

-- ---- a whole body, with other numbers for its locals

typed_range : {V : Type 0} (T : ℕ → Option V) (whole : List V) → ((x : ℕ) (v : V) → slice_get whole x ≡ Some v → T x ≡ Some v) → (low : ℕ) (xs : List V) → ((k : ℕ) (y : V) → slice_get xs k ≡ Some y → slice_get whole (low + k) ≡ Some y) → map (λ v. Some v) xs ≡ map T (range_with_len low (length xs))
typed_range T whole h low [] at = refl
typed_range T whole h low (x ∷ xs) at =
    let zeroth : low ≡ low + 0 = omega arith in
    ap₂ ◌∷◌ (sym (h low x (ap (slice_get whole) zeroth ∙ at 0 x refl)))
    (typed_range T whole h (low + 1) xs (λ k y e. let next : low + 1 + k ≡ low + suc k = omega arith in ap (slice_get whole) next ∙ at (suc k) y e))

module _ (c : Config) (v : Abstract) (ty : ℕ) (ps : List (ValType ℕ)) (said : Said) (b : Body) (r : Renaming) (i : ℕ) (whole : IsWholeBody r i (body_with ps said) b) where
  abbrev l : ℕ → ℕ
  l = r.locals i

  distinct : AllPairs (λ (x : ℕ) (y : ℕ). x ≢ y) (map l (range_with_len 0 (length ps)))
  distinct j k d before last same =
      let n : length (map l (range_with_len 0 (length ps))) ≡ length ps = length-map-range_with_len l 0 (length ps) in
      let second : k < length ps = omega (arith, last, n) in
      let first : j < length ps = omega (arith, before, second) in
      let all : length (ps ++ said.0) ≡ length ps + length said.0 = length-append ps said.0 in
      let up : l j < l k = whole.rise j k (slice_there (ps ++ said.0) j (omega (arith, first, all))) (slice_there (ps ++ said.0) k (omega (arith, second, all))) before in
      let e : l j ≡ l k = sym (get_or-map-range_with_len l 0 (length ps) j j d first (omega arith)) ∙ same ∙ get_or-map-range_with_len l 0 (length ps) k k d second (omega arith) in
      omega (arith, up, e)

  abbrev further : List ℕ
  further = map l (range_with_len (length ps) (length said.0))

  found : (n : ℕ) → slice_get (b.parameters ++ further) n ≡ option_map l (locals_from 0 (length ps + length said.0) n)
  found n =
      let from : 0 + length ps ≡ length ps = omega arith in
      ap (λ (xs : List ℕ). slice_get (xs ++ further) n) whole.parameters
      ∙ ap (λ (xs : List ℕ). slice_get xs n) (sym (map-append l (range_with_len 0 (length ps)) (range_with_len (length ps) (length said.0))) ∙ ap (map l) (ap (λ (x : ℕ). range_with_len 0 (length ps) ++ range_with_len x (length said.0)) (sym from) ∙ range-both 0 (length ps) (length said.0)))
      ∙ slice_get-map l (range_with_len 0 (length ps + length said.0)) n

  body_formed : b.operators ≡ map (moved_op l) said.1 → params_of (v.types ty) ≡ ps → IsFunctionType v ty → (names : Lookup) → ((space : Space) (n id : ℕ) → names space n ≡ Some id → id ≡ n) → (text : List ℕ)
      → BodyReads (context names (λ t. is_function_def (v.types t)) (features_of c)) (locals_from 0 (length ps + length said.0)) text said.0 said.1 → IsFormed c v ty b
  body_formed ops params function names own text read = (
    record {
      function_type = function;
      distinct = subst (AllPairs (λ (x : ℕ) (y : ℕ). x ≢ y)) (sym whole.parameters) distinct;
      typed =
          ap (map b.local_type) whole.parameters
          ∙ map-map b.local_type l (range_with_len 0 (length ps))
          ∙ sym (typed_range (λ x. b.local_type (l x)) (ps ++ said.0) whole.types 0 ps (λ k y e. let z : k ≡ 0 + k = omega arith in ap (slice_get (ps ++ said.0)) (sym z) ∙ slice_get-front ps said.0 k y e))
          ∙ ap (λ (xs : List (ValType ℕ)). map (λ x. Some x) xs) (sym params);
      names = names;
      further = further;
      types = said.0;
      further_typed =
          typed_range (λ x. b.local_type (l x)) (ps ++ said.0) whole.types (length ps) said.0 (λ k y e. behind ps said.0 k (length ps + k) refl ∙ e)
          ∙ sym (map-map b.local_type l (range_with_len (length ps) (length said.0)));
      text = text;
      read = subst (BodyReads (context names (λ t. is_function_def (v.types t)) (features_of c)) (slice_get (b.parameters ++ further)) text said.0) (sym ops)
          (moved_reads (context names (λ t. is_function_def (v.types t)) (features_of c)) l (locals_from 0 (length ps + length said.0)) (slice_get (b.parameters ++ further)) found text said.0 said.1 read);
    },
    own,
  )

-- ---- all bodies

module _ (c : Config) (m v : Abstract) (p : ParsedAs c m v) (plain : IsPlain m) (holds : Holds m) (read : IsRead c m) (own : (space : Space) (n id : ℕ) → read.names space n ≡ Some id → id ≡ n) where
  abbrev r : Renaming
  r = in_place c m v p

  formed : (i : ℕ) (b : Body) (w : Was c m v p plain holds read i b) → IsFormed c v w.function.ty b
  formed i b w =
      let type = holds.function_types.functions w.index w.function w.at in
      let stay : v.types w.function.ty ≡ m.types w.function.ty = types_stay c m v p w.function.ty (ap is_some type.1) in
      body_formed c v w.function.ty (params_of (m.types w.function.ty)) w.said b r w.index w.whole
      (w.same.operators ∙ ops_are r (λ s i. refl) (λ i. refl) (r.locals w.index) w.said.1)
      (ap params_of stay)
      (type.0, stay ∙ type.1, type.2)
      read.names
      own
      w.text
      (reads_in read.names (λ t. is_function_def (m.types t)) (λ t. is_function_def (v.types t)) (features_of c) (locals_from 0 (length (params_of (m.types w.function.ty)) + length w.said.0)) w.text w.said.0 w.said.1
      (λ t has. ap is_function_def (types_stay c m v p t (holds.indices.written (Functions, w.index) (type_item t) (function_has m w.index w.function _ (type_item t) w.at w.is has))))
      w.reads)

  bodies_formed : AreFormed c v
  bodies_formed i g b at is =
      let w = was c m v p plain holds read i b (ap body_of_function at ∙ ap body_of_kind is) in
      let there = function_of_v c m v p w.index w.function w.at in
      let here : v.functions w.index ≡ Some g = subst (λ k. v.functions k ≡ Some g) (sym w.place) at in
      let one : there.0 ≡ g = some_same there.0 g (sym there.1 ∙ here) in
      let same : SameFunction r w.index w.function there.0 = there.2 in
      let ty : g.ty ≡ w.function.ty = ap (λ (f : Function). f.ty) (sym one) ∙ same.ty in
      subst (λ t. IsFormed c v t b) (sym ty) (formed i b w)

-- what was parsed has such bodies
pub parsed_formed : (c : Config) (bytes : List ℕ) (m v : Abstract) → ReadsModule c bytes m → Holds m → ParsedAs c m v → AreFormed c v
parsed_formed c bytes m v reads holds p =
    subst (λ (n : Abstract). ParsedAs c n v → IsPlain n → Holds n → AreFormed c v) (sym reads.is)
    (λ parsed plain keeps. bodies_formed c _ v parsed plain keeps (known c reads.sections reads.bodies _ _ reads.read) (declared_itself reads.sections))
    p (read_is_plain c bytes m reads) holds
