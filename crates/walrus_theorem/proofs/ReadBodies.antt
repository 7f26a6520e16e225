-- What is known of the bodies, imports and custom sections of each module that bytes read as.
use Rattle.std.proofs.Common.{◌≡◌, ◌≢◌, ℕ, ◌+◌, Bool, true, false, List, [], ◌∷◌, length, map, filter, zip, not, refl, sym, subst}
use Rattle.std.specs.Prelude.{Some, Contains, option_to_list, codes, ◌||◌, bytes_eq}
use Rattle.std.specs.List.{AllByRecursion, AllZip}
use Rattle.std.proofs.lemmas.List.Elements.{filter_passes}
use Rattle.walrus_model.specs.Customs.{is_debug_name}
use Rattle.wasm_entries.specs.declared.record.RawDesc.{RawDesc}
use Rattle.wasm_entries.specs.declared.record.RawDesc.TheVariants as descs
use Rattle.wasm_entries.specs.Record as entries
use Rattle.std.proofs.lemmas.Slice.Eq.{bytes_eq-Decides}
use Rattle.wasm_frames.specs.Record as wire
use Rattle.wasm_payloads.specs.Names.{Named}
use Rattle.walrus_code.specs.Names.{Lookup}
use Rattle.walrus_bodies.specs.Body.{context, BodyReads}
use Rattle.walrus_bodies.specs.FunctionTypes.{is_function_def}
use Rattle.walrus_model.specs.BlockHandlers.{params_of}
use Rattle.walrus_model.specs.ReadFunction.{locals_from}
use Rattle.walrus_model.specs.Abstract.{Abstract, Body, Function, LocalFunction, ProducerField, Custom}
use Rattle.walrus_model.specs.Config.{Config}
use Rattle.walrus_model.specs.Reads.{declared}
use Rattle.walrus_model.specs.Sections.{Said, body_with, types_of, imported, imported_function, function_with, is_apart, custom_of}
use Rattle.walrus_model.specs.WellMade.{ImportsMatch}
use Rattle.walrus_theorem.specs.Features.{features_of}
use Rattle.walrus_theorem.specs.Headline.{ReadsBody, ReadsModule}
use Rattle.walrus_theorem.specs.Sections.{module_of}
use Rattle.walrus_model.proofs.PipelineOps.{from_map}
use Rattle.walrus_theorem.proofs.TextImports.{imports_match}
use Rattle.walrus_theorem.proofs.TextShaped.{all_at, local_same}
use Rattle.std.proofs.lemmas.Bool.{or_left}
use Rattle.walrus_bodies.proofs.LawNamed.{each_append as all_append}

-- what a body of a function of this type says
pub record SaidIn (c : Config) (m : Abstract) (names : Lookup) (ty : ℕ) (b : Body) : Type 0 where
  pub said : Said
  pub is : b ≡ body_with (params_of (m.types ty)) said
  pub text : List ℕ
  pub read : BodyReads (context names (λ t. is_function_def (m.types t)) (features_of c)) (locals_from 0 (length (params_of (m.types ty)) + length said.0)) text said.0 said.1

pub record IsRead (c : Config) (m : Abstract) : Type 0 where
  pub names : Lookup
  pub bodies : (f : ℕ) (g : Function) (b : Body) → m.functions f ≡ Some g → g.kind ≡ LocalFunction b → SaidIn c m names g.ty b
  pub imports : ImportsMatch m
  pub customs : (s : Custom) → Contains m.customs s → (s.name ≢ codes "name") × (s.name ≢ codes "producers")

filtered : {X : Type 0} (p : X → Bool) (xs : List X) (x : X) → Contains (filter p xs) x → p x ≡ true
filtered p xs x at = subst (λ y. p y ≡ true) at.2 (filter_passes p xs at.0 x at.1)

refused : (t : Bool) → t ≡ true → not t ≡ true → ⊥
refused true e h = let no : false ≡ true = h in cc
refused false e h = cc

later : (a b c : Bool) → b ≡ true → (a || (b || c)) ≡ true
later true b c e = refl
later false true c e = refl
later false false c e = absurd (cc)

not_apart : (name : List ℕ) → not (is_apart name) ≡ true → (name ≢ codes "name") × (name ≢ codes "producers")
not_apart name h = (
  (λ e. refused (is_apart name) (or_left (bytes_eq name (codes "name")) (bytes_eq name (codes "producers") || is_debug_name name) ((bytes_eq-Decides name (codes "name")).1 e)) h),
  (λ e. refused (is_apart name) (later (bytes_eq name (codes "name")) (bytes_eq name (codes "producers")) (is_debug_name name) ((bytes_eq-Decides name (codes "producers")).1 e)) h),
)

module _ (c : Config) (s : wire.Module) where
  record Says (ty : ℕ) (b : Body) : Type 0 where
    said : Said
    is : b ≡ body_with (params_of (types_of s ty)) said
    text : List ℕ
    read : BodyReads (context (declared s) (λ t. is_function_def (types_of s t)) (features_of c)) (locals_from 0 (length (params_of (types_of s ty)) + length said.0)) text said.0 said.1

  -- a body that it has is read
  abbrev Fine : Function → Type 0
  Fine g = (b : Body) → g.kind ≡ LocalFunction b → Says g.ty b

  imported_fine : (i : ℕ) (d : RawDesc) → AllByRecursion Fine (option_to_list (imported_function i d))
  imported_fine i (descs.Function ty) = ((λ b e. absurd (cc)), tt)
  imported_fine i (descs.Table ty) = tt
  imported_fine i (descs.Memory l) = tt
  imported_fine i (descs.Global ty) = tt
  imported_fine i (descs.Tag ty) = tt

  imports_fine : (i : ℕ) (xs : List entries.Import) → AllByRecursion Fine (imported imported_function i xs)
  imports_fine i [] = tt
  imports_fine i (x ∷ xs) = all_append Fine (option_to_list (imported_function i x.desc)) (imported imported_function (i + 1) xs) (imported_fine i x.desc) (imports_fine (i + 1) xs)

  function_fine : (ty : ℕ) (body : wire.Body) (said : Said) → ReadsBody c s (ty, body) said → Fine (function_with s (ty, said))
  function_fine ty body said read b e = record { said = said; is = local_same (body_with (params_of (types_of s ty)) said) b e; text = body.bytes; read = read }

  functions_fine : (tys : List ℕ) (bodies : List wire.Body) (saids : List Said) → AllZip (ReadsBody c s) (zip tys bodies) saids → AllByRecursion Fine (map (function_with s) (zip tys saids))
  functions_fine [] bodies saids read = tt
  functions_fine (ty ∷ tys) [] [] read = tt
  functions_fine (ty ∷ tys) [] (said ∷ saids) read = absurd read
  functions_fine (ty ∷ tys) (body ∷ bodies) [] read = absurd read
  functions_fine (ty ∷ tys) (body ∷ bodies) (said ∷ saids) read = (function_fine ty body said read.0, functions_fine tys bodies saids read.1)

  module _ (bodies : List Said) (fields : List ProducerField) (namings : List Named) where
    abbrev the : Abstract
    the = module_of s bodies fields namings

    pub is_read_by : AllZip (ReadsBody c s) (zip s.functions s.bodies) bodies → IsRead c the
    is_read_by read = record {
      names = declared s;
      bodies = λ f g b e k.
          let a : Says g.ty b = all_at Fine _ f g (all_append Fine (imported imported_function 0 s.imports) (map (function_with s) (zip s.functions bodies)) (imports_fine 0 s.imports) (functions_fine s.functions s.bodies bodies read)) e b k in
          record { said = a.said; is = a.is; text = a.text; read = a.read };
      imports = imports_match s bodies fields namings;
      customs = λ x at.
          let found = from_map custom_of x (filter (λ (c : wire.Custom). not (is_apart c.name)) s.customs) at in
          subst (λ (y : Custom). (y.name ≢ codes "name") × (y.name ≢ codes "producers")) found.2
          (not_apart found.0.name (filtered (λ (c : wire.Custom). not (is_apart c.name)) s.customs found.0 found.1));
    }

pub is_read : (c : Config) (bytes : List ℕ) (m : Abstract) → ReadsModule c bytes m → IsRead c m
is_read c bytes m read = subst (IsRead c) (sym read.is) (is_read_by c read.sections read.bodies _ _ read.read)
