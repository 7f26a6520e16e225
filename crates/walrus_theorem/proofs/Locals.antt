-- The rule on how many locals bodies declare is the same on records.
use Rattle.std.proofs.Common.{◌≡◌, ℕ, ◌+◌, ◌≤◌, List, [], ◌∷◌, length, map, refl, ap, subst, ◌∙◌, arith}
use Rattle.std.specs.Prelude.{Option, Some, None, All, slice_get, zip, option_to_list}
use Rattle.std.specs.List.{AllByRecursion, AllZip}
use Rattle.std.proofs.lemmas.List.Elements.{recursion_from_All, All-from_recursion}
use Rattle.wasm_entries.specs.declared.record.RawDesc.{RawDesc}
use Rattle.wasm_entries.specs.declared.record.RawDesc.TheVariants as descs
use Rattle.wasm_entries.specs.Record as entries
use Rattle.wasm_frames.specs.Record as wire
use Rattle.wasm_wire.specs.Rules as records
use Rattle.walrus_bodies.specs.declared.features.Features.{Features}
use Rattle.walrus_functions.specs.Handlers.{params_of}
use Rattle.walrus_bodies.proofs.LawNamed.{each_append}
use Rattle.walrus_model.specs.Abstract.{Body, Function}
use Rattle.walrus_model.specs.Names.{body_of_function, body_of_kind}
use Rattle.walrus_model.specs.Reads.{ReadsBodyWith}
use Rattle.walrus_model.specs.Rules.{LocalsHold}
use Rattle.walrus_model.specs.Sections.{Said, types_of, imported, imported_function, function_with, body_with, functions_of, module_of}
use Rattle.walrus_base.proofs.Standing.{some_inj}
use Rattle.walrus_theorem.proofs.TextShaped.{all_at}
use Rattle.walrus_theorem.proofs.SpelledFits.{all_each}
use Rattle.walrus_theorem.proofs.CountedLocals.{DeclaresFew, counted_few, all_counted}
use Rattle.walrus_bodies.proofs.Lists.{all_parts}

-- a body that it has declares few
abbrev Few : Function → Type 0
Few f = (b : Body) → body_of_kind f.kind ≡ Some b → b.declared ≤ 50_000

desc_few : (i : ℕ) (d : RawDesc) → AllByRecursion Few (option_to_list (imported_function i d))
desc_few i (descs.Function ty) = ((λ b e. absurd (cc)), tt)
desc_few i (descs.Table t) = tt
desc_few i (descs.Memory l) = tt
desc_few i (descs.Global g) = tt
desc_few i (descs.Tag ty) = tt

imports_few : (i : ℕ) (ws : List entries.Import) → AllByRecursion Few (imported imported_function i ws)
imports_few i [] = tt
imports_few i (w ∷ ws) = each_append Few (option_to_list (imported_function i w.desc)) (imported imported_function (i + 1) ws) (desc_few i w.desc) (imports_few (i + 1) ws)

few_by : (o : Option Function) (b : Body) → body_of_function o ≡ Some b → ((f : Function) → o ≡ Some f → Few f) → b.declared ≤ 50_000
few_by None b e h = absurd (cc)
few_by (Some f) b e h = h f refl b e

module _ (features : Features) (s : wire.Module) where
  saids_few : (fs : List ℕ) (bs : List wire.Body) (saids : List Said) → AllZip (ReadsBodyWith features s) (zip fs bs) saids → AllByRecursion records.LocalsHold bs → AllByRecursion DeclaresFew saids
  saids_few [] bs [] read h = tt
  saids_few [] bs (said ∷ saids) read h = absurd read
  saids_few (f ∷ fs) [] [] read h = tt
  saids_few (f ∷ fs) [] (said ∷ saids) read h = absurd read
  saids_few (f ∷ fs) (b ∷ bs) [] read h = absurd read
  saids_few (f ∷ fs) (b ∷ bs) (said ∷ saids) read h = (counted_few _ _ b said.0 said.1 read.0 h.0, saids_few fs bs saids read.1 h.1)

  functions_few : (fs : List ℕ) (saids : List Said) → AllByRecursion DeclaresFew saids → AllByRecursion Few (map (function_with s) (zip fs saids))
  functions_few [] saids h = tt
  functions_few (f ∷ fs) [] h = tt
  functions_few (f ∷ fs) (said ∷ saids) h =
      ((λ b e. let is : body_with (params_of (types_of s f)) said ≡ b = some_inj (body_with (params_of (types_of s f)) said) b e in subst (λ (x : Body). x.declared ≤ 50_000) is h.0), functions_few fs saids h.1)

  few_functions : (fs : List ℕ) (saids : List Said) → length saids ≡ length fs → AllByRecursion Few (map (function_with s) (zip fs saids)) → AllByRecursion DeclaresFew saids
  few_functions [] [] many h = tt
  few_functions [] (said ∷ saids) many h = absurd (omega (arith, many))
  few_functions (f ∷ fs) [] many h = tt
  few_functions (f ∷ fs) (said ∷ saids) many h = (h.0 (body_with (params_of (types_of s f)) said) refl, few_functions fs saids (omega (arith, many)) h.1)

  module _ (bodies : List Said) (read : AllZip (ReadsBodyWith features s) (zip s.functions s.bodies) bodies) where
    pub locals_hold : All records.LocalsHold s.bodies → LocalsHold (module_of s bodies)
    locals_hold h i b e =
        let local : AllByRecursion Few (map (function_with s) (zip s.functions bodies)) = functions_few s.functions bodies (saids_few s.functions s.bodies bodies read (recursion_from_All records.LocalsHold s.bodies h)) in
        let all : AllByRecursion Few (functions_of s bodies) = each_append Few (imported imported_function 0 s.imports) (map (function_with s) (zip s.functions bodies)) (imports_few 0 s.imports) local in
        few_by (slice_get (functions_of s bodies) i) b e (λ f at. all_at Few (functions_of s bodies) i f all at)

    pub locals_held : length s.bodies ≡ length s.functions → length bodies ≡ length s.functions → LocalsHold (module_of s bodies) → All records.LocalsHold s.bodies
    locals_held as_many many h =
        let all : AllByRecursion Few (functions_of s bodies) = all_each Few (functions_of s bodies) (λ i f at b e. h i b (ap body_of_function at ∙ e)) in
        let local : AllByRecursion Few (map (function_with s) (zip s.functions bodies)) = (all_parts Few (imported imported_function 0 s.imports) (map (function_with s) (zip s.functions bodies)) all).1 in
        all_counted features s bodies as_many read (All-from_recursion DeclaresFew bodies (few_functions s.functions bodies many local))
