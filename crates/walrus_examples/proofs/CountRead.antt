-- The bodies of a module that was read are well formed with a call in front, under a look-up that has one function more.
use Rattle.std.proofs.Common.{◌≡◌, ℕ, zero, suc, ◌+◌, ◌<◌, ◌^◌, Bool, List, [], ◌∷◌, ◌++◌, length, map, zip, refl, sym, ap, ◌∙◌, subst, arith, length-append}
use Rattle.std.specs.Prelude.{Option, Some, None, IsSome, is_some, slice_get, if◌then◌else◌}
use Rattle.std.specs.List.{AllByRecursion, AllZip}
use Rattle.std.proofs.lemmas.Bool.{le-ltb}
use Rattle.std.proofs.lemmas.List.{length-map}
use Rattle.std.proofs.lemmas.Slice.Zip.{AllZip-long, length-zip}
use Rattle.walrus.proofs.Forms.Bind.{some_same}
use Rattle.walrus.specs.Frames.Record as wire
use Rattle.walrus.specs.Base.Operators.{Types, Functions, Tables, Memories, Tags, Globals, Elements, DataSegments, Op, type_item}
use Rattle.walrus.specs.Code.Names.{Lookup}
use Rattle.walrus.specs.Modules.Body.{BodyReads, context}
use Rattle.walrus.specs.Modules.FunctionTypes.{is_function_def}
use Rattle.walrus.specs.Ir.Instructions.{call_op}
use Rattle.walrus.specs.Model.Abstract.{Abstract, Body, Function, ImportedFunction, LocalFunction, TypeDef}
use Rattle.walrus.specs.Model.BlockHandlers.{params_of}
use Rattle.walrus.specs.Model.Config.{Config}
use Rattle.walrus.specs.Model.Names.{body_of_function, body_of_kind}
use Rattle.walrus.specs.Model.ReadFunction.{locals_from}
use Rattle.walrus.specs.Model.Reads.{below, declared}
use Rattle.walrus.specs.Model.Rules.{Holds}
use Rattle.walrus.specs.Model.Same.{SameFunction}
use Rattle.walrus.specs.Model.Sections.{Said, body_with, function_types, function_with, imported, imported_function, imported_type, types_of}
use Rattle.walrus.specs.Theorem.Chain.{IsWholeBody, ParsedAs}
use Rattle.walrus.specs.Theorem.Features.{features_of}
use Rattle.walrus.specs.Theorem.Headline.{ReadsBody, ReadsModule}
use Rattle.walrus.specs.Theorem.WellMade.{IsWellFormed}
use Rattle.walrus.proofs.Model.MovedBody.{ops_are}
use Rattle.walrus.proofs.Theorem.ParsedWell.{Was, was}
use Rattle.walrus.proofs.Theorem.ReadBodies.{IsRead, SaidIn, is_read}
use Rattle.walrus.proofs.Theorem.ReadFits.{read_fits}
use Rattle.walrus.proofs.Theorem.SpelledReads.{all_such}
use Rattle.walrus.proofs.Theorem.StepParsed.{function_of_v, in_place, types_stay}
use Rattle.walrus.proofs.Model.StepPlain.{IsPlain}
use Rattle.walrus.proofs.Theorem.StepRead.{read_is_plain}
use Rattle.walrus.proofs.Theorem.TextShaped.{all_at, local_same}
use Rattle.walrus.proofs.Theorem.WellFormedWhole.{well_formed}
use Rattle.walrus.proofs.Theorem.WellStays.{function_has, reads_in}
use Rattle.walrus.proofs.Modules.AllHeld.{IsImported, all_imported}
use Rattle.walrus_examples.proofs.CallBody.{call_reads, counted_call, text_with, with_call}
use Rattle.walrus.proofs.Modules.MoreNames.{KnowsMore, reads_on}
use Rattle.walrus.proofs.Base.Lookups.{there as slice_there}
use Rattle.walrus.proofs.Modules.LawNamed.{each_append as all_append}
use Rattle.walrus.proofs.Theorem.BodiesBack.{as_many_imported as types_many}

-- ---- a look-up that has one function more

abbrev otherwise : ℕ → Option ℕ → Option ℕ
otherwise n (Some f) = Some f
otherwise n None = Some n

-- where no function is declared, function n is found
abbrev with_function : ℕ → Lookup → Lookup
with_function n names Types i = names Types i
with_function n names Functions i = otherwise n (names Functions i)
with_function n names Tables i = names Tables i
with_function n names Memories i = names Memories i
with_function n names Tags i = names Tags i
with_function n names Globals i = names Globals i
with_function n names Elements i = names Elements i
with_function n names DataSegments i = names DataSegments i

knows_more : (n : ℕ) (names : Lookup) → KnowsMore names (with_function n names)
knows_more n names Types i f e = e
knows_more n names Functions i f e = ap (otherwise n) e
knows_more n names Tables i f e = e
knows_more n names Memories i f e = e
knows_more n names Tags i f e = e
knows_more n names Globals i f e = e
knows_more n names Elements i f e = e
knows_more n names DataSegments i f e = e

-- how many functions the sections declare
abbrev pub count_of : wire.Module → ℕ
count_of s = length (function_types s)

none_below : (count : ℕ) → below count count ≡ None
none_below count = ap (λ (b : Bool). if b then Some count else None) (le-ltb count count (omega arith))

leads : (s : wire.Module) (n : ℕ) → with_function n (declared s) Functions (count_of s) ≡ Some n
leads s n = ap (otherwise n) (none_below (count_of s))

-- ---- the bodies under it

module _ (c : Config) (s : wire.Module) (n : ℕ) (m : Abstract) where
  -- the module with the types that the sections have
  abbrev read_as : Abstract
  read_as = record m { types = types_of s }

  -- a body that the function has is said under it
  abbrev Fine : Function → Type 0
  Fine g = (b : Body) → g.kind ≡ LocalFunction b → SaidIn c read_as (with_function n (declared s)) g.ty b

  imports_fine : AllByRecursion Fine (imported imported_function 0 s.imports)
  imports_fine = all_such IsImported Fine (λ g by b e. absurd (let no_such : ImportedFunction by.0 ≡ LocalFunction b = sym by.1 ∙ e in cc)) (imported imported_function 0 s.imports) (all_imported 0 s.imports)

  function_fine : (ty : ℕ) (body : wire.Body) (said : Said) → ReadsBody c s (ty, body) said → Fine (function_with s (ty, said))
  function_fine ty body said read b e = record {
    said = said;
    is = local_same (body_with (params_of (types_of s ty)) said) b e;
    text = body.bytes;
    read = reads_on (declared s) (with_function n (declared s)) (knows_more n (declared s)) (locals_from 0 (length (params_of (types_of s ty)) + length said.0)) (λ t. is_function_def (types_of s t)) (features_of c) body.bytes said.0 said.1 read;
  }

  functions_fine : (tys : List ℕ) (bodies : List wire.Body) (saids : List Said) → AllZip (ReadsBody c s) (zip tys bodies) saids → AllByRecursion Fine (map (function_with s) (zip tys saids))
  functions_fine [] bodies saids read = tt
  functions_fine (ty ∷ tys) [] [] read = tt
  functions_fine (ty ∷ tys) [] (said ∷ saids) read = absurd read
  functions_fine (ty ∷ tys) (body ∷ bodies) [] read = absurd read
  functions_fine (ty ∷ tys) (body ∷ bodies) (said ∷ saids) read = (function_fine ty body said read.0, functions_fine tys bodies saids read.1)

-- ---- a module that was read

module _ (c : Config) (bytes : List ℕ) (m : Abstract) (h : ReadsModule c bytes m) where
  abbrev s : wire.Module
  s = h.sections

  abbrev all : List Function
  all = imported imported_function 0 s.imports ++ map (function_with s) (zip s.functions h.bodies)

  function_at : (i : ℕ) → m.functions i ≡ slice_get all i
  function_at i = ap (λ (x : Abstract). x.functions i) h.is

  long : length all ≡ count_of s
  long = omega (
    arith,
    length-append (imported imported_function 0 s.imports) (map (function_with s) (zip s.functions h.bodies)),
    length-map (zip s.functions h.bodies) (function_with s),
    length-zip s.functions h.bodies,
    length-zip s.functions s.bodies,
    AllZip-long (ReadsBody c s) (zip s.functions s.bodies) h.bodies h.read,
    h.as_many_bodies,
    types_many 0 s.imports,
    length-append (imported imported_type 0 s.imports) s.functions,
  )

  -- fewer than 2 ^ 32 of them
  few_at : (count : ℕ) → count ≡ count_of s → count < 2 ^ 32
  few_at zero e = omega arith
  few_at (suc i) e =
      let there : IsSome (m.functions i) = subst (λ (o : Option Function). IsSome o) (sym (function_at i)) (slice_there all i (omega (arith, e, long))) in
      let last : i + 1 < 2 ^ 32 = (read_fits c bytes m h).items Functions i there in
      omega (arith, last)

  few : count_of s < 2 ^ 32
  few = few_at (count_of s) refl

  -- what is known of the bodies, under the look-up with one function more
  module _ (n : ℕ) where
    body_said : (f : ℕ) (g : Function) (b : Body) → m.functions f ≡ Some g → g.kind ≡ LocalFunction b → SaidIn c m (with_function n (declared s)) g.ty b
    body_said f g b at is =
        let fine = all_append (Fine c s n m) (imported imported_function 0 s.imports) (map (function_with s) (zip s.functions h.bodies)) (imports_fine c s n m) (functions_fine c s n m s.functions s.bodies h.bodies h.read) in
        subst (λ (T : ℕ → Option TypeDef). SaidIn c (record m { types = T }) (with_function n (declared s)) g.ty b) (sym (ap (λ (x : Abstract). x.types) h.is))
        (all_at (Fine c s n m) all f g fine (sym (function_at f) ∙ at) b is)

    abbrev known : IsRead c m
    known = record { names = with_function n (declared s); bodies = body_said; imports = (is_read c bytes m h).imports; customs = (is_read c bytes m h).customs }

    -- ---- what was parsed of it

    module _ (v : Abstract) (holds : Holds m) (p : ParsedAs c m v) (w : Abstract) (types : (i : ℕ) → IsSome (v.types i) → w.types i ≡ v.types i) where
      plain : IsPlain m
      plain = read_is_plain c bytes m h

      types_in : (i : ℕ) → IsSome (m.types i) → w.types i ≡ m.types i
      types_in i there = let stay : v.types i ≡ m.types i = types_stay c m v p i there in types i (subst (λ (o : Option TypeDef). IsSome o) (sym stay) there) ∙ stay

      formed : (i : ℕ) (b : Body) (x : Was c m v p plain holds known i b) → IsWellFormed c w x.function.ty (with_call n b)
      formed i b x =
          let type = holds.function_types.functions x.index x.function x.at in
          let stay : w.types x.function.ty ≡ m.types x.function.ty = types_in x.function.ty (ap is_some type.1) in
          let reads : BodyReads (context (with_function n (declared s)) (λ t. is_function_def (w.types t)) (features_of c)) (locals_from 0 (length (params_of (m.types x.function.ty)) + length x.said.0)) x.text x.said.0 x.said.1 =
          reads_in (with_function n (declared s)) (λ t. is_function_def (m.types t)) (λ t. is_function_def (w.types t)) (features_of c) (locals_from 0 (length (params_of (m.types x.function.ty)) + length x.said.0)) x.text x.said.0 x.said.1
          (λ t has. ap is_function_def (types_in t (holds.indices.written (Functions, x.index) (type_item t) (function_has m x.index x.function (body_with (params_of (m.types x.function.ty)) x.said) (type_item t) x.at x.is has))))
          x.reads in
          let whole : IsWholeBody (in_place c m v p) x.index (body_with (params_of (m.types x.function.ty)) (x.said.0, call_op n ∷ x.said.1)) (with_call n b) =
          record { parameters = x.whole.parameters; types = x.whole.types; counted = counted_call n b x.whole.counted; rise = x.whole.rise } in
          well_formed c w x.function.ty (params_of (m.types x.function.ty)) (x.said.0, call_op n ∷ x.said.1) (with_call n b) (in_place c m v p) x.index whole
          (ap (λ (os : List Op). call_op n ∷ os) (x.same.operators ∙ ops_are (in_place c m v p) (λ s i. refl) (λ i. refl) (p.renaming.locals x.index) x.said.1))
          (ap params_of stay)
          (type.0, stay ∙ type.1, type.2)
          (with_function n (declared s))
          (text_with (count_of s) reads)
          (call_reads (with_function n (declared s)) (λ t. is_function_def (w.types t)) (features_of c) (locals_from 0 (length (params_of (m.types x.function.ty)) + length x.said.0)) (count_of s) n few (leads s n) x.text x.said.0 x.said.1 reads)

      -- each body is well formed with a call of function n in front, in each module with these types
      pub call_formed : (i : ℕ) (g : Function) (b : Body) → v.functions i ≡ Some g → g.kind ≡ LocalFunction b → IsWellFormed c w g.ty (with_call n b)
      call_formed i g b at is =
          let x = was c m v p plain holds known i b (ap body_of_function at ∙ ap body_of_kind is) in
          let there = function_of_v c m v p x.index x.function x.at in
          let here : v.functions x.index ≡ Some g = subst (λ k. v.functions k ≡ Some g) (sym x.place) at in
          let one : there.0 ≡ g = some_same there.0 g (sym there.1 ∙ here) in
          let same : SameFunction (in_place c m v p) x.index x.function there.0 = there.2 in
          let ty : g.ty ≡ x.function.ty = ap (λ (f : Function). f.ty) (sym one) ∙ same.ty in
          subst (λ t. IsWellFormed c w t (with_call n b)) (sym ty) (formed i b x)
