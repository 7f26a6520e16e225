-- What is known of a module that was read from its one spelling.
use Rattle.std.proofs.Common.{◌≡◌, ℕ, ◌+◌, ◌<◌, List, [], ◌∷◌, length, map, zip, sym, ap, ◌∙◌, subst}
use Rattle.std.proofs.lemmas.Option.{slice_get_within}
use Rattle.std.specs.Prelude.{Option, Some, IsSome, option_to_list, slice_get, ◌↔◌}
use Rattle.std.specs.List.{AllByRecursion}
use Rattle.wasm_entries.specs.declared.record.RawDesc.{RawDesc}
use Rattle.wasm_entries.specs.declared.record.RawDesc.TheVariants as descs
use Rattle.wasm_entries.specs.Record as entries
use Rattle.wasm_frames.specs.Record as wire
use Rattle.walrus_model.specs.Groups.{types_from}
use Rattle.walrus_model.specs.Abstract.{Abstract, TypeDef, Body, Function, Uninitialised}
use Rattle.walrus_model.specs.Config.{Config}
use Rattle.walrus_model.specs.Customs.{no_indices, written_customs}
use Rattle.walrus_model.specs.Names.{body_of}
use Rattle.walrus_model.specs.Rules.{Holds}
use Rattle.walrus_model.specs.Sections.{Said, functions_of, imported, imported_function, function_with}
use Rattle.walrus_theorem.specs.Headline.{ReadsModule}
use Rattle.walrus_theorem.specs.Spelling.{UsesAll, IsSpelledAs}
use Rattle.walrus_theorem.proofs.ReadBodies.{IsRead, is_read}
use Rattle.walrus_theorem.proofs.SpelledOrder.{LocalsInOrder, locals_in_order, customs_in_groups}
use Rattle.walrus_model.proofs.StepPlain.{IsPlain}
use Rattle.walrus_theorem.proofs.StepRead.{read_is_plain}
use Rattle.walrus_theorem.proofs.TextShaped.{all_at, all_map}
use Rattle.walrus_base.proofs.Lookups.{there as slice_there}
use Rattle.walrus_base.proofs.Standing.{some_of}
use Rattle.walrus_bodies.proofs.LawNamed.{each_append as all_append}

pub record IsReadWell (c : Config) (n : Abstract) : Type 0 where
  pub plain : IsPlain n
  pub holds : Holds n
  pub read : IsRead c n
  pub made : (i : ℕ) (f : Function) → n.functions i ≡ Some f → f.kind ≡ Uninitialised → ⊥
  pub uses : (f : ℕ) (b : Body) → body_of n f ≡ Some b → UsesAll b
  pub locals : (f : ℕ) (b : Body) → body_of n f ≡ Some b → LocalsInOrder b
  pub customs : n.customs ≡ written_customs no_indices n.customs
  pub list : List TypeDef
  pub types : (i : ℕ) → n.types i ≡ slice_get list i
  pub count : ℕ
  pub functions : (f : ℕ) → IsSome (n.functions f) ↔ (f < count)

-- ---- each function is imported, or has a body

abbrev IsMade : Function → Type 0
IsMade f = f.kind ≡ Uninitialised → ⊥

import_made : (i : ℕ) (d : RawDesc) → AllByRecursion IsMade (option_to_list (imported_function i d))
import_made i (descs.Function ty) = ((λ e. absurd (cc)), tt)
import_made i (descs.Table ty) = tt
import_made i (descs.Memory l) = tt
import_made i (descs.Global ty) = tt
import_made i (descs.Tag ty) = tt

imports_made : (i : ℕ) (xs : List entries.Import) → AllByRecursion IsMade (imported imported_function i xs)
imports_made i [] = tt
imports_made i (x ∷ xs) = all_append IsMade (option_to_list (imported_function i x.desc)) (imported imported_function (i + 1) xs) (import_made i x.desc) (imports_made (i + 1) xs)

functions_made : (s : wire.Module) (bodies : List Said) → AllByRecursion IsMade (functions_of s bodies)
functions_made s bodies = all_append IsMade (imported imported_function 0 s.imports) (map (function_with s) (zip s.functions bodies)) (imports_made 0 s.imports)
    (all_map IsMade (function_with s) (zip s.functions bodies) (λ f e. absurd (cc)))

-- ---- all of it

counted : {X : Type 0} (xs : List X) (o : Option X) (i : ℕ) → o ≡ slice_get xs i → IsSome o ↔ (i < length xs)
counted xs o i e = (
  λ there. let x = some_of o there in slice_get_within xs i x.0 (sym e ∙ x.1),
  λ low. subst IsSome (sym e) (slice_there xs i low),
)

pub read_well : (c : Config) (bytes : List ℕ) (n : Abstract) → ReadsModule c bytes n → Holds n → IsSpelledAs n bytes → IsReadWell c n
read_well c bytes n reads holds spelled =
    let functions = functions_of reads.sections reads.bodies in
    let is : (i : ℕ) → n.functions i ≡ slice_get functions i = λ i. ap (λ (x : Abstract). x.functions i) reads.is in
    record {
      plain = read_is_plain c bytes n reads;
      holds = holds;
      read = is_read c bytes n reads;
      made = λ i f at. all_at IsMade functions i f (functions_made reads.sections reads.bodies) (sym (is i) ∙ at);
      uses = spelled.spells.used;
      locals = locals_in_order n spelled.text spelled.spells;
      customs = customs_in_groups n spelled.text spelled.spells;
      list = types_from 0 reads.sections.types;
      types = λ i. ap (λ (x : Abstract). x.types i) reads.is;
      count = length functions;
      functions = λ i. counted functions (n.functions i) i (is i);
    }
