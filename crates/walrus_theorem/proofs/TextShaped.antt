-- The module of a text that is a spelling has its shape.
use Rattle.std.proofs.Common.{◌≡◌, ℕ, zero, suc, ◌+◌, ◌≤◌, Bool, true, false, List, [], ◌∷◌, ◌++◌, length, map, refl, subst, arith}
use Rattle.std.specs.Prelude.{Some, IsSome, slice_get, option_to_list, zip, if◌then◌else◌}
use Rattle.std.specs.List.{AllByRecursion}
use Rattle.wasm_entries.specs.declared.record.RawDesc.{RawDesc}
use Rattle.wasm_entries.specs.declared.record.RawDesc.TheVariants as descs
use Rattle.wasm_entries.specs.Record as entries
use Rattle.wasm_frames.specs.Frames.{gathered}
use Rattle.wasm_frames.specs.Record as wire
use Rattle.wasm_payloads.specs.Names.{Named}
use Rattle.walrus_base.specs.Operators.{Types}
use Rattle.walrus_model.specs.BlockHandlers.{params_of}
use Rattle.walrus_model.specs.Abstract.{Abstract, Name, Subject, AnItem, Body, LocalFunction, Function, ProducerField}
use Rattle.walrus_model.specs.Config.{Config}
use Rattle.walrus_model.specs.Names.{last_name, body_of}
use Rattle.walrus_model.specs.Sections.{Said, body_with, types_of, imported, imported_function, function_with}
use Rattle.walrus_theorem.specs.Namings.{is_in_range, names_given}
use Rattle.walrus_theorem.specs.Once.{WrittenOnce}
use Rattle.walrus_theorem.specs.Pinned.{IsWrittenAs}
use Rattle.walrus_theorem.specs.Sections.{items_of, module_of}
use Rattle.walrus_theorem.specs.Spelling.{UsesAll, IsSpelling}
use Rattle.walrus_theorem.specs.Text.{Text, said, namings_of, sections_of, said_by}
use Rattle.walrus_theorem.proofs.OneModule.{one_module}
use Rattle.walrus_theorem.proofs.Shaped.{Closes, Shaped, Side}
use Rattle.walrus_theorem.proofs.TextImports.{imports_match}
use Rattle.walrus_theorem.proofs.TextNames.{named_once}
use Rattle.walrus_bodies.proofs.LawNamed.{each_append as all_append}

closes : {X : Type 0} (xs : List X) → Closes (slice_get xs)
closes [] j m lt h = absurd (cc)
closes (x ∷ xs) zero m lt h = absurd (omega (arith, lt))
closes (x ∷ xs) (suc j) zero lt h = refl
closes (x ∷ xs) (suc j) (suc m) lt h = closes xs j m (omega (arith, lt)) h

pub all_at : {X : Type 0} (P : X → Type 0) (xs : List X) (k : ℕ) (x : X) → AllByRecursion P xs → slice_get xs k ≡ Some x → P x
all_at P [] k x h e = absurd (cc)
all_at P (y ∷ ys) zero x h e = let p : y ≡ x = cc in subst P p h.0
all_at P (y ∷ ys) (suc k) x h e = all_at P ys k x h.1 e

pub all_map : {X Y : Type 0} (P : Y → Type 0) (f : X → Y) (xs : List X) → ((x : X) → P (f x)) → AllByRecursion P (map f xs)
all_map P f [] h = tt
all_map P f (x ∷ xs) h = (h x, all_map P f xs h)

pub local_same : (b d : Body) → LocalFunction b ≡ LocalFunction d → d ≡ b
local_same b d e = cc

module _ (w : wire.Module) where
  -- a body that it has is one with the parameters of its type
  abbrev pub Fine : Function → Type 0
  Fine g = (b : Body) → g.kind ≡ LocalFunction b → (said : Said) × (b ≡ body_with (params_of (types_of w g.ty)) said)

  imported_fine : (i : ℕ) (d : RawDesc) → AllByRecursion Fine (option_to_list (imported_function i d))
  imported_fine i (descs.Function ty) = ((λ b e. absurd (cc)), tt)
  imported_fine i (descs.Table ty) = tt
  imported_fine i (descs.Memory l) = tt
  imported_fine i (descs.Global ty) = tt
  imported_fine i (descs.Tag ty) = tt

  imports_fine : (i : ℕ) (xs : List entries.Import) → AllByRecursion Fine (imported imported_function i xs)
  imports_fine i [] = tt
  imports_fine i (x ∷ xs) = all_append Fine (option_to_list (imported_function i x.desc)) (imported imported_function (i + 1) xs) (imported_fine i x.desc) (imports_fine (i + 1) xs)

  function_fine : (f : ℕ × Said) → Fine (function_with w f)
  function_fine f b e = (f.1, local_same (body_with (params_of (types_of w f.0)) f.1) b e)

  module _ (bodies : List Said) (fields : List ProducerField) (namings : List Named) where
    abbrev pub the : Abstract
    the = module_of w bodies fields namings

    pub functions_fine : AllByRecursion Fine (imported imported_function 0 w.imports ++ map (function_with w) (zip w.functions bodies))
    functions_fine = all_append Fine (imported imported_function 0 w.imports) (map (function_with w) (zip w.functions bodies)) (imports_fine 0 w.imports) (all_map Fine (function_with w) (zip w.functions bodies) function_fine)

    short_if : (flag : Bool) (names : List Name) → length names ≤ 1 → length (if flag then names else []) ≤ 1
    short_if true names h = h
    short_if false names h = omega arith

    there_if : (flag : Bool) (names : List Name) → IsSome (last_name (if flag then names else [])) → flag ≡ true
    there_if true names h = refl
    there_if false names h = absurd (cc)

    pub shaped_module : ((f : ℕ) (b : Body) → body_of the f ≡ Some b → UsesAll b) → ((x : Subject) → length (names_given namings x) ≤ 1) → Shaped the
    shaped_module uses once = record {
      types = closes _;
      imports = closes _;
      functions = closes _;
      tables = closes _;
      memories = closes _;
      tags = closes _;
      globals = closes _;
      elements = closes _;
      data_segments = closes _;
      bodies = λ f g b e k. all_at Fine _ f g functions_fine e b k;
      uses = uses;
      matched = imports_match w bodies fields namings;
      named_once = λ x. short_if (is_in_range (items_of w bodies fields) x) (names_given namings x) (once x);
      types_there = λ i h. there_if (is_in_range (items_of w bodies fields) (AnItem (Types, i))) (names_given namings (AnItem (Types, i))) h;
      table_segments = refl;
      memory_segments = refl;
      handler_types = refl;
      section_roots = refl;
    }

pub shaped : (t : Text) → IsSpelling (said_by t) t → Shaped (said_by t)
shaped t h = shaped_module (gathered (sections_of t)) (map said t.bodies) t.producers (namings_of t.names) h.used (named_once t.names (said_by t) h.names)

pub side : (c : Config) (v : Abstract) (t : Text) → IsSpelling (said_by t) t → IsWrittenAs c v (said_by t) → Side c v (said_by t)
side c v t h w = record { shaped = shaped t h; is = w }

pub written_once : WrittenOnce
written_once c v s t p hs ht ws wt = one_module c v p (said_by s) (said_by t) (side c v s hs ws) (side c v t ht wt)
