-- The rules on records are those on the module that they say.
use Rattle.std.proofs.Common.{◌≡◌, ◌≢◌, ℕ, ◌<◌, List, [], length, map, get_or, refl, sym, subst, ◌∙◌, arith}
use Rattle.std.specs.Prelude.{Option, Some, None, AllPairs, Contains, flat_map, slice_get, zip}
use Rattle.std.specs.List.{AllZip}
use Rattle.std.proofs.lemmas.List.{get_or-map, length-map}
use Rattle.wasm_entries.specs.Record as entries
use Rattle.wasm_frames.specs.Record as wire
use Rattle.wasm_wire.specs.Rules as records
use Rattle.walrus_bodies.specs.declared.features.Features.{Features}
use Rattle.walrus_model.specs.Abstract.{Abstract, Body, Function, Export}
use Rattle.walrus_model.specs.Reads.{ReadsBodyWith}
use Rattle.walrus_model.specs.Rules.{Holds, FunctionTypesHold, IsFunctionType}
use Rattle.walrus_model.specs.Sections as sections
use Rattle.walrus_model.specs.Sections.{Said, export_of, functions_of}
use Rattle.walrus_base.proofs.Standing.{some_of}
use Rattle.walrus_base.proofs.Lookups.{pairs_map}
use Rattle.walrus_model.proofs.PlacedTypes.{pairs_long, zip_length}
use Rattle.walrus_theorem.specs.Features.{features_of}
use Rattle.walrus_theorem.specs.Headline.{field_of}
use Rattle.walrus_theorem.specs.Sections.{module_of}
use Rattle.walrus_theorem.specs.Rules.{OnlyRecords, RulesAgree, ReadsAgree}
use Rattle.walrus_model.proofs.Beside.{holds_beside}
use Rattle.walrus_theorem.proofs.FunctionTypes.{functions_typed, functions_were, tags_typed, tags_were, start_holds, start_held}
use Rattle.walrus_theorem.proofs.Indices.{indices_hold, indices_held}
use Rattle.walrus_theorem.proofs.Limits.{tables_hold, tables_held, memories_hold, memories_held}
use Rattle.walrus_theorem.proofs.Locals.{locals_hold, locals_held}
use Rattle.walrus_theorem.proofs.Offsets.{elements_hold, elements_held, data_hold, data_held}
use Rattle.walrus_theorem.proofs.ReadBody.{body_at, block_typed}
use Rattle.walrus_theorem.proofs.TypeRules.{types_hold, types_refer}

-- ---- counts and names

counts_by : (o : Option ℕ) (n : ℕ) → ((k : ℕ) → o ≡ Some k → k ≡ n) → records.CountHolds n o
counts_by None n h = tt
counts_by (Some k) n h = h k refl

counts_were : (o : Option ℕ) (n : ℕ) → records.CountHolds n o → (k : ℕ) → o ≡ Some k → k ≡ n
counts_were None n h k is = absurd (cc)
counts_were (Some m) n h k is = let same : m ≡ k = cc in sym same ∙ h

names_were : (es : List entries.Export) → AllPairs (λ (a : Export) (b : Export). a.name ≢ b.name) (map export_of es) → records.NamesDiffer es
names_were es h = λ i j d less within.
    let w : j < length (map export_of es) = omega (arith, within, length-map es export_of) in
    let v : i < length es = omega (arith, less, within) in
    let s = h i j (export_of d) less w in
    let a : get_or (map export_of es) i (export_of d) ≡ export_of (get_or es i d) = get_or-map export_of es i d (export_of d) v in
    let b : get_or (map export_of es) j (export_of d) ≡ export_of (get_or es j d) = get_or-map export_of es j d (export_of d) within in
    subst (λ (x : Export). x.name ≢ (export_of (get_or es j d)).name) a (subst (λ (x : Export). (get_or (map export_of es) i (export_of d)).name ≢ x.name) b s)

module _ (features : Features) (s : wire.Module) (bodies : List Said) (read : AllZip (ReadsBodyWith features s) (zip s.functions s.bodies) bodies) where
  abbrev M : Abstract
  M = sections.module_of s bodies

  -- as many bodies are read as there are functions
  many_by : length s.bodies ≡ length s.functions → length bodies ≡ length s.functions
  many_by as_many = sym (zip_length (ReadsBodyWith features s) (zip s.functions s.bodies) bodies read) ∙ pairs_long s.functions s.bodies as_many

  -- ---- from records to the module

  module _ (h : records.Rules s) where
    types_of_functions : (i : ℕ) (f : Function) → slice_get (functions_of s bodies) i ≡ Some f → IsFunctionType M f.ty
    types_of_functions = functions_typed s bodies (many_by h.as_many_bodies) h.function_types

    function_types_hold : FunctionTypesHold M
    function_types_hold = record {
      functions = types_of_functions;
      tags = tags_typed s bodies h.tag_types;
      blocks = λ f t b o at n m.
          let a = body_at features s bodies read f b at in
          block_typed features s a.function a.read o t (subst (λ (x : Body). Contains x.operators o) a.is n) m;
    }

    rules_hold : Holds M
    rules_hold = record {
      types = types_hold s bodies h.types;
      indices = indices_hold features s bodies (many_by h.as_many_bodies) h.indices h.data_count h.types types_of_functions read;
      function_types = function_types_hold;
      limits = record { tables = tables_hold s h.tables; memories = memories_hold s h.memories };
      exports = record {
        distinct = pairs_map (λ (d : Export) (e : Export). d.name ≢ e.name) export_of s.exports h.names_differ;
        start = λ i f is at. start_holds s bodies (many_by h.as_many_bodies) s.start h.start i f is at;
      };
      offsets = record { elements = elements_hold s bodies h.element_offsets; data_segments = data_hold s bodies h.data_offsets };
      locals = locals_hold features s bodies read h.locals;
    }

    only_records : OnlyRecords s
    only_records = record { in_order = h.in_order; as_many_bodies = h.as_many_bodies; data_count = counts_were s.data_count (length s.data_segments) h.data_count }

  -- ---- and back

  rules_held : OnlyRecords s → Holds M → records.Rules s
  rules_held only h =
      let many : length bodies ≡ length s.functions = many_by only.as_many_bodies in
      record {
        in_order = only.in_order;
        types = types_refer s bodies h.types;
        indices = indices_held features s bodies many h.indices;
        function_types = functions_were s bodies many h.function_types.functions;
        tag_types = tags_were s bodies h.function_types.tags;
        tables = tables_held s h.limits.tables;
        memories = memories_held s h.limits.memories;
        as_many_bodies = only.as_many_bodies;
        data_count = counts_by s.data_count (length s.data_segments) only.data_count;
        names_differ = names_were s.exports h.exports.distinct;
        start = start_held s bodies many s.start (λ i is. let f = some_of (slice_get (functions_of s bodies) i) (h.indices.start i is) in (f.0, f.1, h.exports.start i f.0 is f.1));
        element_offsets = elements_held s bodies h.offsets.elements;
        data_offsets = data_held s bodies h.offsets.data_segments;
        locals = locals_held features s bodies read only.as_many_bodies many h.locals;
      }

pub agree : RulesAgree
agree features s bodies read = ((λ h. (only_records features s bodies read h, rules_hold features s bodies read h)), (λ p. rules_held features s bodies read p.0 p.1))

-- names and producers bear on no rule
pub reads_agree : ReadsAgree
reads_agree c bytes m r =
    let fields = flat_map (map field_of) r.fields in
    let namings = flat_map (λ xs. xs) r.namings in
    let both = agree (features_of c) r.sections r.bodies r.read in
    let only : OnlyRecords r.sections = record { in_order = r.in_order; as_many_bodies = r.as_many_bodies; data_count = r.data_count } in (
      (λ h. subst Holds (sym r.is) (holds_beside (sections.module_of r.sections r.bodies) fields (module_of r.sections r.bodies fields namings).named (both.0 h).1)),
      (λ h. both.1 (only, holds_beside (module_of r.sections r.bodies fields namings) [] (λ y. []) (subst Holds r.is h))),
    )
