use Rattle.std.specs.Fn.{FnReturnsAt}
use Rattle.walrus_functions.specs.ReadFunction.{Given, GivenIf}
use Rattle.std.proofs.Common.{ℕ, Bool, List, refl, subst, ◌≡◌, length, map, sym, ap, ◌∙◌}
use Rattle.std.specs.Prelude.{All, Ok, Some}
use Rattle.std.proofs.lemmas.List.{length-map}
use Rattle.walrus_groups.specs.Groups.{types_from}
use Rattle.std.proofs.lemmas.Result.{err_from_is_err_and}
use Rattle.wasm_frames.specs.Record.{body_record, sections}
use Rattle.walrus_base.specs.Id.{place}
use Rattle.walrus_base.specs.ModuleTypes.{type_slots}
use Rattle.walrus_code.specs.Indices.{ids_at}
use Rattle.walrus_functions.specs.Signatures.{slots_of, tag_places}
use Rattle.walrus_items.specs.Functions.{functions}
use Rattle.walrus_items.specs.Tags.{tags}
use Rattle.walrus_model.specs.Sections.{imported, imported_tag, tag_of, tags_of}
use Rattle.walrus_reading.specs.Held.{HoldsTag}
use Rattle.walrus_reading.specs.Placed.{AddsPlaced, AllPlaced}
use Rattle.walrus_reading.specs.Stays.{AllStay, TypeStays}
use Rattle.walrus_reading.specs.Taken.{AreLocatedIn, tag_types_of}
use Rattle.walrus_reading.proofs.Locating.{located_in}
use Rattle.walrus_reading.proofs.Numbered.{stay}
use Rattle.walrus_reading.proofs.Rows.{placed_more}
use Rattle.walrus_reading.proofs.TagTypes.{are_there, same_tag_types}
use Rattle.walrus_reading.proofs.TakenSections.{types_are_functions, under_sections, bodies_refused}
use Rattle.walrus_reading.proofs.contents.read_functions.Goals as goal

pub add_tags-requires : goal.add_tags-requires
add_tags-requires g c =
    let names = ids_at c.read_imported.new.indices in
    let all : AllStay names (sections c.args.raw.now) = stay names (sections c.args.raw.now) c.in_ok-contents.ensures.numbered c.requires.rules.indices in
    record { stay = subst (λ (l : List ℕ). All (TypeStays names) l) (sym c.deref.ensures.value) all.tags }

pub add_functions-requires-clause-declared : goal.add_functions-requires-clause-declared
add_functions-requires-clause-declared g c =
    let names = ids_at c.read_imported.new.indices in
    let all : AllStay names (sections c.args.raw.now) = stay names (sections c.args.raw.now) c.in_ok-contents.ensures.numbered c.requires.rules.indices in
    subst (λ (l : List ℕ). All (TypeStays names) l) (sym c.deref-3.ensures.value) all.functions

pub add_functions-requires-clause-typed : goal.add_functions-requires-clause-typed
add_functions-requires-clause-typed g c =
    types_are_functions c.args.features.now (sections c.args.raw.now) c.read_imported.new.indices c.in_ok-contents.contents.types c.in_ok-contents.ensures.numbered c.in_ok-contents.ensures.begun.types
    c.deref-3.result.now c.deref-3.ensures.value c.requires.rules.function_types

pub add_functions-requires-clause-there : goal.add_functions-requires-clause-there
add_functions-requires-clause-there g c =
    let names = ids_at c.read_imported.new.indices in
    let all : AllStay names (sections c.args.raw.now) = stay names (sections c.args.raw.now) c.in_ok-contents.ensures.numbered c.requires.rules.indices in
    let with_tags : AllPlaced HoldsTag 0 (tags_of (sections c.args.raw.now)) (tags c.add_tags.new.all) =
    placed_more HoldsTag (imported imported_tag 0 (sections c.args.raw.now).imports) (map tag_of c.args.raw.now.tags.items) (tags c.in_ok-contents.contents.tags) (tags c.add_tags.new.all) c.in_ok-contents.ensures.begun.brought.tags
    (subst (λ (l : List ℕ). AddsPlaced HoldsTag (map tag_of l) (tags c.in_ok-contents.contents.tags) (tags c.add_tags.new.all)) c.deref.ensures.value c.in_ok-add_tags.ensures.added) in
    let same : tag_places c.deref-2.result.now ≡ tag_types_of (sections c.args.raw.now) =
    same_tag_types (sections c.args.raw.now) c.deref-2.result.now (tags c.add_tags.new.all) (ap (map place) c.deref-2.ensures.value ∙ c.in_ok-tag_types.ensures.value) with_tags in
    are_there names (sections c.args.raw.now) all (type_slots c.in_ok-contents.contents.types) (tag_places c.deref-2.result.now) c.in_ok-contents.ensures.numbered c.in_ok-contents.ensures.begun.types same

pub returns-in_err-starts-clause-taken : goal.returns-in_err-starts-clause-taken
returns-in_err-starts-clause-taken g c =
    let with_tags : AllPlaced HoldsTag 0 (tags_of (sections c.args.raw.now)) (tags c.add_tags.new.all) =
    placed_more HoldsTag (imported imported_tag 0 (sections c.args.raw.now).imports) (map tag_of c.args.raw.now.tags.items) (tags c.in_ok-contents.contents.tags) (tags c.add_tags.new.all) c.in_ok-contents.ensures.begun.brought.tags
    (subst (λ (l : List ℕ). AddsPlaced HoldsTag (map tag_of l) (tags c.in_ok-contents.contents.tags) (tags c.add_tags.new.all)) c.deref.ensures.value c.in_ok-add_tags.ensures.added) in
    let same : tag_places c.deref-2.result.now ≡ tag_types_of (sections c.args.raw.now) =
    same_tag_types (sections c.args.raw.now) c.deref-2.result.now (tags c.add_tags.new.all) (ap (map place) c.deref-2.ensures.value ∙ c.in_ok-tag_types.ensures.value) with_tags in
    let p = err_from_is_err_and c.from_residual-in_err-starts.result c.from_residual-in_err-starts.ensures.1 in
    rw (p.1, p.2) (bodies_refused c.args.features.now (sections c.args.raw.now) c.read_imported.new.indices c.in_ok-contents.contents.types c.in_ok-contents.ensures.numbered c.in_ok-contents.ensures.begun.types
    (tag_places c.deref-2.result.now) same c.deref-3.result.now (map body_record c.deref-4.result.now) c.deref-3.ensures.value (ap (map body_record) c.deref-4.ensures.value)
    c.add_functions.new.all (slots_of c.in_ok-contents.contents.types) (slots_of c.add_functions.new.types) (functions c.in_ok-contents.contents.funcs) (functions c.add_functions.new.funcs)
    c.in_ok-contents.ensures.begun.brought.functions _ c.in_err-starts.ensures.taken)

pub returns-clause-taken : goal.returns-clause-taken
returns-clause-taken g c =
    let s = sections c.args.raw.now in
    let b = c.in_ok-contents.contents in
    let begun = c.in_ok-contents.ensures.begun in
    let with_tags : AllPlaced HoldsTag 0 (tags_of (sections c.args.raw.now)) (tags c.add_tags.new.all) =
    placed_more HoldsTag (imported imported_tag 0 (sections c.args.raw.now).imports) (map tag_of c.args.raw.now.tags.items) (tags c.in_ok-contents.contents.tags) (tags c.add_tags.new.all) c.in_ok-contents.ensures.begun.brought.tags
    (subst (λ (l : List ℕ). AddsPlaced HoldsTag (map tag_of l) (tags c.in_ok-contents.contents.tags) (tags c.add_tags.new.all)) c.deref.ensures.value c.in_ok-add_tags.ensures.added) in
    let same : tag_places c.deref-2.result.now ≡ tag_types_of (sections c.args.raw.now) =
    same_tag_types (sections c.args.raw.now) c.deref-2.result.now (tags c.add_tags.new.all) (ap (map place) c.deref-2.ensures.value ∙ c.in_ok-tag_types.ensures.value) with_tags in
    record {
      brought = b;
      begun = begun;
      others = refl;
      tags = with_tags;
      taken = under_sections c.args.features.now s c.read_imported.new.indices b.types c.in_ok-contents.ensures.numbered begun.types
          (tag_places c.deref-2.result.now) same c.deref-3.result.now (map body_record c.deref-4.result.now) c.deref-3.ensures.value (ap (map body_record) c.deref-4.ensures.value)
          c.add_functions.new.all (slots_of b.types) (slots_of c.add_functions.new.types) (functions b.funcs) (functions c.add_functions.new.funcs) (Ok c.in_ok-starts.starts) c.in_ok-starts.ensures.taken;
    }

pub returns-clause-located : goal.returns-clause-located
returns-clause-located g c =
    let b = c.in_ok-contents.contents in
    subst (λ (as_texts : Bool). AreLocatedIn (GivenIf as_texts (FnReturnsAt g.L.Fn c.args.locate.now)) (sections c.args.raw.now) (functions c.add_functions.new.funcs)) c.in_ok-texts.ensures.asked
    (located_in (Given c.in_ok-texts.texts (FnReturnsAt g.L.Fn c.args.locate.now)) (sections c.args.raw.now) c.deref-4.result.now (functions b.funcs) (functions c.add_functions.new.funcs) (ap (map body_record) c.deref-4.ensures.value)
    c.in_ok-contents.ensures.begun.brought.functions c.in_ok-starts.ensures.located)

pub returns-clause-counted : goal.returns-clause-counted
returns-clause-counted g c =
    let b = c.in_ok-contents.contents in
    let s = sections c.args.raw.now in
    c.in_ok-contents.ensures.counted ∙ ap length c.in_ok-contents.ensures.begun.types ∙ length-map (types_from 0 s.types) Some

pub returns-clause-numbered : goal.returns-clause-numbered
returns-clause-numbered g c = c.in_ok-contents.ensures.numbered

pub returns-clause-rest : goal.returns-clause-rest
returns-clause-rest g c = record {
  tables = refl;
  memories = refl;
  globals = refl;
  exports = refl;
  start = refl;
  elements = refl;
  segments = refl;
  customs = refl;
}
