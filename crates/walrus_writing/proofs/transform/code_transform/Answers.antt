use Rattle.std.proofs.Common.{◌∙◌, ℕ, true, List, length, map, sym, ap, refl, subst}
use Rattle.std.specs.Prelude.{zip}
use Rattle.std.specs.List.{AllZip}
use Rattle.std.specs.declared.ops.Range.{Range}
use Rattle.std.proofs.lemmas.Result.{err_from_is_err_and}
use Rattle.wasm_frames.specs.Record.{custom_record}
use Rattle.wasm_writer.specs.declared.places.CodePlaces.{CodePlaces}
use Rattle.walrus_base.specs.Id.{place}
use Rattle.walrus_base.specs.declared.id.Id.{Id}
use Rattle.walrus_base.specs.declared.keys.FunctionKey.{FunctionKey}
use Rattle.walrus_code.specs.Indices.{index_of}
use Rattle.walrus_items.specs.Transform.{location_of, range_of}
use Rattle.walrus_items.specs.declared.transform.CodeTransform.{CodeTransform}
use Rattle.walrus_plan.specs.Places.{places}
use Rattle.walrus_writing.specs.Customs.{task}
use Rattle.walrus_writing.specs.Located.{ArePlaces, AreSorted, LastPlaces, all_placed_from, by_ends, ends_of}
use Rattle.walrus_writing.specs.Parts.{HasBytes}
use Rattle.walrus_writing.specs.declared.offsets.LocatedBody.{LocatedBody}
use Rattle.walrus_writing.proofs.Indexed.{ids_indexed}
use Rattle.walrus_writing.proofs.LocatedBodies.{Located, both_zip, bytes_of, offsets_of}
use Rattle.walrus_writing.proofs.PlacedInTurn.{last_moved}
use Rattle.walrus_writing.proofs.Refusing.{bodies_refused}
use Rattle.walrus_writing.proofs.TransformAnswers.{IsWithin, all_within, many_bodies, many_functions, refuses, tells}
use Rattle.walrus_writing.proofs.transform.code_transform.Goals as goal

pub located_bodies-requires : goal.located_bodies-requires
located_bodies-requires c = record {
  indexed = ids_indexed c.args.parts c.requires.there (index_of c.args.prepared.now.indices) (places c.args.prepared.now.plan) c.requires.planned.is_plan c.requires.planned.numbered c.args.prepared.now.plan.own_functions.items _ c.requires.planned.lists.own c.as_slice-order.ensures.value c.args.choices.now.features;
}

pub returns-in_err-bodies-clause-refused : goal.returns-in_err-bodies-clause-refused
returns-in_err-bodies-clause-refused c =
    let names = index_of c.args.prepared.now.indices in
    let plan = c.requires.planned in
    let p = err_from_is_err_and c.from_residual.result c.from_residual.ensures.1 in
    rw (p.1, p.2)
    (refuses c.args.parts c.requires.there c.requires.declared names c.args.choices.now plan.matched plan.reads plan.in_order (map custom_record c.args.dylinks.now) CodePlaces _
    (λ sections same. bodies_refused c.args.parts (task c.args.choices.now names sections) CodePlaces _ c.in_err-bodies.ensures.fails))

pub item_places-requires : goal.item_places-requires
item_places-requires c =
    let names = index_of c.args.prepared.now.indices in
    let features = c.args.choices.now.features in
    let IsOne = λ (id : Id FunctionKey) (b : LocatedBody). HasBytes c.args.parts names features (place id) b.bytes.items in
    record {
      there = c.requires.there;
      planned = c.requires.planned;
      written = subst (λ (bs : List LocatedBody). AllZip IsOne c.args.prepared.now.plan.own_functions.items bs) (sym c.as_slice-lent.ensures.value)
          (subst (λ (ids : List (Id FunctionKey)). AllZip IsOne ids c.in_ok-bodies.bodies.items) c.as_slice-order.ensures.value
          c.in_ok-bodies.ensures.value);
    }

pub returns-in_err-places-clause-refused : goal.returns-in_err-places-clause-refused
returns-in_err-places-clause-refused c =
    let names = index_of c.args.prepared.now.indices in
    let plan = c.requires.planned in
    let p = err_from_is_err_and c.from_residual-in_err-places.result c.from_residual-in_err-places.ensures.1 in
    rw (p.1, p.2)
    (refuses c.args.parts c.requires.there c.requires.declared names c.args.choices.now plan.matched plan.reads plan.in_order (map custom_record c.args.dylinks.now) CodePlaces _ c.in_err-places.ensures.refused)

pub function_ranges-requires : goal.function_ranges-requires
function_ranges-requires c =
    let names = index_of c.args.prepared.now.indices in
    let features = c.args.choices.now.features in
    let ids = c.args.prepared.now.plan.own_functions.items in
    let bs = c.in_ok-bodies.bodies.items in
    let located = subst (λ (l : List (Id FunctionKey)). AllZip (Located c.args.parts names features) l bs) c.as_slice-order.ensures.value (both_zip c.args.parts names features c.as_slice-order.result.now bs c.in_ok-bodies.ensures.value c.in_ok-bodies.ensures.located) in
    let told = subst (λ (l : List LocatedBody). ArePlaces c.args.parts names features (map place ids) (map (bytes_of c.args.parts names features) l) (map custom_record c.args.dylinks.now) c.in_ok-places.places) c.as_slice-lent.ensures.value c.in_ok-places.ensures.told in
    record {
      as_many = ap length c.as_slice-order.ensures.value ∙ many_functions c.args.parts names features ids bs located (map custom_record c.args.dylinks.now) c.in_ok-places.places told ∙ ap length (sym c.as_slice-ranges.ensures.value);
    }

pub all_places-requires : goal.all_places-requires
all_places-requires c =
    let names = index_of c.args.prepared.now.indices in
    let features = c.args.choices.now.features in
    let ids = c.args.prepared.now.plan.own_functions.items in
    let bs = c.in_ok-bodies.bodies.items in
    let located = subst (λ (l : List (Id FunctionKey)). AllZip (Located c.args.parts names features) l bs) c.as_slice-order.ensures.value (both_zip c.args.parts names features c.as_slice-order.result.now bs c.in_ok-bodies.ensures.value c.in_ok-bodies.ensures.located) in
    let told = subst (λ (l : List LocatedBody). ArePlaces c.args.parts names features (map place ids) (map (bytes_of c.args.parts names features) l) (map custom_record c.args.dylinks.now) c.in_ok-places.places) c.as_slice-lent.ensures.value c.in_ok-places.ensures.told in
    record {
      ordered = ap length c.as_slice-order.ensures.value ∙ many_functions c.args.parts names features ids bs located (map custom_record c.args.dylinks.now) c.in_ok-places.places told
          ∙ sym (many_bodies c.args.parts names features ids bs located (map custom_record c.args.dylinks.now) c.in_ok-places.places told) ∙ ap length (sym c.as_slice-lent.ensures.value);
      as_many = ap length c.as_slice-lent.ensures.value ∙ many_bodies c.args.parts names features ids bs located (map custom_record c.args.dylinks.now) c.in_ok-places.places told ∙ ap length (sym c.as_slice-ranges.ensures.value);
      within = subst (λ (l : List (Range ℕ)). AllZip IsWithin l c.as_slice-lent.result.now) (sym c.as_slice-ranges.ensures.value)
          (subst (λ (l : List LocatedBody). AllZip IsWithin c.in_ok-places.places.bodies.items l) (sym c.as_slice-lent.ensures.value)
          (all_within c.args.parts names features ids bs located (map custom_record c.args.dylinks.now) c.in_ok-places.places told));
    }

pub returns-clause-told : goal.returns-clause-told
returns-clause-told c =
    let names = index_of c.args.prepared.now.indices in
    let features = c.args.choices.now.features in
    let ids = c.args.prepared.now.plan.own_functions.items in
    let bs = c.in_ok-bodies.bodies.items in
    let ranges = c.in_ok-places.places.bodies.items in
    let located = subst (λ (l : List (Id FunctionKey)). AllZip (Located c.args.parts names features) l bs) c.as_slice-order.ensures.value (both_zip c.args.parts names features c.as_slice-order.result.now bs c.in_ok-bodies.ensures.value c.in_ok-bodies.ensures.located) in
    let told = subst (λ (l : List LocatedBody). ArePlaces c.args.parts names features (map place ids) (map (bytes_of c.args.parts names features) l) (map custom_record c.args.dylinks.now) c.in_ok-places.places) c.as_slice-lent.ensures.value c.in_ok-places.ensures.told in
    let x : CodeTransform = record { function_ranges = c.in_ok-by_id.by_id; code_section_start = c.in_ok-places.places.count; instruction_map = c.in_ok-by_location.by_location } in
    tells c.args.parts c.requires.there c.requires.declared names c.args.choices.now ids bs located (map custom_record c.args.dylinks.now) c.in_ok-places.places told x refl
    (subst (λ (l : List (Range ℕ)). AreSorted by_ends (zip (map place ids) (map ends_of l)) (map range_of c.in_ok-by_id.by_id.items)) c.as_slice-ranges.ensures.value
    (subst (λ (l : List (Id FunctionKey)). AreSorted by_ends (zip (map place l) (map ends_of c.as_slice-ranges.result.now)) (map range_of c.in_ok-by_id.by_id.items)) c.as_slice-order.ensures.value c.in_ok-by_id.ensures.value))
    (subst (λ (l : List (Range ℕ)). LastPlaces true (all_placed_from (map (λ (r : Range ℕ). r.start) l) (map (offsets_of c.args.parts names features) bs)) (map location_of c.in_ok-by_location.by_location.items)) c.as_slice-ranges.ensures.value
    (subst (λ (l : List LocatedBody). LastPlaces true (all_placed_from (map (λ (r : Range ℕ). r.start) c.as_slice-ranges.result.now) (map (offsets_of c.args.parts names features) l)) (map location_of c.in_ok-by_location.by_location.items)) c.as_slice-lent.ensures.value
    (last_moved _ _ _ c.in_ok-placed.ensures.value c.in_ok-by_location.ensures.value)))
