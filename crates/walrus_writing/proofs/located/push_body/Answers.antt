use Rattle.std.proofs.Common.{◌∙◌, ◌+◌, ◌≤◌, ℕ, List, ap, refl, subst, sym}
use Rattle.std.specs.Prelude.{All, slice_index_or}
use Rattle.std.specs.declared.ops.Range.{Range}
use Rattle.walrus_code.specs.declared.location.InstrLocId.{InstrLocId}
use Rattle.walrus_writing.specs.declared.offsets.LocatedBody.{LocatedBody}
use Rattle.walrus_writing.proofs.LocatedLoops.{zip_get}
use Rattle.walrus_writing.proofs.located.push_body.Goals as goal

pub push_places-requires : goal.push_places-requires
push_places-requires c =
    let none : Range ℕ = record { start = 0; end = 0 } in
    let range : Range ℕ = slice_index_or c.args.ranges.now c.args.at none in
    record {
      within = subst (λ (l : List (InstrLocId × ℕ)). All (λ (o : InstrLocId × ℕ). range.start + o.1 ≤ range.end) l) (sym (c.as_slice.ensures.value ∙ ap (λ (b : LocatedBody). b.places.items) c.index-bodies-at.is))
          (zip_get (λ (r : Range ℕ) (b : LocatedBody). All (λ (o : InstrLocId × ℕ). r.start + o.1 ≤ r.end) b.places.items) c.args.ranges.now c.args.bodies.now c.requires.within c.args.at c.args.at none c.index-bodies-at.result c.requires.there c.requires.as_many refl);
    }
