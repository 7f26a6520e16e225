use Rattle.std.proofs.Common.{map, Some}
use Rattle.walrus_base.specs.Id.{place}
use Rattle.walrus_code.specs.Indices.{index_of}
use Rattle.walrus_contents.specs.View.{tag_of}
use Rattle.walrus_writing.specs.Parts.{tag_index}
use Rattle.walrus_writing.proofs.ItemsLeft.{next_has, none_brings, own_step}
use Rattle.walrus_writing.proofs.tags.raw_tags.Goals as goal

pub unreachable-requires : goal.unreachable-requires
unreachable-requires c =
    next_has (map Some c.loop-tag.raw.items) (λ t. tag_index (index_of c.args.indices.now) (tag_of t)) _ _ _ _ c.loop-tag.invariant.2 (own_step _ _ _ c.in-Some.ensures.steps (λ x. x.imported_by) (none_brings place _ _ _ c.tag_import.ensures c.is_none.ensures c.if-is_none.true)) c.requires.indexed c.in_default.ensures
