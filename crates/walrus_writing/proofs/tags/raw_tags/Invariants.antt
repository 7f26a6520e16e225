use Rattle.std.proofs.Common.{◌≡◌, ◌++◌, map, Some}
use Rattle.walrus_base.specs.Arena.{items}
use Rattle.walrus_code.specs.Indices.{index_of}
use Rattle.walrus_items.specs.Tags.{tags, tags_left}
use Rattle.walrus_contents.specs.View.{tag_of}
use Rattle.walrus_plan.specs.Brought.{own_of}
use Rattle.walrus_writing.specs.Parts.{tag_index}
use Rattle.walrus_writing.proofs.tags.raw_tags.Given as goal

-- the indices so far, and those of the module's own that are still to come
abbrev pub invariant-loop-tag : goal.invariant-loop-tag
invariant-loop-tag l =
    goal.iterator-loop-tag.can_next l.tag-iterator
    × goal.iterator-loop-tag.is_finite l.tag-iterator
    × (map Some l.raw.items ++ map (λ t. tag_index (index_of l.indices) (tag_of t)) (own_of (λ x. x.imported_by) (tags_left l.tag-iterator)) ≡ map (λ t. tag_index (index_of l.indices) (tag_of t)) (own_of (λ x. x.imported_by) (items (tags l.all))))
