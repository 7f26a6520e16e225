use Rattle.std.proofs.Common.{◌≡◌, ◌++◌, map}
use Rattle.walrus_base.specs.Arena.{items}
use Rattle.walrus_base.specs.Id.{place}
use Rattle.walrus_items.specs.Tags.{tags, tags_left}
use Rattle.walrus_edit_list.proofs.ids.types_of_tags.Given as goal

-- the types so far, and those of the tags that are still to come
abbrev pub invariant-loop-tag : goal.invariant-loop-tag
invariant-loop-tag l =
    goal.iterator-loop-tag.can_next l.tag-iterator
    × goal.iterator-loop-tag.is_finite l.tag-iterator
    × (map place l.types.items ++ map (λ t. t.ty) (tags_left l.tag-iterator) ≡ map (λ t. t.ty) (items (tags l.all)))
