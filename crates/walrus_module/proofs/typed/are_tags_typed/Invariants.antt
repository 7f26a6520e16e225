use Rattle.std.specs.Prelude.{◌≡◌}
use Rattle.std.specs.List.{list_all}
use Rattle.walrus_base.specs.Arena.{items}
use Rattle.walrus_items.specs.Tags.{tags, tags_left}
use Rattle.walrus_module.specs.Tested.{tag_is_typed}
use Rattle.walrus_module.proofs.typed.are_tags_typed.Given as goal

-- each so far has a function type: whether all have shows in those that are still to come
abbrev pub invariant-loop-tag : goal.invariant-loop-tag
invariant-loop-tag l =
    goal.iterator-loop-tag.can_next l.tag-iterator
    × goal.iterator-loop-tag.is_finite l.tag-iterator
    × (list_all (tag_is_typed l.types) (items (tags l.all)) ≡ list_all (tag_is_typed l.types) (tags_left l.tag-iterator))
