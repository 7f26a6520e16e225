use Rattle.std.proofs.Common.{◌≡◌}
use Rattle.std.specs.Vec.Iter.{into_iter_items}
use Rattle.mulkavesh.specs.declared.words.Place.TheVariants.{Anywhere}
use Rattle.mulkavesh.specs.Order.{said}
use Rattle.mulkavesh.specs.Steps.{put_words}
use Rattle.mulkavesh.proofs.words.put_all.Given as goal

-- what the arguments that are left do to what is left of the order is what all of them do
abbrev pub invariant-words : goal.invariant-words
invariant-words l =
    (goal.iterator-words).can_next l.word-iterator
    × (goal.iterator-words).is_finite l.word-iterator
    × (put_words (said l.left) l.place (into_iter_items l.word-iterator) ≡ put_words (said l.fn.order) Anywhere (into_iter_items l.fn.words))
