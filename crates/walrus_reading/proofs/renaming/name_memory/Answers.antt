use Rattle.std.proofs.Common.{refl, string_bytes}
use Rattle.std.proofs.lemmas.Bool.{iff_false}
use Rattle.walrus_base.specs.Id.{place}
use Rattle.walrus_items.specs.Memories.{memories, memory_value}
use Rattle.walrus_reading.specs.Shown.{mend_memory}
use Rattle.walrus_reading.proofs.Put.{none_put, put_back}
use Rattle.walrus_reading.proofs.renaming.name_memory.Goals as goal

pub returns-then-contains : goal.returns-then-contains
returns-then-contains c =
    put_back mend_memory (λ x. refl) memory_value c.args.all.now.arena.places.items (place c.at-id.result) c.args.place (string_bytes c.args.name) _ (memory_value c.get_mut.result.now) c.at-id.ensures c.get_mut.ensures.value refl

pub returns-else-contains : goal.returns-else-contains
returns-else-contains c = none_put mend_memory (λ x. refl) (memories c.args.all.now) (place c.at-id.result) c.args.place (string_bytes c.args.name) c.at-id.ensures (iff_false c.contains.ensures c.if-contains.false)
