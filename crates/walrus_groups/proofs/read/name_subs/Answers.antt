use Rattle.std.proofs.Common.{map, drop, ap, ◌+◌, ◌∙◌}
use Rattle.wasm_entries.specs.Record.{sub}
use Rattle.walrus_base.specs.Composite.{new_sub}
use Rattle.walrus_code.specs.Indices.{ids_at}
use Rattle.walrus_groups.specs.Groups.{sub_of}
use Rattle.walrus_groups.specs.Named.{each}
use Rattle.walrus_groups.specs.Reading.{read_sub}
use Rattle.walrus_groups.proofs.Each.{behind, found_next}
use Rattle.walrus_groups.proofs.read.name_subs.Goals as goal

pub loop-member-preserved : goal.loop-member-preserved
loop-member-preserved c =
    let find = read_sub (ids_at c.args.indices.now) in
    ap (λ members. behind (map new_sub members) (each find (map sub_of (map sub (drop (c.loop-member.member-index + 1) c.args.raw.now))))) c.in_ok-push.ensures.items
    ∙ found_next find sub_of sub new_sub c.args.raw.now c.loop-member.member-index c.member-item.result c.loop-member.members.items c.in_ok-name_sub.field-0 c.loop-member-test.true c.member-item.is c.in_ok-name_sub.ensures
    ∙ c.loop-member.invariant
