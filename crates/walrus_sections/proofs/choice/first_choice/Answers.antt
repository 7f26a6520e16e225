use Rattle.std.proofs.Common.{◌≡◌, ◌≤◌, slice_index_or, arith}
use Rattle.walrus_sections.specs.Choice.{little}
use Rattle.walrus_sections.proofs.Records.{is_choice}
use Rattle.walrus_sections.proofs.choice.first_choice.Goals as goal

pub returns : goal.returns
returns c =
    let bytes = c.args.bytes.now in
    let counts : c.from_le_bytes-length.result ≡ little (slice_index_or bytes 1 0) (slice_index_or bytes 2 0) (slice_index_or bytes 3 0) (slice_index_or bytes 4 0) = omega (arith, c.from_le_bytes-length.ensures) in
    let small : slice_index_or bytes 0 0 ≤ 1 = omega (arith, c.if-kind-gt1.false) in
    is_choice bytes c.in-len5-up.len_at_least c.from_le_bytes-length.result c.in_ok-name.name.now c.in_ok-name.behind.now small counts c.in_ok-name.ensures.cases
