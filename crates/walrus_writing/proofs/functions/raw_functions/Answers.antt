use Rattle.std.proofs.Common.{ℕ, Some}
use Rattle.std.specs.Prelude.{option_and_then}
use Rattle.walrus_base.specs.Id.{place}
use Rattle.walrus_code.specs.Indices.{index_of}
use Rattle.walrus_contents.specs.View.{parts_view}
use Rattle.walrus_writing.specs.Parts.{type_index}
use Rattle.walrus_base.proofs.Rows.{left_turn, left_end}
use Rattle.walrus_writing.proofs.functions.raw_functions.Goals as goal

pub loop-id-preserved : goal.loop-id-preserved
loop-id-preserved c =
    rw (c.in_ok-push.ensures.items) (left_turn (λ (n : ℕ). Some n) (λ id. option_and_then (type_index (index_of c.args.indices.now)) ((parts_view c.args.parts).functions (place id))) c.loop-id.raw.items c.in-Some.index c.args.order.now c.loop-id.id-index _ _ c.loop-id-test.true c.loop-id.invariant c.in-Some.ensures)

pub returns-clause-value : goal.returns-clause-value
returns-clause-value c = left_end (λ id. option_and_then (type_index (index_of c.args.indices.now)) ((parts_view c.args.parts).functions (place id))) _ c.args.order.now c.loop-id.id-index _ c.loop-id-test.false c.loop-id.invariant
