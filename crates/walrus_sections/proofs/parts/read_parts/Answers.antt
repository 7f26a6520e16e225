use Rattle.std.proofs.Common.{[], None, map, arith}
use Rattle.std.proofs.lemmas.Result.{err_from_is_err_and}
use Rattle.wasm_frames.specs.declared.pieces.RawPiece.{RawPiece}
use Rattle.wasm_frames.specs.Pieces.{piece_record}
use Rattle.walrus_sections.proofs.PartRows.{never_cut, never_stuck, parts_begin, parts_next, parts_on, reached_at, reached_end, reads_all}
use Rattle.walrus_sections.proofs.StripLemmas.{whole_found}
use Rattle.walrus_sections.proofs.parts.read_parts.Goals as goal

-- what the items of a list of sections are read against
abbrev blank : RawPiece
blank = record { id = 0; name = None; start = 0; entries = None; bytes = record { ref_ptr = (0, 0); now = [] } }

pub returns-in_default : goal.returns-in_default
returns-in_default c =
    absurd (never_cut c.args.bytes.now c.in_ok-functions.functions c.in_ok-pieces.field-0 c.in_ok-functions.ensures.value c.in_ok-pieces.ensures c.in_default.not-Whole)

pub sections-init : goal.sections-init
sections-init c =
    let pieces = whole_found c.args.bytes.now c.in_ok-pieces.field-0 c.in-Whole.pieces c.deref-piece-items.result.now c.in-Whole.is c.in_ok-pieces.ensures c.deref-piece-items.ensures.value in
    rw c.new-parts.ensures.items (parts_begin c.args.bytes.now c.in_ok-functions.functions (map piece_record c.deref-piece-items.result.now) c.in_ok-functions.ensures.value pieces)

pub add_part-requires-clause-within : goal.add_part-requires-clause-within
add_part-requires-clause-within c =
    let next = parts_next _ _ _ _ _ _ (reached_at _ _ _ c.deref-piece-items.result.now c.sections.piece-index blank _ c.sections-test.true c.sections.invariant) in
    omega (arith, next.within)

pub add_part-requires-clause-functions : goal.add_part-requires-clause-functions
add_part-requires-clause-functions c = λ is.
    let next = parts_next _ _ _ _ _ _ (reached_at _ _ _ c.deref-piece-items.result.now c.sections.piece-index blank _ c.sections-test.true c.sections.invariant) in
    omega (arith, next.functions_fit is)

pub add_part-requires-clause-segments : goal.add_part-requires-clause-segments
add_part-requires-clause-segments c =
    let next = parts_next _ _ _ _ _ _ (reached_at _ _ _ c.deref-piece-items.result.now c.sections.piece-index blank _ c.sections-test.true c.sections.invariant) in
    omega (arith, next.segments_fit)

pub returns-in_err-next_function-clause-refused : goal.returns-in_err-next_function-clause-refused
returns-in_err-next_function-clause-refused c =
    let p = err_from_is_err_and c.from_residual-in_err-next_function.result c.from_residual-in_err-next_function.ensures.1 in
    let reached = reached_at _ _ _ c.deref-piece-items.result.now c.sections.piece-index blank _ c.sections-test.true c.sections.invariant in
    rw (p.1, p.2) (reads_all c.args.bytes.now _ _ (never_stuck _ _ _ _ _ _ reached) c.in_err-next_function.ensures)

pub sections-preserved : goal.sections-preserved
sections-preserved c =
    let reached = reached_at _ _ _ c.deref-piece-items.result.now c.sections.piece-index blank _ c.sections-test.true c.sections.invariant in
    parts_on _ _ _ _ _ _ _ _ _ reached c.in_ok-next_function.ensures

pub returns-clause-value : goal.returns-clause-value
returns-clause-value c = reached_end _ _ _ c.deref-piece-items.result.now c.sections.piece-index _ c.sections-test.false c.sections.invariant
