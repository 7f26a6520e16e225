use Rattle.std.proofs.Common.{ℕ, ◌≡◌, ◌∷◌, ◌∙◌, ap, sym, inr, arith}
use Rattle.std.specs.Prelude.{nat_eq, vec_len}
use Rattle.wasm_opcodes.specs.declared.one_byte.TheConstants.{IF}
use Rattle.wasm_text.specs.Bodies.{blocks_of}
use Rattle.wasm_text.proofs.Bodies.{block_next, else_next, end_next, local_next, access_next, class_next, with_labels}
use Rattle.wasm_text.proofs.Scans.{place_as}
use Rattle.wasm_text.proofs.scan.scan_operator.Goals as goal

pub returns-in_ok-open_block-in-Block-clause-scans : goal.returns-in_ok-open_block-in-Block-clause-scans
returns-in_ok-open_block-in-Block-clause-scans c =
    block_next c.class_of-class.result c.in-Some.first c.args.limits.now c.args.unmarked.now c.args.bytes.now c.args.at c.scan_block-behind.result c.args.marks.now.items c.scan_block-behind.new.marks.items (blocks_of c.args.opened.now) (blocks_of c.open_block.new.opened)
    c.in-Some.ensures.2 c.in-Some.ensures.0 c.in-Block.is c.class_of-class.ensures.fits c.class_of-class.ensures.turns c.scan_block-behind.ensures.scans
    (c.in_ok-open_block-in-Block.ensures.opens ∙ ap (λ (n : ℕ). nat_eq n IF ∷ blocks_of c.args.opened.now) c.from.ensures)

pub returns-in-Else-clause-scans : goal.returns-in-Else-clause-scans
returns-in-Else-clause-scans c =
    else_next c.class_of-class.result c.in-Some.first c.args.limits.now c.args.unmarked.now c.args.bytes.now c.args.at c.turn_to_else.result c.args.marks.now.items (blocks_of c.args.opened.now) (blocks_of c.turn_to_else.new.opened)
    c.in-Some.ensures.2 c.requires.there c.in-Some.ensures.0 c.in-Else.is c.class_of-class.ensures.fits c.class_of-class.ensures.turns c.turn_to_else.ensures.turns

pub returns-in-End-clause-scans : goal.returns-in-End-clause-scans
returns-in-End-clause-scans c =
    end_next c.class_of-class.result c.in-Some.first c.args.limits.now c.args.unmarked.now c.args.bytes.now c.args.at c.close-behind.result c.args.marks.now.items (blocks_of c.args.opened.now) (blocks_of c.close-behind.new.opened)
    c.in-Some.ensures.2 c.requires.there c.in-Some.ensures.0 c.in-End.is c.class_of-class.ensures.fits c.class_of-class.ensures.turns c.close-behind.ensures.closes

pub returns-in_default-class-clause-scans : goal.returns-in_default-class-clause-scans
returns-in_default-class-clause-scans c =
    class_next c.class_of-class.result c.in-Some.first c.args.limits.now c.args.unmarked.now c.args.bytes.now c.args.at c.scan_class.result c.args.marks.now.items c.scan_class.new.marks.items (blocks_of c.args.opened.now)
    c.in-Some.ensures.2 c.in-Some.ensures.0 c.class_of-class.ensures.fits c.class_of-class.ensures.turns c.scan_class.ensures.scans

pub returns-in-Else-clause-some : goal.returns-in-Else-clause-some
returns-in-Else-clause-some c =
    place_as c.turn_to_else.result (λ (same : vec_len c.turn_to_else.new.opened ≡ vec_len c.args.opened.now). omega (arith, same, c.requires.some)) c.turn_to_else.ensures.as_many

pub returns-in-Else-clause-labels : goal.returns-in-Else-clause-labels
returns-in-Else-clause-labels c =
    place_as c.turn_to_else.result (λ (same : vec_len c.turn_to_else.new.opened ≡ vec_len c.args.opened.now). with_labels c.args.limits.now (vec_len c.turn_to_else.new.opened) (c.requires.labels ∙ sym same)) c.turn_to_else.ensures.as_many

pub returns-in_default-class-clause-labels : goal.returns-in_default-class-clause-labels
returns-in_default-class-clause-labels c = inr (with_labels c.args.limits.now (vec_len c.args.opened.now) c.requires.labels)

pub returns-in_default-class-clause-some : goal.returns-in_default-class-clause-some
returns-in_default-class-clause-some c = inr c.requires.some

pub returns-in-Local-clause-scans : goal.returns-in-Local-clause-scans
returns-in-Local-clause-scans c =
    local_next c.class_of-class.result c.in-Some.first c.args.limits.now c.args.unmarked.now c.scan_local.new.unmarked c.args.bytes.now c.args.at c.scan_local.result c.args.marks.now.items c.scan_local.new.marks.items (blocks_of c.args.opened.now)
    c.in-Some.ensures.2 c.in-Some.ensures.0 c.in-Local.is c.class_of-class.ensures.fits c.class_of-class.ensures.turns c.scan_local.ensures.scans

pub returns-in-Access-clause-scans : goal.returns-in-Access-clause-scans
returns-in-Access-clause-scans c =
    access_next c.class_of-class.result c.in-Some.first c.args.limits.now c.args.unmarked.now c.scan_access.new.unmarked c.args.bytes.now c.args.at c.scan_access.result c.args.marks.now.items c.scan_access.new.marks.items (blocks_of c.args.opened.now)
    c.in-Some.ensures.2 c.in-Some.ensures.0 c.in-Access.is c.class_of-class.ensures.fits c.class_of-class.ensures.turns c.scan_access.ensures.scans
