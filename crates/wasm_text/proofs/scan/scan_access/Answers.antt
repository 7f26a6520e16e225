use Rattle.std.proofs.Common.{◌∷◌, [], true, refl, arith}
use Rattle.wasm_operators.specs.declared.kind.Kind.TheVariants as kinds
use Rattle.wasm_text.proofs.Leaving.{access_left, scans_left}
use Rattle.wasm_text.proofs.Scans.{place_as}
use Rattle.wasm_text.proofs.scan.scan_access.Goals as goal

pub returns-then-behind-clause-scans : goal.returns-then-behind-clause-scans
returns-then-behind-clause-scans c =
    scans_left (kinds.Access ∷ []) c.args.limits.now c.args.unmarked.now c.args.bytes.now c.args.at c.args.marks.now.items c.scan_padded_access.new.marks.items c.scan_padded_access.result c.scan_padded_access.ensures.scans

pub returns-clause-scans : goal.returns-clause-scans
returns-clause-scans c =
    place_as c.past_short_access-behind.result
    (access_left c.args.limits.now c.args.unmarked.now (record c.args.unmarked.now { accessed = true }) c.args.bytes.now c.args.at c.past_short_access-behind.result c.args.marks.now.items (omega (arith, c.if-limits-eq0.false)) refl refl refl)
    c.past_short_access-behind.ensures
