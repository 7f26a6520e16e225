use Rattle.std.proofs.Common.{Bool, nat_eq, leb-true, leb-false, refl, sym, subst, ◌∙◌}
use Rattle.std.specs.Prelude.{not}
use Rattle.wasm_text.specs.Places.{between, IfShortest}
use Rattle.wasm_text.proofs.Shortest.{lone_between, ended_if}
use Rattle.wasm_text.proofs.places.is_shortest.Goals as goal

pub returns-then-is_lone : goal.returns-then-is_lone
returns-then-is_lone c = lone_between c.args.bytes.now c.args.at c.args.behind (leb-true _ 1 (sym c.is_lone.ensures ∙ c.if-is_lone.true))

pub returns-in-Some : goal.returns-in-Some
returns-in-Some c =
    let last = c.in-Some.last in
    subst (λ (t : Bool). IfShortest (between c.args.at c.args.behind c.args.bytes.now) (not t)) (sym c.may_pad.ensures)
    (ended_if c.args.bytes.now c.args.at c.args.behind last (λ i. (c.type_inv.bytes i).fits) (leb-false _ 1 (sym c.is_lone.ensures ∙ c.if-is_lone.false)) c.in-Some.ensures.0 (nat_eq last 0) (nat_eq last 127) refl refl)
