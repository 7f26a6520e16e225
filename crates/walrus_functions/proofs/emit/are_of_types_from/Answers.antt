use Rattle.std.proofs.Common.{refl, arith, sym, ap, ◌∙◌}
use Rattle.walrus_base.specs.Arena.{item_at}
use Rattle.walrus_base.specs.Locals.{locals}
use Rattle.walrus_functions.specs.EmittedBody.{types_of}
use Rattle.walrus_functions.proofs.FitLemmas.{untrue}
use Rattle.walrus_functions.proofs.InPlaceLemmas.{typed_all, typed_at, typed_more}
use Rattle.walrus_functions.proofs.emit.are_of_types_from.Goals as goal

pub wanted-init : goal.wanted-init
wanted-init c = record { held = refl; within = omega arith }

pub returns-then-not-is_of_type : goal.returns-then-not-is_of_type
returns-then-not-is_of_type c = (
  λ h. absurd cc,
  λ all.
      let slots = types_of (locals c.args.module_locals.now) in
      let here = typed_at slots c.args.first c.args.wanted.now c.wanted.index _ c.wanted-test.true all in
      absurd (untrue _ (c.is_of_type.ensures.1 (ap (item_at slots) c.at.ensures ∙ here)) c.if-not-is_of_type.true),
)

pub wanted-preserved : goal.wanted-preserved
wanted-preserved c =
    let slots = types_of (locals c.args.module_locals.now) in
    let low = c.wanted-test.true in
    record {
      held = typed_more slots c.args.first c.args.wanted.now c.wanted.index _ low c.wanted.invariant.held (ap (item_at slots) (sym c.at.ensures) ∙ c.is_of_type.ensures.0 c.if-not-is_of_type.false);
      within = omega (arith, low);
    }

pub returns : goal.returns
returns c =
    let all = typed_all (types_of (locals c.args.module_locals.now)) c.args.first c.args.wanted.now c.wanted.index (omega (arith, c.wanted-test.false)) c.wanted.invariant.within c.wanted.invariant.held in
    (λ h. all, λ h. refl)
