use Rattle.std.proofs.Common.{◌≤◌, ◌<◌, ℕ, Option, Some, length, refl, arith}
use Rattle.walrus_base.specs.Arena.{item_at}
use Rattle.walrus_base.specs.Id.{place}
use Rattle.walrus_base.specs.Locals.{locals}
use Rattle.walrus_base.specs.Types.{ValType}
use Rattle.walrus_base.specs.Value.{val_type}
use Rattle.walrus_functions.specs.EmittedBody.{types_of}
use Rattle.walrus_functions.proofs.FitLemmas.{as_long, same_all, same_at, same_more, untrue}
use Rattle.walrus_functions.proofs.emit.are_of_types.Goals as goal

abbrev some : ValType ℕ → Option (ValType ℕ)
some v = Some v

pub returns-then-wanted-count : goal.returns-then-wanted-count
returns-then-wanted-count c = (
  λ h. absurd cc,
  λ all.
      let long = as_long (item_at (types_of (locals c.args.module_locals.now))) place some val_type c.args.ids.now c.args.wanted.now all in
      absurd (omega (arith, long, c.if-wanted-count.true)),
)

pub returns-then-not-is_of_type : goal.returns-then-not-is_of_type
returns-then-not-is_of_type c = (
  λ h. absurd cc,
  λ all.
      let low : c.ids.index < length c.args.ids.now = omega arith in
      let high : c.ids.index < length c.args.wanted.now = omega arith in
      absurd (untrue _ (c.is_of_type.ensures.1 (same_at (item_at (types_of (locals c.args.module_locals.now))) place some val_type c.args.ids.now c.args.wanted.now c.ids.index _ _ low high all)) c.if-not-is_of_type.true),
)

pub ids-preserved : goal.ids-preserved
ids-preserved c =
    let low : c.ids.index < length c.args.ids.now = omega arith in
    let high : c.ids.index < length c.args.wanted.now = omega arith in
    same_more (item_at (types_of (locals c.args.module_locals.now))) place some val_type c.args.ids.now c.args.wanted.now c.ids.index _ _ low high c.ids.invariant (c.is_of_type.ensures.0 c.if-not-is_of_type.false)

pub returns : goal.returns
returns c =
    let past : length c.args.ids.now ≤ c.ids.index = omega arith in
    let over : length c.args.wanted.now ≤ c.ids.index = omega arith in
    let all = same_all (item_at (types_of (locals c.args.module_locals.now))) place some val_type c.args.ids.now c.args.wanted.now c.ids.index past over c.ids.invariant in
    (λ h. all, λ h. refl)
