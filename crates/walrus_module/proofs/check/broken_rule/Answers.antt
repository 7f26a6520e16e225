use Rattle.std.proofs.lemmas.Bool.Decides.{not_from_Decides}
use Rattle.walrus_contents.specs.View.{lent}
use Rattle.walrus_module.proofs.Checked.{locals_hold, locals_kept}
use Rattle.walrus_module.proofs.check.broken_rule.Goals as goal

pub returns-then-not-are_limits_kept : goal.returns-then-not-are_limits_kept
returns-then-not-are_limits_kept c = not_from_Decides _ c.are_limits_kept.ensures c.if-not-are_limits_kept.true

pub returns-then-not-are_offsets_kept : goal.returns-then-not-are_offsets_kept
returns-then-not-are_offsets_kept c = not_from_Decides _ c.are_offsets_kept.ensures c.if-not-are_offsets_kept.true

pub returns-then-not-typed : goal.returns-then-not-typed
returns-then-not-typed c = not_from_Decides _ c.in_ok-typed.ensures c.if-not-typed.true

pub returns-then-not-is_start_kept : goal.returns-then-not-is_start_kept
returns-then-not-is_start_kept c = not_from_Decides _ c.is_start_kept.ensures c.if-not-is_start_kept.true

pub returns-then-not-apart : goal.returns-then-not-apart
returns-then-not-apart c = not_from_Decides _ c.in_ok-apart.ensures c.if-not-apart.true

pub returns-then-not-few : goal.returns-then-not-few
returns-then-not-few c = λ law. not_from_Decides _ c.in_ok-few.ensures c.if-not-few.true (locals_kept (lent c.args.parts) c.requires.there law)

pub returns : goal.returns
returns c = record {
  function_types = c.in_ok-typed.ensures.0 c.if-not-typed.false;
  limits = c.are_limits_kept.ensures.0 c.if-not-are_limits_kept.false;
  exports = record {
    distinct = c.in_ok-apart.ensures.0 c.if-not-apart.false;
    start = c.is_start_kept.ensures.0 c.if-not-is_start_kept.false;
  };
  offsets = c.are_offsets_kept.ensures.0 c.if-not-are_offsets_kept.false;
  locals = locals_hold (lent c.args.parts) c.requires.there (c.in_ok-few.ensures.0 c.if-not-few.false);
}
