use Rattle.std.proofs.Common.{ap, ◌∙◌, arith}
use Rattle.wasm_operators.specs.Shape.{kinds_of_shape}
use Rattle.wasm_operators.proofs.Lookup.{bytes_stand, fb_stand, fc_stand, fd_stand, fe_stand, no_prefix}
use Rattle.wasm_operators.proofs.table.shape_of.Goals as goal

pub returns-in-0 : goal.returns-in-0
returns-in-0 c = ap kinds_of_shape c.entry.ensures ∙ bytes_stand c.args.op c.in-0.is

pub returns-in-251 : goal.returns-in-251
returns-in-251 c = ap kinds_of_shape c.entry-in-251.ensures ∙ fb_stand c.args.op c.in-251.is

pub returns-in-252 : goal.returns-in-252
returns-in-252 c = ap kinds_of_shape c.entry-in-252.ensures ∙ fc_stand c.args.op c.in-252.is

pub returns-in-253 : goal.returns-in-253
returns-in-253 c = ap kinds_of_shape c.entry-in-253.ensures ∙ fd_stand c.args.op c.in-253.is

pub returns-in-254 : goal.returns-in-254
returns-in-254 c = ap kinds_of_shape c.entry-in-254.ensures ∙ fe_stand c.args.op c.in-254.is

pub returns-in_default : goal.returns-in_default
returns-in_default c = no_prefix c.args.op (λ e. omega (arith, e)) (λ e. omega (arith, e)) (λ e. omega (arith, e)) (λ e. omega (arith, e)) (λ e. omega (arith, e)) c.ranges.op.fits
