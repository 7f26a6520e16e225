use Rattle.std.proofs.Common.{sym, subst}
use Rattle.wasm_text.specs.declared.class.Class.{Class}
use Rattle.wasm_text.specs.Bodies.{Turns}
use Rattle.wasm_text.specs.Classes.{Fits}
use Rattle.wasm_text.proofs.Classes.{fits_of, turns_of}
use Rattle.wasm_text.proofs.class.class_of.Goals as goal

pub returns-clause-fits : goal.returns-clause-fits
returns-clause-fits c = subst (λ (k : Class). Fits k c.args.byte) (sym c.entry.ensures) (fits_of c.args.byte c.ranges.byte.fits)

pub returns-clause-turns : goal.returns-clause-turns
returns-clause-turns c = subst (λ (k : Class). Turns k c.args.byte) (sym c.entry.ensures) (turns_of c.args.byte c.ranges.byte.fits)
