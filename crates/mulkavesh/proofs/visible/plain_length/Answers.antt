use Rattle.std.proofs.Common.{◌≡◌, drop, sym, ap, ◌∙◌, arith}
use Rattle.std.proofs.lemmas.List.{take_rest}
use Rattle.mulkavesh.specs.Visible.{hidden_length}
use Rattle.mulkavesh.proofs.ShowLemmas.{plain_first, plain_next}
use Rattle.mulkavesh.proofs.visible.plain_length.Goals as goal

pub bytes-init : goal.bytes-init
bytes-init c = record {
  begun = omega arith;
  bound = omega arith;
  told = plain_first c.args.text.now c.requires.some c.requires.plain;
}

pub bytes-preserved : goal.bytes-preserved
bytes-preserved c =
    let plain : hidden_length (drop c.bytes.at c.args.text.now) ≡ 0 = ap hidden_length (sym (take_rest c.args.text.now c.bytes.at)) ∙ sym c.hidden_length.ensures.length ∙ c.if-hidden_length-eq0.true in
    record {
      begun = omega arith;
      bound = omega arith;
      told = plain_next c.bytes.at c.args.text.now c.bytes-test.true plain c.bytes.invariant.told;
    }
