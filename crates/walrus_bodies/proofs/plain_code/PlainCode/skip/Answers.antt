use Rattle.std.proofs.Common.{is_ok}
use Rattle.walrus_bodies.proofs.PushedLemmas.{none_or_one}
use Rattle.walrus_bodies.proofs.plain_code.PlainCode.skip.Goals as goal

pub invariant_of-self : goal.invariant_of-self
invariant_of-self c = record {
  held = let self = c.args.self.now in none_or_one self.limits self.bytes.value.items self.marks.items (is_ok c.push.result) self.entries.items c.push.new.self.items c.push.ensures.items self.held;
}
