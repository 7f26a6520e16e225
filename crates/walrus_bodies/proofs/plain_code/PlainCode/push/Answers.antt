use Rattle.walrus_bodies.proofs.PushedLemmas.{marks_more, one_more}
use Rattle.walrus_bodies.proofs.plain_code.PlainCode.push.Goals as goal

pub invariant_of-self : goal.invariant_of-self
invariant_of-self c = record { held = rw c.in_err-extend_from_slice.ensures.items c.args.self.now.held }

pub invariant_of-self-in-Break-branch-2 : goal.invariant_of-self-in-Break-branch-2
invariant_of-self-in-Break-branch-2 c = record {
  held = let self = c.args.self.now in rw c.in_err-push.ensures.items (marks_more self.limits self.bytes.value.items self.marks.items c.args.marks.now c.extend_from_slice.new.self.items self.entries.items c.in_ok-extend_from_slice.ensures.items self.held);
}

pub invariant_of-self-2 : goal.invariant_of-self-2
invariant_of-self-2 c = record {
  held = one_more c.args.self.now c.args.operators.now c.args.marks.now c.args.count c.args.start c.args.locals c.args.left_out c.in-Some.entry c.in-Some.ensures c.requires.plain
      c.extend_from_slice.new.self.items c.push.new.self.items c.in_ok-extend_from_slice.ensures.items c.in_ok-push.ensures.items;
}
