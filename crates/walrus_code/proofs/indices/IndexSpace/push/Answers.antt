use Rattle.walrus_base.proofs.Fronts.{few_more, one_in_front, none_further, still_no_more, pushed_no_more}
use Rattle.walrus_code.proofs.indices.IndexSpace.push.Goals as goal

pub invariant_of-self : goal.invariant_of-self
invariant_of-self g c = record {
  few = few_more c.args.self.now.front _ c.args.self.now.behind.items c.requires.room;
  no_more = none_further _ c.args.self.now.behind.items (c.goes_on_with.ensures.yes c.if-goes_on_with.true).0;
}

pub invariant_of-self-2-clause-no_more : goal.invariant_of-self-2-clause-no_more
invariant_of-self-2-clause-no_more g c =
    pushed_no_more c.args.self.now.front c.args.self.now.behind.items c.push.new.self.items c.args.id _ c.push.ensures.items
    (still_no_more c.args.self.now.front c.args.self.now.behind.items c.args.id c.args.self.now.no_more (c.goes_on_with.ensures.no c.if-goes_on_with.false)) c.args.self.now.no_more

pub returns-then-goes_on_with : goal.returns-then-goes_on_with
returns-then-goes_on_with g c =
    let so = c.goes_on_with.ensures.yes c.if-goes_on_with.true in
    one_in_front c.args.self.now.front _ c.args.self.now.behind.items so.0 so.1
