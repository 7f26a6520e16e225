use Rattle.walrus_base.proofs.Fronts.{in_front, no_more_in_front}
use Rattle.walrus_code.proofs.indices.IndexSpace.in_front.Goals as goal

pub returns : goal.returns
returns g c = record {
  in_place = λ index low. in_front c.args.self.now.front index _ low;
  no_more = no_more_in_front c.args.self.now.front c.args.self.now.behind.items c.args.self.now.no_more;
}
