use Rattle.std.proofs.Common.{◌≡◌, length}
use Rattle.walrus_items.specs.Transform.{transform_of}
use Rattle.walrus_module.specs.Customs.{sections}
use Rattle.walrus_module.specs.Following.{AreRaw}
use Rattle.walrus_module.proofs.FollowedSlots.{SoFar}
use Rattle.walrus_module.proofs.following.ModuleCustomSections.follow.Given as goal

abbrev pub invariant-loop-place : goal.invariant-loop-place
invariant-loop-place g l = record {
  far : SoFar (λ i. (g.dyn-1.0.entry i).1) (transform_of l.transform) l.place (sections l.fn.self) (sections l.self);
  end : l.place-end ≡ length (sections l.fn.self);
  raw : AreRaw (sections l.fn.self) → l.self ≡ l.fn.self;
}
