use Rattle.std.proofs.Common.{◌≤◌, refl, sym, ◌∙◌, subst}
use Rattle.std.proofs.lemmas.Result.{err_from_is_err_and}
use Rattle.walrus_base.specs.Arena.{item_at}
use Rattle.walrus_base.specs.Id.{place}
use Rattle.walrus_items.specs.Transform.{transform_of}
use Rattle.walrus_module.specs.Customs.{sections}
use Rattle.walrus_module.specs.Following.{IsRaw}
use Rattle.walrus_module.proofs.FollowedSlots.{all_followed, begun, one_may_refuse, one_more, one_refused}
use Rattle.walrus_module.proofs.following.ModuleCustomSections.follow.Goals as goal

pub loop-place-init : goal.loop-place-init
loop-place-init g c = record {
  far = begun _ (transform_of c.args.transform.now) (sections c.args.self.now);
  end = c.index-place-end.ensures ∙ c.next_id.ensures;
  raw = λ h. refl;
}

pub loop-place-preserved : goal.loop-place-preserved
loop-place-preserved g c = record {
  far = one_more _ _ _ _ _ c.loop-place.invariant.far _ _ c.at.ensures c.in_ok-follow_at.ensures.followed;
  end = c.loop-place.invariant.end;
  raw = λ h. c.follow_at.ensures.raw (subst (λ s. IsRaw (item_at (sections s) (place c.at.result))) (sym (c.loop-place.invariant.raw h)) (h (place c.at.result))) ∙ c.loop-place.invariant.raw h;
}

pub returns-in_err-follow_at-clause-refused : goal.returns-in_err-follow_at-clause-refused
returns-in_err-follow_at-clause-refused g c =
    let p = err_from_is_err_and c.from_residual.result c.from_residual.ensures.1 in
    rw (p.1) (one_refused _ _ _ _ _ c.loop-place.invariant.far _ _ c.at.ensures c.in_err-follow_at.ensures.refused)

pub returns-in_err-follow_at-clause-raw : goal.returns-in_err-follow_at-clause-raw
returns-in_err-follow_at-clause-raw g c =
    λ h. c.follow_at.ensures.raw (subst (λ s. IsRaw (item_at (sections s) (place c.at.result))) (sym (c.loop-place.invariant.raw h)) (h (place c.at.result))) ∙ c.loop-place.invariant.raw h

pub returns-clause-followed : goal.returns-clause-followed
returns-clause-followed g c = all_followed _ _ _ _ _ c.loop-place.invariant.far (subst (λ n. n ≤ c.loop-place.place) c.loop-place.invariant.end c.loop-place-test.false)

pub returns-in_err-follow_at-clause-fails : goal.returns-in_err-follow_at-clause-fails
returns-in_err-follow_at-clause-fails g c =
    let p = err_from_is_err_and c.from_residual.result c.from_residual.ensures.1 in
    rw (p.1, p.2) (one_may_refuse _ _ _ _ _ c.loop-place.invariant.far _ c.at.ensures _ c.in_err-follow_at.ensures.fails)
