use Rattle.std.specs.Vec.Iter.{into_iter_items}
use Rattle.std.proofs.lemmas.Result.{err_from_is_err_and}
use Rattle.mulkavesh.specs.declared.words.Place.TheVariants.{Anywhere}
use Rattle.mulkavesh.specs.Order.{said}
use Rattle.mulkavesh.specs.Steps.{put_words}
use Rattle.mulkavesh.proofs.PutLemmas.{put_goes, put_refused}
use Rattle.mulkavesh.proofs.words.put_all.Goals as goal

pub returns-in_err-place : goal.returns-in_err-place
returns-in_err-place c =
    let p = err_from_is_err_and c.from_residual.result c.from_residual.ensures.1 in
    rw (p.1, p.2) (put_refused (said c.words.left) c.words.place c.in-Some.word (into_iter_items c.next.new.self) (into_iter_items c.words.word-iterator) (put_words (said c.args.order) Anywhere (into_iter_items c.args.words))
    c.in-Some.ensures.steps.0 c.words.invariant.2 c.put.new.order c.put.result c.in_err-place.field-0.0 c.put.ensures c.in_err-place.was)

pub words-preserved : goal.words-preserved
words-preserved c = (
  tt,
  tt,
  put_goes (said c.words.left) c.words.place c.in-Some.word (into_iter_items c.next.new.self) (into_iter_items c.words.word-iterator) (put_words (said c.args.order) Anywhere (into_iter_items c.args.words)) c.in-Some.ensures.steps.0
      c.words.invariant.2 c.put.new.order c.put.result c.in_ok-place.place c.put.ensures c.in_ok-place.was,
)
