use Rattle.std.proofs.Common.{◌≡◌, length, sym, ◌∙◌, arith}
use Rattle.walrus_items.specs.Imports.{imports, stays_under}
use Rattle.walrus_items.specs.Keeping.{kept_where}
use Rattle.walrus_items.proofs.KeepingLemmas.{kept_turn, kept_all}
use Rattle.walrus_items.proofs.imports.«Items+ImportKey+Import».keep_only.Goals as goal

pub loop-place-preserved : goal.loop-place-preserved
loop-place-preserved c =
    let stays = stays_under c.args.marks in
    let old = imports c.args.self.now in
    kept_turn stays c.loop-place.place (imports c.loop-place.self) (imports c.delete_unmarked.new.self) (kept_where stays old) (length old)
    (rw (sym c.at.ensures) c.delete_unmarked.ensures) c.loop-place.invariant

pub returns : goal.returns
returns c =
    let all : c.index-place-end.result ≡ length (imports c.args.self.now) = c.index-place-end.ensures ∙ c.next_id.ensures in
    sym (kept_all (stays_under c.args.marks) c.loop-place.place (imports c.loop-place.self) (omega (arith, c.loop-place-test.false, c.loop-place.auto.place-end, all, c.loop-place.invariant.0))) ∙ c.loop-place.invariant.1
