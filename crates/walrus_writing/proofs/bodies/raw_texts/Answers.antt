use Rattle.std.proofs.Common.{◌∙◌, ℕ, ap, drop, map}
use Rattle.wasm_frames.specs.Record.{body_record}
use Rattle.walrus_base.proofs.Turns.{map_snoc}
use Rattle.walrus_writing.proofs.JoinedBodies.{size_within, text_within, texts_turn, texts_within}
use Rattle.walrus_writing.proofs.bodies.raw_texts.Goals as goal

pub split_at-requires : goal.split_at-requires
split_at-requires c = size_within c.args.lengths.now c.lengths.size-index _ _ _ c.lengths-test.true c.number_len.ensures.written c.lengths.invariant.within

pub split_at-requires-in-lengths : goal.split_at-requires-in-lengths
split_at-requires-in-lengths c = text_within c.args.lengths.now c.lengths.size-index _ _ _ _ c.lengths-test.true c.number_len.ensures.written c.lengths.invariant.within c.split_at.ensures.back_len

pub lengths-preserved : goal.lengths-preserved
lengths-preserved c = record {
  listed = texts_turn c.args.lengths.now c.lengths.size-index _ _ c.split_at.result.1.now _ _ _ _ _ c.lengths-test.true (c.split_at.ensures.back ∙ ap (λ (n : ℕ). drop n c.lengths.rest.now) c.number_len.ensures.written) c.split_at-in-lengths.ensures.front c.split_at-in-lengths.ensures.back (ap (map body_record) c.in_ok-push.ensures.items ∙ map_snoc body_record c.lengths.raw.items _) c.lengths.invariant.listed;
  within = texts_within c.args.lengths.now c.lengths.size-index _ _ _ _ _ c.lengths-test.true c.number_len.ensures.written c.lengths.invariant.within c.split_at.ensures.back_len c.split_at-in-lengths.ensures.back_len;
}
