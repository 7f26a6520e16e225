use Rattle.std.proofs.Common.{◌<◌, ◌+◌, length, ◌∙◌, arith}
use Rattle.walrus_base.proofs.Indexed.{indexed-stays, indexed-next}
use Rattle.walrus_base.proofs.Ordered.{notes_stay, notes_in_order, notes_not_named}
use Rattle.walrus_base.proofs.OwnIdLemmas.{own_place}
use Rattle.walrus_base.proofs.SlotLemmas.{read_here}
use Rattle.walrus_base.proofs.module_types.ModuleTypes.note_next.Goals as goal

pub invariant_of-self : goal.invariant_of-self
invariant_of-self c =
    let self = c.args.self.now in
    let slot = c.index.result.now in
    let before = self.index in
    let after = c.note_alone.new.index in
    let notes = c.note_alone.ensures.stays in
    let below : self.noted < length self.places.items = omega (arith, c.if-self-len.true, c.len.ensures, self.places.ok.0) in
    let at = read_here self.places.items self.noted slot below c.index.ensures in
    record {
      whole = self.whole;
      under_own_ids = self.under_own_ids;
      indexed = indexed-stays before after self.noted self.places.items self.indexed (notes_stay slot before after notes);
      within = self.within;
      in_order = notes_in_order slot before after notes self.noted self.noted (λ ty is. own_place 0 self.places.items self.noted ty self.under_own_ids (at ∙ is) ∙ omega arith) (omega arith) self.in_order;
      not_named = notes_not_named slot before after notes self.not_named;
    }

pub invariant_of-self-then-self-len : goal.invariant_of-self-then-self-len
invariant_of-self-then-self-len c =
    let self = c.args.self.now in
    let slot = c.index.result.now in
    let before = self.index in
    let after = c.note_alone.new.index in
    let notes = c.note_alone.ensures.stays in
    let below : self.noted < length self.places.items = omega (arith, c.if-self-len.true, c.len.ensures, self.places.ok.0) in
    let at = read_here self.places.items self.noted slot below c.index.ensures in
    record {
      whole = self.whole;
      under_own_ids = self.under_own_ids;
      indexed = indexed-next before after self.noted self.places.items slot self.indexed (notes_stay slot before after notes) (λ ty f is. c.in_ok-note_alone.ensures.noted ty f is) at self.under_own_ids;
      within = omega (arith, below);
      in_order = notes_in_order slot before after notes self.noted (self.noted + 1) (λ ty is. own_place 0 self.places.items self.noted ty self.under_own_ids (at ∙ is) ∙ omega arith) (omega arith) self.in_order;
      not_named = notes_not_named slot before after notes self.not_named;
    }
