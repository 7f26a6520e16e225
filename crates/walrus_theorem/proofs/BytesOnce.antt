-- What a module in memory is written as is one list of bytes.
use Rattle.std.proofs.Common.{◌≡◌, sym, ap, ◌∙◌, subst}
use Rattle.walrus_model.specs.Abstract.{Abstract}
use Rattle.walrus_model.specs.Config.{Config}
use Rattle.walrus_model.proofs.Living.{all_live}
use Rattle.walrus_theorem.specs.Once.{PremisesHold, LivingKeeps, Premises, BytesOnce}
use Rattle.walrus_theorem.specs.Pinned.{IsWrittenAs}
use Rattle.walrus_theorem.specs.Spelling.{IsSpelling, written_as}
use Rattle.walrus_theorem.specs.Text.{Text}
use Rattle.walrus_theorem.proofs.TextShaped.{written_once}

pub premises_hold : PremisesHold
premises_hold c v w = record {
  written = w.rules.indices.written;
  locals = w.rules.indices.locals;
  exports = w.rules.indices.exports;
  start = w.rules.indices.start;
}

pub living_keeps : LivingKeeps
living_keeps v h =
    let all = all_live v h in
    record { written = all.written; locals = all.locals; exports = all.exports; start = all.start }

pub one_module : (c : Config) (v n m : Abstract) (s t : Text) → Premises v → IsWrittenAs c v n → IsWrittenAs c v m → IsSpelling n s → IsSpelling m t → n ≡ m
one_module c v n m s t p wn wm hs ht =
    hs.says
    ∙ written_once c v s t p (subst (λ k. IsSpelling k s) hs.says hs) (subst (λ k. IsSpelling k t) ht.says ht) (subst (IsWrittenAs c v) hs.says wn) (subst (IsWrittenAs c v) ht.says wm)
    ∙ sym ht.says

pub bytes_once : BytesOnce
bytes_once once c v n m a b p wn wm ha hb =
    let same : n ≡ m = one_module c v n m ha.text hb.text p wn wm ha.spells hb.spells in
    ha.written ∙ ap written_as (once m hb.text ha.text hb.spells (subst (λ k. IsSpelling k ha.text) same ha.spells)) ∙ sym hb.written
