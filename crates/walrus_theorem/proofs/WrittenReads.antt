-- What a well-made module is written as is what its one spelling reads as.
use Rattle.std.proofs.Common.{sym, subst}
use Rattle.walrus_model.specs.Rules.{Holds}
use Rattle.walrus_theorem.specs.Pinned.{IsWrittenAs}
use Rattle.walrus_theorem.specs.SpelledLaws.{BodiesNest, WrittenReads}
use Rattle.walrus_theorem.specs.Spelling.{IsSpelling}
use Rattle.walrus_theorem.proofs.BodiesBack.{bodies_hold}
use Rattle.walrus_theorem.proofs.SpelledReads.{nested_reads}
use Rattle.walrus_theorem.proofs.WrittenHolds.{written_holds, made_nest}

pub written_reads : WrittenReads
written_reads c u n bytes made nothing written spelled fits =
    let is = spelled.spells.says in
    let as_text = subst (IsWrittenAs c u) is written in
    let spelling = subst (λ x. IsSpelling x spelled.text) is spelled.spells in
    let holds = subst Holds (sym is) (written_holds c u spelled.text made nothing as_text spelling) in
    let nest = subst (BodiesNest c) (sym is) (made_nest c u spelled.text made as_text spelling) in
    (nested_reads c n bytes spelled fits nest (bodies_hold n holds), holds)
