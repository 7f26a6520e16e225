use Rattle.std.proofs.Common.{◌≡◌, ℕ, List, ◌++◌, take, sym, ap, ◌∙◌, append_assoc}
use Rattle.std.proofs.KnownBytes.{Appends-trans}
use Rattle.std.proofs.lemmas.List.{take-append-drop}
use Rattle.walrus.proofs.transfer.write_all.Goals as goal

-- a front grows by what was taken
grown : (bytes front rest taken after : List ℕ) → bytes ≡ front ++ rest → rest ≡ taken ++ after → bytes ≡ (front ++ taken) ++ after
grown bytes front rest taken after e d = e ∙ ap (λ x. front ++ x) d ∙ sym (append_assoc front taken after)

pub loop-rest-preserved : goal.loop-rest-preserved
loop-rest-preserved g c =
    let i = c.loop-rest.invariant in
    let n = c.in_ok-count.count in
    let rest = c.loop-rest.rest.now in
    let parts : rest ≡ take n rest ++ c.split_at.result.1.now = sym (take-append-drop n rest) ∙ ap (λ x. take n rest ++ x) (sym c.split_at.ensures.back)
    in (
      (
        i.0.0 ++ take n rest,
        grown _ i.0.0 rest (take n rest) _ i.0.1 parts,
        Appends-trans _ _ _ i.0.0 (take n rest) i.0.2 c.in_ok-count.ensures.bytes,
      ),
      c.in_ok-count.ensures.counts ∙ i.1,
    )
