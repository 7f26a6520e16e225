use Rattle.std.proofs.Common.{◌≡◌, ◌+◌, ◌-◌, ◌<◌, ℕ, Some, ap, arith, refl, sym, ◌∙◌}
use Rattle.walrus_code.specs.Indices.{index_of, local_index}
use Rattle.walrus_bodies.specs.Numbers.{kept_index}
use Rattle.walrus_bodies.specs.Text.{first_local_of, local_count_of}
use Rattle.walrus_bodies.proofs.KeptLemmas.{emitted_as_well}
use Rattle.walrus_bodies.proofs.text.Text.append_kept.Goals as goal

pub returns-then-not-memory_stays : goal.returns-then-not-memory_stays
unfolding first_local_of local_count_of
returns-then-not-memory_stays c locals features are =
    let t = c.args.self.now in
    let w = c.append_listed.ensures features in
    let numbers = local_index c.in_ok-locals.locals in (
      w.0,
      emitted_as_well t (index_of c.args.indices.now) numbers locals (λ i low.
          let low_so : i < c.local_count.result = omega (arith, low, c.local_count.ensures) in
          c.in_ok-locals.ensures i low_so ∙ sym (are i low)) features c.args.to.now.items c.append_listed.new.to.items w.0 c.append_listed.result w.1,
    )

pub returns : goal.returns
unfolding first_local_of
returns c locals features are =
    let t = c.args.self.now in
    let first = first_local_of t in
    let back : (i : ℕ) → kept_index first (first + i) ≡ Some i = λ i. let e : (first + i) - first ≡ i = omega arith in ap Some e in
    c.append_numbered.ensures (index_of c.args.indices.now) (kept_index first) locals features refl (λ n from low. back n) (λ accessed. c.memory_stays.ensures c.if-not-memory_stays.false accessed)
    (λ i low. back i ∙ sym (are i low))
