use Rattle.std.proofs.Common.{ap}
use Rattle.std.proofs.lemmas.Result.{err_from_is_err_and}
use Rattle.walrus_base.specs.Arena.{entries}
use Rattle.walrus_module.specs.Customs.{sections, sections_left}
use Rattle.walrus_module.specs.Meaning.{meaning}
use Rattle.walrus_module.proofs.Asking.{among_rest, first_among, mean, one_refuses, roots_step}
use Rattle.walrus_module.proofs.asked.ModuleCustomSections.push_roots.Goals as goal

pub loop-entry-preserved : goal.loop-entry-preserved
loop-entry-preserved g c =
    let first = meaning (λ i. (g.dyn-1.0.entry i).1) c.in-Some.entry.now in
    let some = mean (λ i. (g.dyn-1.0.entry i).1) (sections_left c.loop-entry.rest) in
    let rest = mean (λ i. (g.dyn-1.0.entry i).1) (sections_left c.next.new.self) in
    let all = mean (λ i. (g.dyn-1.0.entry i).1) (entries (sections c.args.self.now)) in
    let is = ap (mean (λ i. (g.dyn-1.0.entry i).1)) c.in-Some.ensures.steps in (
      tt,
      tt,
      among_rest first rest some all is c.loop-entry.invariant.2,
      roots_step c.loop-entry.roots c.add_gc_roots.new.roots _ first rest some is c.in_ok-add_gc_roots.ensures.value c.loop-entry.invariant.3,
    )

pub returns-in_err-add_gc_roots-clause-fails : goal.returns-in_err-add_gc_roots-clause-fails
returns-in_err-add_gc_roots-clause-fails g c =
    let first = meaning (λ i. (g.dyn-1.0.entry i).1) c.in-Some.entry.now in
    let some = mean (λ i. (g.dyn-1.0.entry i).1) (sections_left c.loop-entry.rest) in
    let rest = mean (λ i. (g.dyn-1.0.entry i).1) (sections_left c.next.new.self) in
    let all = mean (λ i. (g.dyn-1.0.entry i).1) (entries (sections c.args.self.now)) in
    let is = ap (mean (λ i. (g.dyn-1.0.entry i).1)) c.in-Some.ensures.steps in
    let p = err_from_is_err_and c.from_residual.result c.from_residual.ensures.1 in
    rw (p.1, p.2) (one_refuses all first c.in_err-add_gc_roots.field-0.0 (first_among first rest some all is c.loop-entry.invariant.2) c.in_err-add_gc_roots.ensures.fails)
