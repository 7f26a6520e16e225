use Rattle.walrus_module.specs.View.{contents_of, view}
use Rattle.walrus.proofs.ReportLemmas.{report_is}
use Rattle.walrus.proofs.report.report_on.Goals as goal

pub returns : goal.returns
returns g c =
    let old = c.args.module.now in
    let G = λ (i : g.dyn-1.0.I). (g.dyn-1.0.entry i).1 in
    let v = view G old in
    report_is v.customs v.section_roots (contents_of old) c.in_ok-used.used c.in_ok-used.ensures.kept c.in_ok-used.ensures.sound _ _ _ _ _ _ _ _
    c.new-text.ensures.items c.in_ok-add_line.ensures c.in_ok-add_line-2.ensures c.in_ok-add_line-3.ensures c.in_ok-add_line-4.ensures
    c.in_ok-add_line-5.ensures c.in_ok-add_line-6.ensures c.in_ok-add_line-7.ensures
