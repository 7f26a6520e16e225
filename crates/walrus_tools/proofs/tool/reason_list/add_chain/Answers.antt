use Rattle.std.proofs.Common.{Option, subst, sym}
use Rattle.std.specs.Global.{Vec}
use Rattle.std.specs.Prelude.{IfErr, OnOk}
use Rattle.walrus_tools.specs.Links.{links_in}
use Rattle.walrus_sections.specs.Numbers.{RefusesIf}
use Rattle.walrus_tools.specs.ReasonBytes.{IsLongLink, chain_links}
use Rattle.walrus_tools.specs.Spelled.{HasLong}
use Rattle.walrus_tools.specs.declared.links.Link.{Link}
use Rattle.walrus_tools.proofs.ReasonSpelled.{chain_fits, chain_refused}
use Rattle.walrus_tools.proofs.tool.reason_list.add_chain.Goals as goal

pub returns-in-Some-clause-fits : goal.returns-in-Some-clause-fits
returns-in-Some-clause-fits c =
    subst (λ (o : Option (Vec Link)). OnOk c.add_all.result (HasLong IsLongLink (chain_links (links_in o)) → ⊥)) (sym c.in-Some.is) (chain_fits _ _ c.deref.ensures.value c.add_all.result c.add_all.ensures.fits)

pub returns-in-Some-clause-refused : goal.returns-in-Some-clause-refused
returns-in-Some-clause-refused c =
    subst (λ (o : Option (Vec Link)). IfErr c.add_all.result (RefusesIf (HasLong IsLongLink (chain_links (links_in o))))) (sym c.in-Some.is) (chain_refused _ _ c.deref.ensures.value c.add_all.result c.add_all.ensures.refused)
