use Rattle.std.proofs.Common.{◌≡◌, true, subst, sym, Bool, ◌↔◌}
use Rattle.std.specs.Prelude.{Contains}
use Rattle.walrus_sections.specs.NameLists.{texts}
use Rattle.walrus_sections.proofs.LookUps.{searched}
use Rattle.walrus_sections.proofs.name_lists.is_among.Goals as goal

pub returns : goal.returns
returns c =
    subst (λ (b : Bool). (b ≡ true) ↔ Contains (texts c.args.all.now) c.args.text.now) (sym c.is_ok.ensures.value)
    (searched c.args.all.now c.args.text c.requires c.binary_search.result c.binary_search.ensures.bound c.binary_search.ensures.position)
