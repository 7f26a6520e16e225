use Rattle.std.proofs.Common.{ap, sym}
use Rattle.walrus.specs.Base.Id.{place}
use Rattle.walrus.specs.Contents.View.{name_at}
use Rattle.walrus.proofs.Modules.NamesLemmas.{not_named, untrue}
use Rattle.walrus_tools.proofs.item_names.type_name.Goals as goal

pub returns-then-not-contains : goal.returns-then-not-contains
returns-then-not-contains c = sym (ap (name_at (λ n. n)) (not_named c.args.all.now.places.items (place c.args.id) (untrue _ _ c.contains.ensures c.if-not-contains.true)))
