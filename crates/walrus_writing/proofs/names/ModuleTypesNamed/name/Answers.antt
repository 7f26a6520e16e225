use Rattle.std.proofs.Common.{sym, ap}
use Rattle.std.specs.Prelude.{option_and_then}
use Rattle.walrus_base.specs.Id.{place}
use Rattle.walrus_writing.proofs.NamesLemmas.{not_named, untrue}
use Rattle.walrus_writing.proofs.names.ModuleTypesNamed.name.Goals as goal

pub returns-then-not-contains : goal.returns-then-not-contains
returns-then-not-contains c =
    sym (ap (option_and_then (λ n. n)) (not_named c.args.self.now.places.items (place c.args.id) (untrue _ _ c.contains.ensures c.if-not-contains.true)))
