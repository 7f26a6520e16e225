use Rattle.std.proofs.Common.{refl, string_bytes}
use Rattle.std.proofs.lemmas.Bool.{iff_false}
use Rattle.walrus_base.specs.Id.{place}
use Rattle.walrus_base.specs.ModuleTypes.{type_names}
use Rattle.walrus_base.specs.TypeDef.{type_def, type_name}
use Rattle.walrus_reading.specs.Shown.{mend_type_name}
use Rattle.walrus_reading.proofs.Put.{both_there, name_put, none_put}
use Rattle.walrus_reading.proofs.renaming.name_any_type.Goals as goal

pub returns-then-contains-clause-names : goal.returns-then-contains-clause-names
returns-then-contains-clause-names c =
    name_put (type_names c.args.all.now) (type_names c.set_name.new.self) (place c.at-id.result) c.args.place (string_bytes c.args.name) c.at-id.ensures
    (both_there type_def type_name c.args.all.now.places.items (place c.at-id.result) (c.contains.ensures.0 c.if-contains.true)) c.set_name.ensures.names

pub returns-else-contains-clause-names : goal.returns-else-contains-clause-names
returns-else-contains-clause-names c =
    none_put mend_type_name (λ x. refl) (type_names c.args.all.now) (place c.at-id.result) c.args.place (string_bytes c.args.name) c.at-id.ensures
    (λ live. iff_false c.contains.ensures c.if-contains.false (both_there type_name type_def c.args.all.now.places.items (place c.at-id.result) live))
