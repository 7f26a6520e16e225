use Rattle.std.proofs.Common.{map, ap, ◌∙◌, sym}
use Rattle.std.specs.Option.{option_copied}
use Rattle.walrus_base.specs.Id.{place}
use Rattle.walrus_base.specs.Index.{places_of}
use Rattle.walrus_base.proofs.index.FunctionIndex.at.Goals as goal

pub returns-in-Some : goal.returns-in-Some
returns-in-Some c =
    ap (λ ids. map (λ id. place id) ids) c.as_slice.ensures.value
    ∙ ap (λ r. places_of (option_copied r)) (sym c.in-Some.is) ∙ ap (λ o. places_of o) c.get.ensures.value

pub returns-in-None : goal.returns-in-None
returns-in-None c = ap (λ r. places_of (option_copied r)) (sym c.in-None.is) ∙ ap (λ o. places_of o) c.get.ensures.value
