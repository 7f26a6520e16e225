use Rattle.std.proofs.Common.{◌∙◌, ap, sym}
use Rattle.std.proofs.lemmas.Bool.{eqb-false}
use Rattle.walrus_base.specs.Id.{place}
use Rattle.walrus_items.specs.Kinds.{imported}
use Rattle.walrus_model.specs.WellMade.{import_of}
use Rattle.walrus_contents.specs.View.{parts_view}
use Rattle.walrus_theorem.specs.Refused.{NotBrought}
use Rattle.walrus_theorem.proofs.Matches.{imported_twice, local_imported}
use Rattle.walrus_plan.proofs.matched.check_import.Goals as goal

pub returns-in_default : goal.returns-in_default
returns-in_default c =
    let v = parts_view c.args.parts in
    local_imported v c.requires.there (place c.args.id) c.requires.named.0 c.requires.named.1 (ap (import_of v) c.requires.named.2 ∙ sym c.in_default.ensures)

pub returns-then-is_named_by : goal.returns-then-is_named_by
returns-then-is_named_by c =
    let other = c.is_named_by.ensures.named c.if-is_named_by.true in
    imported_twice (parts_view c.args.parts) c.requires.there (place c.args.id) (place c.in-Some.own) c.requires.named.0 other.0 c.requires.named.1 other.1
    (λ same. eqb-false (place c.in-Some.own) (place c.args.id) (sym c.eq.ensures ∙ c.if-eq.false) (sym same))
    (c.requires.named.2 ∙ sym other.2)

pub returns : goal.returns
returns c =
    NotBrought (imported c.args.kind) (place c.in-Some.own) (sym c.in-Some.ensures) (λ x at same. c.is_named_by.ensures.not c.if-is_named_by.false (x, at, same))
