use Rattle.std.proofs.Common.{List, ℕ, sym, ap, ◌∙◌, subst}
use Rattle.std.specs.Prelude.{Option, slice_get}
use Rattle.walrus_sections.specs.Choice.{choices_seen}
use Rattle.walrus_tools.specs.ChosenModule.{TellsOfParsed}
use Rattle.walrus_tools.specs.Wanted.{config_wanted}
use Rattle.walrus_sections.specs.declared.choice.Choice.{Choice as HeldChoice}
use Rattle.mulkavesh.specs.Choices.{roots_of}
use Rattle.mulkavesh.proofs.UnfitLemmas.{says_unfit, stands}
use Rattle.mulkavesh.proofs.cause.unfit_in.Goals as goal

pub returns : goal.returns
returns c =
    let o = c.args.order.now in
    let number : ℕ = c.in-Some.number in
    let held : List HeldChoice = c.deref.result.now in
    let same = ap choices_seen c.deref.ensures.value ∙ c.in_ok-choices.ensures in
    let tells = subst (λ (found : Option ℕ). TellsOfParsed (config_wanted o.wanted) c.args.bytes.now (choices_seen held) found) c.in-Some.is c.in_ok-number.ensures in
    let lists = c.deref.ensures.value ∙ sym c.deref-2.ensures.value in
    let there = ap (λ (xs : List HeldChoice). slice_get xs number) lists ∙ stands c.deref-2.result.now number c.in-Some-get.choice.now c.in-Some-get.ensures.lookup.1 c.in-Some-get.ensures.lookup.3.0 in
    says_unfit (config_wanted o.wanted) c.args.bytes.now held (roots_of o) number c.in-Some-get.choice.now c.in_ok-unfit_text.field-0.items same tells there c.in_ok-unfit_text.ensures
