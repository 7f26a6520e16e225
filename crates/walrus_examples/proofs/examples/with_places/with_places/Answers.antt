use denote.Param.Object.{read_made}
use Rattle.std.proofs.Common.{rules, ◌≡◌, ◌||◌, ℕ, false, List, map, refl, ap, ◌∙◌, subst}
use Rattle.walrus.specs.Code.Names.{Lookup}
use Rattle.walrus.specs.Model.Config.{Config}
use Rattle.walrus.specs.Model.Sections.{is_apart}
use Rattle.walrus.specs.Modules.Asked.{is_dylink_name}
use Rattle.walrus.specs.Modules.Flags.{Flags, config_of, flags}
use Rattle.walrus.specs.Modules.Meaning.{Meaning}
use Rattle.walrus.specs.Modules.Settings.{settings}
use Rattle.walrus.specs.Modules.SectionEntry.TheVariants.{Boxed}
use Rattle.walrus.specs.Places.{last_place, moved_by, pairs_of, pairs_state, places_name}
use Rattle.walrus.specs.declared.sections.places.PlacedPair.{PlacedPair}
use Rattle.walrus.specs.declared.sections.places.PlacesSection.{PlacesSection}
use Rattle.walrus.proofs.StateLemmas.{writes_by_state}
use Rattle.walrus_examples.proofs.MovesRuns.{keeps_transform, located_by_place, same_config}
use Rattle.walrus_examples.proofs.PlacedEnds.{answers}
use Rattle.walrus_examples.proofs.PlacedSlots.{SaysPlaces, of_made}
use Rattle.walrus_examples.specs.PlacesSection.{CarriesPlaces, given}
use Rattle.walrus_examples.proofs.examples.with_places.with_places.OwnLists as own
use Rattle.walrus_examples.proofs.examples.with_places.with_places.Goals as goal
use Rattle.std.proofs.lemmas.Bool.{or_parts as or_left}

pub returns : goal.returns
returns c =
    let m = c.in_ok-module in
    let name = c.args.name.now in
    let kept_apart : (is_apart name || is_dylink_name name) ≡ false = search rules in
    let apart = or_left (is_apart name) (is_dylink_name name) kept_apart in
    let same = same_config _ _ c.new-config.ensures.value c.preserve_code_transform.ensures.value in
    let on = keeps_transform _ _ c.new-config.ensures.value c.preserve_code_transform.ensures.value in
    let read = m.module in
    let made = c.into_dyn_box.ensures.1 in
    let means = read_made own.own-2 own.entry-2-1 own.at-2-1 own.same-2-1 Meaning (λ j y. record { name = j.1.section_name y; state = j.1.state y; roots = j.1.own_roots y; may_refuse = j.1.may_refuse y; contents = j.1.contents y; state_after = j.1.state_after y }) _ _ _ made in
    let typed = of_made own.own-2 own.entry-2-1 own.at-2-1 own.same-2-1 (λ j. (y : j.0.Denot) → SaysPlaces (record { name = j.1.section_name y; state = j.1.state y; roots = j.1.own_roots y; may_refuse = j.1.may_refuse y; contents = j.1.contents y; state_after = j.1.state_after y })) _ made.index
    (λ (y : PlacesSection). record { says = ap {B = Lookup → List ℕ} (λ bytes indices. bytes) (writes_by_state y.pairs.items); keeps_none = refl; quiet = refl }) in
    let named : places_name c.in_ok-own.own.value ≡ name = search rules in
    let holds : pairs_of c.in_ok-own.own.value ≡ given c.args.pairs.now = search rules in
    subst (λ (d : Config). CarriesPlaces d c.args.bytes.now name c.args.pairs.now c.emit_wasm.result) same
    (answers _ (config_of (flags c.preserve_code_transform.result.now)) c.args.bytes.now name apart.0 apart.1 read m.ensures.found m.ensures.kept.raws m.ensures.kept.are
    c.add.new.self (Boxed c.into_dyn_box.result) c.in_ok-add.ensures.1 typed (ap (λ (x : Meaning). x.name) means ∙ named)
    c.args.pairs.now (λ x. ap (λ (s : Meaning). s.state_after x) means ∙ ap (λ (ps : List PlacedPair). pairs_state (map (moved_by (last_place x.instruction_map)) ps)) holds)
    (located_by_place _ c.args.bytes.now read.funcs (c.preserve_code_transform.ensures.hook ∙ c.new-config.ensures.hook) m.ensures.located)
    c.emit_wasm.new.self c.emit_wasm.ensures.others (settings read) _ (ap config_of m.ensures.configured) (ap (λ (f : Flags). f.preserve_code_transform) m.ensures.configured ∙ on)
    c.emit_wasm.result c.emit_wasm.ensures.left c.emit_wasm.ensures.customs c.emit_wasm.ensures.well_made)
