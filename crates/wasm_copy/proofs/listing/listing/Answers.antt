use Rattle.std.proofs.Common.{ℕ, ap, ◌∙◌, string_bytes}
use Rattle.std.specs.Global.{Vec}
use Rattle.std.proofs.lemmas.List.{take_all}
use Rattle.wasm_frames.specs.Record.{sections}
use Rattle.wasm_copy.specs.Listing.{is_below, has_function}
use Rattle.wasm_copy.proofs.Listed.{one_listed, all_listed}
use Rattle.wasm_copy.proofs.listing.listing.Goals as goal

pub sections-preserved : goal.sections-preserved
sections-preserved c = (
  c.in_ok-write_section.ensures.same_known ∙ c.sections.invariant.0,
  one_listed (has_function (sections c.args.records.now)) (is_below c.sections.lines.functions) c.deref-section-items.result.now c.sections.section-index _ (string_bytes c.sections.lines.text) (string_bytes c.write_section.new.lines.text) c.sections.invariant.0 c.sections-test.true c.sections.invariant.1 c.in_ok-write_section.ensures.listed,
)

pub returns : goal.returns
returns c =
    all_listed (has_function (sections c.args.records.now)) _ _ (string_bytes c.sections.lines.text) _ (take_all c.sections.section-index c.deref-section-items.result.now c.sections-test.false ∙ c.deref-section-items.ensures.value) (ap (λ (v : Vec ℕ). v.items) c.into_bytes.ensures.value) c.sections.invariant.1
