use Rattle.std.proofs.Common.{◌≡◌, ◌∙◌, sym, alloc_error}
use Rattle.wasm_forms.specs.declared.error.WireError.TheVariants.{Memory}
use Rattle.wasm_frames.specs.Record.{custom_record}
use Rattle.walrus_reading.proofs.SectionsTaken.{bounds_stay, section_taken}
use Rattle.walrus_reading.proofs.names.take_section.Goals as goal

pub returns-clause-taken : goal.returns-clause-taken
returns-clause-taken c =
    section_taken (custom_record c.args.custom.now) c.args.namer.now c.read_names.new.sink (λ _ _ e. e ≡ Memory alloc_error) (Unit {0}) tt (sym c.has.ensures ∙ c.if-not-has.false) c.in_ok-read_names.ensures.handed

pub returns-clause-same : goal.returns-clause-same
returns-clause-same c = bounds_stay c.args.namer.now c.read_names.new.sink (λ _ _ e. e ≡ Memory alloc_error) (Unit {0}) tt c.args.custom.now.bytes.now c.in_ok-read_names.ensures.handed
