use Rattle.std.proofs.Common.{ap, refl, ◌∙◌}
use Rattle.std.specs.Prelude.{option_map}
use Rattle.walrus_model.specs.Sections.{space_of}
use Rattle.walrus_base.proofs.Standing.{some_inj}
use Rattle.wasm_entries.specs.Record.{export_entry}
use Rattle.walrus_reading.proofs.exports.add_export.Goals as goal

pub returns-clause-added : goal.returns-clause-added
returns-clause-added c =
    let e = export_entry c.args.entry.now in (
      _,
      (
        c.in_ok-add.ensures.1,
        record {
          value = _;
          is = refl;
          own_id = c.in_ok-add.ensures.0;
          read = ap (λ x. record { name = e.name; item = x }) (some_inj _ _ (c.in-Some.ensures ∙ ap (option_map (λ i. (space_of e.kind, i))) c.requires.declared));
        },
      ),
    )
