use Rattle.std.proofs.Common.{ap₂, refl}
use Rattle.wasm_entries.specs.Record.{table_entry}
use Rattle.walrus_code.specs.Indices.{ids_at}
use Rattle.walrus_items.specs.Tables.{tables}
use Rattle.walrus_model.specs.Abstract.{Defined}
use Rattle.walrus_model.specs.Sections.{limits_of}
use Rattle.walrus_reading.specs.Held.{HoldsTable, none_kept}
use Rattle.walrus_reading.proofs.Rows.{adds_one}
use Rattle.walrus_reading.proofs.Stays.{element_stays}
use Rattle.walrus_reading.proofs.tables.add_table.Goals as goal

pub read_reference-element-requires : goal.read_reference-element-requires
read_reference-element-requires c = record { stays = element_stays (ids_at c.args.indices.now) (table_entry c.args.raw.now) c.requires.stays }

pub returns-clause-added : goal.returns-clause-added
returns-clause-added c =
    adds_one (HoldsTable none_kept) _ _ (tables c.args.all.now) (tables c.add_local_with_init.new.self) c.in_ok-add_local_with_init.ensures.1
    (record {
      value = _;
      is = refl;
      own_id = c.in_ok-add_local_with_init.ensures.0;
      short = c.in_ok-initial.ensures.short;
      read = ap₂ (λ element initial. record { origin = Defined; ty = record { limits = limits_of c.args.raw.now.ty.limits; element = element }; initialiser = initial })
          c.read_reference-element.ensures c.in_ok-initial.ensures.value;
      segments = λ e. refl;
      unnamed = refl;
    })
