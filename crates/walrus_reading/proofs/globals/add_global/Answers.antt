use Rattle.std.proofs.Common.{Some, ap, ap₂, refl, subst, sym, ◌∙◌}
use Rattle.wasm_entries.specs.Record.{global_entry}
use Rattle.walrus_code.specs.Indices.{ids_at}
use Rattle.walrus_items.specs.Globals.{globals}
use Rattle.walrus_model.specs.Abstract.{Defined}
use Rattle.walrus_model.specs.Constants.{consts_of}
use Rattle.walrus_reading.specs.Stays.{ConstStays}
use Rattle.walrus_reading.specs.Held.{HoldsGlobal}
use Rattle.walrus_reading.proofs.Rows.{adds_one}
use Rattle.walrus_reading.proofs.Stays.{initialiser_stays, value_stays}
use Rattle.walrus_reading.proofs.globals.add_global.Goals as goal

pub read_value-ty-requires : goal.read_value-ty-requires
read_value-ty-requires c = record { stays = value_stays (ids_at c.args.indices.now) (global_entry c.args.raw.now) c.requires.stays }

pub read_initialiser-requires : goal.read_initialiser-requires
read_initialiser-requires c = record {
  stays = subst (ConstStays (ids_at c.args.indices.now)) (sym c.operators.ensures) (initialiser_stays (ids_at c.args.indices.now) (global_entry c.args.raw.now) c.requires.stays);
}

pub returns-clause-added : goal.returns-clause-added
returns-clause-added c =
    adds_one HoldsGlobal _ _ (globals c.args.all.now) (globals c.add_local.new.self) c.in_ok-add_local.ensures.1
    (record {
      value = _;
      is = refl;
      own_id = c.in_ok-add_local.ensures.0;
      short = c.in_ok-initial.ensures.short;
      read = ap₂ (λ value ops. record { origin = Defined; ty = record { value = value; mutable = c.args.raw.now.ty.mutable; shared = c.args.raw.now.ty.shared }; initialiser = Some ops })
          c.read_value-ty.ensures (c.in_ok-initial.ensures.value ∙ ap consts_of c.operators.ensures);
      unnamed = refl;
    })
