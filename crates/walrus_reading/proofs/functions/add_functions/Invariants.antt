use Rattle.std.proofs.Common.{map, take}
use Rattle.std.specs.Prelude.{zip}
use Rattle.std.specs.Fn.{FnReturnsAt}
use Rattle.walrus_base.specs.Locals.{locals}
use Rattle.walrus_base.specs.ModuleTypes.{type_slots}
use Rattle.walrus_functions.specs.Known.{IsOfTypes}
use Rattle.walrus_functions.specs.ReadFunction.{Given}
use Rattle.walrus_functions.specs.Signatures.{slots_of}
use Rattle.walrus_items.specs.Functions.{functions}
use Rattle.walrus_reading.specs.Taken.{AddLocated, AreTaken, context_under, tags_under, types_in}
use Rattle.wasm_frames.specs.Record.{body_record}
use Rattle.walrus_reading.proofs.functions.add_functions.Given as goal

abbrev pub invariant-loop-place : goal.invariant-loop-place
invariant-loop-place g l = record {
  taken : AreTaken (context_under l.under l.fn.types) (types_in l.fn.types) (tags_under l.under) (take l.place (zip l.of_types (map body_record l.bodies))) (locals l.all) (slots_of l.fn.types) (slots_of l.types) (functions l.fn.funcs) (functions l.funcs) l.starts.items;
  known : IsOfTypes (type_slots l.types) l.handlers;
  located : AddLocated (Given l.under.texts (FnReturnsAt g.L.Fn l.under.locate.now)) (take l.place (map body_record l.bodies)) (functions l.fn.funcs) (functions l.funcs);
}
