use Rattle.std.proofs.Common.{◌++◌, ◌∙◌, ℕ, List, Some, ap, map, subst, sym}
use Rattle.std.specs.Prelude.{Option, option_and_then, option_map}
use Rattle.wasm_frames.specs.Frames.{header}
use Rattle.wasm_frames.specs.Record.{custom_record}
use Rattle.wasm_writer.specs.Writing.{written}
use Rattle.walrus_base.specs.Id.{place}
use Rattle.walrus_base.specs.Operators.{Functions}
use Rattle.walrus_code.specs.Indices.{index_of}
use Rattle.walrus_contents.specs.View.{parts_view}
use Rattle.walrus_plan.specs.Places.{places}
use Rattle.walrus_writing.specs.BySection.{WritesFront}
use Rattle.walrus_writing.specs.Parts.{type_index}
use Rattle.walrus_writing.proofs.Indexed.{ids_typed}
use Rattle.walrus_writing.proofs.by_section.front_bytes.Goals as goal

pub raw_functions-requires : goal.raw_functions-requires
raw_functions-requires c = record {
  indexed = ids_typed c.args.parts c.requires.there (index_of c.args.prepared.now.indices) (places c.args.prepared.now.plan) c.requires.planned.is_plan c.requires.planned.numbered c.args.prepared.now.plan.own_functions.items _ c.requires.planned.lists.own c.as_slice-order.ensures.value;
}

pub write_front-requires-clause-planned : goal.write_front-requires-clause-planned
write_front-requires-clause-planned c = (c.args.prepared.now, c.requires.planned)

pub returns : goal.returns
returns c =
    let names = index_of c.args.prepared.now.indices in
    let started : Option ℕ = option_and_then (names Functions) (option_map place c.args.parts.start) in
    let headed = c.in_ok-header.ensures.appends.0 ∙ ap (λ (l : List ℕ). l ++ header) (c.reserve.ensures.unchanged ∙ c.new-writer.ensures) in
    let stands = λ (old new : List ℕ). WritesFront c.args.parts names c.as_slice-listed.result.now started c.args.prepared.now.data_count (map custom_record c.args.own.now) old new in
    record {
      functions = c.as_slice-listed.result.now;
      functions_are = ap (map Some) c.as_slice-listed.ensures.value ∙ c.in_ok-functions.ensures.value ∙ ap (map (λ id. option_and_then (type_index names) ((parts_view c.args.parts).functions (place id)))) c.as_slice-order.ensures.value;
      stand = subst (λ (l : List ℕ). stands header l) (sym c.finish.ensures) (subst (λ (l : List ℕ). stands l (written c.write_front.new.to)) headed c.in_ok-write_front.ensures);
    }
