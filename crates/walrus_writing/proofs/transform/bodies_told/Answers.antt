use Rattle.std.proofs.Common.{rules, ◌≡◌, ◌∙◌, ℕ, true, List, length, map, sym, ap, subst}
use Rattle.std.specs.Prelude.{zip}
use Rattle.std.specs.declared.ops.Range.{Range}
use Rattle.std.proofs.lemmas.List.{length-map}
use Rattle.wasm_frames.specs.Record.{sections}
use Rattle.wasm_writer.specs.Spelling.{first_body, range_of}
use Rattle.wasm_wire.specs.ModuleSpelling.{as_written, code_place}
use Rattle.walrus_base.specs.Id.{place}
use Rattle.walrus_base.specs.declared.id.Id.{Id}
use Rattle.walrus_base.specs.declared.keys.FunctionKey.{FunctionKey}
use Rattle.walrus_items.specs.Transform as transform
use Rattle.walrus_writing.specs.Located.{AreSorted, by_ends, ends_of}
use Rattle.walrus_writing.proofs.TransformTold.{placed_many}
use Rattle.walrus_writing.proofs.transform.bodies_told.Goals as goal

pub function_ranges-requires : goal.function_ranges-requires
function_ranges-requires c =
    let m = sections c.args.raw.now in
    let asked : c.args.asked ≡ true = search rules in
    record {
      as_many = ap length c.as_slice-functions.ensures.value ∙ c.requires.as_many asked
          ∙ placed_many (first_body (code_place m) m.bodies) m.bodies
          ∙ sym (length-map (as_written m).bodies range_of)
          ∙ ap length (sym (c.as_slice-ranges.ensures.value ∙ c.in_ok-places.ensures.1));
    }

pub returns-clause-told : goal.returns-clause-told
returns-clause-told c = λ asked.
    let m = sections c.args.raw.now in
    let found = c.in_ok-by_id.by_id in
    record {
      count = c.in_ok-places.ensures.0;
      ranges = subst (λ (l : List (Id FunctionKey)). AreSorted by_ends (zip (map place l) (map ends_of (map range_of (as_written m).bodies))) (map transform.range_of found.items)) c.as_slice-functions.ensures.value
          (subst (λ (l : List (Range ℕ)). AreSorted by_ends (zip (map place c.as_slice-functions.result.now) (map ends_of l)) (map transform.range_of found.items)) (c.as_slice-ranges.ensures.value ∙ c.in_ok-places.ensures.1) c.in_ok-by_id.ensures.value);
      no_locations = c.new.ensures.items;
    }
