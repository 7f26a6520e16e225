use Rattle.std.proofs.Common.{map}
use Rattle.wasm_forms.proofs.Adding.{vector_map, fits_map, fits_unmap}
use Rattle.wasm_forms.specs.Writing.{FitsLength, FitsVector}
use Rattle.wasm_frames.specs.Record.{Body, body_record}
use Rattle.wasm_frames.specs.Spelling.{body_bytes}
use Rattle.wasm_writer.proofs.Groups.{measures_as}
use Rattle.wasm_writer.proofs.Ranges.{BodyFits}
use Rattle.wasm_writer.proofs.places.code_len.Goals as goal

pub returns : goal.returns
returns c =
    let F = λ (b : Body). FitsLength b.bytes in
    measures_as c.counted_bodies_len.result _ _ (FitsVector BodyFits c.args.bodies.now) (FitsVector F (map body_record c.args.bodies.now)) (vector_map body_record body_bytes c.args.bodies.now) (fits_map body_record F c.args.bodies.now)
    (fits_unmap body_record F c.args.bodies.now) c.counted_bodies_len.ensures
