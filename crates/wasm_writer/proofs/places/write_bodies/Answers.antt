use Rattle.std.proofs.Common.{map}
use Rattle.wasm_forms.proofs.Adding.{adds_as, vector_map, fits_map, fits_unmap}
use Rattle.wasm_forms.proofs.Room.{room_as}
use Rattle.wasm_forms.specs.Writing.{FitsLength, FitsVector}
use Rattle.wasm_frames.specs.Record.{Body, body_record}
use Rattle.wasm_frames.specs.Spelling.{body_bytes}
use Rattle.wasm_writer.proofs.Ranges.{BodyFits}
use Rattle.wasm_writer.proofs.places.write_bodies.Goals as goal

pub returns-clause-adds : goal.returns-clause-adds
returns-clause-adds c =
    let F = λ (b : Body). FitsLength b.bytes in
    let bodies = c.args.bodies.now in
    adds_as c.write_vector.result _ _ _ _ (FitsVector BodyFits bodies) (FitsVector F (map body_record bodies)) (vector_map body_record body_bytes bodies) (fits_map body_record F bodies) (fits_unmap body_record F bodies) c.write_vector.ensures.adds

pub returns-clause-room : goal.returns-clause-room
returns-clause-room c = room_as c.write_vector.result _ _ _ _ (vector_map body_record body_bytes c.args.bodies.now) c.write_vector.ensures.room
