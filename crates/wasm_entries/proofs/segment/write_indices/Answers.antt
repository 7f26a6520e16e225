use Rattle.std.proofs.Common.{refl}
use Rattle.wasm_forms.specs.Spelling.{number_bytes, vector_bytes}
use Rattle.wasm_forms.specs.Writing.{FitsLength, FitsVector}
use Rattle.wasm_forms.proofs.Adding.{adds_as, fits_free}
use Rattle.wasm_entries.proofs.segment.write_indices.Goals as goal

pub returns-clause-adds : goal.returns-clause-adds
returns-clause-adds c =
    let indices = c.args.indices.now in
    let spelled = vector_bytes number_bytes indices in
    adds_as c.write_vector.result c.args.to.now.items c.write_vector.new.to.items spelled spelled (FitsVector (λ n. Unit {0}) indices) (FitsLength indices) refl (λ h. h.0) (fits_free indices) c.write_vector.ensures.adds

pub returns-clause-room : goal.returns-clause-room
returns-clause-room c = c.write_vector.ensures.room

pub returns-clause-keeps : goal.returns-clause-keeps
returns-clause-keeps c = c.write_vector.ensures.keeps
