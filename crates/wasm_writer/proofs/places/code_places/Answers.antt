use Rattle.std.proofs.Common.{length, map, arith, length-append}
use Rattle.wasm_forms.specs.Spelling.{number_bytes, row_bytes}
use Rattle.wasm_forms.proofs.Spelled.{number_stands}
use Rattle.wasm_frames.specs.Record.{body_record}
use Rattle.wasm_frames.specs.Spelling.{body_bytes}
use Rattle.wasm_writer.proofs.places.code_places.Goals as goal

pub overflow_add-count-2 : goal.overflow_add-count-2
overflow_add-count-2 c = omega (arith, c.leb128_len.ensures.written, (number_stands c.args.size c.ranges.size.fits).short)

pub overflow_add-first : goal.overflow_add-first
overflow_add-first c =
    omega (arith, c.leb128_len.ensures.written, c.leb128_len-2.ensures.written, (number_stands c.args.size c.ranges.size.fits).short, (number_stands (length c.args.bodies.now) c.requires.few).short)

pub body_ranges-requires-clause-within : goal.body_ranges-requires-clause-within
body_ranges-requires-clause-within c =
    omega (
      arith,
      c.leb128_len.ensures.written,
      c.leb128_len-2.ensures.written,
      (number_stands c.args.size c.ranges.size.fits).short,
      (number_stands (length c.args.bodies.now) c.requires.few).short,
      c.requires.sized,
      c.ranges.size.fits,
      length-append (number_bytes (length (map body_record c.args.bodies.now))) (row_bytes body_bytes (map body_record c.args.bodies.now)),
    )
