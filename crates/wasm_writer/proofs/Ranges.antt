-- Bodies as they are given, and where they stand if they are written one after another.
use Rattle.std.proofs.Common.{ℕ, ◌+◌, ◌<◌, List, length, get_or, take, map}
use Rattle.std.specs.Prelude.{Err}
use Rattle.std.specs.declared.ops.Range.{Range}
use Rattle.wasm_forms.specs.declared.error.WireError.{WireError}
use Rattle.wasm_forms.specs.Writing.{EachFits, FitsLength}
use Rattle.wasm_forms.specs.Spelling.{row_bytes}
use Rattle.wasm_forms.proofs.Items.{each_push}
use Rattle.wasm_writer.specs.Measures.{Measures}
use Rattle.wasm_writer.proofs.Lengths.{row_item}
use Rattle.wasm_frames.specs.Record.{body_record}
use Rattle.wasm_frames.specs.Spelling.{body_bytes}
use Rattle.wasm_frames.specs.declared.record.RawBody.{RawBody}
use Rattle.wasm_writer.specs.Spelling.{placed_bodies, range_of}
use Rattle.wasm_forms.proofs.RowTurns.{default_any}

abbrev pub bytes_from : List RawBody → List ℕ
bytes_from raws = row_bytes body_bytes (map body_record raws)

abbrev pub ranges_from : ℕ → List RawBody → List (Range ℕ)
ranges_from place raws = map range_of (placed_bodies place (map body_record raws))

-- ---- their lengths

abbrev pub spelled_body : RawBody → List ℕ
spelled_body b = body_bytes (body_record b)

abbrev pub BodyFits : RawBody → Type 0
BodyFits b = FitsLength b.bytes.now

-- one of the bodies is too long
pub body_over : (xs : List RawBody) (i : ℕ) (d : RawBody) (e : WireError) → i < length xs → Measures (Err e) (spelled_body (get_or xs i d)) (BodyFits (get_or xs i d)) → Measures (Err e) (row_bytes spelled_body xs) (EachFits BodyFits xs)
body_over xs i d e l w = row_item spelled_body BodyFits xs i (get_or xs i d) e l (default_any xs i d (get_or xs i d) l) w

pub body_fits : (xs : List RawBody) (i : ℕ) (d : RawBody) → i < length xs → EachFits BodyFits (take i xs) → BodyFits (get_or xs i d) → EachFits BodyFits (take (i + 1) xs)
body_fits xs i d l h k = each_push BodyFits xs i (get_or xs i d) l (default_any xs i d (get_or xs i d) l) h k
