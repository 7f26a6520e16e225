use Rattle.walrus_code.specs.Indices.{index_of}
use Rattle.walrus_contents.specs.View.{data_of}
use Rattle.walrus_items.specs.Data.{data_value}
use Rattle.walrus_writing.proofs.DataRecords.{segment_written}
use Rattle.walrus_writing.proofs.data.raw_segment.Goals as goal

pub returns : goal.returns
returns c = segment_written (index_of c.args.indices.now) (data_of (data_value c.args.segment.now)) (record { mode = c.in_ok-mode.mode; bytes = c.as_slice.result }) c.as_slice.ensures.value c.in_ok-mode.ensures
