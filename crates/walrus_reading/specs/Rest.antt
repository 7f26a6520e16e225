-- What stays of the records of a module's sections while those that are read are let go.
use Rattle.std.specs.Prelude.{◌≡◌}
use Rattle.wasm_frames.specs.declared.record.Raw.{Raw}

-- the records that are read behind the functions are the same
pub record RestStays (old new : Raw) : Type 0 where
  pub tables : new.tables ≡ old.tables
  pub memories : new.memories ≡ old.memories
  pub globals : new.globals ≡ old.globals
  pub exports : new.exports ≡ old.exports
  pub start : new.start ≡ old.start
  pub elements : new.elements ≡ old.elements
  pub segments : new.data_ ≡ old.data_
  pub customs : new.customs ≡ old.customs
