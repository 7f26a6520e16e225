-- The line that a refusal is told in.
use Rattle.std.specs.Prelude.{ℕ, ◌+◌, ◌-◌, ◌^◌, min, List, ◌++◌, Option, ◌≡◌, codes}
use Rattle.std.specs.Io.KnownBytes.{Appends, Keeps}
use Rattle.walrus.specs.Device.{WroteFront}

-- the program's name, the text, and a line end
abbrev pub line : List ℕ → List ℕ
line text = codes "walrus-gc: " ++ text ++ codes "\n"

-- a stream before a call and behind it
pub record Stream : Type 0 where
  -- its bytes, where they are known: those left in a source, or held by a sink
  pub old : Option (List ℕ)
  pub new : Option (List ℕ)
  -- how many of its calls had failed
  pub failures_old : ℕ
  pub failures_new : ℕ

-- what a device's state says of its bytes and its failures, before a call and behind it
abbrev pub stream_of : {A : Type 0} → (bytes : A → Option (List ℕ)) → (failures : A → ℕ) → (before behind : A) → Stream
stream_of bytes failures before behind = record {
  old = bytes before;
  new = bytes behind;
  failures_old = failures before;
  failures_new = failures behind;
}

-- nothing was read or written, and no call failed
abbrev pub IsUntouched : Stream → Type 0
IsUntouched s = Keeps s.old s.new × (s.failures_new ≡ s.failures_old)

-- the bytes were appended; or the device failed, which it counted, up to 2 ^ 64 - 1, and a beginning of them was appended
pub data Tells (errors : Stream) (text : List ℕ) : Type 0 where
  told : Appends errors.old errors.new text → errors.failures_new ≡ errors.failures_old → Tells errors text
  failed : WroteFront errors.old errors.new text → errors.failures_new ≡ min (errors.failures_old + 1) (2 ^ 64 - 1) → Tells errors text
