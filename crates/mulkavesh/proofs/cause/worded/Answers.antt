use Rattle.std.proofs.Common.{rules}
use Rattle.std.specs.Prelude.{string_bytes}
use Rattle.mulkavesh.proofs.cause.worded.Goals as goal

pub returns : goal.returns
returns c = (string_bytes c.in_ok-words.words, c.in_ok-words.ensures, search rules)
