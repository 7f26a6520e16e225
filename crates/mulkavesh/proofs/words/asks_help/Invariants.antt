use Rattle.std.proofs.Common.{◌≡◌, drop, map, string_bytes}
use Rattle.mulkavesh.specs.declared.words.Seen.TheVariants as seen
use Rattle.mulkavesh.specs.Steps.{looks}
use Rattle.mulkavesh.proofs.words.asks_help.Given as goal

-- what is seen of the arguments that are left is what is seen of all
abbrev pub invariant-words : goal.invariant-words
invariant-words l = looks l.seen (map string_bytes (drop l.word-index l.words)) ≡ looks seen.Nothing (map string_bytes l.fn.words)
