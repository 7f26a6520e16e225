use Rattle.std.proofs.Common.{rules}
use Rattle.walrus_writing.proofs.globals.append_global.Goals as goal

pub returns-in-Some : goal.returns-in-Some
returns-in-Some c = record {
  one = c.in_ok-raw.raw;
  said = c.in_ok-raw.ensures;
  appends = c.in_ok-write.ensures.adds.0;
  fits = tt;
  counted = search rules;
}
