use Rattle.std.proofs.Common.{rules}
use Rattle.walrus_writing.proofs.imports.append_import.Goals as goal

pub returns-in-Some : goal.returns-in-Some
returns-in-Some c = record {
  one = c.in_ok-one.one;
  said = c.in_ok-one.ensures;
  appends = c.in_ok-write.ensures.adds.0;
  fits = c.in_ok-write.ensures.adds.1;
  counted = search rules;
}
