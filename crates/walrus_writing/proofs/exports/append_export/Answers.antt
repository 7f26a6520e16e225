use Rattle.std.proofs.Common.{rules}
use Rattle.walrus_writing.proofs.exports.append_export.Goals as goal

pub returns-in-Some-checked_add : goal.returns-in-Some-checked_add
returns-in-Some-checked_add c = record {
  one = c.in-Some.one;
  said = (c.in-Some.ensures.value, c.in-Some.ensures.text);
  appends = c.in_ok-write.ensures.adds.0;
  fits = c.in_ok-write.ensures.adds.1;
  counted = search rules;
}
