use Rattle.std.proofs.Common.{arith}
use Rattle.std.proofs.lemmas.List.{length-map}
use Rattle.walrus_base.specs.Id.{place}
use Rattle.walrus_base.specs.Operators.{Types, Functions, Tables, Memories, Tags, Globals, Elements, DataSegments}
use Rattle.walrus_plan.proofs.plan.check_counts.Goals as goal
use Rattle.walrus_plan.proofs.plan.check_counts.Goals.{then-len-most-via-then-len-most, then-len-most-via-else-len-most+then-has_too_many_functions, then-len-most-via-else-len-most+else-has_too_many_functions+then-len-most-2, then-len-most-via-else-len-most+else-has_too_many_functions+else-len-most-2+then-len-most-3, then-len-most-via-else-len-most+else-has_too_many_functions+else-len-most-2+else-len-most-3+then-len-most-4, then-len-most-via-else-len-most+else-has_too_many_functions+else-len-most-2+else-len-most-3+else-len-most-4+then-len-most-5, then-len-most-via-else-len-most+else-has_too_many_functions+else-len-most-2+else-len-most-3+else-len-most-4+else-len-most-5+then-len-most-6, then-len-most-via-else-len-most+else-has_too_many_functions+else-len-most-2+else-len-most-3+else-len-most-4+else-len-most-5+else-len-most-6+then-len-most-7}

pub returns-then-len-most-clause-fails : goal.returns-then-len-most-clause-fails
returns-then-len-most-clause-fails c =
    let p = c.args.plan.now in
    elim c.then-len-most.branch [
      | then-len-most-via-then-len-most w ↦ (Types, omega (arith, w.if-len-most.true, c.len.ensures, length-map p.types.items place))
      | then-len-most-via-else-len-most+then-has_too_many_functions w ↦ (Functions, w.has_too_many_functions.ensures.0 w.if-has_too_many_functions.true)
      | then-len-most-via-else-len-most+else-has_too_many_functions+then-len-most-2 w ↦ (Tables, omega (arith, w.if-len-most-2.true, w.len-else-has_too_many_functions.ensures, length-map p.tables.items place))
      | then-len-most-via-else-len-most+else-has_too_many_functions+else-len-most-2+then-len-most-3 w ↦ (Memories, omega (arith, w.if-len-most-3.true, w.len-else-len-most-2.ensures, length-map p.memories.items place))
      | then-len-most-via-else-len-most+else-has_too_many_functions+else-len-most-2+else-len-most-3+then-len-most-4 w ↦ (Tags, omega (arith, w.if-len-most-4.true, w.len-else-len-most-3.ensures, length-map p.tags.items place))
      | then-len-most-via-else-len-most+else-has_too_many_functions+else-len-most-2+else-len-most-3+else-len-most-4+then-len-most-5 w ↦ (Globals, omega (arith, w.if-len-most-5.true, w.len-else-len-most-4.ensures, length-map p.globals.items place))
      | then-len-most-via-else-len-most+else-has_too_many_functions+else-len-most-2+else-len-most-3+else-len-most-4+else-len-most-5+then-len-most-6 w ↦ (Elements, omega (arith, w.if-len-most-6.true, w.len-else-len-most-5.ensures, length-map p.elements.items place))
      | then-len-most-via-else-len-most+else-has_too_many_functions+else-len-most-2+else-len-most-3+else-len-most-4+else-len-most-5+else-len-most-6+then-len-most-7 w ↦ (DataSegments, omega (arith, w.if-len-most-7.true, w.len-else-len-most-6.ensures, length-map p.data_.items place))
    ]
