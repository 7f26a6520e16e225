use Rattle.std.proofs.Common.{length, map, subst, sym, arith, ap}
use Rattle.std.specs.Prelude.{nat_eq}
use Rattle.std.specs.List.{IsDistinct}
use Rattle.std.proofs.lemmas.List.{length-map}
use Rattle.walrus_base.specs.Id.{place}
use Rattle.walrus_base.specs.Operators.{Types, Functions, Tables, Memories, Tags, Globals, Elements, DataSegments}
use Rattle.walrus_plan.proofs.plan.Plan.indices.Goals as goal

pub along-requires : goal.along-requires
along-requires c = record {
  distinct = subst (λ ids. IsDistinct nat_eq (map place ids)) (sym c.as_slice.ensures.value) (c.requires.distinct Types);
  room = omega (arith, c.in_ok-check_counts.ensures.few Types, length-map c.args.self.now.types.items place, ap length c.as_slice.ensures.value);
}

pub numbered_functions-requires : goal.numbered_functions-requires
numbered_functions-requires c = record { distinct = c.requires.distinct Functions; few = c.in_ok-check_counts.ensures.few Functions }

pub along-requires-2 : goal.along-requires-2
along-requires-2 c = record {
  distinct = subst (λ ids. IsDistinct nat_eq (map place ids)) (sym c.as_slice-2.ensures.value) (c.requires.distinct Tables);
  room = omega (arith, c.in_ok-check_counts.ensures.few Tables, length-map c.args.self.now.tables.items place, ap length c.as_slice-2.ensures.value);
}

pub along-requires-3 : goal.along-requires-3
along-requires-3 c = record {
  distinct = subst (λ ids. IsDistinct nat_eq (map place ids)) (sym c.as_slice-3.ensures.value) (c.requires.distinct Memories);
  room = omega (arith, c.in_ok-check_counts.ensures.few Memories, length-map c.args.self.now.memories.items place, ap length c.as_slice-3.ensures.value);
}

pub along-requires-4 : goal.along-requires-4
along-requires-4 c = record {
  distinct = subst (λ ids. IsDistinct nat_eq (map place ids)) (sym c.as_slice-4.ensures.value) (c.requires.distinct Tags);
  room = omega (arith, c.in_ok-check_counts.ensures.few Tags, length-map c.args.self.now.tags.items place, ap length c.as_slice-4.ensures.value);
}

pub along-requires-5 : goal.along-requires-5
along-requires-5 c = record {
  distinct = subst (λ ids. IsDistinct nat_eq (map place ids)) (sym c.as_slice-5.ensures.value) (c.requires.distinct Globals);
  room = omega (arith, c.in_ok-check_counts.ensures.few Globals, length-map c.args.self.now.globals.items place, ap length c.as_slice-5.ensures.value);
}

pub along-requires-6 : goal.along-requires-6
along-requires-6 c = record {
  distinct = subst (λ ids. IsDistinct nat_eq (map place ids)) (sym c.as_slice-6.ensures.value) (c.requires.distinct Elements);
  room = omega (arith, c.in_ok-check_counts.ensures.few Elements, length-map c.args.self.now.elements.items place, ap length c.as_slice-6.ensures.value);
}

pub along-requires-7 : goal.along-requires-7
along-requires-7 c = record {
  distinct = subst (λ ids. IsDistinct nat_eq (map place ids)) (sym c.as_slice-7.ensures.value) (c.requires.distinct DataSegments);
  room = omega (arith, c.in_ok-check_counts.ensures.few DataSegments, length-map c.args.self.now.data_.items place, ap length c.as_slice-7.ensures.value);
}
