use Rattle.std.proofs.Common.{◌≡◌, ◌+◌, ◌-◌, ℕ, List, [], ◌∷◌, ◌++◌, true, false, map, sym, ap, ◌∙◌, subst, arith}
use Rattle.std.specs.Prelude.{IsSome}
use Rattle.std.specs.List.{range_with_len}
use Rattle.walrus_base.specs.Arena.{item_at}
use Rattle.walrus_base.specs.Locals.{locals}
use Rattle.walrus_base.specs.Types.{ValType}
use Rattle.walrus_base.specs.Value.{val_type}
use Rattle.walrus_base.specs.contracts.value.ValTypePartialEq.TheImpl as equality
use Rattle.walrus_base.proofs.FunctionSame.{val_same}
use Rattle.walrus_functions.specs.Declaring.{AreRuns, group_of}
use Rattle.walrus_functions.specs.EmittedBody.{types_of}
use Rattle.walrus_functions.specs.Held.{held_at}
use Rattle.walrus_base.proofs.Turns.{map_snoc}
use Rattle.walrus_functions.proofs.InPlaceLemmas.{held_next, held_one, held_there, runs_none}
use Rattle.walrus_functions.proofs.RunLemmas.{runs-one, runs-same, runs-next}
use Rattle.walrus_functions.proofs.groups.runs_between.Goals as goal
use Rattle.walrus_functions.proofs.groups.runs_between.Goals.{then-eq, else-eq+in_ok-push}

pub returns-then-first-end : goal.returns-then-first-end
returns-then-first-end c = runs_none (types_of (locals c.args.module_locals.now)) c.args.first (c.args.end - c.args.first) c.new-groups.result.items (omega (arith, c.if-first-end.true)) c.new-groups.ensures.items

pub type_of-last-requires : goal.type_of-last-requires
type_of-last-requires c = subst (λ (x : ℕ). IsSome (item_at (types_of (locals c.args.module_locals.now)) x)) (sym c.at.ensures) (c.requires.there c.args.first (omega arith) (omega (arith, c.if-first-end.false)))

pub type_of-next-requires : goal.type_of-next-requires
type_of-next-requires c =
    let behind = c.places.invariant.behind in
    subst (λ (x : ℕ). IsSome (item_at (types_of (locals c.args.module_locals.now)) x)) (sym c.at-in-places.ensures) (c.requires.there c.places.place (omega (arith, behind)) (omega (arith, c.places-test.true)))

pub places-init : goal.places-init
places-init c =
    let slots = types_of (locals c.args.module_locals.now) in
    let first = c.args.first in
    let v = val_type c.type_of-last.result in
    let one : (first + 1) - first ≡ 1 = omega arith in
    record {
      so_far = subst (λ (gs : List (ℕ × ValType ℕ)). AreRuns (map (held_at slots) (range_with_len first ((first + 1) - first))) (gs ++ (1, v) ∷ [])) (sym (ap (map group_of) c.new-groups.ensures.items))
          (subst (λ (vs : List (ValType ℕ)). AreRuns vs ((1, v) ∷ [])) (held_one slots first ((first + 1) - first) one)
          (runs-one v (held_at slots first) (held_there slots first first v (c.type_of-last.ensures ∙ ap (item_at slots) c.at.ensures))));
      few = omega (arith, one);
      behind = omega arith;
      within = omega (arith, c.if-first-end.false);
    }

pub places-preserved : goal.places-preserved
places-preserved c =
    let slots = types_of (locals c.args.module_locals.now) in
    let first = c.args.first in
    let at = c.places.place in
    let behind = c.places.invariant.behind in
    let fewer = c.places.invariant.few in
    let x = c.type_of-next.result in
    let last = c.places.last in
    let had = map group_of c.places.groups.items in
    let done = map (held_at slots) (range_with_len first (at - first)) in
    let all = map (held_at slots) (range_with_len first ((at + 1) - first)) in
    let next : (at + 1) - first ≡ (at - first) + 1 = omega (arith, behind) in
    let here : first + (at - first) ≡ at = omega (arith, behind) in
    let more : all ≡ done ++ val_type x ∷ [] = held_next slots first (at - first) ((at + 1) - first) at (val_type x) next here (c.type_of-next.ensures ∙ ap (item_at slots) c.at-in-places.ensures) in
    let test : c.eq.result ≡ (equality.ghosts).eq x last = c.eq.ensures in
    elim c.if-eq.branch [
      | then-eq w ↦ record {
        so_far = subst (λ (gs : List (ℕ × ValType ℕ)). AreRuns all (gs ++ (c.if-eq.times, val_type c.if-eq.last) ∷ [])) (sym (ap (λ g. map group_of g.items) w.groups-is))
            (subst (λ (v : ValType ℕ). AreRuns all (had ++ (c.if-eq.times, v) ∷ [])) (sym (ap val_type w.last-is))
            (runs-same done all had c.places.times c.if-eq.times (val_type last) (val_type x) more ((val_same x last).0 (sym test ∙ w.if-eq.true)) w.times-is c.places.invariant.so_far));
        few = omega (arith, w.times-is, fewer, next);
        behind = omega (arith, behind);
        within = omega (arith, c.places-test.true);
      }
      | else-eq+in_ok-push w ↦ record {
        so_far = subst (λ (gs : List (ℕ × ValType ℕ)). AreRuns all (gs ++ (c.if-eq.times, val_type c.if-eq.last) ∷ [])) (sym (ap (λ g. map group_of g.items) w.groups-is ∙ ap (map group_of) w.in_ok-push.ensures.items ∙ map_snoc group_of c.places.groups.items (c.places.times, last)))
            (subst (λ (v : ValType ℕ). AreRuns all ((had ++ (c.places.times, val_type last) ∷ []) ++ (c.if-eq.times, v) ∷ [])) (sym (ap val_type w.last-is))
            (subst (λ (n : ℕ). AreRuns all ((had ++ (c.places.times, val_type last) ∷ []) ++ (n, val_type x) ∷ [])) (sym w.times-is)
            (runs-next done all had c.places.times (val_type last) (val_type x) more (λ same. let wrong : false ≡ true = sym w.if-eq.false ∙ test ∙ (val_same x last).1 (sym same) in absurd cc) c.places.invariant.so_far)));
        few = omega (arith, w.times-is, next);
        behind = omega (arith, behind);
        within = omega (arith, c.places-test.true);
      }
    ]

pub returns : goal.returns
returns c =
    let slots = types_of (locals c.args.module_locals.now) in
    let first = c.args.first in
    let within = c.places.invariant.within in
    let all : c.places.place - first ≡ c.args.end - first = omega (arith, within, c.places-test.false) in
    subst (λ (n : ℕ). AreRuns (map (held_at slots) (range_with_len first n)) (map group_of c.push-2.new.self.items)) all
    (subst (λ (gs : List (ℕ × ValType ℕ)). AreRuns (map (held_at slots) (range_with_len first (c.places.place - first))) gs) (sym (ap (map group_of) c.in_ok-push-2.ensures.items ∙ map_snoc group_of c.places.groups.items (c.places.times, c.places.last))) c.places.invariant.so_far)
