use Rattle.std.proofs.Common.{◌≡◌, ◌+◌, ℕ, List, [], ◌∷◌, ◌++◌, true, false, map, take, sym, ap, ◌∙◌, subst, arith}
use Rattle.std.specs.Prelude.{IsSome, Option}
use Rattle.std.proofs.lemmas.List.Elements.{All-get_or, All-head, All-tail}
use Rattle.walrus_base.specs.Arena.{item_at}
use Rattle.walrus_base.specs.Id.{place}
use Rattle.walrus_base.specs.Locals.{locals}
use Rattle.walrus_base.specs.Types.{ValType}
use Rattle.walrus_base.specs.Value.{val_type}
use Rattle.walrus_base.specs.contracts.value.ValTypePartialEq.TheImpl as equality
use Rattle.walrus_base.specs.declared.id.Id.{Id}
use Rattle.walrus_base.specs.declared.keys.LocalKey.{LocalKey}
use Rattle.walrus_base.proofs.FunctionSame.{val_same}
use Rattle.walrus_functions.specs.Declaring.{AreRuns, group_of}
use Rattle.walrus_functions.specs.EmittedBody.{types_of}
use Rattle.walrus_functions.specs.Held.{held_at}
use Rattle.walrus_base.proofs.Turns.{map_snoc}
use Rattle.walrus_functions.proofs.RunLemmas.{held-is, held-more, runs-one, runs-same, runs-next}
use Rattle.walrus_functions.proofs.groups.runs_from.Goals as goal
use Rattle.walrus_functions.proofs.groups.runs_from.Goals.{then-eq, else-eq+in_ok-push}

abbrev There : List (Option (ValType ℕ)) → Id LocalKey → Type 0
There slots id = IsSome (item_at slots (place id))

pub type_of-current-requires : goal.type_of-current-requires
type_of-current-requires c = All-head (There (types_of (locals c.args.module_locals.now))) c.args.first c.args.rest.now c.requires.there

pub type_of-ty-requires : goal.type_of-ty-requires
type_of-ty-requires c =
    let there = There (types_of (locals c.args.module_locals.now)) in
    All-get_or there c.args.rest.now c.loop-id.id-index _ c.loop-id-test.true (All-tail there c.args.first c.args.rest.now c.requires.there)

pub loop-id-init : goal.loop-id-init
loop-id-init c = record {
  so_far = subst (λ gs. AreRuns (held_at (types_of (locals c.args.module_locals.now)) (place c.args.first) ∷ []) (map group_of gs ++ (1, val_type c.type_of-current.result) ∷ [])) (sym c.new-groups.ensures.items)
      (runs-one (val_type c.type_of-current.result) _ (held-is (types_of (locals c.args.module_locals.now)) c.args.first (val_type c.type_of-current.result) c.type_of-current.ensures));
  few = omega arith;
}

pub loop-id-preserved : goal.loop-id-preserved
loop-id-preserved c =
    let slots = types_of (locals c.args.module_locals.now) in
    let first = held_at slots (place c.args.first) in
    let i = c.loop-id.id-index in
    let x = c.type_of-ty.result in
    let current = c.loop-id.current in
    let had = map group_of c.loop-id.groups.items in
    let done = first ∷ map (λ id. held_at slots (place id)) (take i c.args.rest.now) in
    let all = first ∷ map (λ id. held_at slots (place id)) (take (i + 1) c.args.rest.now) in
    let more : all ≡ done ++ val_type x ∷ [] = held-more slots first c.args.rest.now i _ (val_type x) c.loop-id-test.true c.type_of-ty.ensures in
    let test : c.eq.result ≡ (equality.ghosts).eq x current = c.eq.ensures in
    elim c.if-eq.branch [
      | then-eq w ↦ record {
        so_far = subst (λ (gs : List (ℕ × ValType ℕ)). AreRuns all (gs ++ (c.if-eq.count, val_type c.if-eq.current) ∷ [])) (sym (ap (λ g. map group_of g.items) w.groups-is))
            (subst (λ (v : ValType ℕ). AreRuns all (had ++ (c.if-eq.count, v) ∷ [])) (sym (ap val_type w.current-is))
            (runs-same done all had c.loop-id.count c.if-eq.count (val_type current) (val_type x) more ((val_same x current).0 (sym test ∙ w.if-eq.true)) w.count-is c.loop-id.invariant.so_far));
        few = omega (arith, w.count-is, c.loop-id.invariant.few);
      }
      | else-eq+in_ok-push w ↦ record {
        so_far = subst (λ (gs : List (ℕ × ValType ℕ)). AreRuns all (gs ++ (c.if-eq.count, val_type c.if-eq.current) ∷ [])) (sym (ap (λ g. map group_of g.items) w.groups-is ∙ ap (map group_of) w.in_ok-push.ensures.items ∙ map_snoc group_of c.loop-id.groups.items (c.loop-id.count, current)))
            (subst (λ (v : ValType ℕ). AreRuns all ((had ++ (c.loop-id.count, val_type current) ∷ []) ++ (c.if-eq.count, v) ∷ [])) (sym (ap val_type w.current-is))
            (subst (λ (n : ℕ). AreRuns all ((had ++ (c.loop-id.count, val_type current) ∷ []) ++ (n, val_type x) ∷ [])) (sym w.count-is)
            (runs-next done all had c.loop-id.count (val_type current) (val_type x) more (λ same. let wrong : false ≡ true = sym w.if-eq.false ∙ test ∙ (val_same x current).1 (sym same) in absurd cc) c.loop-id.invariant.so_far)));
        few = omega (arith, w.count-is);
      }
    ]
