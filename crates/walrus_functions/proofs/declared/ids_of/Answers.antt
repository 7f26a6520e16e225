use Rattle.std.proofs.Common.{◌≡◌, ◌+◌, ◌<◌, ◌≤◌, ℕ, List, [], ◌∷◌, ◌++◌, length, map, drop, get_or, ap, ◌∙◌, sym, arith, add-one, append_assoc}
use Rattle.std.proofs.lemmas.List.{append-nil, drop_all}
use Rattle.std.proofs.lemmas.Result.{err_from_is_err_and}
use Rattle.std.proofs.Math.Seq.{drop-cons}
use Rattle.walrus_base.specs.Id.{place}
use Rattle.walrus_base.specs.declared.id.Id.{Id}
use Rattle.walrus_base.specs.declared.keys.LocalKey.{LocalKey}
use Rattle.walrus_base.proofs.Turns.{map_snoc}
use Rattle.walrus_functions.proofs.declared.ids_of.Goals as goal

abbrev third : ℕ × ℕ × ℕ → ℕ
third key = key.2

ids_more : (keys : List (ℕ × ℕ × ℕ)) (i : ℕ) (d : ℕ × ℕ × ℕ) (had now : List (Id LocalKey)) (id : Id LocalKey) → i < length keys → map place had ++ map third (drop i keys) ≡ map third keys → place id ≡ third (get_or keys i d) → now ≡ had ++ id ∷ [] → map place now ++ map third (drop (i + 1) keys) ≡ map third keys
ids_more keys i d had now id below so_far this is =
    let left = map third (drop (i + 1) keys) in
    let next : drop i keys ≡ get_or keys i d ∷ drop (i + 1) keys = drop-cons keys i d below ∙ ap (λ (n : ℕ). get_or keys i d ∷ drop n keys) (sym (add-one i)) in
    ap (λ (ks : List (Id LocalKey)). map place ks ++ left) is
    ∙ ap (λ (ps : List ℕ). ps ++ left) (map_snoc place had id)
    ∙ append_assoc (map place had) (place id ∷ []) left
    ∙ ap (λ (p : ℕ). map place had ++ p ∷ left) this
    ∙ ap (λ (ks : List (ℕ × ℕ × ℕ)). map place had ++ map third ks) (sym next)
    ∙ so_far

pub returns-in_err-ids : goal.returns-in_err-ids
returns-in_err-ids c = let p = err_from_is_err_and c.from_residual.result c.from_residual.ensures.1 in rw p.1 tt

pub returns-in_err-push : goal.returns-in_err-push
returns-in_err-push c = let p = err_from_is_err_and c.from_residual-in_err-push.result c.from_residual-in_err-push.ensures.1 in rw p.1 tt

pub loop-local-preserved : goal.loop-local-preserved
loop-local-preserved c = ids_more c.args.keys.now c.loop-local.local-index _ c.loop-local.ids.items c.push.new.self.items c.at.result c.loop-local-test.true c.loop-local.invariant c.at.ensures c.in_ok-push.ensures.items

pub returns : goal.returns
returns c =
    let past : length c.args.keys.now ≤ c.loop-local.local-index = omega arith in
    sym (append-nil (map place c.loop-local.ids.items)) ∙ ap (λ (ks : List (ℕ × ℕ × ℕ)). map place c.loop-local.ids.items ++ map third ks) (sym (drop_all c.loop-local.local-index c.args.keys.now past)) ∙ c.loop-local.invariant
