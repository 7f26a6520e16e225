-- Which numbers a range has.
use Rattle.std.proofs.Common.{◌≡◌, ℕ, zero, suc, ◌+◌, ◌<◌, ◌≤◌, ◌∷◌, subst, arith, ⊎_elim}
use Rattle.std.specs.List.{range_with_len}
use Rattle.std.specs.Prelude.{Contains}
use Rattle.walrus_base.proofs.Lists.{Contains-head, Contains-tail, Contains-uncons, Contains-none}
use Rattle.walrus_base.proofs.Agree.{compared}

pub range_has : (lo count t : ℕ) → lo ≤ t → t < lo + count → Contains (range_with_len lo count) t
range_has lo zero t le lt = absurd (omega arith)
range_has lo (suc count) t le lt = ⊎_elim
    (λ before. Contains-tail lo t (range_with_len (lo + 1) count) (range_has (lo + 1) count t (let b : lo < t = before in omega arith) (let l : t < lo + suc count = lt in omega arith)))
    (λ rest. ⊎_elim
    (λ e. subst (λ z. Contains (lo ∷ range_with_len (lo + 1) count) z) e (Contains-head lo (range_with_len (lo + 1) count)))
    (λ behind. let b : t < lo = behind in let l : lo ≤ t = le in absurd (omega arith))
    rest)
    (compared lo t)

pub range_in : (lo count t : ℕ) → Contains (range_with_len lo count) t → (lo ≤ t) × (t < lo + count)
range_in lo zero t at = absurd (Contains-none t at)
range_in lo (suc count) t at = ⊎_elim
    (λ e. ((let q : lo ≡ t = e in omega arith), (let q : lo ≡ t = e in omega arith)))
    (λ rest. let h = range_in (lo + 1) count t rest in ((let a : lo + 1 ≤ t = h.0 in omega arith), (let b : t < lo + 1 + count = h.1 in omega arith)))
    (Contains-uncons lo t (range_with_len (lo + 1) count) at)
