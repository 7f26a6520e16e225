-- A loop over fields.
use Rattle.std.proofs.Common.{◌≡◌, ℕ, suc, ◌+◌, ◌-◌, ◌<◌, ◌≤◌, List, [], ◌∷◌, ◌++◌, sym, ap, ◌∙◌, append_assoc, append-nil, arith}
use Rattle.std.specs.Prelude.{None}
use Rattle.wasm_payloads.specs.Steps.{Told, onward, times_at, one}

fields_next : {A : Type 0} (t : List ℕ → Told A) (n m : ℕ) (bytes : List ℕ) → n ≡ suc m → times_at t n bytes ≡ onward (t bytes).0 (t bytes).1 (times_at t m)
unfolding times_at
fields_next t n m bytes e = ap (λ k. times_at t k bytes) e

fields_none : {A : Type 0} (t : List ℕ → Told A) (n : ℕ) (bytes : List ℕ) → n ≡ 0 → (times_at t n bytes).0 ≡ []
unfolding times_at
fields_none t n bytes e = ap (λ k. (times_at t k bytes).0) e

pub fields_begun : {A : Type 0} (t : List ℕ → Told A) (count : ℕ) (start : List ℕ) (done : List A) → done ≡ [] → (times_at t count start).0 ≡ done ++ (times_at t (count - 0) start).0
fields_begun t count start done d = let e : count ≡ count - 0 = omega arith in ap (λ k. (times_at t k start).0) e ∙ ap (λ l. l ++ (times_at t (count - 0) start).0) (sym d)

pub fields_step : {A : Type 0} (t : List ℕ → Told A) (count taken : ℕ) (rest next : List ℕ) (whole done : List A) (x : A) → taken < count → whole ≡ done ++ (times_at t (count - taken) rest).0 → t rest ≡ one x next
    → whole ≡ (done ++ x ∷ []) ++ (times_at t (count - (taken + 1)) next).0
fields_step t count taken rest next whole done x l w e =
    let k : count - taken ≡ suc (count - (taken + 1)) = omega arith in
    let p = fields_next t (count - taken) (count - (taken + 1)) rest k ∙ ap (λ y. onward y.0 y.1 (times_at t (count - (taken + 1)))) e in
    w ∙ ap (λ y. done ++ y.0) p ∙ sym (append_assoc done (x ∷ []) (times_at t (count - (taken + 1)) next).0)

pub fields_fault : {A : Type 0} (t : List ℕ → Told A) (count taken : ℕ) (rest : List ℕ) (whole done : List A) → taken < count → whole ≡ done ++ (times_at t (count - taken) rest).0 → t rest ≡ ([], None) → whole ≡ done
fields_fault t count taken rest whole done l w e =
    let k : count - taken ≡ suc (count - (taken + 1)) = omega arith in
    let p = fields_next t (count - taken) (count - (taken + 1)) rest k ∙ ap (λ y. onward y.0 y.1 (times_at t (count - (taken + 1)))) e in
    w ∙ ap (λ y. done ++ y.0) p ∙ append-nil done

pub fields_done : {A : Type 0} (t : List ℕ → Told A) (count taken : ℕ) (rest : List ℕ) (whole done : List A) → count ≤ taken → whole ≡ done ++ (times_at t (count - taken) rest).0 → whole ≡ done
fields_done t count taken rest whole done l w = let k : count - taken ≡ 0 = omega arith in w ∙ ap (λ y. done ++ y) (fields_none t (count - taken) rest k) ∙ append-nil done
