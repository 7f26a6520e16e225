use Rattle.std.proofs.Common.{◌≡◌, ℕ, zero, suc, ◌-◌, ◌*◌, ◌≤◌, ◌^◌, refl, arith}
use Rattle.std.proofs.Math.Dec.{lit≤}
use Rattle.std.proofs.Math.Nat.{pow-succ'}
use Rattle.wasm_payloads.proofs.front.+front_groups.Goals as goal

-- four groups at most stand behind the first one
four_behind : (m : ℕ) → m ≤ 5 → 128 ^ (m - 1) ≤ 268435456
four_behind zero h = lit≤ tt
four_behind (suc zero) h = lit≤ tt
four_behind (suc (suc zero)) h = lit≤ tt
four_behind (suc (suc (suc zero))) h = lit≤ tt
four_behind (suc (suc (suc (suc zero)))) h = lit≤ tt
four_behind (suc (suc (suc (suc (suc zero))))) h = lit≤ tt
four_behind (suc (suc (suc (suc (suc (suc m)))))) h = absurd (omega arith)

group_more : (m : ℕ) → (m ≡ 0 → ⊥) → 128 ^ m ≡ 128 * 128 ^ (m - 1)
group_more zero h = absurd (h refl)
group_more (suc m) h = let e : suc m - 1 ≡ m = omega arith in rw e (pow-succ' 128 m)

power_positive : (m : ℕ) → 1 ≤ 128 ^ m
power_positive zero = lit≤ tt
power_positive (suc m) = omega (arith, pow-succ' 128 m, power_positive m)

pub overflow_mul-result : goal.overflow_mul-result
overflow_mul-result t c = omega (arith, four_behind c.args.most c.requires, c.in_ok-high-in-len1-up-2.ensures.small)

pub overflow_add-result : goal.overflow_add-result
overflow_add-result t c = omega (arith, four_behind c.args.most c.requires, c.in_ok-high-in-len1-up-2.ensures.small, c.type_inv.bytes 0, c.from-in-len1-up-2.ensures)

pub returns-in-len1-up-clause-small : goal.returns-in-len1-up-clause-small
returns-in-len1-up-clause-small t c = omega (arith, group_more c.args.most c.if-most-eq0.false, power_positive (c.args.most - 1), c.from.ensures, c.if-last-lt128.true)

pub returns-in_ok-high-in-len1-up-2-clause-small : goal.returns-in_ok-high-in-len1-up-2-clause-small
returns-in_ok-high-in-len1-up-2-clause-small t c = omega (arith, group_more c.args.most c.if-most-eq0.false, c.in_ok-high-in-len1-up-2.ensures.small, c.type_inv.bytes 0, c.from-in-len1-up-2.ensures)
