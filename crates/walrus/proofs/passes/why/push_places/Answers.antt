use Rattle.std.proofs.Common.{◌≡◌, ℕ, zero, suc, ◌+◌, ◌-◌, List, [], ◌∷◌, ◌++◌, replicate, refl, sym, ap, ◌∙◌, append_assoc, arith}
use Rattle.walrus.proofs.passes.why.push_places.Goals as goal

replicate_more : (n m x : ℕ) → m ≡ suc n → replicate n x ++ x ∷ [] ≡ replicate m x
replicate_more zero m x is = ap (λ (k : ℕ). replicate k x) (sym is)
replicate_more (suc n) m x is = ap (λ (xs : List ℕ). x ∷ xs) (replicate_more n (suc n) x refl) ∙ ap (λ (k : ℕ). replicate k x) (sym is)

pub loop-member-preserved : goal.loop-member-preserved
loop-member-preserved c =
    let x = c.args.own in
    let first = c.push.new.self.items in
    let n : ℕ = c.loop-member._member - (x + 1) in
    c.in_ok-push-2.ensures.items
    ∙ ap (λ (xs : List ℕ). xs ++ x ∷ []) c.loop-member.invariant
    ∙ append_assoc first (replicate n x) (x ∷ [])
    ∙ ap (λ (xs : List ℕ). first ++ xs) (replicate_more n (c.loop-member._member + 1 - (x + 1)) x (omega arith))

pub returns : goal.returns
returns c =
    let x = c.args.own in
    let old = c.args.places.now.items in
    let n : ℕ = c.loop-member._member - (x + 1) in
    let same : n ≡ c.args.many - (x + 1) = omega (arith, c.requires) in
    c.loop-member.invariant
    ∙ ap (λ (xs : List ℕ). xs ++ replicate n x) c.in_ok-push.ensures.items
    ∙ append_assoc old (c.args.namer ∷ []) (replicate n x)
    ∙ ap (λ (k : ℕ). old ++ c.args.namer ∷ replicate k x) same
