-- One argument is put, and then the others.
use Rattle.std.proofs.Common.{◌≡◌, List, ◌∷◌, Result, Ok, Err, refl, sym, ap, ◌∙◌, subst, inl, inr}
use Rattle.std.specs.Prelude.{String}
use Rattle.std.specs.declared.alloc.Global.{Global}
use Rattle.mulkavesh.specs.declared.mistakes.Wrong.{Wrong}
use Rattle.mulkavesh.specs.declared.mistakes.Wrong.TheVariants.{OutOfMemory}
use Rattle.mulkavesh.specs.declared.order.Order.{Order}
use Rattle.mulkavesh.specs.declared.words.Place.{Place}
use Rattle.mulkavesh.specs.Order.{Said, said}
use Rattle.mulkavesh.specs.Steps.{ArePut, IsPutOrMemory, Put, put_word, put_words, then_put}

module _ (o : Said) (a : Place) (w : String Global) (ws words : List (String Global)) (all : Put) (steps : words ≡ w ∷ ws) (are : put_words o a words ≡ all) (n : Order) where
  -- all is what the others come to behind this
  goes : (r : Put) → put_word o a w ≡ r → then_put (λ (m : Said) (q : Place). put_words m q ws) r ≡ all
  goes r is = ap (λ (s : Put). then_put (λ (m : Said) (q : Place). put_words m q ws) s) (sym is) ∙ ap (put_words o a) (sym steps) ∙ are

  -- where it is refused, all are
  pub put_refused : (result : Result Place Wrong) (e : Wrong) → IsPutOrMemory (put_word o a w) n result → result ≡ Err e → ArePut all (Err e)
  put_refused result e put was = by _ refl (subst (λ (x : Result Place Wrong). IsPutOrMemory (put_word o a w) n x) was put)
    where
      same_wrong : (m : Wrong) → ◌≡◌ {A = Result Place Wrong} (Err e) (Err m) → e ≡ m
      same_wrong m same = cc

      by : (r : Put) → put_word o a w ≡ r → IsPutOrMemory r n (Err e) → ArePut all (Err e)
      by (Err m) is (inl same) = inl (sym (goes (Err m) is) ∙ ap (λ (x : Wrong). Err x) (sym (same_wrong m same)))
      by (Ok s) is (inl same) = absurd (let no_such : ◌≡◌ {A = Result Place Wrong} (Err e) (Ok s.1) = same.1 in cc)
      by r is (inr memory) = inr (ap (λ (x : Wrong). Err x) (same_wrong OutOfMemory memory))

  -- where it is put, all are what the others come to from there
  pub put_goes : (result : Result Place Wrong) (q : Place) → IsPutOrMemory (put_word o a w) n result → result ≡ Ok q → put_words (said n) q ws ≡ all
  put_goes result q put was = by _ refl (subst (λ (x : Result Place Wrong). IsPutOrMemory (put_word o a w) n x) was put)
    where
      same_place : (p : Place) → ◌≡◌ {A = Result Place Wrong} (Ok q) (Ok p) → q ≡ p
      same_place p same = cc

      by : (r : Put) → put_word o a w ≡ r → IsPutOrMemory r n (Ok q) → put_words (said n) q ws ≡ all
      by (Err m) is (inl same) = absurd (cc)
      by (Ok s) is (inl same) = ap (λ (m : Said). put_words m q ws) same.0 ∙ ap (λ (p : Place). put_words s.0 p ws) (same_place s.1 same.1) ∙ goes (Ok s) is
      by r is (inr memory) = absurd (cc)
