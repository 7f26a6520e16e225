-- Where the locals of each function begin, as functions are read.
use Rattle.std.proofs.Common.{◌≡◌, ℕ, zero, suc, ◌+◌, ◌<◌, Bool, List, [], ◌∷◌, ◌++◌, length, flat_map, refl, sym, ap, ◌∙◌, arith, append_assoc, length-append}
use Rattle.std.specs.Prelude.{Option, Some, None, nat_lt, replicate, if◌then◌else◌}
use Rattle.std.proofs.lemmas.Bool.{lt-ltb}
use Rattle.walrus_base.specs.Types.{ValType}
use Rattle.walrus_base.specs.TypeDef.{TypeDef}
use Rattle.walrus_model.specs.Sections.{Said}
use Rattle.walrus_reading.specs.TakenNames.{place_of, starts_from}
use Rattle.walrus_reading.specs.Taken.{local_counts, locals_said, starts_of}

module _ (types : ℕ → Option TypeDef) where
  abbrev row : List (ℕ × Said) → List (ValType ℕ)
  row ps = flat_map (locals_said types) ps

  starts_push : (p : ℕ) (said : List (ℕ × Said)) (x : ℕ × Said) (end : ℕ) → p + length (row (said ++ x ∷ [])) ≡ end → starts_from p (local_counts types (said ++ x ∷ [])) ≡ starts_from p (local_counts types said) ++ end ∷ []
  starts_push p [] x end e =
      let at : p + length (locals_said types x) ≡ end = omega (arith, e, length-append (locals_said types x) []) in
      ap (λ (n : ℕ). p ∷ n ∷ []) at
  starts_push p (s ∷ said) x end e =
      let long = length-append (locals_said types s) (row (said ++ x ∷ [])) in
      ap (λ (l : List ℕ). p ∷ l) (starts_push (p + length (locals_said types s)) said x end (omega (arith, e, long)))

  -- one more function, whose locals stand up to that end
  pub one_more_start : (brought : ℕ) (said : List (ℕ × Said)) (x : ℕ × Said) (end : ℕ) → length (row (said ++ x ∷ [])) ≡ end → starts_of types brought (said ++ x ∷ []) ≡ starts_of types brought said ++ end ∷ []
  one_more_start brought said x end e =
      ap (λ (l : List ℕ). replicate brought 0 ++ l) (starts_push 0 said x end (omega (arith, e)))
      ∙ sym (append_assoc (replicate brought 0) (starts_from 0 (local_counts types said)) (end ∷ []))

-- functions that imports bring have no locals
pub joined : (brought : ℕ) (counts : List ℕ) → replicate brought 0 ++ starts_from 0 counts ≡ starts_from 0 (replicate brought 0 ++ counts)
joined zero counts = refl
joined (suc brought) counts = ap (λ (l : List ℕ). 0 ∷ l) (joined brought counts)

-- local x of the function at the front stands there
pub place_first : (first count : ℕ) (counts : List ℕ) (x : ℕ) → x < count → place_of (starts_from first (count ∷ counts)) 0 x ≡ Some (first + x)
place_first first count counts x lt = by counts where
  within : (if nat_lt (first + x) (first + count) then Some (first + x) else None) ≡ Some (first + x)
  within = ap (λ (t : Bool). if t then Some (first + x) else None) (lt-ltb (first + x) (first + count) (omega (arith, lt)))

  by : (counts : List ℕ) → place_of (starts_from first (count ∷ counts)) 0 x ≡ Some (first + x)
  by [] = within
  by (n ∷ counts) = within

-- behind functions that imports bring
place_behind : (brought m j x : ℕ) (starts : List ℕ) → m ≡ brought + j → place_of (replicate brought 0 ++ starts) m x ≡ place_of starts j x
place_behind zero m j x starts e = let same : m ≡ j = omega (arith, e) in ap (λ (k : ℕ). place_of starts k x) same
place_behind (suc brought) zero j x starts e = absurd (omega (arith, e))
place_behind (suc brought) (suc m) j x starts e = place_behind brought m j x starts (omega (arith, e))

pub place_own : (types : ℕ → Option TypeDef) (brought : ℕ) (said : List (ℕ × Said)) (j x : ℕ) → place_of (starts_of types brought said) (brought + j) x ≡ place_of (starts_from 0 (local_counts types said)) j x
place_own types brought said j x = place_behind brought (brought + j) j x (starts_from 0 (local_counts types said)) refl
