-- Bytes with marks written anew, mark by mark.
use Rattle.std.proofs.Common.{◌≡◌, ℕ, suc, ◌+◌, ◌-◌, ◌<◌, ◌≤◌, List, [], ◌∷◌, ◌++◌, length, drop, drop-cons, get_or, Some, refl, sym, ap, subst, ◌∙◌, arith, append_assoc, inl, inr}
use Rattle.std.proofs.lemmas.List.{append-nil, length-drop, length-append, take-append-drop}
use Rattle.std.proofs.Math.Seq.{drop-length, take-length}
use Rattle.wasm_forms.specs.Grammar.{Form, at}
use Rattle.wasm_forms.specs.Writing.{EachFits, Keeps}
use Rattle.wasm_forms.proofs.Exact.{exact}
use Rattle.wasm_forms.proofs.Keeping.{keeps_behind}
use Rattle.wasm_operators.specs.declared.operator.RawArg.{RawArg}
use Rattle.wasm_operators.specs.Spelling.{arg_bytes}
use Rattle.wasm_text.specs.Places.{between}
use Rattle.wasm_text.specs.Marks.{place_of, found, spelled, end_of, fill, AreInOrder, HasArgument, argument, args_at}
use Rattle.wasm_text.specs.Filling.{Numbering, or_same, anew, HasNumber, SomeLacks, Lacks, Puts, Steps}
use Rattle.wasm_text.specs.declared.places.TheConstants.{NO_PLACE}
use Rattle.wasm_text.proofs.Between.{cut}
use Rattle.wasm_text.proofs.Filling.{found_is, fill_run}

-- what is read leaves no more than was there
pub rest_within : {A : Type 0} (form : Form A) (bytes : List ℕ) (value : A) (rest : List ℕ) → at form bytes ≡ Some (value, rest) → length rest ≤ length bytes
rest_within form bytes value rest e =
    let t = (exact form).takes bytes (value, rest) e in
    omega (arith, ap length t.1.0, length-append t.0 rest)

-- ---- the loop

-- so far done: what is appended and what is still to be filled make the whole
pub record Going (number : Numbering) (bytes marks left : List ℕ) (run : ℕ) (old to : List ℕ) : Type 0 where
  pub ordered : AreInOrder bytes run left
  pub same : to ++ fill (anew number) bytes run left ≡ old ++ fill (anew number) bytes 0 marks
  pub all : EachFits (HasNumber number) (args_at bytes left) → EachFits (HasNumber number) (args_at bytes marks)
  pub some : SomeLacks number (args_at bytes left) → SomeLacks number (args_at bytes marks)
  pub keeps : Keeps old to

pub going_first : (number : Numbering) (bytes marks old : List ℕ) → AreInOrder bytes 0 marks → Going number bytes marks marks 0 old old
going_first number bytes marks old h = record { ordered = h; same = refl; all = λ x. x; some = λ x. x; keeps = take-length old }

pub order_from : (bytes : List ℕ) (from start : ℕ) (marks : List ℕ) → from ≤ start → AreInOrder bytes start marks → AreInOrder bytes from marks
order_from bytes from start [] l h = omega (arith, l, h)
order_from bytes from start (mark ∷ marks) l (h, rest) = (omega (arith, l, h), rest)

-- an argument stands at a mark that is next
pub next_stands : (bytes : List ℕ) (run mark : ℕ) (marks : List ℕ) → AreInOrder bytes run (mark ∷ marks) → (run ≤ place_of mark) × HasArgument bytes mark
next_stands bytes run mark marks (start, (arg, (behind, (s, rest)))) = (start, (arg, (behind, s)))

args_next : (bytes : List ℕ) (mark : ℕ) (more : List ℕ) (arg : RawArg) (rest : List ℕ) → found bytes mark ≡ Some (arg, rest) → args_at bytes (mark ∷ more) ≡ arg ∷ args_at bytes more
args_next bytes mark more arg rest here = ap (λ o. argument o ++ args_at bytes more) here

order_next : (bytes : List ℕ) (run mark : ℕ) (more : List ℕ) (arg : RawArg) (rest : List ℕ) → found bytes mark ≡ Some (arg, rest) → AreInOrder bytes run (mark ∷ more) → AreInOrder bytes (length bytes - length rest) more
order_next bytes run mark more arg rest here (start, (other, (behind, (s, order)))) =
    let e : length bytes - length rest ≡ length bytes - length (drop behind bytes) = ap (end_of bytes) (sym here) ∙ ap (end_of bytes) (found_is bytes mark behind other s) in
    let p : behind ≡ length bytes - length rest = omega (arith, e, length-drop behind bytes, s.within) in
    subst (λ (k : ℕ). AreInOrder bytes k more) p order

pub going_lacks : (number : Numbering) (bytes marks : List ℕ) (mark : ℕ) (more : List ℕ) (run : ℕ) (old to : List ℕ) → Going number bytes marks (mark ∷ more) run old to → Lacks number bytes mark → SomeLacks number (args_at bytes marks)
going_lacks number bytes marks mark more run old to g l = g.some (subst (SomeLacks number) (sym (args_next bytes mark more l.arg l.rest l.here)) (inl l.lacks))

pub going_more : (number : Numbering) (bytes marks : List ℕ) (mark : ℕ) (more : List ℕ) (run next : ℕ) (old to to' : List ℕ) → Going number bytes marks (mark ∷ more) run old to → Puts number bytes run mark next to to' → Keeps old to'
    → Going number bytes marks more next old to'
going_more number bytes marks mark more run next old to to' g p kept =
    let f = anew number in
    let end = length bytes - length p.rest in
    let a = between run (place_of mark) bytes in
    let b = arg_bytes p.renewed in
    let c = fill f bytes end more in
    let order : AreInOrder bytes end more = order_next bytes run mark more p.arg p.rest p.here g.ordered in
    let fits : args_at bytes (mark ∷ more) ≡ p.arg ∷ args_at bytes more = args_next bytes mark more p.arg p.rest p.here in
    let nxt : fill f bytes run (mark ∷ more) ≡ a ++ b ++ c =
    ap (λ o. a ++ spelled f o ++ fill f bytes (end_of bytes o) more) p.here ∙ ap (λ x. a ++ arg_bytes (or_same p.arg x) ++ c) p.has in
    record {
      ordered = order_from bytes next end more p.back order;
      same = ap (λ x. to' ++ x) (sym (fill_run f bytes next end more p.back order)) ∙ sym (append_assoc to' (between next end bytes) c) ∙ ap (λ x. x ++ c) (p.same ∙ append_assoc to a b) ∙ append_assoc to (a ++ b) c
          ∙ ap (λ x. to ++ x) (sym nxt) ∙ g.same;
      all = λ h. g.all (subst (EachFits (HasNumber number)) (sym fits) ((p.renewed, (p.has, p.holds)), h));
      some = λ h. g.some (subst (SomeLacks number) (sym fits) (inr h));
      keeps = kept;
    }

-- behind the last mark the rest is copied
pub going_last : (number : Numbering) (bytes marks left : List ℕ) (run : ℕ) (old to new : List ℕ) → left ≡ [] → Going number bytes marks left run old to → new ≡ to ++ between run (length bytes) bytes
    → EachFits (HasNumber number) (args_at bytes marks) × (new ≡ old ++ fill (anew number) bytes 0 marks)
going_last number bytes marks [] run old to new e g copied =
    let rest : between run (length bytes) bytes ≡ drop run bytes =
    sym (cut bytes run (length bytes) g.ordered ∙ ap (λ k. between run (length bytes) bytes ++ k) (drop-length bytes) ∙ append-nil (between run (length bytes) bytes)) in
    (g.all tt, copied ∙ ap (λ x. to ++ x) rest ∙ g.same)
going_last number bytes marks (mark ∷ left) run old to new e g copied = absurd cc

pub last_within : (number : Numbering) (bytes marks left : List ℕ) (run : ℕ) (old to : List ℕ) → left ≡ [] → Going number bytes marks left run old to → run ≤ length bytes
last_within number bytes marks [] run old to e g = g.ordered
last_within number bytes marks (mark ∷ left) run old to e g = absurd cc

-- ---- what the loop's function knows

pub keeps_through : (old to new : List ℕ) → Keeps old to → Keeps to new → Keeps old new
keeps_through old to new k k' = keeps_behind old to new (drop (length old) to) (sym (take-append-drop (length old) to) ∙ ap (λ x. x ++ drop (length old) to) k) k'

pub puts_of : (number : Numbering) (bytes : List ℕ) (run mark next : ℕ) (old new : List ℕ) → Steps number bytes run mark old new next → (next ≡ NO_PLACE → ⊥) → Puts number bytes run mark next old new
puts_of number bytes run mark next old new (inl x) n = absurd (n x.0)
puts_of number bytes run mark next old new (inr p) n = p

pub lacks_of : (number : Numbering) (bytes : List ℕ) (run mark next : ℕ) (old new : List ℕ) → length bytes < NO_PLACE → next ≡ NO_PLACE → Steps number bytes run mark old new next → Lacks number bytes mark
lacks_of number bytes run mark next old new h e (inl x) = x.1
lacks_of number bytes run mark next old new h e (inr p) = absurd (omega (arith, p.back, h, e))

-- ---- the same at a place of the list of marks

at_mark : (number : Numbering) (bytes marks : List ℕ) (i d run : ℕ) (old to : List ℕ) → i < length marks → Going number bytes marks (drop i marks) run old to → Going number bytes marks (get_or marks i d ∷ drop (i + 1) marks) run old to
at_mark number bytes marks i d run old to h g =
    let s : suc i ≡ i + 1 = omega arith in
    let e : drop i marks ≡ get_or marks i d ∷ drop (i + 1) marks = drop-cons marks i d h ∙ ap (λ k. get_or marks i d ∷ drop k marks) s in
    subst (λ (l : List ℕ). Going number bytes marks l run old to) e g

pub stands_at : (number : Numbering) (bytes marks : List ℕ) (i d run : ℕ) (old to : List ℕ) → i < length marks → Going number bytes marks (drop i marks) run old to → (run ≤ place_of (get_or marks i d)) × HasArgument bytes (get_or marks i d)
stands_at number bytes marks i d run old to h g = next_stands bytes run (get_or marks i d) (drop (i + 1) marks) ((at_mark number bytes marks i d run old to h g).ordered)

pub lacks_at : (number : Numbering) (bytes marks : List ℕ) (i d run next : ℕ) (old to to' : List ℕ) → i < length marks → Going number bytes marks (drop i marks) run old to → length bytes < NO_PLACE → next ≡ NO_PLACE
    → Steps number bytes run (get_or marks i d) to to' next → SomeLacks number (args_at bytes marks)
lacks_at number bytes marks i d run next old to to' h g small e s =
    going_lacks number bytes marks (get_or marks i d) (drop (i + 1) marks) run old to (at_mark number bytes marks i d run old to h g) (lacks_of number bytes run (get_or marks i d) next to to' small e s)

pub more_at : (number : Numbering) (bytes marks : List ℕ) (i d run next : ℕ) (old to to' : List ℕ) → i < length marks → Going number bytes marks (drop i marks) run old to → (next ≡ NO_PLACE → ⊥)
    → Steps number bytes run (get_or marks i d) to to' next → Keeps old to' → Going number bytes marks (drop (i + 1) marks) next old to'
more_at number bytes marks i d run next old to to' h g n s k =
    going_more number bytes marks (get_or marks i d) (drop (i + 1) marks) run next old to to' (at_mark number bytes marks i d run old to h g) (puts_of number bytes run (get_or marks i d) next to to' s n) k
