-- Arguments one behind another, and lists of labels.
use Rattle.std.proofs.Common.{◌≡◌, ℕ, ◌+◌, ◌-◌, ◌≤◌, List, [], ◌∷◌, ◌++◌, length, map, take, drop, refl, sym, ap, ap₂, subst, ◌∙◌, arith, append_assoc}
use Rattle.std.proofs.lemmas.Bool.{eqb-true}
use Rattle.std.proofs.lemmas.List.{append-nil, map-append, length-append}
use Rattle.std.proofs.lemmas.Grind.{flat_map-append}
use Rattle.wasm_forms.specs.Grammar.{Form, Is, IsRow, U32, Row}
use Rattle.wasm_forms.specs.Spelling.{row_bytes}
use Rattle.wasm_operators.specs.declared.operator.RawArg.{RawArg}
use Rattle.wasm_operators.specs.declared.operator.RawArg.TheVariants as args
use Rattle.wasm_operators.specs.declared.kind.Kind.{Kind}
use Rattle.wasm_operators.specs.declared.kind.Kind.TheVariants as kinds
use Rattle.wasm_operators.specs.Forms.{arg_form, args_form}
use Rattle.wasm_operators.specs.Spelling.{arg_bytes}
use Rattle.wasm_text.specs.declared.limits.Limits.{Limits}
use Rattle.wasm_text.specs.Places.{between}
use Rattle.wasm_text.specs.Marks.{shifted, Shows}
use Rattle.wasm_text.specs.Scans.{IsWithin, HasArgs, count_form, labels_form}
use Rattle.wasm_text.proofs.Between.{length_between, join}
use Rattle.wasm_text.proofs.Showing.{shows_append, shows_as, shows_plain, row_append}
use Rattle.wasm_forms.proofs.Items.{row_bytes-append as row_bytes_append, each_append}

-- ---- one behind another

shift_twice : (a b c : ℕ) (marks : List ℕ) → a + b ≡ c → map (shifted a) (map (shifted b) marks) ≡ map (shifted c) marks
shift_twice a b c [] e = refl
shift_twice a b c (mark ∷ marks) e =
    let p : shifted a (shifted b mark) ≡ shifted c mark = omega (arith, e) in
    ap₂ (λ (x : ℕ) (y : List ℕ). x ∷ y) p (shift_twice a b c marks e)

-- marks behind marks
pub put_twice : (at mid : ℕ) (old now new marks marks' : List ℕ) → at ≤ mid → now ≡ old ++ map (shifted at) marks → new ≡ now ++ map (shifted mid) marks'
    → new ≡ old ++ map (shifted at) (marks ++ map (shifted (mid - at)) marks')
put_twice at mid old now new marks marks' k e e' =
    let s : at + (mid - at) ≡ mid = omega arith in
    e' ∙ ap (λ x. x ++ map (shifted mid) marks') e
    ∙ append_assoc old (map (shifted at) marks) (map (shifted mid) marks')
    ∙ ap (λ x. old ++ (map (shifted at) marks ++ x)) (sym (shift_twice at (mid - at) mid marks' s))
    ∙ ap (λ x. old ++ x) (sym (map-append (shifted at) marks (map (shifted (mid - at)) marks')))

pub then_has : (first second whole : Form (List RawArg)) (limits : Limits) (bytes : List ℕ) (at mid behind : ℕ) (old now new : List ℕ)
    → ((b c : List ℕ) (xs ys : List RawArg) → Is first b xs → Is second c ys → Is whole (b ++ c) (xs ++ ys))
    → HasArgs first limits bytes at mid old now → HasArgs second limits bytes mid behind now new → HasArgs whole limits bytes at behind old new
then_has first second whole limits bytes at mid behind old now new law h k =
    let spell : List RawArg → (RawArg → RawArg) → List ℕ = λ xs f. row_bytes arg_bytes (map f xs) in
    let joined : between at mid bytes ++ between mid behind bytes ≡ between at behind bytes = join bytes at mid behind h.forward k.forward in
    let long : length (between at mid bytes) ≡ mid - at = length_between bytes at mid h.within in
    let both = shows_append (between at mid bytes) h.marks (between mid behind bytes) k.marks h.args k.args (spell h.args) (spell k.args) h.shown k.shown in
    let marks : List ℕ = h.marks ++ map (shifted (mid - at)) k.marks in
    let here : Shows (between at mid bytes ++ between mid behind bytes) marks (h.args ++ k.args) (λ f. spell h.args f ++ spell k.args f) =
    subst (λ (n : ℕ). Shows (between at mid bytes ++ between mid behind bytes) (h.marks ++ map (shifted n) k.marks) (h.args ++ k.args) (λ f. spell h.args f ++ spell k.args f)) long both in
    record {
      args = h.args ++ k.args;
      marks = marks;
      is = subst (λ (b : List ℕ). Is whole b (h.args ++ k.args)) joined (law (between at mid bytes) (between mid behind bytes) h.args k.args h.is k.is);
      shown = shows_as (between at behind bytes) marks (h.args ++ k.args) (h.args ++ k.args) (λ f. spell h.args f ++ spell k.args f) (spell (h.args ++ k.args)) refl
          (λ f. ap (row_bytes arg_bytes) (map-append f h.args k.args) ∙ row_bytes_append arg_bytes (map f h.args) (map f k.args))
          (subst (λ (b : List ℕ). Shows b marks (h.args ++ k.args) (λ f. spell h.args f ++ spell k.args f)) joined here);
      put = put_twice at mid old now new h.marks k.marks h.forward h.put k.put;
      fit = each_append (IsWithin limits) h.args k.args h.fit k.fit;
      forward = omega (arith, h.forward, k.forward);
      within = k.within;
    }

-- no argument
pub no_args : (form : Form (List RawArg)) (limits : Limits) (bytes : List ℕ) (at : ℕ) (old : List ℕ) → Is form [] [] → at ≤ length bytes → HasArgs form limits bytes at at old old
no_args form limits bytes at old is w =
    let n : at - at ≡ 0 = omega arith in
    let none : between at at bytes ≡ [] = ap (λ k. take k (drop at bytes)) n in
    record {
      args = [];
      marks = [];
      is = subst (λ (b : List ℕ). Is form b []) (sym none) is;
      shown = shows_plain (between at at bytes) [] (λ f. []) (λ f l. sym none) refl;
      put = sym (append-nil old);
      fit = tt;
      forward = omega arith;
      within = w;
    }

pub bare_args : (limits : Limits) (bytes : List ℕ) (at : ℕ) (old : List ℕ) → at ≤ length bytes → HasArgs (args_form []) limits bytes at at old old
unfolding args_form
bare_args limits bytes at old w = no_args (args_form []) limits bytes at old (refl, refl) w

-- ---- forms of lists of kinds

to_one : (kind : Kind) (bytes : List ℕ) (xs : List RawArg) → Is (args_form (kind ∷ [])) bytes xs → Is (arg_form kind) bytes xs
unfolding args_form
to_one kind bytes xs (parts, (e, (front, (back, (split, is, (none, nothing)))))) =
    subst (λ (b : List ℕ). Is (arg_form kind) b xs) (sym (split ∙ ap (λ b. front ++ b) none ∙ append-nil front))
    (subst (λ (ys : List RawArg). Is (arg_form kind) front ys) (sym (e ∙ ap (λ y. parts.0 ++ y) nothing ∙ append-nil parts.0)) is)

more_kinds : (kind : Kind) (listed : List Kind) (b c : List ℕ) (xs ys : List RawArg) → Is (arg_form kind) b xs → Is (args_form listed) c ys → Is (args_form (kind ∷ listed)) (b ++ c) (xs ++ ys)
unfolding args_form
more_kinds kind listed b c xs ys is is' = ((xs, ys), (refl, (b, (c, (refl, is, is')))))

pub two_kinds : (kind kind' : Kind) (limits : Limits) (bytes : List ℕ) (at mid behind : ℕ) (old now new : List ℕ)
    → HasArgs (args_form (kind ∷ [])) limits bytes at mid old now → HasArgs (args_form (kind' ∷ [])) limits bytes mid behind now new → HasArgs (args_form (kind ∷ kind' ∷ [])) limits bytes at behind old new
two_kinds kind kind' limits bytes at mid behind old now new =
    then_has (args_form (kind ∷ [])) (args_form (kind' ∷ [])) (args_form (kind ∷ kind' ∷ [])) limits bytes at mid behind old now new
    (λ b c xs ys is is'. more_kinds kind (kind' ∷ []) b c xs ys (to_one kind b xs is) is')

-- ---- labels

label : ℕ → List RawArg
label l = args.Label l ∷ []

label_read : (bytes : List ℕ) (xs : List RawArg) → Is (args_form (kinds.Label ∷ [])) bytes xs → (l : ℕ) × ((xs ≡ args.Label l ∷ []) × Is U32 bytes l)
unfolding arg_form
label_read bytes xs is = to_one kinds.Label bytes xs is

labels_more : (n : ℕ) (b c : List ℕ) (xs ys : List RawArg) → Is (labels_form n) b xs → Is (args_form (kinds.Label ∷ [])) c ys → Is (labels_form (n + 1)) (b ++ c) (xs ++ ys)
labels_more n b c xs ys (ls, (e, (row, long))) is =
    let l = label_read c ys is in
    let one : IsRow (Is U32) c (l.0 ∷ []) = (c, ([], (sym (append-nil c), l.1.1, refl))) in (
      ls ++ l.0 ∷ [],
      (
        ap₂ (λ x y. x ++ y) e l.1.0 ∙ sym (flat_map-append (λ k. args.Label k ∷ []) ls (l.0 ∷ [])),
        (row_append (Is U32) b c ls (l.0 ∷ []) row one, length-append ls (l.0 ∷ []) ∙ ap (λ k. k + 1) long),
      ),
    )

pub no_labels : (limits : Limits) (bytes : List ℕ) (at : ℕ) (old : List ℕ) → at ≤ length bytes → HasArgs (labels_form 0) limits bytes at at old old
no_labels limits bytes at old w = no_args (labels_form 0) limits bytes at old ([], (refl, (refl, refl))) w

pub one_more_label : (n : ℕ) (limits : Limits) (bytes : List ℕ) (at mid behind : ℕ) (old now new : List ℕ)
    → HasArgs (labels_form n) limits bytes at mid old now → HasArgs (args_form (kinds.Label ∷ [])) limits bytes mid behind now new → HasArgs (labels_form (n + 1)) limits bytes at behind old new
one_more_label n limits bytes at mid behind old now new =
    then_has (labels_form n) (args_form (kinds.Label ∷ [])) (labels_form (n + 1)) limits bytes at mid behind old now new (labels_more n)

counted_labels : (n : ℕ) (b c : List ℕ) (xs ys : List RawArg) → Is (count_form n) b xs → Is (labels_form n) c ys → Is (arg_form kinds.Labels) (b ++ c) (xs ++ ys)
unfolding arg_form
counted_labels n b c xs ys (k, (e, (is, t))) (ls, (e', row)) =
    let same : k ≡ n = eqb-true k n t in
    (k, (b, (c, (refl, is, (ls, (ap₂ (λ x y. x ++ y) e e', subst (λ (m : ℕ). Is (Row U32 m) c ls) (sym same) row))))))

pub all_labels : (n : ℕ) (limits : Limits) (bytes : List ℕ) (at mid last behind : ℕ) (old now then new : List ℕ)
    → HasArgs (count_form n) limits bytes at mid old now → HasArgs (labels_form n) limits bytes mid last now then → HasArgs (args_form (kinds.Label ∷ [])) limits bytes last behind then new
    → HasArgs (args_form (kinds.Labels ∷ kinds.Label ∷ [])) limits bytes at behind old new
all_labels n limits bytes at mid last behind old now then new h k m =
    then_has (arg_form kinds.Labels) (args_form (kinds.Label ∷ [])) (args_form (kinds.Labels ∷ kinds.Label ∷ [])) limits bytes at last behind old then new (more_kinds kinds.Labels (kinds.Label ∷ []))
    (then_has (count_form n) (labels_form n) (arg_form kinds.Labels) limits bytes at mid last old now then (counted_labels n) h k) m
