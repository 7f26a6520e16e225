-- The table of classes fits that of operators.
use Rattle.std.proofs.Common.{◌≡◌, ℕ, zero, suc, ◌+◌, ◌<◌, Bool, true, false, List, [], ◌∷◌, length, get_or, refl, sym, ap, ◌∙◌, arith}
use Rattle.std.specs.Prelude.{Option, Some, None}
use Rattle.wasm_operators.specs.declared.kind.Kind.{Kind}
use Rattle.wasm_operators.specs.Table.{kinds_of}
use Rattle.wasm_operators.specs.Forms.{is_prefix}
use Rattle.wasm_text.specs.declared.class.Class.{Class}
use Rattle.wasm_text.specs.declared.class.Class.TheVariants as class
use Rattle.wasm_text.specs.declared.class.TheConstants.{CLASSES}
use Rattle.wasm_text.specs.Classes.{is_plain, class_kinds, Fits, IsOneByte}
use Rattle.wasm_text.specs.Bodies.{blocks_behind, class_behind, Turns}

-- what the table of operators says of a byte, whether it is plain, whether it is a prefix, how it turns the open blocks, and the byte
abbrev Said : Type 0
Said = Option (List Kind) × Bool × Bool × (List Bool → Option (List Bool)) × ℕ

asked : ℕ → Said
asked b = (kinds_of b, is_plain b, is_prefix b, λ blocks. blocks_behind b blocks, b)

-- the same as the class has it; the two classes without arguments of their own say nothing but that
abbrev said : Class → ℕ → Said
said class.Other b = asked b
said class.Prefix b = (None, true, true, λ blocks. Some blocks, 252)
said c b = (Some (class_kinds c), true, false, λ blocks. class_behind c b blocks, b)

abbrev all_said : List Class → ℕ → List Said
all_said [] first = []
all_said (c ∷ cs) first = said c first ∷ all_said cs (suc first)

abbrev all_asked : ℕ → ℕ → List Said
all_asked zero first = []
all_asked (suc count) first = asked first ∷ all_asked count (suc first)

classes_same : all_said CLASSES 0 ≡ all_asked 256 0
unfolding kinds_of asked
classes_same = refl

entry_same : (cs : List Class) (count first n : ℕ) → all_said cs first ≡ all_asked count first → n < length cs → said (get_or cs n class.Other) (first + n) ≡ asked (first + n)
entry_same [] count first n e h = absurd (omega arith)
entry_same (c ∷ cs) zero first n e h = cc
entry_same (c ∷ cs) (suc count) first zero e h =
    let p : said c first ≡ asked first = cc in
    let q : first ≡ first + 0 = omega arith in
    rw (← q) p
entry_same (c ∷ cs) (suc count) first (suc n) e h =
    let p : all_said cs (suc first) ≡ all_asked count (suc first) = cc in
    let q : suc first + n ≡ first + suc n = omega arith in
    rw (← q) (entry_same cs count (suc first) n p (omega arith))

one_byte : (b : ℕ) (listed : List Kind) (turn : List Bool → Option (List Bool)) → (Some listed, true, false, turn, b) ≡ asked b → IsOneByte b listed
unfolding asked
one_byte b listed turn e = record {
  has = record { kinds = sym (ap (λ (k : Said). k.0) e); plain = sym (ap (λ (k : Said). k.1) e) };
  alone = sym (ap (λ (k : Said). k.2) e);
}

is_fc : (b : ℕ) → (None, true, true, λ (blocks : List Bool). Some blocks, 252) ≡ asked b → b ≡ 252
unfolding asked
is_fc b e = sym (ap (λ (k : Said). k.4) e)

class_fits : (c : Class) (b : ℕ) → said c b ≡ asked b → Fits c b
class_fits class.Other b e = tt
class_fits class.Prefix b e = is_fc b e
class_fits c b e = one_byte b (class_kinds c) (λ blocks. class_behind c b blocks) e

turn_same : (s : Said) (b : ℕ) → s ≡ asked b → (blocks : List Bool) → blocks_behind b blocks ≡ s.3 blocks
unfolding asked
turn_same s b e blocks = sym (ap (λ (k : Said). k.3 blocks) e)

class_turns : (c : Class) (b : ℕ) → said c b ≡ asked b → Turns c b
class_turns class.Other b e = tt
class_turns c b e = turn_same (said c b) b e

class_same : (n : ℕ) → n < 256 → said (get_or CLASSES n class.Other) n ≡ asked n
class_same n h =
    let p : 0 + n ≡ n = omega arith in
    ap (λ k. said (get_or CLASSES n class.Other) k) (sym p) ∙ entry_same CLASSES 256 0 n classes_same h ∙ ap asked p

pub fits_of : (n : ℕ) → n < 256 → Fits (get_or CLASSES n class.Other) n
fits_of n h = class_fits (get_or CLASSES n class.Other) n (class_same n h)

pub turns_of : (n : ℕ) → n < 256 → Turns (get_or CLASSES n class.Other) n
turns_of n h = class_turns (get_or CLASSES n class.Other) n (class_same n h)
