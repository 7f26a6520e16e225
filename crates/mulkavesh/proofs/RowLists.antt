-- The texts of a list, item by item.
use Rattle.std.proofs.Common.{◌≡◌, ◌<◌, ◌≤◌, ◌+◌, ℕ, List, [], ◌∷◌, ◌++◌, flat_map, get_or, length, map, take, sym, ap, ap₂, ◌∙◌, arith}
use Rattle.std.proofs.lemmas.List.{append_assoc, flat_map_more, length-map, length-take-le, map-append, take_all, take_more}
use Rattle.mulkavesh.specs.Json.{comma_at, separated}
use Rattle.mulkavesh.proofs.JsonLists.{behind}

module _ {A : Type 0} (text_of : A → List ℕ) where
  -- one text more behind others
  pub line_more : (all : List A) (i : ℕ) (x d : A) → i < length all → x ≡ get_or all i d → (front before after : List ℕ) → before ≡ front ++ flat_map text_of (take i all) → after ≡ before ++ text_of x
      → after ≡ front ++ flat_map text_of (take (i + 1) all)
  line_more all i x d lt here front before after were is =
      is
      ∙ ap (λ (y : A). before ++ text_of y) here
      ∙ ap (λ (t : List ℕ). t ++ text_of (get_or all i d)) were
      ∙ flat_map_more text_of front (take i all) (get_or all i d)
      ∙ ap (λ (items : List A). front ++ flat_map text_of items) (sym (take_more all i d lt))

  -- all of them
  pub all_lines : (all : List A) (i : ℕ) → length all ≤ i → (front text : List ℕ) → text ≡ front ++ flat_map text_of (take i all) → text ≡ front ++ flat_map text_of all
  all_lines all i past front text is = is ∙ ap (λ (items : List A). front ++ flat_map text_of items) (take_all i all past)

  -- one more with commas between them
  pub text_more : (comma : List ℕ) (all : List A) (i : ℕ) (x d : A) → i < length all → x ≡ get_or all i d → (front before between after : List ℕ) → before ≡ front ++ separated comma (map text_of (take i all))
      → between ≡ before ++ comma_at comma i → after ≡ between ++ text_of x → after ≡ front ++ separated comma (map text_of (take (i + 1) all))
  text_more comma all i x d lt here front before between after were comma_is is =
      let text : List ℕ = text_of x in
      let done : List ℕ = separated comma (map text_of (take i all)) in
      let long : length (map text_of (take i all)) ≡ i = length-map (take i all) text_of ∙ length-take-le i all (omega (arith, lt)) in
      let step : separated comma (map text_of (take (i + 1) all)) ≡ done ++ (comma_at comma i ++ text) =
      ap (λ (items : List A). separated comma (map text_of items)) (take_more all i d lt)
      ∙ ap (separated comma) (map-append text_of (take i all) (get_or all i d ∷ []))
      ∙ behind comma (map text_of (take i all)) (text_of (get_or all i d))
      ∙ ap₂ (λ (n : ℕ) (y : A). done ++ (comma_at comma n ++ text_of y)) long (sym here) in
      is
      ∙ ap (λ (t : List ℕ). t ++ text) (comma_is ∙ ap (λ (t : List ℕ). t ++ comma_at comma i) were)
      ∙ append_assoc (front ++ done) (comma_at comma i) text
      ∙ append_assoc front done (comma_at comma i ++ text)
      ∙ ap (λ (t : List ℕ). front ++ t) (sym step)

  pub all_texts : (comma : List ℕ) (all : List A) (i : ℕ) → length all ≤ i → (front text : List ℕ) → text ≡ front ++ separated comma (map text_of (take i all)) → text ≡ front ++ separated comma (map text_of all)
  all_texts comma all i past front text is = is ∙ ap (λ (items : List A). front ++ separated comma (map text_of items)) (take_all i all past)

-- ---- several, one behind another

four_joined : {A : Type 0} (o a b c d : List A) → (((o ++ a) ++ b) ++ c) ++ d ≡ o ++ (a ++ b ++ c ++ d)
four_joined {A} o a b c d = ap (λ (s : List A). (s ++ c) ++ d) (append_assoc o a b) ∙ ap (λ (s : List A). s ++ d) (append_assoc o (a ++ b) c) ∙ append_assoc o (a ++ b ++ c) d

five_joined : {A : Type 0} (o a b c d e : List A) → ((((o ++ a) ++ b) ++ c) ++ d) ++ e ≡ o ++ (a ++ b ++ c ++ d ++ e)
five_joined {A} o a b c d e = ap (λ (s : List A). s ++ e) (four_joined o a b c d) ∙ append_assoc o (a ++ b ++ c ++ d) e

pub seven_joined : {A : Type 0} (o a b c d e f g : List A) → ((((((o ++ a) ++ b) ++ c) ++ d) ++ e) ++ f) ++ g ≡ o ++ (a ++ b ++ c ++ d ++ e ++ f ++ g)
seven_joined {A} o a b c d e f g =
    ap (λ (s : List A). (s ++ f) ++ g) (five_joined o a b c d e) ∙ ap (λ (s : List A). s ++ g) (append_assoc o (a ++ b ++ c ++ d ++ e) f) ∙ append_assoc o (a ++ b ++ c ++ d ++ e ++ f) g

-- behind others
pub four_behind : {A : Type 0} (old t u v w : List A) (a b c d : List A) → t ≡ old ++ a → u ≡ t ++ b → v ≡ u ++ c → w ≡ v ++ d → w ≡ old ++ (a ++ b ++ c ++ d)
four_behind {A} old t u v w a b c d t_is u_is v_is w_is =
    w_is ∙ ap (λ (s : List A). s ++ d) (v_is ∙ ap (λ (s : List A). s ++ c) (u_is ∙ ap (λ (s : List A). s ++ b) t_is)) ∙ four_joined old a b c d

pub five_behind : {A : Type 0} (old t u v w x : List A) (a b c d e : List A) → t ≡ old ++ a → u ≡ t ++ b → v ≡ u ++ c → w ≡ v ++ d → x ≡ w ++ e → x ≡ old ++ (a ++ b ++ c ++ d ++ e)
five_behind {A} old t u v w x a b c d e t_is u_is v_is w_is x_is =
    x_is ∙ ap (λ (s : List A). s ++ e) (w_is ∙ ap (λ (s : List A). s ++ d) (v_is ∙ ap (λ (s : List A). s ++ c) (u_is ∙ ap (λ (s : List A). s ++ b) t_is))) ∙ five_joined old a b c d e

pub seven_behind : {A : Type 0} (old t u v w x y z : List A) (a b c d e f g : List A) → t ≡ old ++ a → u ≡ t ++ b → v ≡ u ++ c → w ≡ v ++ d → x ≡ w ++ e → y ≡ x ++ f → z ≡ y ++ g
    → z ≡ old ++ (a ++ b ++ c ++ d ++ e ++ f ++ g)
seven_behind {A} old t u v w x y z a b c d e f g t_is u_is v_is w_is x_is y_is z_is =
    z_is
    ∙ ap (λ (s : List A). s ++ g) (y_is ∙ ap (λ (s : List A). s ++ f) (x_is ∙ ap (λ (s : List A). s ++ e) (w_is ∙ ap (λ (s : List A). s ++ d) (v_is ∙ ap (λ (s : List A). s ++ c) (u_is ∙ ap (λ (s : List A). s ++ b) t_is)))))
    ∙ seven_joined old a b c d e f g
