-- An order that is begun, and what one argument or piece more makes of it.
use Rattle.std.proofs.Common.{◌≡◌, ◌<◌, ℕ, zero, suc, Bool, true, false, not, ◌&&◌, List, [], ◌∷◌, ◌++◌, map, refl, sym, ap, ap₂, ◌∙◌, subst, inl, inr, ◌⊎◌, ⊎_elim, codes, string_bytes, arith}
use Rattle.std.specs.Prelude.{◌↔◌, All, Contains, Option, Some, None, Result, Ok, Err, String, bytes_eq, eqb, flat_map, is_some, if◌then◌else◌}
use Rattle.std.specs.List.{last_or}
use Rattle.std.specs.declared.alloc.Global.{Global}
use Rattle.std.proofs.lemmas.List.{append-nil, append_assoc, map-append}
use Rattle.std.proofs.lemmas.List.Concat.{flat_map-append}
use Rattle.std.proofs.lemmas.List.Elements.{All-cons, All-nil, Contains-append_cases, Contains-append_left, Contains-append_right}
use Rattle.mulkavesh.specs.declared.order.Flag.{Flag}
use Rattle.mulkavesh.specs.declared.order.Flag.TheVariants as option
use Rattle.mulkavesh.specs.declared.order.Named.{Named}
use Rattle.mulkavesh.specs.declared.order.Naming.{Naming}
use Rattle.mulkavesh.specs.declared.order.Naming.TheVariants as naming
use Rattle.mulkavesh.specs.declared.order.Value.{Value}
use Rattle.mulkavesh.specs.declared.order.Work.{Work}
use Rattle.mulkavesh.specs.declared.mistakes.Wrong.{Wrong}
use Rattle.mulkavesh.specs.declared.mistakes.Wrong.TheVariants.{SecondInput, SecondOutput}
use Rattle.mulkavesh.specs.Order.{Said, has_flag, has_naming, has_operand, is_set, value_bytes}
use Rattle.mulkavesh.specs.Steps.{number_said, set, set_by, set_count, with_by, with_count, with_named, with_output, with_plain, with_value}
use Rattle.mulkavesh.specs.Words.{IsBy, IsCount, IsFilled, IsGood, IsPiece, IsPlain, Piece, SaysBy, Valued, Word, by_of, count_of, flag_in, held_value, named_of, one_value, one_word, out_of, plain, valued_in}
use Rattle.mulkavesh.proofs.NumberLemmas.{said_index}
use Rattle.mulkavesh.proofs.Spelling.{decided}

-- the plain words that an order holds
abbrev pub held : Said → List Word
held o = one_word o.operand ++ one_word o.input

-- ---- the options without a value, in a row

number : Flag → ℕ
number option.NoNames = 0
number option.NoProducers = 1
number option.NoLegacy = 2
number option.Quiet = 3
number option.Json = 4
number option.Names = 5
number option.Producers = 6
number option.Debug = 7
number option.All = 8
number option.Exports = 9
number option.Imports = 10
number option.Dropped = 11
number option.Callers = 12

-- the option of a number
numbered : ℕ → Flag
numbered n =
    if eqb n 0 then option.NoNames else (if eqb n 1 then option.NoProducers else (if eqb n 2 then option.NoLegacy else (if eqb n 3 then option.Quiet
    else (if eqb n 4 then option.Json else (if eqb n 5 then option.Names else (if eqb n 6 then option.Producers else (if eqb n 7 then option.Debug
    else (if eqb n 8 then option.All else (if eqb n 9 then option.Exports else (if eqb n 10 then option.Imports
    else (if eqb n 11 then option.Dropped else option.Callers)))))))))))

numbered_back : (f : Flag) → numbered (number f) ≡ f
unfolding number numbered
numbered_back option.NoNames = refl
numbered_back option.NoProducers = refl
numbered_back option.NoLegacy = refl
numbered_back option.Quiet = refl
numbered_back option.Json = refl
numbered_back option.Names = refl
numbered_back option.Producers = refl
numbered_back option.Debug = refl
numbered_back option.All = refl
numbered_back option.Exports = refl
numbered_back option.Imports = refl
numbered_back option.Dropped = refl
numbered_back option.Callers = refl

-- which of them are asked for
abbrev asked : Said → List Bool
asked o =
    is_set o option.NoNames ∷ is_set o option.NoProducers ∷ is_set o option.NoLegacy ∷ is_set o option.Quiet ∷ is_set o option.Json ∷ is_set o option.Names
    ∷ is_set o option.Producers ∷ is_set o option.Debug ∷ is_set o option.All ∷ is_set o option.Exports ∷ is_set o option.Imports ∷ is_set o option.Dropped
    ∷ is_set o option.Callers ∷ []

abbrev at : ℕ → List Bool → Bool
at n [] = false
at zero (b ∷ bs) = b
at (suc n) (b ∷ bs) = at n bs

abbrev mark : ℕ → List Bool → List Bool
mark n [] = []
mark zero (b ∷ bs) = true ∷ bs
mark (suc n) (b ∷ bs) = b ∷ mark n bs

marked : (m n : ℕ) (bs : List Bool) → at n (mark m bs) ≡ true → (at n bs ≡ true) ⊎ (n ≡ m)
marked m n [] is = inl is
marked zero zero (b ∷ bs) is = inr refl
marked zero (suc n) (b ∷ bs) is = inl is
marked (suc m) zero (b ∷ bs) is = inl is
marked (suc m) (suc n) (b ∷ bs) is = ⊎_elim (λ old. inl old) (λ e. inr (ap suc e)) (marked m n bs is)

stays_marked : (m n : ℕ) (bs : List Bool) → at n bs ≡ true → at n (mark m bs) ≡ true
stays_marked m n [] is = is
stays_marked zero zero (b ∷ bs) is = refl
stays_marked zero (suc n) (b ∷ bs) is = is
stays_marked (suc m) zero (b ∷ bs) is = is
stays_marked (suc m) (suc n) (b ∷ bs) is = stays_marked m n bs is

is_asked : (o : Said) (f : Flag) → is_set o f ≡ at (number f) (asked o)
unfolding number
is_asked o option.NoNames = refl
is_asked o option.NoProducers = refl
is_asked o option.NoLegacy = refl
is_asked o option.Quiet = refl
is_asked o option.Json = refl
is_asked o option.Names = refl
is_asked o option.Producers = refl
is_asked o option.Debug = refl
is_asked o option.All = refl
is_asked o option.Exports = refl
is_asked o option.Imports = refl
is_asked o option.Dropped = refl
is_asked o option.Callers = refl

set_asked : (o : Said) (f : Flag) → asked (set o f) ≡ mark (number f) (asked o)
unfolding number
set_asked o option.NoNames = refl
set_asked o option.NoProducers = refl
set_asked o option.NoLegacy = refl
set_asked o option.Quiet = refl
set_asked o option.Json = refl
set_asked o option.Names = refl
set_asked o option.Producers = refl
set_asked o option.Debug = refl
set_asked o option.All = refl
set_asked o option.Exports = refl
set_asked o option.Imports = refl
set_asked o option.Dropped = refl
set_asked o option.Callers = refl

set_itself : (o : Said) (f : Flag) → is_set (set o f) f ≡ true
set_itself o option.NoNames = refl
set_itself o option.NoProducers = refl
set_itself o option.NoLegacy = refl
set_itself o option.Quiet = refl
set_itself o option.Json = refl
set_itself o option.Names = refl
set_itself o option.Producers = refl
set_itself o option.Debug = refl
set_itself o option.All = refl
set_itself o option.Exports = refl
set_itself o option.Imports = refl
set_itself o option.Dropped = refl
set_itself o option.Callers = refl

set_flags : (o : Said) (f g : Flag) → (is_set (set o f) g ≡ true) ↔ ((is_set o g ≡ true) ⊎ (g ≡ f))
set_flags o f g = (there, back)
  where
    here : is_set (set o f) g ≡ at (number g) (mark (number f) (asked o))
    here = is_asked (set o f) g ∙ ap (at (number g)) (set_asked o f)

    there : is_set (set o f) g ≡ true → (is_set o g ≡ true) ⊎ (g ≡ f)
    there is = ⊎_elim (λ old. inl (is_asked o g ∙ old)) (λ e. inr (sym (numbered_back g) ∙ ap numbered e ∙ numbered_back f)) (marked (number f) (number g) (asked o) (sym here ∙ is))

    back : (is_set o g ≡ true) ⊎ (g ≡ f) → is_set (set o f) g ≡ true
    back (inl old) = here ∙ stays_marked (number f) (number g) (asked o) (sym (is_asked o g) ∙ old)
    back (inr e) = subst (λ (k : Flag). is_set (set o f) k ≡ true) (sym e) (set_itself o f)

-- two orders ask for the same options, where they do so in the row
same_flags : (o n : Said) → asked n ≡ asked o → (f : Flag) → is_set n f ≡ is_set o f
same_flags o n same f = is_asked n f ∙ ap (at (number f)) same ∙ sym (is_asked o f)

-- ---- what an option leaves

abbrev Rest : Type 0
Rest = Work × List Named × Option (String Global) × Option (String Global) × Option Value × Bool × Option ℕ

abbrev rest_of : Said → Rest
rest_of o = (o.work, o.values, o.operand, o.input, o.output, o.listing.by_size, o.listing.count)

set_rest : (o : Said) (f : Flag) → rest_of (set o f) ≡ rest_of o
set_rest o option.NoNames = refl
set_rest o option.NoProducers = refl
set_rest o option.NoLegacy = refl
set_rest o option.Quiet = refl
set_rest o option.Json = refl
set_rest o option.Names = refl
set_rest o option.Producers = refl
set_rest o option.Debug = refl
set_rest o option.All = refl
set_rest o option.Exports = refl
set_rest o option.Imports = refl
set_rest o option.Dropped = refl
set_rest o option.Callers = refl

-- ---- what more arguments make of an order

-- these options without a value, those with one, and plain words are put to it
pub record Turns (fs : List Flag) (vs : List Valued) (ws : List Word) (o n : Said) : Type 0 where
  pub work : n.work ≡ o.work
  pub flags : (f : Flag) → (is_set n f ≡ true) ↔ ((is_set o f ≡ true) ⊎ Contains fs f)
  pub values : map held_value n.values ≡ map held_value o.values ++ flat_map named_of vs
  pub output : one_value n.output ≡ one_value o.output ++ flat_map out_of vs
  pub by : (x : Option Word) → IsBy x o.listing.by_size → IsBy (last_or x (flat_map by_of vs)) n.listing.by_size
  pub count : (x : Option Word) → IsCount x o.listing.count → IsCount (last_or x (flat_map count_of vs)) n.listing.count
  pub holds : held n ≡ held o ++ ws
  pub filled : IsFilled n

pub none_in : {X : Type 0} (x : X) → Contains [] x → ⊥
none_in x (n, lt, is) = omega (arith, lt)

-- none more is asked for
kept_flags : (o n : Said) → ((f : Flag) → is_set n f ≡ is_set o f) → (f : Flag) → (is_set n f ≡ true) ↔ ((is_set o f ≡ true) ⊎ Contains [] f)
kept_flags o n same f = (
  λ h. inl (sym (same f) ∙ h),
  λ s. ⊎_elim (λ h. same f ∙ h) (λ at. absurd (none_in f at)) s,
)

-- what differs in nothing but what it holds
kept : (o n : Said) → asked n ≡ asked o → n.work ≡ o.work → n.values ≡ o.values → n.output ≡ o.output → n.listing.by_size ≡ o.listing.by_size → n.listing.count ≡ o.listing.count
    → (ws : List Word) → held n ≡ held o ++ ws → IsFilled n → Turns [] [] ws o n
kept o n flags work values output by count ws holds filled = record {
  work = work;
  flags = kept_flags o n (same_flags o n flags);
  values = ap (map held_value) values ∙ sym (append-nil (map held_value o.values));
  output = ap one_value output ∙ sym (append-nil (one_value o.output));
  by = λ x is. subst (λ (b : Bool). IsBy x b) (sym by) is;
  count = λ x is. subst (λ (m : Option ℕ). IsCount x m) (sym count) is;
  holds = holds;
  filled = filled;
}

pub turns_none : (o : Said) → IsFilled o → Turns [] [] [] o o
turns_none o filled = kept o o refl refl refl refl refl refl [] (sym (append-nil (held o))) filled

last_of_both : {X : Type 0} (x : Option X) (ys zs : List X) → last_or x (ys ++ zs) ≡ last_or (last_or x ys) zs
last_of_both x [] zs = refl
last_of_both x (y ∷ ys) zs = last_of_both (Some y) ys zs

-- first these, and then those
pub turns_both : (o m n : Said) (fs gs : List Flag) (us vs : List Valued) (ws xs : List Word) → Turns fs us ws o m → Turns gs vs xs m n → Turns (fs ++ gs) (us ++ vs) (ws ++ xs) o n
turns_both o m n fs gs us vs ws xs t r = record {
  work = r.work ∙ t.work;
  flags = λ f. (
    λ h. ⊎_elim
        (λ before. ⊎_elim (λ old. inl old) (λ now. inr (Contains-append_left fs gs f now)) ((t.flags f).0 before))
        (λ later. inr (Contains-append_right fs gs f later)) ((r.flags f).0 h),
    λ s. (r.flags f).1 (⊎_elim
        (λ old. inl ((t.flags f).1 (inl old)))
        (λ some. ⊎_elim (λ now. inl ((t.flags f).1 (inr now))) (λ later. inr later) (Contains-append_cases fs gs f some)) s),
  );
  values = behind (map held_value o.values) (map held_value m.values) (map held_value n.values) named_of t.values r.values;
  output = behind (one_value o.output) (one_value m.output) (one_value n.output) out_of t.output r.output;
  by = λ x is.
      subst (λ (y : Option Word). IsBy y n.listing.by_size) (last_of x by_of) (r.by (last_or x (flat_map by_of us)) (t.by x is));
  count = λ x is.
      subst (λ (y : Option Word). IsCount y n.listing.count) (last_of x count_of) (r.count (last_or x (flat_map count_of us)) (t.count x is));
  holds = r.holds ∙ ap (λ (l : List Word). l ++ xs) t.holds ∙ append_assoc (held o) ws xs;
  filled = r.filled;
}
  where
    behind : {X : Type 0} (a b c : List X) (f : Valued → List X) → b ≡ a ++ flat_map f us → c ≡ b ++ flat_map f vs → c ≡ a ++ flat_map f (us ++ vs)
    behind {X = X} a b c f first then_ =
        then_ ∙ ap (λ (l : List X). l ++ flat_map f vs) first ∙ append_assoc a (flat_map f us) (flat_map f vs) ∙ ap (λ (l : List X). a ++ l) (sym (flat_map-append f us vs))

    last_of : (x : Option Word) (f : Valued → List Word) → last_or (last_or x (flat_map f us)) (flat_map f vs) ≡ last_or x (flat_map f (us ++ vs))
    last_of x f = sym (last_of_both x (flat_map f us) (flat_map f vs)) ∙ ap (last_or x) (sym (flat_map-append f us vs))

-- ---- one plain word more

some_order : (n m : Said) → ◌≡◌ {A = Result Said Wrong} (Ok n) (Ok m) → m ≡ n
some_order n m same = cc

into_input : (o n : Said) (w : String Global) → (o.operand ≡ None → has_operand o.work ≡ true → ⊥) → o.input ≡ None → IsFilled o → ◌≡◌ {A = Result Said Wrong} (Ok (record o { input = Some w })) (Ok n) → Turns [] [] (string_bytes w ∷ []) o n
into_input o n w no_operand empty filled same =
    let is : n ≡ record o { input = Some w } = some_order (record o { input = Some w }) n same in
    let none : held o ≡ one_word o.operand = ap (λ (x : Option (String Global)). one_word o.operand ++ one_word x) empty ∙ append-nil (one_word o.operand) in
    subst (λ (m : Said). Turns [] [] (string_bytes w ∷ []) o m) (sym is)
    (kept o (record o { input = Some w }) refl refl refl refl refl refl (string_bytes w ∷ []) (ap (λ (l : List Word). l ++ string_bytes w ∷ []) (sym none))
    (record { none = filled.none; first = λ yes gone. absurd (no_operand gone yes) }))

adds_by : (o n : Said) (w : String Global) (h : Bool) (a i : Option (String Global)) → has_operand o.work ≡ h → o.operand ≡ a → o.input ≡ i → IsFilled o
    → ◌≡◌ {A = Result Said Wrong} (if h && not (is_some a) then Ok (record o { operand = Some w }) else (if is_some i then Err (SecondInput w) else Ok (record o { input = Some w }))) (Ok n)
    → Turns [] [] (string_bytes w ∷ []) o n
adds_by o n w true None i has none_held input filled same =
    let is : n ≡ record o { operand = Some w } = some_order (record o { operand = Some w }) n same in
    let empty : o.input ≡ None = filled.first has none_held in
    let no_input : one_word o.input ≡ [] = ap one_word empty in
    let none : held o ≡ [] = ap₂ (λ (x y : Option (String Global)). one_word x ++ one_word y) none_held empty in
    subst (λ (m : Said). Turns [] [] (string_bytes w ∷ []) o m) (sym is)
    (kept o (record o { operand = Some w }) refl refl refl refl refl refl (string_bytes w ∷ [])
    (ap (λ (l : List Word). string_bytes w ∷ l) no_input ∙ sym (ap (λ (l : List Word). l ++ string_bytes w ∷ []) none))
    (record { none = λ no. absurd (let untrue : true ≡ false = sym has ∙ no in cc); first = λ yes gone. absurd (cc) }))
adds_by o n w true (Some a) None has operand input filled same = into_input o n w (λ none. absurd (let no_such : Some a ≡ None = sym operand ∙ none in cc)) input filled same
adds_by o n w false None None has operand input filled same = into_input o n w (λ none. λ yes. absurd (let untrue : true ≡ false = sym yes ∙ has in cc)) input filled same
adds_by o n w false (Some a) None has operand input filled same = into_input o n w (λ none. absurd (let no_such : Some a ≡ None = sym operand ∙ none in cc)) input filled same
adds_by o n w true (Some a) (Some v) has operand input filled same = absurd (cc)
adds_by o n w false None (Some v) has operand input filled same = absurd (cc)
adds_by o n w false (Some a) (Some v) has operand input filled same = absurd (cc)

pub adds : (o n : Said) (w : String Global) → IsFilled o → with_plain o w ≡ Ok n → Turns [] [] (string_bytes w ∷ []) o n
adds o n w filled same = adds_by o n w (has_operand o.work) o.operand o.input refl refl refl filled same

-- ---- one option without a value more

pub contains_one : (f g : Flag) → Contains (f ∷ []) g → g ≡ f
contains_one f g (zero, lt, is) = sym is
contains_one f g (suc n, lt, is) = absurd (let small : suc n < 1 = lt in omega (arith, small))

pub turns_flag : (o : Said) (f : Flag) → IsFilled o → Turns (f ∷ []) [] [] o (set o f)
turns_flag o f filled =
    let r = set_rest o f in
    let work : (set o f).work ≡ o.work = ap (λ (x : Rest). x.0) r in
    let operand : (set o f).operand ≡ o.operand = ap (λ (x : Rest). x.2) r in
    let input : (set o f).input ≡ o.input = ap (λ (x : Rest). x.3) r in record {
      work = work;
      flags = λ g. (
        λ h. ⊎_elim (λ old. inl old) (λ e. inr (subst (λ (k : Flag). Contains (f ∷ []) k) (sym e) (0, omega arith, refl))) ((set_flags o f g).0 h),
        λ s. (set_flags o f g).1 (⊎_elim (λ old. inl old) (λ at. inr (contains_one f g at)) s),
      );
      values = ap (λ (x : Rest). map held_value x.1) r ∙ sym (append-nil (map held_value o.values));
      output = ap (λ (x : Rest). one_value x.4) r ∙ sym (append-nil (one_value o.output));
      by = λ x is. subst (λ (b : Bool). IsBy x b) (sym (ap (λ (x : Rest). x.5) r)) is;
      count = λ x is. subst (λ (m : Option ℕ). IsCount x m) (sym (ap (λ (x : Rest). x.6) r)) is;
      holds = ap (λ (x : Rest). one_word x.2 ++ one_word x.3) r ∙ sym (append-nil (held o));
      filled = record {
        none = λ no. operand ∙ filled.none (ap has_operand (sym work) ∙ no);
        first = λ yes gone. input ∙ filled.first (ap has_operand (sym work) ∙ yes) (sym operand ∙ gone);
      };
    }

-- ---- one option and its value more

pub with_output_is : (o n : Said) (v : Value) → with_output o v ≡ Ok n → (o.output ≡ None) × (n ≡ record o { output = Some v })
with_output_is o n v same = by o.output refl same
  where
    by : (x : Option Value) → o.output ≡ x → ◌≡◌ {A = Result Said Wrong} (if is_some x then Err (SecondOutput v) else Ok (record o { output = Some v })) (Ok n)
        → (o.output ≡ None) × (n ≡ record o { output = Some v })
    by None is same = (is, let e : ◌≡◌ {A = Result Said Wrong} (Ok (record o { output = Some v })) (Ok n) = same in cc)
    by (Some x) is same = absurd (cc)

-- the option can have the value, and is put
pub record Puts (k : Naming) (o n : Said) (v : Value) : Type 0 where
  pub good : IsGood (k, value_bytes v)
  pub turns : Turns [] ((k, value_bytes v) ∷ []) [] o n

module _ (o n : Said) (v : Value) (filled : IsFilled o) where
  abbrev Given : Naming → Type 0
  Given k = Puts k o n v

  turns_output : (k : Naming) → flat_map out_of ((k, value_bytes v) ∷ []) ≡ value_bytes v ∷ [] → flat_map named_of ((k, value_bytes v) ∷ []) ≡ [] → flat_map by_of ((k, value_bytes v) ∷ []) ≡ []
      → flat_map count_of ((k, value_bytes v) ∷ []) ≡ [] → with_output o v ≡ Ok n → Turns [] ((k, value_bytes v) ∷ []) [] o n
  turns_output k outs no_named no_by no_count same =
      let q = with_output_is o n v same in
      subst (λ (m : Said). Turns [] ((k, value_bytes v) ∷ []) [] o m) (sym q.1) (record {
        work = refl;
        flags = kept_flags o (record o { output = Some v }) (same_flags o (record o { output = Some v }) refl);
        values = sym (append-nil (map held_value o.values)) ∙ ap (λ (l : List Valued). map held_value o.values ++ l) (sym no_named);
        output = sym outs ∙ sym (ap (λ (x : Option Value). one_value x ++ flat_map out_of ((k, value_bytes v) ∷ [])) q.0);
        by = λ x is. subst (λ (l : List Word). IsBy (last_or x l) o.listing.by_size) (sym no_by) is;
        count = λ x is. subst (λ (l : List Word). IsCount (last_or x l) o.listing.count) (sym no_count) is;
        holds = sym (append-nil (held o));
        filled = record { none = filled.none; first = filled.first };
      })

  turns_named : (k : Naming) → flat_map named_of ((k, value_bytes v) ∷ []) ≡ (k, value_bytes v) ∷ [] → flat_map out_of ((k, value_bytes v) ∷ []) ≡ [] → flat_map by_of ((k, value_bytes v) ∷ []) ≡ []
      → flat_map count_of ((k, value_bytes v) ∷ []) ≡ [] → with_named o k v ≡ Ok n → Turns [] ((k, value_bytes v) ∷ []) [] o n
  turns_named k named no_outs no_by no_count same =
      subst (λ (m : Said). Turns [] ((k, value_bytes v) ∷ []) [] o m) (sym (some_order (record o { values = o.values ++ record { naming = k; value = v } ∷ [] }) n same)) (record {
        work = refl;
        flags = kept_flags o (record o { values = o.values ++ record { naming = k; value = v } ∷ [] }) (same_flags o (record o { values = o.values ++ record { naming = k; value = v } ∷ [] }) refl);
        values = map-append held_value o.values (record { naming = k; value = v } ∷ []) ∙ ap (λ (l : List Valued). map held_value o.values ++ l) (sym named);
        output = sym (append-nil (one_value o.output)) ∙ ap (λ (l : List Word). one_value o.output ++ l) (sym no_outs);
        by = λ x is. subst (λ (l : List Word). IsBy (last_or x l) o.listing.by_size) (sym no_by) is;
        count = λ x is. subst (λ (l : List Word). IsCount (last_or x l) o.listing.count) (sym no_count) is;
        holds = sym (append-nil (held o));
        filled = record { none = filled.none; first = filled.first };
      })

  turns_by : (b : Bool) → SaysBy (value_bytes v) b → set_by o v (Some b) ≡ Ok n → Given naming.By
  turns_by b says same =
      subst (λ (m : Said). Puts naming.By o m v) (sym (some_order (record o { listing = record (o.listing) { by_size = b } }) n same)) (record {
        good = (b, says);
        turns = record {
          work = refl;
          flags = kept_flags o (record o { listing = record (o.listing) { by_size = b } }) (same_flags o (record o { listing = record (o.listing) { by_size = b } }) refl);
          values = sym (append-nil (map held_value o.values));
          output = sym (append-nil (one_value o.output));
          by = λ x is. says;
          count = λ x is. is;
          holds = sym (append-nil (held o));
          filled = record { none = filled.none; first = filled.first };
        };
      })

  turns_count : (m : ℕ) → number_said (value_bytes v) ≡ Some m → set_count o v (Some m) ≡ Ok n → Given naming.Count
  turns_count m says same =
      subst (λ (n : Said). Puts naming.Count o n v) (sym (some_order (record o { listing = record (o.listing) { count = Some m } }) n same)) (record {
        good = (m, said_index (value_bytes v) m says);
        turns = record {
          work = refl;
          flags = kept_flags o (record o { listing = record (o.listing) { count = Some m } }) (same_flags o (record o { listing = record (o.listing) { count = Some m } }) refl);
          values = sym (append-nil (map held_value o.values));
          output = sym (append-nil (one_value o.output));
          by = λ x is. is;
          count = λ x is. said_index (value_bytes v) m says;
          holds = sym (append-nil (held o));
          filled = record { none = filled.none; first = filled.first };
        };
      })

  by_value : with_by o v ≡ Ok n → Given naming.By
  by_value same = by _ refl _ refl same
    where
      by : (a : Bool) → bytes_eq (value_bytes v) (codes "size") ≡ a → (b : Bool) → bytes_eq (value_bytes v) (codes "index") ≡ b
          → set_by o v (if a then Some true else (if b then Some false else None)) ≡ Ok n → Given naming.By
      by true is _ _ same = turns_by true (decided (value_bytes v) (codes "size") is) same
      by false _ true is same = turns_by false (decided (value_bytes v) (codes "index") is) same
      by false _ false _ same = absurd (cc)

  count_value : with_count o v ≡ Ok n → Given naming.Count
  count_value same = by _ refl same
    where
      by : (m : Option ℕ) → number_said (value_bytes v) ≡ m → set_count o v m ≡ Ok n → Given naming.Count
      by (Some m) is same = turns_count m is same
      by None _ same = absurd (cc)

  pub turns_value : (k : Naming) → with_value o k v ≡ Ok n → Given k
  turns_value naming.Short same = record { good = tt; turns = turns_output naming.Short refl refl refl refl same }
  turns_value naming.Long same = record { good = tt; turns = turns_output naming.Long refl refl refl refl same }
  turns_value naming.By same = by_value same
  turns_value naming.Count same = count_value same
  turns_value naming.Section same = record { good = tt; turns = turns_named naming.Section refl refl refl refl same }
  turns_value naming.Keep same = record { good = tt; turns = turns_named naming.Keep refl refl refl refl same }
  turns_value naming.Drop same = record { good = tt; turns = turns_named naming.Drop refl refl refl refl same }
  turns_value naming.Function same = record { good = tt; turns = turns_named naming.Function refl refl refl refl same }
  turns_value naming.Module same = record { good = tt; turns = turns_named naming.Module refl refl refl refl same }
  turns_value naming.Import same = record { good = tt; turns = turns_named naming.Import refl refl refl refl same }

-- ---- one piece more

-- it is a piece, and the subcommand has its options, which can have such values
pub record Suits (p : Piece) (w : Work) : Type 0 where
  pub made : IsPiece p
  pub known : All (λ (f : Flag). has_flag w f ≡ true) (flag_in p)
  pub known_values : All (λ (v : Valued). (has_naming w v.0 ≡ true) × IsGood v) (valued_in p)

pub suits_plain : (w : Work) (word : Word) → IsPlain word → Suits (plain word) w
suits_plain w word is = record { made = is; known = All-nil (λ (f : Flag). has_flag w f ≡ true); known_values = All-nil (λ (v : Valued). (has_naming w v.0 ≡ true) × IsGood v) }

one_known : (w : Work) (f : Flag) → has_flag w f ≡ true → All (λ (f : Flag). has_flag w f ≡ true) (f ∷ [])
one_known w f has = All-cons (λ (f : Flag). has_flag w f ≡ true) f [] has (All-nil (λ (f : Flag). has_flag w f ≡ true))

-- an option without a value
pub suits_flag : (w : Work) (p : Piece) (f : Flag) → IsPiece p → flag_in p ≡ f ∷ [] → valued_in p ≡ [] → has_flag w f ≡ true → Suits p w
suits_flag w p f made is none has = record {
  made = made;
  known = subst (λ (l : List Flag). All (λ (f : Flag). has_flag w f ≡ true) l) (sym is) (one_known w f has);
  known_values = subst (λ (l : List Valued). All (λ (v : Valued). (has_naming w v.0 ≡ true) × IsGood v) l) (sym none) (All-nil (λ (v : Valued). (has_naming w v.0 ≡ true) × IsGood v));
}

-- an option and its value
pub suits_value : (w : Work) (p : Piece) (v : Valued) → IsPiece p → flag_in p ≡ [] → valued_in p ≡ v ∷ [] → has_naming w v.0 ≡ true → IsGood v → Suits p w
suits_value w p v made none is has good = record {
  made = made;
  known = subst (λ (l : List Flag). All (λ (f : Flag). has_flag w f ≡ true) l) (sym none) (All-nil (λ (f : Flag). has_flag w f ≡ true));
  known_values = subst (λ (l : List Valued). All (λ (v : Valued). (has_naming w v.0 ≡ true) × IsGood v) l) (sym is)
      (All-cons (λ (v : Valued). (has_naming w v.0 ≡ true) × IsGood v) v [] (has, good) (All-nil (λ (v : Valued). (has_naming w v.0 ≡ true) × IsGood v)));
}
