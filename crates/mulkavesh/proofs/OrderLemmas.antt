-- The arguments of an order, and the order that is made of them, or what is wrong with them.
use Rattle.std.proofs.Common.{◌≡◌, ◌≤◌, Bool, true, false, not, ◌&&◌, ◌||◌, List, [], ◌∷◌, ◌++◌, map, length, refl, sym, ap, ap₂, ◌∙◌, subst, inl, inr, ⊎_elim, codes, string_bytes, arith}
use Rattle.std.specs.Prelude.{All, Option, Some, None, Result, Ok, Err, String, flat_map, bytes_eq, is_some, if◌then◌else◌}
use Rattle.std.specs.List.{list_any}
use Rattle.std.specs.declared.alloc.Global.{Global}
use Rattle.mulkavesh.specs.declared.order.Flag.{Flag}
use Rattle.mulkavesh.specs.declared.order.Flag.TheVariants as option
use Rattle.mulkavesh.specs.declared.order.Named.{Named}
use Rattle.mulkavesh.specs.declared.order.Order.{Order}
use Rattle.mulkavesh.specs.declared.order.Work.{Work}
use Rattle.mulkavesh.specs.declared.order.Work.TheVariants as work
use Rattle.mulkavesh.specs.declared.words.Place.{Place}
use Rattle.mulkavesh.specs.declared.words.Place.TheVariants.{Anywhere, Value as Waits, Behind}
use Rattle.mulkavesh.specs.declared.order.Value.{Value}
use Rattle.mulkavesh.specs.declared.mistakes.Wrong.{Wrong}
use Rattle.mulkavesh.specs.declared.mistakes.Wrong.TheVariants.{Apart, NoSection, NoValue, NothingMeant, OperandMissing, OutOfMemory}
use Rattle.mulkavesh.specs.Order.{Said, are_apart, asks_gone, has_flag, has_naming, has_operand, is_set, is_strip, names_some, needs, new_said, said, takes_names, work_word}
use Rattle.mulkavesh.specs.Mistakes.{IsMissing, IsOrdered, IsWrong, is_memory_wrong, room_if}
use Rattle.mulkavesh.specs.Steps.{ArePut, Put, lacking, missing, put_words}
use Rattle.mulkavesh.specs.Words.{IsBy, IsFilled, IsGood, IsWhole, Reads, SaysOrder, Valued, Word, behind_words, ending_words, flag_in, held_value, one_value, one_word, out_of, piece_words, plain_in, valued_in}
use Rattle.mulkavesh.proofs.Complete.{PutsAll, complete, is_behind_value}
use Rattle.mulkavesh.proofs.Pieces.{held}
use Rattle.mulkavesh.proofs.Sound.{Answers, Tells, answered}
use Rattle.mulkavesh.proofs.Spelling.{differs}
use Rattle.mulkavesh.proofs.Wrongs.{Errs}

-- ---- a new order

new_filled : (w : Work) → IsFilled (new_said w)
new_filled w = record { none = λ h. refl; first = λ h e. refl }

none_set : (w : Work) (f : Flag) → is_set (new_said w) f ≡ true → ⊥
none_set w option.NoNames h = cc
none_set w option.NoProducers h = cc
none_set w option.NoLegacy h = cc
none_set w option.Quiet h = cc
none_set w option.Json h = cc
none_set w option.Names h = cc
none_set w option.Producers h = cc
none_set w option.Debug h = cc
none_set w option.All h = cc
none_set w option.Exports h = cc
none_set w option.Imports h = cc
none_set w option.Dropped h = cc
none_set w option.Callers h = cc

-- ---- the subcommand is told by its name

work_named : Word → Option Work
work_named word =
    if bytes_eq word (codes "gc") then Some work.Gc
    else (if bytes_eq word (codes "report") then Some work.Report
    else (if bytes_eq word (codes "list") then Some work.List
    else (if bytes_eq word (codes "check") then Some work.Check
    else (if bytes_eq word (codes "sections") then Some work.Sections
    else (if bytes_eq word (codes "strip") then Some work.Strip
    else (if bytes_eq word (codes "snip") then Some work.Snip
    else (if bytes_eq word (codes "stub") then Some work.Stub else Some work.Why)))))))

named_back : (w : Work) → work_named (work_word w) ≡ Some w
unfolding work_named
named_back work.Gc = refl
named_back work.Report = refl
named_back work.List = refl
named_back work.Check = refl
named_back work.Sections = refl
named_back work.Strip = refl
named_back work.Snip = refl
named_back work.Stub = refl
named_back work.Why = refl

same_work : (v w : Work) → work_word v ≡ work_word w → v ≡ w
same_work v w same = let e : ◌≡◌ {A = Option Work} (Some v) (Some w) = sym (named_back v) ∙ ap work_named same ∙ named_back w in cc

-- ---- what is missing

-- what comes of the four tests
abbrev missing_by : (a g m t : Bool) → Option Wrong
missing_by a g m t = if a then Some OperandMissing else (if g then Some NoSection else (if m then Some NothingMeant else (if t then Some Apart else None)))

-- where it has to be and isn't
must_not : (s g : Bool) → (s && not g) ≡ true → (s ≡ true) × (g ≡ false)
must_not true true is = absurd (cc)
must_not true false is = (refl, refl)
must_not false g is = absurd (cc)

-- where it has to be, it is so
must_be : (s g : Bool) → (s && not g) ≡ false → s ≡ true → g ≡ true
must_be true true none is = refl
must_be true false none is = absurd (cc)
must_be false g none is = absurd (cc)

-- it is so wherever it has to be
is_there : (s g : Bool) → (s ≡ true → g ≡ true) → (s && not g) ≡ false
is_there true true there = refl
is_there true false there = let no_such : false ≡ true = there refl in absurd (cc)
is_there false g there = refl

some_none : (x : Option (String Global)) → is_some x ≡ false → x ≡ None
some_none None is = refl
some_none (Some v) is = absurd (cc)

is_missing : (n : Said) (m : Wrong) → missing n ≡ Some m → IsMissing n m
is_missing n m same = by _ refl _ refl _ refl _ refl same
  where
    told : (x : Wrong) → x ≡ m → IsMissing n x → IsMissing n m
    told x is so = subst (λ (y : Wrong). IsMissing n y) is so

    by : (a : Bool) → (has_operand n.work && not (is_some n.operand)) ≡ a → (g : Bool) → (is_strip n.work && not (asks_gone n)) ≡ g → (e : Bool) → (needs n.work && not (names_some n)) ≡ e
        → (t : Bool) → are_apart n.listing ≡ t → missing_by a g e t ≡ Some m → IsMissing n m
    by true is _ _ _ _ _ _ same =
        let q = must_not (has_operand n.work) (is_some n.operand) is in
        told OperandMissing (let e : OperandMissing ≡ m = cc in e) (q.0, some_none n.operand q.1)
    by false _ true is _ _ _ _ same = told NoSection (let e : NoSection ≡ m = cc in e) (must_not (is_strip n.work) (asks_gone n) is)
    by false _ false _ true is _ _ same = told NothingMeant (let e : NothingMeant ≡ m = cc in e) (must_not (needs n.work) (names_some n) is)
    by false _ false _ false _ true is same = told Apart (let e : Apart ≡ m = cc in e) is
    by false _ false _ false _ false _ same = absurd (cc)

nothing_missing : (n : Said) → missing n ≡ None → IsWhole n
nothing_missing n none = by _ refl _ refl _ refl _ refl none
  where
    by : (a : Bool) → (has_operand n.work && not (is_some n.operand)) ≡ a → (g : Bool) → (is_strip n.work && not (asks_gone n)) ≡ g → (e : Bool) → (needs n.work && not (names_some n)) ≡ e
        → (t : Bool) → are_apart n.listing ≡ t → missing_by a g e t ≡ None → IsWhole n
    by true _ g _ e _ t _ none = absurd (cc)
    by false _ true _ e _ t _ none = absurd (cc)
    by false _ false _ true _ t _ none = absurd (cc)
    by false _ false _ false _ true _ none = absurd (cc)
    by false about false gone false meant false together none = record {
      about = must_be (has_operand n.work) (is_some n.operand) about;
      gone = must_be (is_strip n.work) (asks_gone n) gone;
      meant = must_be (needs n.work) (names_some n) meant;
      together = together;
    }

none_missing : (n : Said) → IsWhole n → missing n ≡ None
none_missing n w = by _ _ _ _ (is_there (has_operand n.work) (is_some n.operand) w.about) (is_there (is_strip n.work) (asks_gone n) w.gone) (is_there (needs n.work) (names_some n) w.meant) w.together
  where
    by : (a g e t : Bool) → a ≡ false → g ≡ false → e ≡ false → t ≡ false → missing_by a g e t ≡ None
    by a g e t no_a no_g no_e no_t = ap₂ (λ (a g : Bool). missing_by a g e t) no_a no_g ∙ ap₂ (λ (e t : Bool). missing_by false false e t) no_e no_t

-- ---- what is made is said

reads_of : (w : Work) (words : List Word) (n : Said) → Tells (new_said w) words n → Reads (work_word w ∷ words) n
reads_of w words n r =
    let t = r.turns in record {
      pieces = r.pieces;
      behind = r.behind;
      are = ap₂ (λ (b : Word) (l : List Word). b ∷ l) (ap work_word (sym t.work)) r.are;
      made = r.made;
      known = subst (λ (work : Work). All (λ (f : Flag). has_flag work f ≡ true) (flat_map flag_in r.pieces)) (sym t.work) r.known;
      known_values = subst (λ (work : Work). All (λ (v : Valued). (has_naming work v.0 ≡ true) × IsGood v) (flat_map valued_in r.pieces)) (sym t.work) r.known_values;
      flags = λ f. (λ h. ⊎_elim (λ set. absurd (none_set w f set)) (λ at. at) ((t.flags f).0 h), λ at. (t.flags f).1 (inr at));
      values = t.values;
      output = t.output;
      by = t.by None refl;
      count = t.count None refl;
      plain = t.holds;
      filled = t.filled;
    }

-- ---- what is said is made

value_long : (x : Option Value) → length (one_value x) ≤ 1
value_long None = omega arith
value_long (Some v) = omega arith

one_long : (x : Option (String Global)) → length (one_word x) ≤ 1
one_long None = omega arith
one_long (Some v) = omega arith

two_long : (x y : Option (String Global)) → length (one_word x ++ one_word y) ≤ 2
two_long None y = let one = one_long y in omega (arith, one)
two_long (Some v) y = let one = one_long y in omega (arith, one)

-- there is room for what an order holds
words_fit : (o : Said) → IsFilled o → length (held o) ≤ room_if (has_operand o.work)
words_fit o filled = by (has_operand o.work) refl
  where
    by : (h : Bool) → has_operand o.work ≡ h → length (held o) ≤ room_if h
    by true has = two_long o.operand o.input
    by false has = subst (λ (x : Option (String Global)). length (one_word x ++ one_word o.input) ≤ 1) (sym (filled.none has)) (one_long o.input)

-- the two say as much
record Agrees (n o : Said) : Type 0 where
  pub work : n.work ≡ o.work
  pub flags : (f : Flag) → is_set n f ≡ is_set o f
  pub values : map held_value n.values ≡ map held_value o.values
  pub by : n.listing.by_size ≡ o.listing.by_size
  pub holds : held n ≡ held o
  pub filled : IsFilled n

same_test : (a b : Bool) → (a ≡ true → b ≡ true) → (b ≡ true → a ≡ true) → a ≡ b
same_test true b there back = sym (there refl)
same_test false true there back = back refl
same_test false false there back = refl

no_two : (w : Word) → w ≡ codes "size" → w ≡ codes "index" → ⊥
no_two w one other = differs (codes "size") (codes "index") refl (sym one ∙ other)

same_by : (x : Option Word) (a b : Bool) → IsBy x a → IsBy x b → a ≡ b
same_by None a b is so = is ∙ sym so
same_by (Some w) true true is so = refl
same_by (Some w) true false is so = absurd (no_two w is so)
same_by (Some w) false true is so = absurd (no_two w so is)
same_by (Some w) false false is so = refl

-- where a value names what is taken away or changed, one does that as it is said
named_by : (w : Work) (vs : List Named) → list_any (λ (v : Named). takes_names w v.naming) vs ≡ list_any (λ (v : Valued). takes_names w v.0) (map held_value vs)
named_by w [] = refl
named_by w (v ∷ vs) = ap (λ (b : Bool). takes_names w v.naming || b) (named_by w vs)

module _ (n o : Said) (same : Agrees n o) where
  same_names : names_some n ≡ names_some o
  same_names = named_by n.work n.values ∙ ap₂ (λ (w : Work) (vs : List Valued). list_any (λ (v : Valued). takes_names w v.0) vs) same.work same.values ∙ sym (named_by o.work o.values)

  same_gone : asks_gone n ≡ asks_gone o
  same_gone =
      ap₂ (λ (a b : Bool). a || b)
      (ap₂ (λ (a b : Bool). a || b) (ap₂ (λ (a b : Bool). a || b) (ap₂ (λ (a b : Bool). a || b) same_names (same.flags option.Names)) (same.flags option.Producers)) (same.flags option.Debug))
      (same.flags option.All)

  same_apart : are_apart n.listing ≡ are_apart o.listing
  same_apart =
      ap₂ (λ (a b : Bool). a || b) (ap₂ (λ (a b : Bool). a && b) (same.flags option.Exports) (same.flags option.Imports))
      (ap₂ (λ (a b : Bool). a && b) (ap₂ (λ (a b : Bool). a || b) (same.flags option.Exports) (same.flags option.Imports)) (ap₂ (λ (a b : Bool). a || b) (same.flags option.Dropped) same.by))

  same_operand : has_operand n.work ≡ true → is_some o.operand ≡ true → is_some n.operand ≡ true
  same_operand has some = by n.operand refl o.operand refl some
    where
      by : (x : Option (String Global)) → n.operand ≡ x → (y : Option (String Global)) → o.operand ≡ y → is_some y ≡ true → is_some n.operand ≡ true
      by (Some v) is _ _ _ = ap (λ (z : Option (String Global)). is_some z) is
      by None none (Some v) is _ =
          let empty : held n ≡ [] = ap₂ (λ (a b : Option (String Global)). one_word a ++ one_word b) none (same.filled.first has none) in
          let full : held o ≡ string_bytes v ∷ one_word o.input = ap (λ (a : Option (String Global)). one_word a ++ one_word o.input) is in
          absurd (let none : ◌≡◌ {A = List Word} [] (string_bytes v ∷ one_word o.input) = sym empty ∙ same.holds ∙ full in cc)
      by None _ None _ some = absurd (cc)

  same_whole : IsWhole o → IsWhole n
  same_whole whole = record {
    about = λ has. same_operand has (whole.about (sym (ap has_operand same.work) ∙ has));
    gone = λ is. same_gone ∙ whole.gone (sym (ap is_strip same.work) ∙ is);
    meant = λ is. same_names ∙ whole.meant (sym (ap needs same.work) ∙ is);
    together = same_apart ∙ whole.together;
  }

place_lacks : (n : Said) (p : Place) → is_behind_value p ≡ false → missing n ≡ None → lacking n p ≡ None
place_lacks n Anywhere whole none = none
place_lacks n (Waits k) whole none = absurd (cc)
place_lacks n Behind whole none = none

-- arguments that say an order
module _ (w : Work) (ws : List (String Global)) (o : Said) (r : Reads (work_word w ∷ map string_bytes ws) o) where
  abbrev PutsSo : Type 0
  PutsSo = PutsAll (new_said w) ws Anywhere (flat_map flag_in r.pieces) (flat_map valued_in r.pieces) (flat_map plain_in r.pieces ++ behind_words r.behind)

  its_work : w ≡ o.work
  its_work = same_work w o.work (let head : work_word w ≡ work_word o.work = let are = r.are in cc in head)

  its_words : map string_bytes ws ≡ flat_map piece_words r.pieces ++ ending_words r.behind
  its_words = let all = r.are in cc

  outs_fit : length (flat_map out_of (flat_map valued_in r.pieces)) ≤ 1
  outs_fit = subst (λ (l : List Word). length l ≤ 1) r.output (value_long o.output)

  plains_fit : length (flat_map plain_in r.pieces ++ behind_words r.behind) ≤ room_if (has_operand w)
  plains_fit = subst (λ (l : List Word). length l ≤ room_if (has_operand w)) r.plain (subst (λ (v : Work). length (held o) ≤ room_if (has_operand v)) (sym its_work) (words_fit o r.filled))

  puts_so : PutsSo
  puts_so =
      let outs : length (flat_map out_of (flat_map valued_in r.pieces)) ≤ 1 = outs_fit in
      let small : length (flat_map plain_in r.pieces ++ behind_words r.behind) ≤ room_if (has_operand w) = plains_fit in
      complete r.behind r.pieces ws (new_said w) its_words (record {
        filled = new_filled w;
        made = r.made;
        known = subst (λ (work : Work). All (λ (f : Flag). has_flag work f ≡ true) (flat_map flag_in r.pieces)) (sym its_work) r.known;
        known_values = subst (λ (work : Work). All (λ (v : Valued). (has_naming work v.0 ≡ true) × IsGood v) (flat_map valued_in r.pieces)) (sym its_work) r.known_values;
        outs = omega (arith, outs);
        small = omega (arith, small);
      })

  agrees : (p : PutsSo) → Agrees p.order o
  agrees p =
      let t = p.turns in record {
        work = t.work ∙ its_work;
        flags = λ f. same_test (is_set p.order f) (is_set o f)
            (λ is. (r.flags f).1 (⊎_elim (λ set. absurd (none_set w f set)) (λ at. at) ((t.flags f).0 is)))
            (λ is. (t.flags f).1 (inr ((r.flags f).0 is)));
        values = t.values ∙ sym r.values;
        by = same_by _ _ _ (t.by None refl) r.by;
        holds = t.holds ∙ sym r.plain;
        filled = t.filled;
      }

unsaid : (w : Work) (ws : List (String Global)) → ((n : Said) (p : Place) → put_words (new_said w) Anywhere ws ≡ Ok (n, p) → lacking n p ≡ None → ⊥) → (o : Said) → SaysOrder (work_word w ∷ map string_bytes ws) o → ⊥
unsaid w ws never o says =
    let p = puts_so w ws o says.reads in
    never p.order p.place p.are (place_lacks p.order p.place p.whole (none_missing p.order (same_whole p.order o (agrees w ws o says.reads p) says.whole)))

-- ---- what is wrong

-- what is wrong with what was put, or missing behind it
abbrev pub wrong_of : Put → Option Wrong
wrong_of (Ok s) = lacking s.0 s.1
wrong_of (Err m) = Some m

same_some : (a b : Wrong) → ◌≡◌ {A = Option Wrong} (Some a) (Some b) → a ≡ b
same_some a b same = cc

no_none : (m : Wrong) → ◌≡◌ {A = Option Wrong} (Some m) None → ⊥
no_none m same = cc

is_wrong : (w : Work) (words : List Word) (m : Wrong) (r : Put) → Answers (new_said w) words r → wrong_of r ≡ Some m → IsWrong w words m
is_wrong w words m (Ok (n, Anywhere)) tells is = inr (n, reads_of w words n tells, is_missing n m is)
is_wrong w words m (Ok (n, Waits k)) errs is = inl (subst (λ (x : Wrong). Errs (new_said w) words x) (same_some (NoValue k) m is) errs)
is_wrong w words m (Ok (n, Behind)) tells is = inr (n, reads_of w words n tells, is_missing n m is)
is_wrong w words m (Err e) errs is = inl (subst (λ (x : Wrong). Errs (new_said w) words x) (same_some e m is) errs)

-- what was put is wrong, or something is missing behind it; and then they say no order
wrong_put : (w : Work) (ws : List (String Global)) (m : Wrong) → wrong_of (put_words (new_said w) Anywhere ws) ≡ Some m → IsWrong w (map string_bytes ws) m × ((o : Said) → SaysOrder (work_word w ∷ map string_bytes ws) o → ⊥)
wrong_put w ws m is = (
  is_wrong w (map string_bytes ws) m (put_words (new_said w) Anywhere ws) (answered ws Anywhere (new_said w) (new_filled w)) is,
  unsaid w ws (λ n p put none. no_none m (sym is ∙ ap wrong_of put ∙ none)),
)

says : (w : Work) (ws : List (String Global)) (n : Said) (p : Place) → put_words (new_said w) Anywhere ws ≡ Ok (n, p) → lacking n p ≡ None → SaysOrder (work_word w ∷ map string_bytes ws) n
says w ws n p put none = by p (subst (λ (r : Put). Answers (new_said w) (map string_bytes ws) r) put (answered ws Anywhere (new_said w) (new_filled w))) none
  where
    by : (p : Place) → Answers (new_said w) (map string_bytes ws) (Ok (n, p)) → lacking n p ≡ None → SaysOrder (work_word w ∷ map string_bytes ws) n
    by Anywhere tells none = record { reads = reads_of w (map string_bytes ws) n tells; whole = nothing_missing n none }
    by (Waits k) errs none = absurd (no_none (NoValue k) none)
    by Behind tells none = record { reads = reads_of w (map string_bytes ws) n tells; whole = nothing_missing n none }

-- ---- as the program has them

module _ (w : Work) (ws : List (String Global)) (o : Said) (new : o ≡ new_said w) where
  -- what all of them make of a new order
  abbrev pub Made : Result (Order × Place) Wrong → Type 0
  Made r = ArePut (put_words o Anywhere ws) r

  put_new : (r : Put) → put_words o Anywhere ws ≡ r → put_words (new_said w) Anywhere ws ≡ r
  put_new r is = ap (λ (x : Said). put_words x Anywhere ws) (sym new) ∙ is

  memory : (m : Wrong) → ◌≡◌ {A = Result (Order × Place) Wrong} (Err OutOfMemory) (Err m) → is_memory_wrong m ≡ true
  memory m same = ap is_memory_wrong (let e : m ≡ OutOfMemory = cc in e)

  same_wrong : (e m : Wrong) → ◌≡◌ {A = Result (Order × Place) Wrong} (Err e) (Err m) → e ≡ m
  same_wrong e m same = cc

  no_memory : (s : Order × Place) → ◌≡◌ {A = Result (Order × Place) Wrong} (Ok s) (Err OutOfMemory) → ⊥
  no_memory s same = cc

  pub refused : (r : Result (Order × Place) Wrong) (m : Wrong) → Made r → r ≡ Err m → IsOrdered w (map string_bytes ws) (Err m)
  refused (Ok s) m made is = absurd (cc)
  refused (Err e) m (inl so) is = inr (wrong_put w ws m (ap wrong_of (put_new (Err e) so) ∙ ap (λ (x : Wrong). Some x) (same_wrong e m is)))
  refused (Err e) m (inr none) is = inl (memory m (sym none ∙ is))

  pub lacked : (r : Result (Order × Place) Wrong) (s : Order × Place) (m : Wrong) → Made r → r ≡ Ok s → lacking (said s.0) s.1 ≡ Some m → IsOrdered w (map string_bytes ws) (Err m)
  lacked (Ok t) s m (inl so) is lacks = inr (wrong_put w ws m (ap wrong_of (put_new (Ok (said t.0, t.1)) so) ∙ ap (λ (x : Result (Order × Place) Wrong). wrong_in x) is ∙ lacks))
    where
      wrong_in : Result (Order × Place) Wrong → Option Wrong
      wrong_in (Ok x) = lacking (said x.0) x.1
      wrong_in (Err e) = None
  lacked (Ok t) s m (inr none) is lacks = absurd (no_memory t none)
  lacked (Err e) s m made is lacks = absurd (cc)

  pub said_so : (r : Result (Order × Place) Wrong) (n : Order) (p : Place) → Made r → r ≡ Ok (n, p) → lacking (said n) p ≡ None → IsOrdered w (map string_bytes ws) (Ok n)
  said_so r n p made is none = by (subst Made is made)
    where
      by : Made (Ok (n, p)) → SaysOrder (work_word w ∷ map string_bytes ws) (said n)
      by (inl so) = says w ws (said n) p (put_new (Ok (said n, p)) so) none
      by (inr ran_out) = absurd (no_memory (n, p) ran_out)
