-- What the arguments behind a subcommand say the program makes of them.
use Rattle.std.proofs.Common.{◌≡◌, ◌+◌, ◌≤◌, ◌<◌, Bool, true, false, not, ◌&&◌, List, [], ◌∷◌, ◌++◌, map, length, refl, sym, ap, ap₂, ◌∙◌, subst, codes, string_bytes, arith}
use Rattle.std.specs.Prelude.{All, Option, Some, None, Ok, Err, String, flat_map, is_some, if◌then◌else◌}
use Rattle.std.specs.declared.alloc.Global.{Global}
use Rattle.std.proofs.lemmas.List.{append_assoc, length-append, length-map}
use Rattle.std.proofs.lemmas.List.Concat.{flat_map-append}
use Rattle.std.proofs.lemmas.List.Elements.{All-head, All-tail}
use Rattle.mulkavesh.specs.declared.order.Flag.{Flag}
use Rattle.mulkavesh.specs.declared.order.Flag.TheVariants.{Quiet}
use Rattle.mulkavesh.specs.declared.order.Naming.{Naming}
use Rattle.mulkavesh.specs.declared.order.Naming.TheVariants as naming
use Rattle.mulkavesh.specs.declared.order.Value.{Value}
use Rattle.mulkavesh.specs.declared.order.Work.{Work}
use Rattle.mulkavesh.specs.declared.mistakes.Wrong.TheVariants.{NotTaken, SecondInput, SecondOutput}
use Rattle.mulkavesh.specs.declared.words.Spelling.{Spelling}
use Rattle.mulkavesh.specs.declared.words.Spelling.TheVariants as kind
use Rattle.mulkavesh.specs.declared.words.Place.{Place}
use Rattle.mulkavesh.specs.declared.words.Place.TheVariants.{Anywhere, Value as Waits, Behind}
use Rattle.mulkavesh.specs.Mistakes.{room, room_if}
use Rattle.mulkavesh.specs.Order.{Said, flag_word, has_flag, has_naming, has_operand, joined_front, naming_word, value_bytes}
use Rattle.mulkavesh.specs.Steps.{Put, by_said, put_spelled, put_value, put_word, put_words, set, set_by, set_count, spelling_of, then_at, then_put, with_flag, with_output, with_plain, with_value}
use Rattle.mulkavesh.specs.Words.{IsFilled, IsGood, IsPiece, IsPlain, Piece, SaysBy, Valued, Word, behind_words, ending_words, flag, flag_in, joined, one_value, one_word, out_of, piece_words, plain, plain_in, quiet, valued, valued_in}
use Rattle.mulkavesh.proofs.NumberLemmas.{parsed}
use Rattle.mulkavesh.proofs.Pieces.{Turns, adds, held, turns_both, turns_flag, turns_none, turns_value}
use Rattle.mulkavesh.proofs.Sound.{IsValue, joined_is, joined_value, value_in, value_turns, valued_is, whole_value}
use Rattle.mulkavesh.proofs.Spelling.{ending_spelled, flag_spelled, joined_spelled, naming_spelled, plain_spelled, quiet_spelled}

-- ---- room for plain words

fits_by : (o : Said) (w : String Global) (h : Bool) (a i : Option (String Global)) → has_operand o.work ≡ h → o.operand ≡ a → o.input ≡ i → length (one_word a ++ one_word i) < room_if h
    → (n : Said) × (with_plain o w ≡ Ok n)
fits_by o w true None i has operand input small = (record o { operand = Some w }, ap₂ (λ (h : Bool) (x : Option (String Global)). if h && not (is_some x) then Ok (record o { operand = Some w }) else (if is_some o.input then Err (SecondInput w) else Ok (record o { input = Some w }))) has operand)
fits_by o w true (Some a) None has operand input small = (record o { input = Some w }, ap₂ (λ (h : Bool) (x : Option (String Global)). if h && not (is_some x) then Ok (record o { operand = Some w }) else (if is_some o.input then Err (SecondInput w) else Ok (record o { input = Some w }))) has operand ∙ ap (λ (x : Option (String Global)). if is_some x then Err (SecondInput w) else Ok (record o { input = Some w })) input)
fits_by o w false a None has operand input small = (record o { input = Some w }, ap (λ (h : Bool). if h && not (is_some o.operand) then Ok (record o { operand = Some w }) else (if is_some o.input then Err (SecondInput w) else Ok (record o { input = Some w }))) has ∙ ap (λ (x : Option (String Global)). if is_some x then Err (SecondInput w) else Ok (record o { input = Some w })) input)
fits_by o w true (Some a) (Some i) has operand input small = absurd (omega (arith, small))
fits_by o w false None (Some i) has operand input small = absurd (omega (arith, small))
fits_by o w false (Some a) (Some i) has operand input small = absurd (omega (arith, small))

fits : (o : Said) (w : String Global) → length (held o) < room o.work → (n : Said) × (with_plain o w ≡ Ok n)
fits o w small = fits_by o w (has_operand o.work) o.operand o.input refl refl refl small

-- ---- what is put

-- the place isn't behind an option whose value is the next argument
abbrev pub is_behind_value : Place → Bool
is_behind_value (Waits k) = true
is_behind_value _ = false

pub record PutsAll (o : Said) (ws : List (String Global)) (a : Place) (fs : List Flag) (vs : List Valued) (words : List Word) : Type 0 where
  pub order : Said
  pub place : Place
  pub are : put_words o a ws ≡ Ok (order, place)
  pub whole : is_behind_value place ≡ false
  pub turns : Turns fs vs words o order

-- one word is put, and the others from there
next_word : (o m : Said) (a b : Place) (w : String Global) (ws : List (String Global)) (fs gs : List Flag) (us vs : List Valued) (more words : List Word) → put_word o a w ≡ Ok (m, b) → Turns fs us more o m
    → PutsAll m ws b gs vs words → PutsAll o (w ∷ ws) a (fs ++ gs) (us ++ vs) (more ++ words)
next_word o m a b w ws fs gs us vs more words is t p = record {
  order = p.order;
  place = p.place;
  are = ap (λ (s : Put). then_put (λ (k : Said) (q : Place). put_words k q ws) s) is ∙ p.are;
  whole = p.whole;
  turns = turns_both o m p.order fs gs us vs more words t p.turns;
}

-- a word after which the order is as it was
same_word : (o : Said) (a b : Place) (w : String Global) (ws : List (String Global)) (fs : List Flag) (vs : List Valued) (words : List Word) → put_word o a w ≡ Ok (o, b) → PutsAll o ws b fs vs words → PutsAll o (w ∷ ws) a fs vs words
same_word o a b w ws fs vs words is p = record {
  order = p.order;
  place = p.place;
  are = ap (λ (s : Put). then_put (λ (k : Said) (q : Place). put_words k q ws) s) is ∙ p.are;
  whole = p.whole;
  turns = p.turns;
}

behind_put : (ws : List (String Global)) (o : Said) → IsFilled o → length (held o) + length ws ≤ room o.work → PutsAll o ws Behind [] [] (map string_bytes ws)
behind_put [] o filled small = record { order = o; place = Behind; are = refl; whole = refl; turns = turns_none o filled }
behind_put (w ∷ ws) o filled small =
    let f = fits o w (omega (arith, small)) in
    let t = adds o f.0 w filled f.1 in
    let longer : length (held f.0) ≡ length (held o) + 1 = ap length t.holds ∙ length-append (held o) (string_bytes w ∷ []) in
    let room_stays : room (f.0).work ≡ room o.work = ap room t.work in
    next_word o f.0 Behind Behind w ws [] [] [] [] (string_bytes w ∷ []) (map string_bytes ws) (ap (then_at Behind) f.1) t (behind_put ws f.0 t.filled (omega (arith, small, longer, room_stays)))

-- ---- an argument that is spelled so

-- where its spelling puts it, it is put
spelled_put : (o : Said) (w : String Global) (v : Word) (s : Spelling) (r : Put) → string_bytes w ≡ v → spelling_of v ≡ s → put_spelled o s w ≡ r → put_word o Anywhere w ≡ r
spelled_put o w v s r is spelled put = ap (λ (k : Word). put_spelled o (spelling_of k) w) is ∙ ap (λ (t : Spelling). put_spelled o t w) spelled ∙ put

with_flag_is : (o : Said) (f : Flag) (w : String Global) → has_flag o.work f ≡ true → then_at Anywhere (with_flag o f w) ≡ Ok (set o f, Anywhere)
with_flag_is o f w has = ap (λ (h : Bool). then_at Anywhere (if h then Ok (set o f) else Err (NotTaken w))) has

waiting_is : (o : Said) (k : Naming) (w : String Global) → has_naming o.work k ≡ true → put_spelled o (kind.Naming k) w ≡ Ok (o, Waits k)
waiting_is o k w has = ap (λ (h : Bool). if h then Ok (o, Waits k) else Err (NotTaken w)) has

joined_put : (o : Said) (k : Naming) (w : String Global) → has_naming o.work k ≡ true → put_spelled o (kind.Joined k) w ≡ put_value o k w (Some k)
joined_put o k w has = ap (λ (h : Bool). if h then put_value o k w (Some k) else Err (NotTaken w)) has

-- ---- room for values

free_by : (x : Option Value) → 1 + length (one_value x) ≤ 1 → x ≡ None
free_by None small = refl
free_by (Some v) small = absurd (omega (arith, small))

with_output_free : (o : Said) (v : Value) → o.output ≡ None → with_output o v ≡ Ok (record o { output = Some v })
with_output_free o v free = ap (λ (x : Option Value). if is_some x then Err (SecondOutput v) else Ok (record o { output = Some v })) free

by_fits : (o : Said) (v : Value) (b : Bool) → SaysBy (value_bytes v) b → by_said (value_bytes v) ≡ Some b
by_fits o v true is = ap by_said is
by_fits o v false is = ap by_said is

value_fits : (k : Naming) (o : Said) (v : Value) → IsGood (k, value_bytes v) → length (flat_map out_of ((k, value_bytes v) ∷ [])) + length (one_value o.output) ≤ 1 → (n : Said) × (with_value o k v ≡ Ok n)
value_fits naming.Short o v good small = (record o { output = Some v }, with_output_free o v (free_by o.output small))
value_fits naming.Long o v good small = (record o { output = Some v }, with_output_free o v (free_by o.output small))
value_fits naming.By o v (b, is) small = (record o { listing = record (o.listing) { by_size = b } }, ap (set_by o v) (by_fits o v b is))
value_fits naming.Count o v (n, is) small = (record o { listing = record (o.listing) { count = Some n } }, ap (set_count o v) (parsed (value_bytes v) n is))
value_fits naming.Section o v good small = (record o { values = o.values ++ record { naming = naming.Section; value = v } ∷ [] }, refl)
value_fits naming.Keep o v good small = (record o { values = o.values ++ record { naming = naming.Keep; value = v } ∷ [] }, refl)
value_fits naming.Drop o v good small = (record o { values = o.values ++ record { naming = naming.Drop; value = v } ∷ [] }, refl)
value_fits naming.Function o v good small = (record o { values = o.values ++ record { naming = naming.Function; value = v } ∷ [] }, refl)
value_fits naming.Module o v good small = (record o { values = o.values ++ record { naming = naming.Module; value = v } ∷ [] }, refl)
value_fits naming.Import o v good small = (record o { values = o.values ++ record { naming = naming.Import; value = v } ∷ [] }, refl)

-- ---- piece by piece

behind_all : {X : Type 0} (P : X → Type 0) (xs ys : List X) → All P (xs ++ ys) → All P ys
behind_all P [] ys all = all
behind_all P (x ∷ xs) ys all = behind_all P xs ys (All-tail P x (xs ++ ys) all)

module _ (b : Option (List Word)) where
  abbrev pub words_of : List Piece → List Word
  words_of ps = flat_map piece_words ps ++ ending_words b

  abbrev pub plains_of : List Piece → List Word
  plains_of ps = flat_map plain_in ps ++ behind_words b

  abbrev pub outs_of : List Piece → List Word
  outs_of ps = flat_map out_of (flat_map valued_in ps)

  -- there is room for the pieces in an order that is begun, and its subcommand has their options
  pub record Suit (ps : List Piece) (o : Said) : Type 0 where
    pub filled : IsFilled o
    pub made : All IsPiece ps
    pub known : All (λ (f : Flag). has_flag o.work f ≡ true) (flat_map flag_in ps)
    pub known_values : All (λ (v : Valued). (has_naming o.work v.0 ≡ true) × IsGood v) (flat_map valued_in ps)
    pub outs : length (outs_of ps) + length (one_value o.output) ≤ 1
    pub small : length (held o) + length (plains_of ps) ≤ room o.work

  outs_long : (p : Piece) (ps : List Piece) → length (outs_of (p ∷ ps)) ≡ length (flat_map out_of (valued_in p)) + length (outs_of ps)
  outs_long p ps = ap length (flat_map-append out_of (valued_in p) (flat_map valued_in ps)) ∙ length-append (flat_map out_of (valued_in p)) (outs_of ps)

  -- behind a piece the others suit
  others_suit : (p : Piece) (ps : List Piece) (o m : Said) → Turns (flag_in p) (valued_in p) (plain_in p) o m → Suit (p ∷ ps) o → Suit ps m
  others_suit p ps o m t s =
      let out_long : length (one_value m.output) ≡ length (one_value o.output) + length (flat_map out_of (valued_in p)) = ap length t.output ∙ length-append (one_value o.output) (flat_map out_of (valued_in p)) in
      let all_outs : length (outs_of (p ∷ ps)) ≡ length (flat_map out_of (valued_in p)) + length (outs_of ps) = outs_long p ps in
      let held_long : length (held m) ≡ length (held o) + length (plain_in p) = ap length t.holds ∙ length-append (held o) (plain_in p) in
      let all_plains : length (plains_of (p ∷ ps)) ≡ length (plain_in p) + length (plains_of ps) = ap length (append_assoc (plain_in p) (flat_map plain_in ps) (behind_words b)) ∙ length-append (plain_in p) (plains_of ps) in
      let room_stays : room m.work ≡ room o.work = ap room t.work in
      let old_outs : length (outs_of (p ∷ ps)) + length (one_value o.output) ≤ 1 = s.outs in
      let old_small : length (held o) + length (plains_of (p ∷ ps)) ≤ room o.work = s.small in record {
        filled = t.filled;
        made = All-tail IsPiece p ps s.made;
        known = subst (λ (work : Work). All (λ (f : Flag). has_flag work f ≡ true) (flat_map flag_in ps)) (sym t.work) (behind_all (λ (f : Flag). has_flag o.work f ≡ true) (flag_in p) (flat_map flag_in ps) s.known);
        known_values = subst (λ (work : Work). All (λ (v : Valued). (has_naming work v.0 ≡ true) × IsGood v) (flat_map valued_in ps)) (sym t.work)
            (behind_all (λ (v : Valued). (has_naming o.work v.0 ≡ true) × IsGood v) (valued_in p) (flat_map valued_in ps) s.known_values);
        outs = omega (arith, old_outs, out_long, all_outs);
        small = omega (arith, old_small, held_long, all_plains, room_stays);
      }

  abbrev pub Completes : List Piece → Said → List (String Global) → Place → Type 0
  Completes ps o ws a = PutsAll o ws a (flat_map flag_in ps) (flat_map valued_in ps) (plains_of ps)

  -- an argument that ends a piece, and the others
  piece_put : (p : Piece) (ps : List Piece) (o m : Said) (a : Place) (w : String Global) (ws : List (String Global)) → put_word o a w ≡ Ok (m, Anywhere) → Turns (flag_in p) (valued_in p) (plain_in p) o m
      → Completes ps m ws Anywhere → Completes (p ∷ ps) o (w ∷ ws) a
  piece_put p ps o m a w ws is t c =
      subst (λ (l : List Word). PutsAll o (w ∷ ws) a (flat_map flag_in (p ∷ ps)) (flat_map valued_in (p ∷ ps)) l) (sym (append_assoc (plain_in p) (flat_map plain_in ps) (behind_words b)))
      (next_word o m a Anywhere w ws (flag_in p) (flat_map flag_in ps) (valued_in p) (flat_map valued_in ps) (plain_in p) (plains_of ps) is t c)

  -- a value is put
  record ValuePut (p : Piece) (k : Naming) (o : Said) (v : Value) : Type 0 where
    pub order : Said
    pub put : with_value o k v ≡ Ok order
    pub turns : Turns (flag_in p) (valued_in p) (plain_in p) o order

  -- what the option of the first piece is said to have
  first_value : (p : Piece) (ps : List Piece) (k : Naming) (o : Said) (l : Word) → valued_in p ≡ (k, l) ∷ [] → Suit (p ∷ ps) o → (has_naming o.work k ≡ true) × IsGood (k, l)
  first_value p ps k o l is s =
      All-head (λ (v : Valued). (has_naming o.work v.0 ≡ true) × IsGood v) (k, l) (flat_map valued_in ps)
      (subst (λ (vs : List Valued). All (λ (v : Valued). (has_naming o.work v.0 ≡ true) × IsGood v) (vs ++ flat_map valued_in ps)) is s.known_values)

  value_put : (p : Piece) (ps : List Piece) (k : Naming) (o : Said) (v : Value) → Suit (p ∷ ps) o → IsValue p k (value_bytes v) → ValuePut p k o v
  value_put p ps k o v s is =
      let all_outs : length (outs_of (p ∷ ps)) ≡ length (flat_map out_of (valued_in p)) + length (outs_of ps) = outs_long p ps in
      let its_outs : length (flat_map out_of (valued_in p)) ≡ length (flat_map out_of ((k, value_bytes v) ∷ [])) = ap (λ (vs : List Valued). length (flat_map out_of vs)) is.values in
      let old_outs : length (outs_of (p ∷ ps)) + length (one_value o.output) ≤ 1 = s.outs in
      let f = value_fits k o v (first_value p ps k o (value_bytes v) is.values s).1 (omega (arith, old_outs, all_outs, its_outs)) in
      record { order = f.0; put = f.1; turns = value_turns p k o f.0 v is (turns_value o f.0 v s.filled k f.1) }

  pub complete : (ps : List Piece) (ws : List (String Global)) (o : Said) → map string_bytes ws ≡ words_of ps → Suit ps o → Completes ps o ws Anywhere
  complete ps [] o are s = nothing ps b are
    where
      nothing : (ps : List Piece) (b : Option (List Word)) → ◌≡◌ {A = List Word} [] (flat_map piece_words ps ++ ending_words b) → PutsAll o [] Anywhere (flat_map flag_in ps) (flat_map valued_in ps) (flat_map plain_in ps ++ behind_words b)
      nothing [] None are = record { order = o; place = Anywhere; are = refl; whole = refl; turns = turns_none o s.filled }
      nothing [] (Some words) are = absurd (cc)
      nothing (flag f ∷ ps) b are = absurd (cc)
      nothing (quiet ∷ ps) b are = absurd (cc)
      nothing (valued k v ∷ ps) b are = absurd (cc)
      nothing (joined k v ∷ ps) b are = absurd (cc)
      nothing (plain v ∷ ps) b are = absurd (cc)
  complete [] (w ∷ ws) o are s = ending b are s.small
    where
      ending : (b : Option (List Word)) → string_bytes w ∷ map string_bytes ws ≡ ending_words b → length (held o) + length (behind_words b) ≤ room o.work → PutsAll o (w ∷ ws) Anywhere [] [] (behind_words b)
      ending None are small = absurd (cc)
      ending (Some words) are small =
          let is : string_bytes w ≡ codes "--" = cc in
          let same : map string_bytes ws ≡ words = cc in
          let long : length words ≡ length ws = ap length (sym same) ∙ length-map ws string_bytes in
          subst (λ (l : List Word). PutsAll o (w ∷ ws) Anywhere [] [] l) same
          (same_word o Anywhere Behind w ws [] [] (map string_bytes ws) (spelled_put o w (codes "--") kind.Ending _ is ending_spelled refl) (behind_put ws o s.filled (omega (arith, small, long))))
  complete (flag f ∷ ps) (w ∷ ws) o are s =
      let is : string_bytes w ≡ flag_word f = cc in
      let same : map string_bytes ws ≡ words_of ps = cc in
      let has : has_flag o.work f ≡ true = All-head (λ (f : Flag). has_flag o.work f ≡ true) f (flat_map flag_in ps) s.known in
      let t = turns_flag o f s.filled in
      piece_put (flag f) ps o (set o f) Anywhere w ws (spelled_put o w (flag_word f) (kind.Flag f) _ is (flag_spelled f) (with_flag_is o f w has)) t (complete ps ws (set o f) same (others_suit (flag f) ps o (set o f) t s))
  complete (quiet ∷ ps) (w ∷ ws) o are s =
      let is : string_bytes w ≡ codes "-q" = cc in
      let same : map string_bytes ws ≡ words_of ps = cc in
      let has : has_flag o.work Quiet ≡ true = All-head (λ (g : Flag). has_flag o.work g ≡ true) Quiet (flat_map flag_in ps) s.known in
      let t = turns_flag o Quiet s.filled in
      piece_put quiet ps o (set o Quiet) Anywhere w ws (spelled_put o w (codes "-q") (kind.Flag Quiet) _ is quiet_spelled (with_flag_is o Quiet w has)) t (complete ps ws (set o Quiet) same (others_suit quiet ps o (set o Quiet) t s))
  complete (valued k v ∷ ps) (w ∷ []) o are s = absurd (let tail : ◌≡◌ {A = List Word} [] (v ∷ words_of ps) = cc in cc)
  complete (valued k v ∷ ps) (w ∷ u ∷ ws) o are s =
      let is : string_bytes w ≡ naming_word k = cc in
      let same : map string_bytes ws ≡ words_of ps = cc in
      let value_is : string_bytes u ≡ v = cc in
      let has : has_naming o.work k ≡ true = (first_value (valued k v) ps k o v refl s).0 in
      let p = value_put (valued k v) ps k o (value_in u None) s (valued_is k (value_in u None) v (whole_value u ∙ value_is)) in
      same_word o Anywhere (Waits k) w (u ∷ ws) (flat_map flag_in (valued k v ∷ ps)) (flat_map valued_in (valued k v ∷ ps)) (plains_of (valued k v ∷ ps)) (spelled_put o w (naming_word k) (kind.Naming k) _ is (naming_spelled k) (waiting_is o k w has))
      (piece_put (valued k v) ps o p.order (Waits k) u ws (ap (then_at Anywhere) p.put) p.turns (complete ps ws p.order same (others_suit (valued k v) ps o p.order p.turns s)))
  complete (joined k v ∷ ps) (w ∷ ws) o are s =
      let is : string_bytes w ≡ joined_front (Some k) ++ v = cc in
      let same : map string_bytes ws ≡ words_of ps = cc in
      let made : IsPiece (joined k v) = All-head IsPiece (joined k v) ps s.made in
      let has : has_naming o.work k ≡ true = (first_value (joined k v) ps k o v refl s).0 in
      let p = value_put (joined k v) ps k o (value_in w (Some k)) s (joined_is k (value_in w (Some k)) v (joined_value w k v is) made) in
      piece_put (joined k v) ps o p.order Anywhere w ws (spelled_put o w (joined_front (Some k) ++ v) (kind.Joined k) _ is (joined_spelled k v made) (joined_put o k w has ∙ ap (then_at Anywhere) p.put)) p.turns
      (complete ps ws p.order same (others_suit (joined k v) ps o p.order p.turns s))
  complete (plain v ∷ ps) (w ∷ ws) o are s =
      let is : string_bytes w ≡ v = cc in
      let same : map string_bytes ws ≡ words_of ps = cc in
      let is_plain : IsPlain v = All-head IsPiece (plain v) ps s.made in
      let small : length (held o) + length (plains_of (plain v ∷ ps)) ≤ room o.work = s.small in
      let f = fits o w (omega (arith, small)) in
      let t : Turns [] [] (v ∷ []) o f.0 = subst (λ (l : Word). Turns [] [] (l ∷ []) o f.0) is (adds o f.0 w s.filled f.1) in
      piece_put (plain v) ps o f.0 Anywhere w ws (spelled_put o w v kind.Plain _ is (plain_spelled v is_plain) (ap (then_at Anywhere) f.1)) t (complete ps ws f.0 same (others_suit (plain v) ps o f.0 t s))
