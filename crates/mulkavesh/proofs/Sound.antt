-- What the program makes of the arguments behind a subcommand they say, and what it says is wrong with them is wrong.
use Rattle.std.proofs.Common.{◌≡◌, Bool, true, false, List, [], ◌∷◌, ◌++◌, length, map, refl, sym, ap, ◌∙◌, subst, inl, inr, codes, string_bytes}
use Rattle.std.specs.Prelude.{All, Option, Some, None, Result, Ok, Err, String, flat_map, if◌then◌else◌}
use Rattle.std.specs.declared.alloc.Global.{Global}
use Rattle.std.proofs.lemmas.List.{append-nil, append_assoc}
use Rattle.std.proofs.lemmas.List.Elements.{All-append, All-cons, All-nil}
use Rattle.mulkavesh.specs.declared.order.Flag.{Flag}
use Rattle.mulkavesh.specs.declared.order.Flag.TheVariants.{Quiet}
use Rattle.mulkavesh.specs.declared.order.Naming.{Naming}
use Rattle.mulkavesh.specs.declared.order.Value.{Value}
use Rattle.mulkavesh.specs.declared.order.Work.{Work}
use Rattle.mulkavesh.specs.declared.mistakes.Wrong.{Wrong}
use Rattle.mulkavesh.specs.declared.mistakes.Wrong.TheVariants.{BadValue, NotTaken, NoValue, SecondInput, SecondOutput, TakesNoValue, UnknownOption}
use Rattle.mulkavesh.specs.declared.words.Spelling.{Spelling}
use Rattle.mulkavesh.specs.declared.words.Spelling.TheVariants as kind
use Rattle.mulkavesh.specs.declared.words.Place.{Place}
use Rattle.mulkavesh.specs.declared.words.Place.TheVariants as place
use Rattle.mulkavesh.specs.Mistakes.{IsNamed}
use Rattle.mulkavesh.specs.Order.{Said, has_flag, has_naming, joined_front, naming_word, value_bytes, without}
use Rattle.mulkavesh.specs.Steps.{Put, put_spelled, put_value, put_words, set, spelling_of, then_at, then_put, with_plain, with_value}
use Rattle.mulkavesh.specs.Words.{IsFilled, IsGood, IsPiece, IsPlain, Piece, Valued, Word, behind_words, ending_words, flag, flag_in, joined, out_of, piece_words, plain, plain_in, quiet, valued, valued_in}
use Rattle.mulkavesh.proofs.Spelling.{IsFlagWord, IsSpelled, flag_piece, spelled_is, without_front}
use Rattle.mulkavesh.proofs.Pieces.{Puts, Suits, Turns, adds, held, suits_flag, suits_plain, suits_value, turns_both, turns_flag, turns_none, turns_value}
use Rattle.mulkavesh.proofs.Wrongs.{Errs, ErrsBehind, ValueRefused, behind_more, errs_ending, errs_more, here, refused_plain, refused_value}

-- ---- what arguments say of an order that is begun

pub record Tells (o : Said) (words : List Word) (n : Said) : Type 0 where
  pub pieces : List Piece
  pub behind : Option (List Word)
  pub are : words ≡ flat_map piece_words pieces ++ ending_words behind
  pub made : All IsPiece pieces
  pub known : All (λ (f : Flag). has_flag o.work f ≡ true) (flat_map flag_in pieces)
  pub known_values : All (λ (v : Valued). (has_naming o.work v.0 ≡ true) × IsGood v) (flat_map valued_in pieces)
  pub turns : Turns (flat_map flag_in pieces) (flat_map valued_in pieces) (flat_map plain_in pieces ++ behind_words behind) o n

tells_none : (o : Said) → IsFilled o → Tells o [] o
tells_none o filled = record {
  pieces = [];
  behind = None;
  are = refl;
  made = All-nil IsPiece;
  known = All-nil (λ (f : Flag). has_flag o.work f ≡ true);
  known_values = All-nil (λ (v : Valued). (has_naming o.work v.0 ≡ true) × IsGood v);
  turns = turns_none o filled;
}

-- with a piece in front
tells_more : (p : Piece) (o m n : Said) (words : List Word) → Suits p o.work → Turns (flag_in p) (valued_in p) (plain_in p) o m → Tells m words n → Tells o (piece_words p ++ words) n
tells_more p o m n words s t r = record {
  pieces = p ∷ r.pieces;
  behind = r.behind;
  are = ap (λ (l : List Word). piece_words p ++ l) r.are ∙ sym (append_assoc (piece_words p) (flat_map piece_words r.pieces) (ending_words r.behind));
  made = All-cons IsPiece p r.pieces s.made r.made;
  known = All-append (λ (f : Flag). has_flag o.work f ≡ true) (flag_in p) _ s.known (subst (λ (work : Work). All (λ (f : Flag). has_flag work f ≡ true) (flat_map flag_in r.pieces)) t.work r.known);
  known_values = All-append (λ (v : Valued). (has_naming o.work v.0 ≡ true) × IsGood v) (valued_in p) _ s.known_values
      (subst (λ (work : Work). All (λ (v : Valued). (has_naming work v.0 ≡ true) × IsGood v) (flat_map valued_in r.pieces)) t.work r.known_values);
  turns = subst (λ (l : List Word). Turns (flag_in p ++ flat_map flag_in r.pieces) (valued_in p ++ flat_map valued_in r.pieces) l o n) (sym (append_assoc (plain_in p) (flat_map plain_in r.pieces) (behind_words r.behind)))
      (turns_both o m n (flag_in p) (flat_map flag_in r.pieces) (valued_in p) (flat_map valued_in r.pieces) (plain_in p) (flat_map plain_in r.pieces ++ behind_words r.behind) t r.turns);
}

tells_ending : (o n : Said) (words : List Word) → Turns [] [] words o n → Tells o (codes "--" ∷ words) n
tells_ending o n words t = record {
  pieces = [];
  behind = Some words;
  are = refl;
  made = All-nil IsPiece;
  known = All-nil (λ (f : Flag). has_flag o.work f ≡ true);
  known_values = All-nil (λ (v : Valued). (has_naming o.work v.0 ≡ true) × IsGood v);
  turns = t;
}

-- ---- what they say, or what is wrong with them

-- behind an option that has a value, none stands there
abbrev pub Ends : Said → List Word → Said → Place → Type 0
Ends o words n place.Anywhere = Tells o words n
Ends o words n (place.Value k) = Errs o words (NoValue k)
Ends o words n place.Behind = Tells o words n

abbrev pub Answers : Said → List Word → Put → Type 0
Answers o words (Ok s) = Ends o words s.0 s.1
Answers o words (Err m) = Errs o words m

answers_more : (p : Piece) (o m : Said) (words : List Word) (r : Put) → Suits p o.work → Turns (flag_in p) (valued_in p) (plain_in p) o m → Answers m words r → Answers o (piece_words p ++ words) r
answers_more p o m words (Ok (n, place.Anywhere)) s t a = tells_more p o m n words s t a
answers_more p o m words (Ok (n, place.Value k)) s t a = errs_more p (flag_in p) o m words (NoValue k) s.made t a
answers_more p o m words (Ok (n, place.Behind)) s t a = tells_more p o m n words s t a
answers_more p o m words (Err e) s t a = errs_more p (flag_in p) o m words e s.made t a

-- behind `--`
abbrev pub AnswersBehind : Said → List Word → Put → Type 0
AnswersBehind o words (Ok s) = (s.1 ≡ place.Behind) × Turns [] [] words o s.0
AnswersBehind o words (Err m) = ErrsBehind o words m

behind_one : (o m : Said) (word : Word) (words : List Word) (r : Put) → Turns [] [] (word ∷ []) o m → AnswersBehind m words r → AnswersBehind o (word ∷ words) r
behind_one o m word words (Ok s) t a = (a.0, turns_both o m s.0 [] [] [] [] (word ∷ []) words t a.1)
behind_one o m word words (Err e) t a = behind_more o m word words e t a

answers_ending : (o : Said) (words : List Word) (r : Put) → AnswersBehind o words r → Answers o (codes "--" ∷ words) r
answers_ending o words (Ok s) a = subst (λ (p : Place). Ends o (codes "--" ∷ words) s.0 p) (sym a.0) (tells_ending o s.0 words a.1)
answers_ending o words (Err m) e = errs_ending o words m e

-- where the first of them stands
abbrev pub AnswersAt : Place → Said → List Word → Put → Type 0
AnswersAt place.Anywhere o words r = Answers o words r
AnswersAt (place.Value k) o words r = has_naming o.work k ≡ true → Answers o (naming_word k ∷ words) r
AnswersAt place.Behind o words r = AnswersBehind o words r

-- ---- an option and its value

-- the value that an argument has as a whole, or behind an option in it
abbrev pub value_in : String Global → Option Naming → Value
value_in w front = record { argument = w; joined = front }

pub whole_value : (w : String Global) → value_bytes (value_in w None) ≡ string_bytes w
whole_value w = without_front [] (string_bytes w)

pub joined_value : (w : String Global) (k : Naming) (rest : Word) → string_bytes w ≡ joined_front (Some k) ++ rest → value_bytes (value_in w (Some k)) ≡ rest
joined_value w k rest is = ap (without (joined_front (Some k))) is ∙ without_front (joined_front (Some k)) rest

-- the piece is this option and this value
pub record IsValue (p : Piece) (k : Naming) (w : Word) : Type 0 where
  pub made : IsPiece p
  pub flags : flag_in p ≡ []
  pub values : valued_in p ≡ (k, w) ∷ []
  pub plains : plain_in p ≡ []

pub valued_is : (k : Naming) (v : Value) (w : Word) → value_bytes v ≡ w → IsValue (valued k w) k (value_bytes v)
valued_is k v w is = record { made = tt; flags = refl; values = ap (λ (l : Word). (k, l) ∷ []) (sym is); plains = refl }

pub joined_is : (k : Naming) (v : Value) (w : Word) → value_bytes v ≡ w → IsPiece (joined k w) → IsValue (joined k w) k (value_bytes v)
joined_is k v w is made = record { made = made; flags = refl; values = ap (λ (l : Word). (k, l) ∷ []) (sym is); plains = refl }

-- it is put
pub value_turns : (p : Piece) (k : Naming) (o n : Said) (v : Value) → IsValue p k (value_bytes v) → Puts k o n v → Turns (flag_in p) (valued_in p) (plain_in p) o n
value_turns p k o n v is puts =
    subst (λ (fs : List Flag). Turns fs (valued_in p) (plain_in p) o n) (sym is.flags)
    (subst (λ (vs : List Valued). Turns [] vs (plain_in p) o n) (sym is.values)
    (subst (λ (ws : List Word). Turns [] ((k, value_bytes v) ∷ []) ws o n) (sym is.plains) puts.turns))

pub value_suits : (p : Piece) (k : Naming) (w : Work) (l : Word) → IsValue p k l → has_naming w k ≡ true → IsGood (k, l) → Suits p w
value_suits p k w l is has good = suits_value w p (k, l) is.made is.flags is.values has good

-- ---- argument for argument

module _ (w : String Global) (ws : List (String Global)) (o : Said) (filled : IsFilled o)
    (rest : (a : Place) (m : Said) → IsFilled m → AnswersAt a m (map string_bytes ws) (put_words m a ws)) where
  -- what comes of the others behind this
  abbrev then_all : Put → Put
  then_all s = then_put (λ (k : Said) (q : Place). put_words k q ws) s

  abbrev words : List Word
  words = string_bytes w ∷ map string_bytes ws

  -- one piece in front of the others
  in_front : (p : Piece) (m : Said) → piece_words p ≡ string_bytes w ∷ [] → Suits p o.work → Turns (flag_in p) (valued_in p) (plain_in p) o m → Answers o words (put_words m place.Anywhere ws)
  in_front p m are s t =
      subst (λ (l : List Word). Answers o (l ++ map string_bytes ws) (put_words m place.Anywhere ws)) are
      (answers_more p o m (map string_bytes ws) (put_words m place.Anywhere ws) s t (rest place.Anywhere m t.filled))

  as_plain : IsPlain (string_bytes w) → Answers o words (then_all (then_at place.Anywhere (with_plain o w)))
  as_plain is_plain = by (with_plain o w) refl
    where
      by : (r : Result Said Wrong) → with_plain o w ≡ r → Answers o words (then_all (then_at place.Anywhere r))
      by (Ok m) is = in_front (plain (string_bytes w)) m refl (suits_plain o.work (string_bytes w) is_plain) (adds o m w filled is)
      by (Err e) is =
          let r = refused_plain o w e filled is in
          subst (λ (x : Wrong). Errs o words x) r.0
          (here o words (SecondInput w) (None, map string_bytes ws, refl, (λ none. is_plain), ap length (append-nil (held o)) ∙ r.1))

  as_behind : AnswersBehind o words (then_all (then_at place.Behind (with_plain o w)))
  as_behind = by (with_plain o w) refl
    where
      by : (r : Result Said Wrong) → with_plain o w ≡ r → AnswersBehind o words (then_all (then_at place.Behind r))
      by (Ok m) is = let t = adds o m w filled is in behind_one o m (string_bytes w) (map string_bytes ws) (put_words m place.Behind ws) t (rest place.Behind m t.filled)
      by (Err e) is =
          let r = refused_plain o w e filled is in
          record { before = []; second = w; rest = map string_bytes ws; are = refl; is = r.0; full = ap length (append-nil (held o)) ∙ r.1 }

  as_flag : (f : Flag) → IsFlagWord (string_bytes w) f → Answers o words (then_all (then_at place.Anywhere (if has_flag o.work f then Ok (set o f) else Err (NotTaken w))))
  as_flag f is = by (has_flag o.work f) refl
    where
      named : (f : Flag) → IsFlagWord (string_bytes w) f → has_flag o.work f ≡ true → Answers o words (put_words (set o f) place.Anywhere ws)
      named f (inl is) has = in_front (flag f) (set o f) (ap (λ (l : Word). l ∷ []) (sym is)) (suits_flag o.work (flag f) f tt refl refl has) (turns_flag o f filled)
      named f (inr q) has =
          subst (λ (g : Flag). Answers o words (put_words (set o g) place.Anywhere ws)) (sym q.0)
          (in_front quiet (set o Quiet) (ap (λ (l : Word). l ∷ []) (sym q.1)) (suits_flag o.work quiet Quiet tt refl refl (sym (ap (λ (g : Flag). has_flag o.work g) q.0) ∙ has)) (turns_flag o Quiet filled))

      by : (b : Bool) → has_flag o.work f ≡ b → Answers o words (then_all (then_at place.Anywhere (if b then Ok (set o f) else Err (NotTaken w))))
      by true has = named f is has
      by false has = here o words (NotTaken w) (map string_bytes ws, refl, inl (f, flag_piece (string_bytes w) f is, has))

  -- the option isn't one of the subcommand
  not_taken : (k : Naming) → IsNamed k (string_bytes w) → has_naming o.work k ≡ false → Errs o words (NotTaken w)
  not_taken k named has = here o words (NotTaken w) (map string_bytes ws, refl, inr (k, named, has))

  -- a piece that is an option and its value, in front of these arguments
  as_value : (p : Piece) (k : Naming) (v : Value) → IsValue p k (value_bytes v) → has_naming o.work k ≡ true → Answers o (piece_words p ++ map string_bytes ws) (then_all (then_at place.Anywhere (with_value o k v)))
  as_value p k v value has = by (with_value o k v) refl
    where
      by : (r : Result Said Wrong) → with_value o k v ≡ r → Answers o (piece_words p ++ map string_bytes ws) (then_all (then_at place.Anywhere r))
      by (Ok m) is =
          let puts = turns_value o m v filled k is in
          let t = value_turns p k o m v value puts in
          answers_more p o m (map string_bytes ws) (put_words m place.Anywhere ws) (value_suits p k o.work (value_bytes v) value has puts.good) t (rest place.Anywhere m t.filled)
      by (Err e) is = refused (refused_value k o v e is)
        where
          refused : ValueRefused k o v e → Errs o (piece_words p ++ map string_bytes ws) e
          refused (inl r) =
              subst (λ (x : Wrong). Errs o (piece_words p ++ map string_bytes ws) x) r.0
              (here o (piece_words p ++ map string_bytes ws) (SecondOutput v) (p, map string_bytes ws, value.made, refl, ap (flat_map out_of) value.values ∙ r.1, r.2))
          refused (inr r) =
              subst (λ (x : Wrong). Errs o (piece_words p ++ map string_bytes ws) x) r.0
              (here o (piece_words p ++ map string_bytes ws) (BadValue k v) (p, map string_bytes ws, value.made, refl, value.values, has, r.1))

  as_naming : (k : Naming) → string_bytes w ≡ naming_word k → Answers o words (then_all (if has_naming o.work k then Ok (o, place.Value k) else Err (NotTaken w)))
  as_naming k is = by (has_naming o.work k) refl
    where
      by : (b : Bool) → has_naming o.work k ≡ b → Answers o words (then_all (if b then Ok (o, place.Value k) else Err (NotTaken w)))
      by true has = subst (λ (l : Word). Answers o (l ∷ map string_bytes ws) (put_words o (place.Value k) ws)) (sym is) (rest (place.Value k) o filled has)
      by false has = not_taken k (inl is) has

  as_joined : (k : Naming) → IsSpelled (string_bytes w) (kind.Joined k) → Answers o words (then_all (if has_naming o.work k then put_value o k w (Some k) else Err (NotTaken w)))
  as_joined k (l, is, made) = by (has_naming o.work k) refl
    where
      by : (b : Bool) → has_naming o.work k ≡ b → Answers o words (then_all (if b then put_value o k w (Some k) else Err (NotTaken w)))
      by true has =
          subst (λ (first : Word). Answers o (first ∷ map string_bytes ws) (then_all (put_value o k w (Some k)))) (sym is)
          (as_value (joined k l) k (value_in w (Some k)) (joined_is k (value_in w (Some k)) l (joined_value w k l is) made) has)
      by false has = not_taken k (inr (l, is)) has

  as_spelled : (s : Spelling) → IsSpelled (string_bytes w) s → Answers o words (then_all (put_spelled o s w))
  as_spelled (kind.Flag f) is = as_flag f is
  as_spelled kind.Valued is = here o words (TakesNoValue w) (map string_bytes ws, refl, is)
  as_spelled (kind.Naming k) is = as_naming k is
  as_spelled (kind.Joined k) is = as_joined k is
  as_spelled kind.Ending is =
      subst (λ (l : Word). Answers o (l ∷ map string_bytes ws) (put_words o place.Behind ws)) (sym is)
      (answers_ending o (map string_bytes ws) (put_words o place.Behind ws) (rest place.Behind o filled))
  as_spelled kind.Unknown is = here o words (UnknownOption w) (map string_bytes ws, refl, is)
  as_spelled kind.Plain is = as_plain is

  at_word : Answers o words (put_words o place.Anywhere (w ∷ ws))
  at_word = as_spelled (spelling_of (string_bytes w)) (spelled_is (string_bytes w))

  at_value : (k : Naming) → has_naming o.work k ≡ true → Answers o (naming_word k ∷ words) (put_words o (place.Value k) (w ∷ ws))
  at_value k has = as_value (valued k (string_bytes w)) k (value_in w None) (valued_is k (value_in w None) (string_bytes w) (whole_value w)) has

pub answered : (ws : List (String Global)) (a : Place) (o : Said) → IsFilled o → AnswersAt a o (map string_bytes ws) (put_words o a ws)
answered [] place.Anywhere o filled = tells_none o filled
answered [] (place.Value k) o filled = λ has. here o (naming_word k ∷ []) (NoValue k) (refl, has)
answered [] place.Behind o filled = (refl, turns_none o filled)
answered (w ∷ ws) place.Anywhere o filled = at_word w ws o filled (λ a m ok. answered ws a m ok)
answered (w ∷ ws) (place.Value k) o filled = at_value w ws o filled (λ a m ok. answered ws a m ok) k
answered (w ∷ ws) place.Behind o filled = as_behind w ws o filled (λ a m ok. answered ws a m ok)
