-- What is wrong with arguments, of an order that is begun.
use Rattle.std.proofs.Common.{◌≡◌, ℕ, Bool, true, false, not, ◌&&◌, List, [], ◌∷◌, ◌++◌, length, refl, sym, ap, ap₂, ◌∙◌, subst, inl, inr, ◌⊎◌, codes, string_bytes}
use Rattle.std.specs.Prelude.{Option, Some, None, Result, Ok, Err, String, bytes_eq, flat_map, is_some, if◌then◌else◌}
use Rattle.std.specs.declared.alloc.Global.{Global}
use Rattle.std.proofs.lemmas.List.{append-nil, append_assoc}
use Rattle.std.proofs.lemmas.List.Concat.{flat_map-append}
use Rattle.std.proofs.lemmas.List.Elements.{All-cons, All-nil}
use Rattle.mulkavesh.specs.declared.order.Flag.{Flag}
use Rattle.mulkavesh.specs.declared.order.Naming.{Naming}
use Rattle.mulkavesh.specs.declared.order.Naming.TheVariants as naming
use Rattle.mulkavesh.specs.declared.order.Value.{Value}
use Rattle.mulkavesh.specs.declared.order.Work.{Work}
use Rattle.mulkavesh.specs.declared.mistakes.Wrong.{Wrong}
use Rattle.mulkavesh.specs.declared.mistakes.Wrong.TheVariants.{BadValue, SecondOutput, SecondInput}
use Rattle.mulkavesh.specs.Mistakes.{Stands, WrongAt, room, room_if}
use Rattle.mulkavesh.specs.Order.{Said, has_operand, value_bytes}
use Rattle.mulkavesh.specs.Steps.{number_said, set_by, set_count, with_by, with_count, with_output, with_plain, with_value}
use Rattle.mulkavesh.specs.Words.{IsFilled, IsGood, IsPiece, Piece, SaysBy, Word, one_value, one_word, out_of, piece_words, plain_in, valued_in}
use Rattle.mulkavesh.proofs.NumberLemmas.{parsed}
use Rattle.mulkavesh.proofs.Pieces.{Turns, held}
use Rattle.mulkavesh.proofs.Spelling.{differs}

-- ---- at the first arguments that are wrong

-- behind pieces, beside what the order holds before them
abbrev pub Errs : Said → List Word → Wrong → Type 0
Errs o words m = (pieces : List Piece) × (more : List Word) × Stands words pieces more
    × WrongAt o.work (one_value o.output ++ flat_map out_of (flat_map valued_in pieces)) (held o ++ flat_map plain_in pieces) more m

-- at the first of them
pub here : (o : Said) (words : List Word) (m : Wrong) → WrongAt o.work (one_value o.output) (held o) words m → Errs o words m
here o words m wrong = (
  [],
  words,
  record { are = refl; made = All-nil IsPiece },
  subst (λ (outs : List Word). WrongAt o.work outs (held o ++ []) words m) (sym (append-nil (one_value o.output)))
      (subst (λ (plains : List Word). WrongAt o.work (one_value o.output) plains words m) (sym (append-nil (held o))) wrong),
)

-- with a piece in front
pub errs_more : (p : Piece) (fs : List Flag) (o n : Said) (words : List Word) (m : Wrong) → IsPiece p → Turns fs (valued_in p) (plain_in p) o n → Errs n words m → Errs o (piece_words p ++ words) m
errs_more p fs o n words m made t (pieces, rest, stands, wrong) =
    let outs : List Word = one_value o.output ++ flat_map out_of (valued_in p ++ flat_map valued_in pieces) in
    let plains : List Word = held o ++ (plain_in p ++ flat_map plain_in pieces) in
    let outs_are : one_value n.output ++ flat_map out_of (flat_map valued_in pieces) ≡ outs =
    ap (λ (l : List Word). l ++ flat_map out_of (flat_map valued_in pieces)) t.output
    ∙ append_assoc (one_value o.output) (flat_map out_of (valued_in p)) (flat_map out_of (flat_map valued_in pieces))
    ∙ ap (λ (l : List Word). one_value o.output ++ l) (sym (flat_map-append out_of (valued_in p) (flat_map valued_in pieces))) in
    let plains_are : held n ++ flat_map plain_in pieces ≡ plains = ap (λ (l : List Word). l ++ flat_map plain_in pieces) t.holds ∙ append_assoc (held o) (plain_in p) (flat_map plain_in pieces) in (
      p ∷ pieces,
      rest,
      record {
        are = ap (λ (l : List Word). piece_words p ++ l) stands.are ∙ sym (append_assoc (piece_words p) (flat_map piece_words pieces) rest);
        made = All-cons IsPiece p pieces made stands.made;
      },
      subst (λ (w : Work). WrongAt w outs plains rest m) t.work
          (subst (λ (l : List Word). WrongAt n.work l plains rest m) outs_are
          (subst (λ (l : List Word). WrongAt n.work (one_value n.output ++ flat_map out_of (flat_map valued_in pieces)) l rest m) plains_are wrong)),
    )

-- behind `--` there can be one plain argument too many
pub record ErrsBehind (o : Said) (words : List Word) (m : Wrong) : Type 0 where
  pub before : List Word
  pub second : String Global
  pub rest : List Word
  pub are : words ≡ before ++ string_bytes second ∷ rest
  pub is : SecondInput second ≡ m
  pub full : length (held o ++ before) ≡ room o.work

pub behind_more : (o n : Said) (word : Word) (words : List Word) (m : Wrong) → Turns [] [] (word ∷ []) o n → ErrsBehind n words m → ErrsBehind o (word ∷ words) m
behind_more o n word words m t e = record {
  before = word ∷ e.before;
  second = e.second;
  rest = e.rest;
  are = ap (λ (l : List Word). word ∷ l) e.are;
  is = e.is;
  full = ap length (sym (append_assoc (held o) (word ∷ []) e.before) ∙ ap (λ (l : List Word). l ++ e.before) (sym t.holds)) ∙ e.full ∙ ap room t.work;
}

no_behind : (words : List Word) → ◌≡◌ {A = Option (List Word)} (Some words) None → ⊥
no_behind words same = cc

pub errs_ending : (o : Said) (words : List Word) (m : Wrong) → ErrsBehind o words m → Errs o (codes "--" ∷ words) m
errs_ending o words m e =
    subst (λ (x : Wrong). Errs o (codes "--" ∷ words) x) e.is
    (here o (codes "--" ∷ words) (SecondInput e.second) (Some e.before, e.rest, ap (λ (l : List Word). codes "--" ∷ l) e.are, (λ none. absurd (no_behind e.before none)), e.full))

-- ---- what is refused

-- a plain argument too many
pub refused_plain : (o : Said) (w : String Global) (m : Wrong) → IsFilled o → with_plain o w ≡ Err m → (SecondInput w ≡ m) × (length (held o) ≡ room o.work)
refused_plain o w m filled same = by (has_operand o.work) o.operand o.input refl refl refl same
  where
    full : (h : Bool) (a i : Option (String Global)) → has_operand o.work ≡ h → o.operand ≡ a → o.input ≡ i → length (one_word a ++ one_word i) ≡ room_if h → length (held o) ≡ room o.work
    full h a i has operand input is = ap₂ (λ (x y : Option (String Global)). length (one_word x ++ one_word y)) operand input ∙ is ∙ ap room_if (sym has)

    by : (h : Bool) (a i : Option (String Global)) → has_operand o.work ≡ h → o.operand ≡ a → o.input ≡ i
        → ◌≡◌ {A = Result Said Wrong} (if h && not (is_some a) then Ok (record o { operand = Some w }) else (if is_some i then Err (SecondInput w) else Ok (record o { input = Some w }))) (Err m)
        → (SecondInput w ≡ m) × (length (held o) ≡ room o.work)
    by true None i has operand input same = absurd (cc)
    by true (Some a) None has operand input same = absurd (cc)
    by false None None has operand input same = absurd (cc)
    by false (Some a) None has operand input same = absurd (cc)
    by true (Some a) (Some i) has operand input same = ((let e : SecondInput w ≡ m = cc in e), full true (Some a) (Some i) has operand input refl)
    by false None (Some i) has operand input same = ((let e : SecondInput w ≡ m = cc in e), full false None (Some i) has operand input refl)
    by false (Some a) (Some i) has operand input same = absurd (let no_such : ◌≡◌ {A = Option (String Global)} (Some a) None = sym operand ∙ filled.none has in cc)

-- a value: of a second file that is written, or one that the option can't have
abbrev pub ValueRefused : (k : Naming) (o : Said) (v : Value) (m : Wrong) → Type 0
ValueRefused k o v m =
    ((SecondOutput v ≡ m) × (flat_map out_of ((k, value_bytes v) ∷ []) ≡ value_bytes v ∷ []) × (one_value o.output ≡ [] → ⊥))
    ⊎ ((BadValue k v ≡ m) × (IsGood (k, value_bytes v) → ⊥))

refused_output : (o : Said) (v : Value) (m : Wrong) → with_output o v ≡ Err m → (SecondOutput v ≡ m) × (one_value o.output ≡ [] → ⊥)
refused_output o v m same = by o.output refl same
  where
    by : (x : Option Value) → o.output ≡ x → ◌≡◌ {A = Result Said Wrong} (if is_some x then Err (SecondOutput v) else Ok (record o { output = Some v })) (Err m)
        → (SecondOutput v ≡ m) × (one_value o.output ≡ [] → ⊥)
    by None is same = absurd (cc)
    by (Some u) is same = (
      (let e : SecondOutput v ≡ m = cc in e),
      λ none. let some : ◌≡◌ {A = List Word} (value_bytes u ∷ []) [] = sym (ap one_value is) ∙ none in cc,
    )

refused_by : (o : Said) (v : Value) (m : Wrong) → with_by o v ≡ Err m → ValueRefused naming.By o v m
refused_by o v m same = by _ refl _ refl same
  where
    by : (a : Bool) → bytes_eq (value_bytes v) (codes "size") ≡ a → (b : Bool) → bytes_eq (value_bytes v) (codes "index") ≡ b
        → set_by o v (if a then Some true else (if b then Some false else None)) ≡ Err m → ValueRefused naming.By o v m
    by true _ _ _ same = absurd (cc)
    by false _ true _ same = absurd (cc)
    by false no_size false no_index same = inr ((let e : BadValue naming.By v ≡ m = cc in e), λ good. never good.0 good.1)
      where
        never : (b : Bool) → SaysBy (value_bytes v) b → ⊥
        never true is = differs (value_bytes v) (codes "size") no_size is
        never false is = differs (value_bytes v) (codes "index") no_index is

refused_count : (o : Said) (v : Value) (m : Wrong) → with_count o v ≡ Err m → ValueRefused naming.Count o v m
refused_count o v m same = by _ refl same
  where
    by : (n : Option ℕ) → number_said (value_bytes v) ≡ n → set_count o v n ≡ Err m → ValueRefused naming.Count o v m
    by (Some n) _ same = absurd (cc)
    by None none same = inr (
      (let e : BadValue naming.Count v ≡ m = cc in e),
      λ good. let no_such : ◌≡◌ {A = Option ℕ} None (Some good.0) = sym none ∙ parsed (value_bytes v) good.0 good.1 in cc,
    )

pub refused_value : (k : Naming) (o : Said) (v : Value) (m : Wrong) → with_value o k v ≡ Err m → ValueRefused k o v m
refused_value naming.Short o v m same = let r = refused_output o v m same in inl (r.0, refl, r.1)
refused_value naming.Long o v m same = let r = refused_output o v m same in inl (r.0, refl, r.1)
refused_value naming.By o v m same = refused_by o v m same
refused_value naming.Count o v m same = refused_count o v m same
refused_value naming.Section o v m same = absurd (cc)
refused_value naming.Keep o v m same = absurd (cc)
refused_value naming.Drop o v m same = absurd (cc)
refused_value naming.Function o v m same = absurd (cc)
refused_value naming.Module o v m same = absurd (cc)
refused_value naming.Import o v m same = absurd (cc)
