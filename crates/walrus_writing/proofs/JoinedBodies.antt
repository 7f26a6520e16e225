-- Bodies one behind another: one more of them, and each of them again.
use Rattle.std.proofs.Common.{◌≡◌, ℕ, ◌+◌, ◌<◌, ◌≤◌, Bool, true, List, [], ◌∷◌, ◌++◌, length, map, take, drop, append_assoc, refl, sym, ap, ap₂, ◌∙◌, subst, arith, Some, None}
use Rattle.std.specs.Prelude.{Option, slice_index_or, sum_by}
use Rattle.std.proofs.lemmas.List.{append-nil, drop_at, drop_more, length-append, length-map, length-take-le, take_all, take_at}
use Rattle.std.proofs.lemmas.List.Sums.{sum_by-cons, sum_by-drop_more}
use Rattle.wasm_forms.proofs.Items.{row_bytes-append}
use Rattle.wasm_forms.specs.Spelling.{block_bytes, number_bytes, row_bytes}
use Rattle.wasm_frames.specs.Record as wire
use Rattle.wasm_payloads.specs.Spelling.{NameMap}
use Rattle.wasm_writer.specs.Measuring.{size_with_count}
use Rattle.walrus_base.specs.Arena.{entries_from}
use Rattle.walrus_base.specs.Id.{place}
use Rattle.walrus_base.specs.declared.id.Id.{Id}
use Rattle.walrus_base.specs.declared.keys.FunctionKey.{FunctionKey}
use Rattle.walrus_base.specs.Locals.{locals}
use Rattle.walrus_base.specs.declared.locals.Local.{Local}
use Rattle.walrus_code.specs.Names.{Lookup}
use Rattle.walrus_base.proofs.Turns.{map_snoc}
use Rattle.walrus_bodies.specs.declared.features.Features.{Features}
use Rattle.walrus_contents.specs.declared.parts.Parts.{Parts}
use Rattle.walrus_model.proofs.PlacedTypes.{zip_length}
use Rattle.walrus_writing.specs.Names.{all_local_names, filled, local_names}
use Rattle.walrus_writing.specs.Pushed.{with_map}
use Rattle.walrus_base.proofs.ZipTurns.{zip_turn}
use Rattle.walrus_writing.specs.Bodies.{AppendsBodies, AreWritten, texts_in}
use Rattle.walrus_writing.specs.Parts.{BodySeen, IsWrittenBody, unplaced}

-- ---- texts, each behind its size

-- the next of the texts that are left
pub texts_turn : (ns : List ℕ) (i d : ℕ) (rest sized text behind : List ℕ) (raw new : List wire.Body) (all : List wire.Body) → i < length ns
    → sized ≡ drop (length (number_bytes (slice_index_or ns i d))) rest → text ≡ take (slice_index_or ns i d) sized → behind ≡ drop (slice_index_or ns i d) sized → new ≡ raw ++ unplaced text ∷ []
    → raw ++ map unplaced (texts_in (drop i ns) rest) ≡ all → new ++ map unplaced (texts_in (drop (i + 1) ns) behind) ≡ all
texts_turn ns i d rest sized text behind raw new all low size first then pushed so =
    let n = slice_index_or ns i d in
    let left : List wire.Body = map unplaced (texts_in (drop (i + 1) ns) (drop n (drop (length (number_bytes n)) rest))) in
    ap₂ (λ (l : List wire.Body) (b : List ℕ). l ++ map unplaced (texts_in (drop (i + 1) ns) b)) pushed (then ∙ ap (drop n) size)
    ∙ append_assoc raw (unplaced text ∷ []) left
    ∙ ap (λ (t : List ℕ). raw ++ unplaced t ∷ left) (first ∙ ap (take n) size)
    ∙ ap (λ (l : List ℕ). raw ++ map unplaced (texts_in l rest)) (sym (drop_more ns i d low))
    ∙ so

-- its size stands there, and behind that the text, and those behind it
pub size_within : (ns : List ℕ) (i d size many : ℕ) → i < length ns → size ≡ length (number_bytes (slice_index_or ns i d)) → sum_by size_with_count (drop i ns) ≤ many → size ≤ many
size_within ns i d size many low is within = omega (arith, is, within, sum_by-drop_more size_with_count ns i d low)

pub text_within : (ns : List ℕ) (i d size sized many : ℕ) → i < length ns → size ≡ length (number_bytes (slice_index_or ns i d)) → sum_by size_with_count (drop i ns) ≤ many → sized + size ≡ many → slice_index_or ns i d ≤ sized
text_within ns i d size sized many low is within rest = omega (arith, is, within, rest, sum_by-drop_more size_with_count ns i d low)

pub texts_within : (ns : List ℕ) (i d size sized many left : ℕ) → i < length ns → size ≡ length (number_bytes (slice_index_or ns i d)) → sum_by size_with_count (drop i ns) ≤ many → sized + size ≡ many → left + slice_index_or ns i d ≡ sized → sum_by size_with_count (drop (i + 1) ns) ≤ left
texts_within ns i d size sized many left low is within rest behind = omega (arith, is, within, rest, behind, sum_by-drop_more size_with_count ns i d low)

-- those that were written, one behind another, are found again
pub texts_found : (texts : List (List ℕ)) → texts_in (map length texts) (row_bytes block_bytes texts) ≡ texts
texts_found [] = refl
texts_found (t ∷ ts) =
    let n : ℕ = length t in
    let row : List ℕ = row_bytes block_bytes ts in
    let sized : drop (length (number_bytes n)) (block_bytes t ++ row) ≡ t ++ row =
    ap (drop (length (number_bytes n))) (append_assoc (number_bytes n) t row) ∙ drop_at (number_bytes n) (t ++ row) (length (number_bytes n)) refl in
    ap₂ (λ (l : List ℕ) (ls : List (List ℕ)). l ∷ ls) (ap (take n) sized ∙ take_at t row n refl)
    (ap (λ (l : List ℕ). texts_in (map length ts) (drop n l)) sized ∙ ap (texts_in (map length ts)) (drop_at t row n refl) ∙ texts_found ts)

-- and are all of the bytes
pub texts_whole : (texts : List (List ℕ)) → sum_by size_with_count (map length texts) ≡ length (row_bytes block_bytes texts)
texts_whole [] = refl
texts_whole (t ∷ ts) =
    let split : sum_by size_with_count (map length (t ∷ ts)) ≡ size_with_count (length t) + sum_by size_with_count (map length ts) = sum_by-cons size_with_count (length t) (map length ts) in
    omega (arith, split, texts_whole ts, length-append (block_bytes t) (row_bytes block_bytes ts), length-append (number_bytes (length t)) t)

-- ---- names

entries_snoc : {X : Type 0} (k : ℕ) (os : List (Option X)) (o : Option X) → entries_from k (os ++ o ∷ []) ≡ entries_from k os ++ entries_from (k + length os) (o ∷ [])
entries_snoc {X} k [] o = ap (λ (n : ℕ). entries_from n (o ∷ [])) (omega arith)
entries_snoc {X} k (None ∷ os) o = entries_snoc (k + 1) os o ∙ ap (λ (n : ℕ). entries_from (k + 1) os ++ entries_from n (o ∷ [])) (omega arith)
entries_snoc {X} k (Some x ∷ os) o = ap (λ (l : List (ℕ × X)). (k, x) ∷ l) (entries_snoc (k + 1) os o ∙ ap (λ (n : ℕ). entries_from (k + 1) os ++ entries_from n (o ∷ [])) (omega arith))

one_map : (maps : List (ℕ × NameMap)) (k : ℕ) (names : NameMap) → maps ++ entries_from k (filled names ∷ []) ≡ with_map maps k names
one_map maps k [] = append-nil maps
one_map maps k (e ∷ es) = refl

-- the names of one body more
pub names_more : (all : List (Option Local)) (first k : ℕ) (bodies : List (List (ℕ × ℕ))) (used : List (ℕ × ℕ)) → k ≡ first + length bodies
    → with_map (all_local_names all first bodies) k (local_names all used) ≡ all_local_names all first (bodies ++ used ∷ [])
names_more all first k bodies used at =
    let F = λ (us : List (ℕ × ℕ)). filled (local_names all us) in
    sym (one_map (all_local_names all first bodies) k (local_names all used))
    ∙ ap (λ (n : ℕ). all_local_names all first bodies ++ entries_from n (F used ∷ [])) (at ∙ ap (λ (n : ℕ). first + n) (sym (length-map bodies F)))
    ∙ sym (entries_snoc first (map F bodies) (F used))
    ∙ ap (entries_from first) (sym (map_snoc F bodies used))

-- ---- bodies

module _ (p : Parts) (names : Lookup) (features : Features) where
  abbrev IsBody : Id FunctionKey → BodySeen → Type 0
  IsBody id b = IsWrittenBody p names features (place id) b

  abbrev text_of : BodySeen → List ℕ
  text_of b = b.bytes

  abbrev used_of : BodySeen → List (ℕ × ℕ)
  used_of b = b.used

  pub none_written : (first : ℕ) (chosen : Bool) (texts : List (List ℕ)) (named : List (ℕ × NameMap)) → texts ≡ [] → named ≡ [] → AreWritten p names features [] first chosen texts named
  none_written first chosen texts named t n = record {
    bodies = [];
    are = tt;
    texts_are = t;
    names_are = λ asked. n;
  }

  pub none_asked : (order : List (Id FunctionKey)) (first : ℕ) (chosen : Bool) (named : List (ℕ × NameMap)) → length order ≡ 0 → named ≡ [] → AreWritten p names features order first chosen [] named
  none_asked [] first chosen named none n = none_written first chosen [] named refl n
  none_asked (i ∷ is) first chosen named none n = absurd (omega (arith, none))

  -- as many as there are functions
  pub as_many : (order : List (Id FunctionKey)) (first : ℕ) (chosen : Bool) (texts : List (List ℕ)) (named : List (ℕ × NameMap)) → AreWritten p names features order first chosen texts named → length order ≡ length texts
  as_many order first chosen texts named w = zip_length IsBody order w.bodies w.are ∙ sym (length-map w.bodies text_of) ∙ ap length (sym w.texts_are)

  -- one more is written
  pub one_written : (order : List (Id FunctionKey)) (i : ℕ) (d : Id FunctionKey) (first : ℕ) (chosen : Bool) (function : ℕ) (texts more : List (List ℕ)) (named maps : List (ℕ × NameMap)) (one : BodySeen)
      → i < length order → function ≡ first + i → AreWritten p names features (take i order) first chosen texts named
      → IsBody (slice_index_or order i d) one → more ≡ texts ++ one.bytes ∷ []
      → (chosen ≡ true → maps ≡ with_map named function (local_names (locals p.locals.now) one.used))
      → AreWritten p names features (take (i + 1) order) first chosen more maps
  one_written order i d first chosen function texts more named maps one low counted w is pushed noted =
      let so_many : i ≡ length w.bodies = sym (length-take-le i order (omega (arith, low))) ∙ zip_length IsBody (take i order) w.bodies w.are in
      record {
        bodies = w.bodies ++ one ∷ [];
        are = zip_turn IsBody order i d w.bodies one low w.are is;
        texts_are = pushed ∙ ap (λ (l : List (List ℕ)). l ++ one.bytes ∷ []) w.texts_are ∙ sym (map_snoc text_of w.bodies one);
        names_are = λ asked.
            noted asked
            ∙ ap₂ (λ (l : List (ℕ × NameMap)) (k : ℕ). with_map l k (local_names (locals p.locals.now) one.used)) (w.names_are asked) counted
            ∙ names_more (locals p.locals.now) first (first + i) (map used_of w.bodies) one.used (ap (λ (n : ℕ). first + n) (so_many ∙ sym (length-map w.bodies used_of)))
            ∙ ap (all_local_names (locals p.locals.now) first) (sym (map_snoc used_of w.bodies one));
      }

  -- ---- each behind its size

  module _ (first : ℕ) (chosen asked : Bool) where
    pub none_appended : (named : List (ℕ × NameMap)) (lengths old : List ℕ) → named ≡ [] → lengths ≡ [] → AppendsBodies p names features [] first chosen asked named lengths old old
    none_appended named lengths old n l = record { texts = []; written = none_written first chosen [] named refl n; lengths_are = λ so. l; stand = sym (append-nil old) }

    pub all_appended : (order : List (Id FunctionKey)) (i : ℕ) (named : List (ℕ × NameMap)) (lengths old new : List ℕ) → length order ≤ i
        → AppendsBodies p names features (take i order) first chosen asked named lengths old new → AppendsBodies p names features order first chosen asked named lengths old new
    all_appended order i named lengths old new most w = subst (λ (l : List (Id FunctionKey)). AppendsBodies p names features l first chosen asked named lengths old new) (take_all i order most) w

    -- one more is made where none was, and appended
    pub one_appended : (order : List (Id FunctionKey)) (i : ℕ) (d : Id FunctionKey) (function : ℕ) (named maps : List (ℕ × NameMap)) (lengths more : List ℕ) (size : ℕ) (cleared made old now new : List ℕ) (one : BodySeen)
        → i < length order → function ≡ first + i → AppendsBodies p names features (take i order) first chosen asked named lengths old now
        → IsBody (slice_index_or order i d) one → cleared ≡ [] → made ≡ cleared ++ one.bytes → new ≡ now ++ block_bytes made → size ≡ length made
        → (asked ≡ true → more ≡ lengths ++ size ∷ [])
        → (chosen ≡ true → maps ≡ with_map named function (local_names (locals p.locals.now) one.used))
        → AppendsBodies p names features (take (i + 1) order) first chosen asked maps more old new
    one_appended order i d function named maps lengths more size cleared made old now new one low counted w is none is_made added long pushed noted =
        let same : made ≡ one.bytes = is_made ∙ ap (λ (l : List ℕ). l ++ one.bytes) none in
        record {
          texts = w.texts ++ one.bytes ∷ [];
          written = one_written order i d first chosen function w.texts (w.texts ++ one.bytes ∷ []) named maps one low counted w.written is refl noted;
          lengths_are = λ so.
              pushed so ∙ ap₂ (λ (ls : List ℕ) (n : ℕ). ls ++ n ∷ []) (w.lengths_are so) (long ∙ ap length same)
              ∙ sym (map_snoc (λ (t : List ℕ). length t) w.texts one.bytes);
          stand =
              added ∙ ap (λ (l : List ℕ). now ++ block_bytes l) same
              ∙ ap (λ (l : List ℕ). l ++ block_bytes one.bytes) w.stand ∙ append_assoc old (row_bytes block_bytes w.texts) (block_bytes one.bytes)
              ∙ ap (λ (l : List ℕ). old ++ l) (ap (λ (l : List ℕ). row_bytes block_bytes w.texts ++ l) (sym (append-nil (block_bytes one.bytes))) ∙ sym (row_bytes-append block_bytes w.texts (one.bytes ∷ [])));
        }

    -- behind nothing they are found again by their lengths
    pub found : (order : List (Id FunctionKey)) (named : List (ℕ × NameMap)) (lengths old new : List ℕ) → asked ≡ true → old ≡ [] → AppendsBodies p names features order first chosen asked named lengths old new
        → AreWritten p names features order first chosen (texts_in lengths new) named
    found order named lengths old new so none w =
        subst (λ (ts : List (List ℕ)). AreWritten p names features order first chosen ts named)
        (sym (ap₂ texts_in (w.lengths_are so) (w.stand ∙ ap (λ (l : List ℕ). l ++ row_bytes block_bytes w.texts) none) ∙ texts_found w.texts)) w.written

    pub found_within : (order : List (Id FunctionKey)) (named : List (ℕ × NameMap)) (lengths old new : List ℕ) → asked ≡ true → AppendsBodies p names features order first chosen asked named lengths old new → sum_by size_with_count lengths ≤ length new
    found_within order named lengths old new so w =
        omega (arith, ap (sum_by size_with_count) (w.lengths_are so), texts_whole w.texts, ap length w.stand, length-append old (row_bytes block_bytes w.texts))
