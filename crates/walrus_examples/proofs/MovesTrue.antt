-- The code transform of what gc left tells where each operator that is kept stood in the input and stands in the output.
use Rattle.std.proofs.Common.{◌≡◌, inl, inr, ℕ, ◌+◌, ◌-◌, ◌^◌, ◌<◌, true, false, List, [], map, refl, sym, ap, ◌∙◌, subst, arith}
use Rattle.std.specs.Prelude.{Option, Some, None, IsSome, is_some, Contains, AllPairs, slice_get}
use Rattle.walrus.specs.Frames.Record as wire
use Rattle.walrus.proofs.Frames.Modules.{one_record_lem}
use Rattle.walrus.specs.Base.Operators.{Functions, Op}
use Rattle.walrus.specs.Code.FromRaw.{op_of}
use Rattle.walrus.specs.Code.Location.{location_at}
use Rattle.walrus.specs.Code.Transform.{Transform}
use Rattle.walrus.specs.Model.Abstract.{Abstract, Body}
use Rattle.walrus.specs.Model.Config.{Config}
use Rattle.walrus.specs.Model.Names.{body_of}
use Rattle.walrus.specs.Model.Pipeline.{Collected}
use Rattle.walrus.specs.Model.Renaming.{Renaming, renamed_op, renamed_ops}
use Rattle.walrus.specs.Model.Rules.{Holds}
use Rattle.walrus.specs.Model.Transform.{IsBodyOf, IsLocalFunction, IsPlaceOf, TrueOf}
use Rattle.walrus.proofs.Base.Lists.{Contains-none}
use Rattle.walrus.proofs.Base.Standing.{got_where, some_inj}
use Rattle.walrus.specs.Theorem.Chain.{Leaves, ParsedAs}
use Rattle.walrus.specs.Theorem.Headline.{ComesTo, ReadsModule}
use Rattle.walrus.proofs.Theorem.StepRead.{steps_come_out_lem}
use Rattle.walrus.specs.Modules.Transform.{CountStandsAt, IsTransformOf, OperatorsStandAt, imported_functions}
use Rattle.walrus_tools.specs.Stands.{StandsIn}
use Rattle.walrus_examples.specs.Moves.{Moves, TellsMoves}
use Rattle.walrus_tools.proofs.BodiesRise.{one_body}
use Rattle.walrus_examples.proofs.EachMoves.{each_moves}
use Rattle.walrus.proofs.Model.Looked.{at_map, got_contains, map_at}
use Rattle.walrus_examples.proofs.OneNumber.{Stays, comes_out, one_number, out_numbers, stays_back, stays_on}
use Rattle.walrus_tools.proofs.PlacedOps.{RowIn, Text, fits_place, in_row, one_op, real_place, stands_in, text_there, written_in}
use Rattle.walrus_examples.proofs.ReadBodies.{HasBytes, has_bytes, has_function, ops_stand}

-- the location of a place that fits is the place
located_pair : (pairs : List (ℕ × ℕ)) (places : List ℕ) (k old : ℕ) (p : ℕ × ℕ) → map (λ (o : ℕ × ℕ). o.0) pairs ≡ map location_at places → slice_get places k ≡ Some old → old < 2 ^ 32 - 1 → slice_get pairs k ≡ Some p
    → slice_get pairs k ≡ Some (old, p.1)
located_pair pairs places k old p located place lt e =
    let location : Some p.0 ≡ Some (location_at old) = sym (map_at (λ (o : ℕ × ℕ). o.0) pairs k p e) ∙ ap (λ (l : List ℕ). slice_get l k) located ∙ map_at location_at places k old place in
    e ∙ ap (λ (n : ℕ). Some (n, p.1)) (some_inj p.0 (location_at old) location ∙ fits_place old lt)

-- a place is an offset that is moved by a start
moved_pair : (pairs : List (ℕ × ℕ)) (start k new : ℕ) → slice_get (map (λ (n : ℕ). start + n) (map (λ (o : ℕ × ℕ). o.1) pairs)) k ≡ Some new → (p : ℕ × ℕ) × ((slice_get pairs k ≡ Some p) × (start + p.1 ≡ new))
moved_pair pairs start k new e =
    let offset = at_map (λ (n : ℕ). start + n) (map (λ (o : ℕ × ℕ). o.1) pairs) k new e in
    let pair = at_map (λ (o : ℕ × ℕ). o.1) pairs k offset.0 offset.1.0 in
    (pair.0, (pair.1.0, ap (λ (n : ℕ). start + n) pair.1.1 ∙ offset.1.1))

-- the operators of two bodies are those of their texts, and so these are renamed as they are
texts_renamed : (r : Renaming) (l : ℕ → ℕ) (old new texts others : List Op) → new ≡ renamed_ops r l old → old ≡ texts → new ≡ others → others ≡ renamed_ops r l texts
texts_renamed r l old new texts others renamed first second = sym second ∙ renamed ∙ ap (renamed_ops r l) first

-- ---- from what was read to what is left

module _ (c : Config) (bytes : List ℕ) (m v w u : Abstract) (reads : ReadsModule c bytes m) (holds : Holds m) (parsed : ParsedAs c m v) (collected : Collected v w) (leaves : Leaves w u) where
  -- `located`: the locations of a function that is left are those of the places where its operators stood.
  module _ (output : List ℕ) (locations : ℕ → List ℕ) (x : Transform) (t : IsTransformOf c true locations u output x) (output_reads : ReadsModule c output t.module_written) (output_holds : Holds t.module_written)
      (located : (f number : ℕ) (body : wire.Body) → IsLocalFunction u f → f ≡ imported_functions reads.sections + number → slice_get reads.sections.bodies number ≡ Some body
      → (ts : List Text) × ((qs : List ℕ) × (RowIn body ts qs × (locations f ≡ map location_at qs)))) where
    abbrev comes : ComesTo c bytes output
    comes = record {
      module_read = m;
      reads = reads;
      holds = holds;
      module_left = u;
      brought = record { module_parsed = v; module_kept = w; parsed = parsed; collected = collected; leaves = leaves };
      module_written = t.module_written;
      written = t.written;
      spelled = t.spelled;
      output_reads = output_reads;
      output_holds = output_holds;
      out = steps_come_out_lem c bytes m u t.module_written reads holds (record { module_parsed = v; module_kept = w; parsed = parsed; collected = collected; leaves = leaves }) t.written;
    }

    abbrev s : wire.Module
    s = reads.sections

    abbrev z : wire.Module
    z = output_reads.sections

    abbrev written : Renaming
    written = t.written.written.renaming

    abbrev whole : Renaming
    whole = comes.out.renaming

    abbrev IsBody : ℕ → wire.Body → Type 0
    IsBody f b = IsBodyOf (imported_functions z) written z f b

    abbrev IsOp : ℕ → ℕ → Type 0
    IsOp location place = IsPlaceOf (imported_functions z) written z t.offsets location place

    raw_same : t.raw ≡ z
    raw_same = one_record_lem output t.raw z t.framed output_reads.framed

    stand : (f : ℕ) (b : wire.Body) → IsLocalFunction u f → IsBody f b → OperatorsStandAt b.bytes (map (λ o. o.1) (t.offsets f))
    stand = subst (λ (raw : wire.Module). (f : ℕ) (b : wire.Body) → IsLocalFunction u f → IsBodyOf (imported_functions raw) written raw f b → OperatorsStandAt b.bytes (map (λ o. o.1) (t.offsets f))) raw_same t.stand

    tells : TrueOf (imported_functions z) t.offsets CountStandsAt true x output z written u
    tells = subst (λ (raw : wire.Module). TrueOf (imported_functions raw) t.offsets CountStandsAt true x output raw written u) raw_same t.holds

    -- function f, kept, where it stood and where it stands
    pub record Both (f : ℕ) : Type 0 where
      pub a : Body
      pub d : Body
      pub stays : Stays c bytes m v w u reads holds parsed collected leaves f a d
      pub number : whole.numbers Functions f ≡ written.numbers Functions f
      pub from : HasBytes c bytes m reads f a
      pub old_texts : List Text
      pub old_places : List ℕ
      pub old_row : RowIn from.body old_texts old_places
      pub are_located : map (λ (o : ℕ × ℕ). o.0) (t.offsets f) ≡ map location_at old_places
      pub e : Body
      pub to : HasBytes c output t.module_written output_reads (written.numbers Functions f) e
      pub new_texts : List Text
      pub new_row : RowIn to.body new_texts (map (λ (n : ℕ). to.body.start + n) (map (λ (o : ℕ × ℕ). o.1) (t.offsets f)))
      pub same : map op_of new_texts ≡ renamed_ops whole (whole.locals f) (map op_of old_texts)

    both_of : (f : ℕ) (a d : Body) → Stays c bytes m v w u reads holds parsed collected leaves f a d → Both f
    both_of f a d stays =
        let local : IsLocalFunction u f = ap is_some stays.after in
        let from = has_bytes c bytes m reads f a stays.before in
        let old = located f from.number from.body local from.index from.has in
        let number = one_number c bytes m v w u reads holds parsed collected leaves output t.module_written t.written output_reads comes.out f a stays.before stays.kept in
        let comes_as = comes_out m t.module_written whole (out_numbers c m t.module_written comes.out) f a stays.before stays.kept in
        let to = has_bytes c output t.module_written output_reads (written.numbers Functions f) comes_as.0 (ap (body_of t.module_written) (sym number) ∙ comes_as.1.0) in
        let new = written_in to.body (map (λ (o : ℕ × ℕ). o.1) (t.offsets f)) (stand f to.body local (to.number, to.index, to.has)) in
        record {
          a = a;
          d = d;
          stays = stays;
          number = number;
          from = from;
          old_texts = old.0;
          old_places = old.1.0;
          old_row = old.1.1.0;
          are_located = t.located f local ∙ old.1.1.1;
          e = comes_as.0;
          to = to;
          new_texts = new.0;
          new_row = new.1;
          same = texts_renamed whole (whole.locals f) a.operators comes_as.0.operators (map op_of old.0) (map op_of new.0) comes_as.1.1.operators
              (ops_stand c bytes m reads f a from old.0 old.1.0 old.1.1.0) (ops_stand c output t.module_written output_reads (written.numbers Functions f) comes_as.0 to new.0 _ new.1);
        }

    one_op_moved : (f : ℕ) (b : Both f) (k : ℕ) (o p : Text) → slice_get b.old_texts k ≡ Some o → slice_get b.new_texts k ≡ Some p → op_of p ≡ renamed_op whole (whole.locals f) (op_of o)
    one_op_moved f b k o p e g =
        some_inj (op_of p) (renamed_op whole (whole.locals f) (op_of o))
        (sym (map_at op_of b.new_texts k p g) ∙ ap (λ (l : List Op). slice_get l k) b.same ∙ map_at (renamed_op whole (whole.locals f)) (map op_of b.old_texts) k (op_of o) (map_at op_of b.old_texts k o e))

    -- the body that stands at a function's index is its own
    body_one : (f : ℕ) (b : Both f) (y : wire.Body) → IsBody f y → y ≡ b.to.body
    body_one f b y is =
        let imports : ℕ = imported_functions z in
        let first : written.numbers Functions f ≡ imports + is.0 = is.1 in
        let second : written.numbers Functions f ≡ imports + b.to.number = b.to.index in
        let same : is.0 ≡ b.to.number = omega (arith, first, second) in
        some_inj y b.to.body (sym is.2 ∙ ap (slice_get z.bodies) same ∙ b.to.has)

    -- ---- from the transform to operators

    -- operator k of function f stood at the old place, and stands so far behind the start of the body
    pub record OneOp (f : ℕ) (b : Both f) (k old offset : ℕ) : Type 0 where
      pub pair : slice_get (t.offsets f) k ≡ Some (old, offset)
      pub place : slice_get b.old_places k ≡ Some old
      pub fits : old < 2 ^ 32 - 1

    pair_one_op : (f : ℕ) (b : Both f) (old offset : ℕ) → (old ≡ 2 ^ 32 - 1 → ⊥) → Contains (t.offsets f) (old, offset) → (k : ℕ) × OneOp f b k old offset
    pair_one_op f b old offset real at =
        let pair = got_where (t.offsets f) (old, offset) at in
        let looked : slice_get (map location_at b.old_places) at.0 ≡ Some old = ap (λ (l : List ℕ). slice_get l at.0) (sym b.are_located) ∙ map_at (λ (o : ℕ × ℕ). o.0) (t.offsets f) at.0 (old, offset) pair in
        let found = at_map location_at b.old_places at.0 old looked in
        let true_place = real_place found.0 (λ e. real (sym found.1.1 ∙ e)) in
        let is : found.0 ≡ old = sym true_place.0 ∙ found.1.1 in
        (at.0, record { pair = pair; place = found.1.0 ∙ ap (λ (n : ℕ). Some n) is; fits = subst (λ (n : ℕ). n < 2 ^ 32 - 1) is true_place.1 })

    old_stands : (f : ℕ) (b : Both f) (k old offset : ℕ) → OneOp f b k old offset → (o : Text) × ((slice_get b.old_texts k ≡ Some o) × StandsIn b.from.body k old (op_of o))
    old_stands f b k old offset one =
        let o = text_there b.from.body b.old_texts b.old_places b.old_row k old one.place in
        (o.0, (o.1, stands_in b.from.body b.old_texts b.old_places b.old_row k old o.0 o.1 one.place))

    op_moves : (f : ℕ) (b : Both f) (k old offset : ℕ) → OneOp f b k old offset → Moves comes old (b.to.body.start + offset)
    op_moves f b k old offset one =
        let o = old_stands f b k old offset one in
        let stands : slice_get (map (λ (n : ℕ). b.to.body.start + n) (map (λ (o : ℕ × ℕ). o.1) (t.offsets f))) k ≡ Some (b.to.body.start + offset) =
        map_at (λ (n : ℕ). b.to.body.start + n) (map (λ (o : ℕ × ℕ). o.1) (t.offsets f)) k offset (map_at (λ (o : ℕ × ℕ). o.1) (t.offsets f) k (old, offset) one.pair) in
        let p = text_there b.to.body b.new_texts _ b.new_row k (b.to.body.start + offset) stands in
        record {
          f = f;
          kept = b.stays.kept;
          k = k;
          o = op_of o.0;
          stood = record { number = b.from.number; index = b.from.index; body = b.from.body; has = b.from.has; stands = o.1.1 };
          stands = record {
            number = b.to.number;
            index = b.number ∙ b.to.index;
            body = b.to.body;
            has = b.to.has;
            stands = subst (λ (y : Op). StandsIn b.to.body k (b.to.body.start + offset) y) (one_op_moved f b k o.0 p.0 o.1.0 p.1)
                (stands_in b.to.body b.new_texts _ b.new_row k (b.to.body.start + offset) p.0 p.1 stands);
          };
        }

    some_body : (o : Option Body) → IsSome o → (d : Body) × (o ≡ Some d)
    some_body (Some d) h = (d, refl)
    some_body None h = absurd (cc)

    has_both : (f : ℕ) → IsLocalFunction u f → Both f
    has_both f local =
        let d = some_body (body_of u f) local in
        let a = stays_back c bytes m v w u reads holds parsed collected leaves f d.0 d.1 in
        both_of f a.0 d.0 a.1

    local_by : (f : ℕ) (o : ℕ × ℕ) (q : Option Body) → body_of u f ≡ q → Contains (t.offsets f) o → IsLocalFunction u f
    local_by f o (Some d) e at = ap is_some e
    local_by f o None e at =
        absurd (Contains-none o (subst (λ (l : List (ℕ × ℕ)). Contains l o) (t.no_others f (λ local. let no : false ≡ true = sym (ap is_some e) ∙ local in cc)) at))

    place_moves : (old new : ℕ) → (old ≡ 2 ^ 32 - 1 → ⊥) → IsOp old new → (old < 2 ^ 32 - 1) × Moves comes old new
    place_moves old new real (f, y, offset, is, at, here) =
        let b = has_both f (local_by f (old, offset) (body_of u f) refl at) in
        let one = pair_one_op f b old offset real at in
        let place : b.to.body.start + offset ≡ new = ap (λ (k : wire.Body). k.start + offset) (sym (body_one f b y is)) ∙ sym here in
        (one.1.fits, subst (λ (n : ℕ). Moves comes old n) place (op_moves f b one.0 old offset one.1))

    -- ---- and back

    real_by : (old : ℕ) → old < 2 ^ 32 - 1 → old ≡ 2 ^ 32 - 1 → ⊥
    real_by old lt e = omega (arith, lt, e)

    -- an operator that moves is one of the transform
    pub record Told (old new : ℕ) : Type 0 where
      pub f : ℕ
      pub b : Both f
      pub k : ℕ
      pub offset : ℕ
      pub one : OneOp f b k old offset
      pub place : b.to.body.start + offset ≡ new

    is_told : (old new : ℕ) → old < 2 ^ 32 - 1 → (mv : Moves comes old new) → Told old new
    is_told old new lt mv =
        let function = has_function c bytes m reads mv.stood.number mv.stood.body mv.stood.has in
        let read : body_of m mv.f ≡ Some function.0 = ap (body_of m) mv.stood.index ∙ function.1 in
        let stays = stays_on c bytes m v w u reads holds parsed collected leaves mv.f function.0 read mv.kept in
        let b = both_of mv.f function.0 stays.0 stays.1 in
        let imports : ℕ = imported_functions s in
        let first : mv.f ≡ imports + mv.stood.number = mv.stood.index in
        let second : mv.f ≡ imports + b.from.number = b.from.index in
        let number : mv.stood.number ≡ b.from.number = omega (arith, first, second) in
        let old_body : mv.stood.body ≡ b.from.body = some_inj mv.stood.body b.from.body (sym mv.stood.has ∙ ap (slice_get s.bodies) number ∙ b.from.has) in
        let stood = in_row b.from.body b.old_texts b.old_places b.old_row mv.k old mv.o (subst (λ (y : wire.Body). StandsIn y mv.k old mv.o) old_body mv.stood.stands) in
        let new_body : mv.stands.body ≡ b.to.body = body_one mv.f b mv.stands.body (mv.stands.number, sym b.number ∙ mv.stands.index, mv.stands.has) in
        let stands = in_row b.to.body b.new_texts _ b.new_row mv.k new _ (subst (λ (y : wire.Body). StandsIn y mv.k new (renamed_op whole (whole.locals mv.f) mv.o)) new_body mv.stands.stands) in
        let pair = moved_pair (t.offsets mv.f) b.to.body.start mv.k new stands.1 in
        record {
          f = mv.f;
          b = b;
          k = mv.k;
          offset = pair.0.1;
          one = record { pair = located_pair (t.offsets mv.f) b.old_places mv.k old pair.0 b.are_located stood.1 lt pair.1.0; place = stood.1; fits = lt };
          place = pair.1.1;
        }

    -- two operators of one old place have one new place
    one_place : (old : ℕ) (f g : ℕ) (b : Both f) (d : Both g) (k l i j : ℕ) → OneOp f b k old i → OneOp g d l old j → f ≡ g
    one_place old f g b d k l i j p q =
        let here = old_stands f b k old i p in
        let there = old_stands g d l old j q in
        let number = one_body bytes s reads.framed b.from.number d.from.number b.from.body d.from.body b.from.has d.from.has k l old (op_of here.0) (op_of there.0) here.1.1 there.1.1 in
        b.from.index ∙ ap (λ (n : ℕ). imported_functions s + n) number ∙ sym d.from.index

    same_place : (old new place : ℕ) → old < 2 ^ 32 - 1 → Told old new → IsOp old place → place ≡ new
    same_place old new place lt told (g, y, offset, is, at, here) =
        let real = real_by old lt in
        let d = has_both g (local_by g (old, offset) (body_of u g) refl at) in
        let other = pair_one_op g d old offset real at in
        let same : g ≡ told.f = sym (one_place old told.f g told.b d told.k other.0 told.offset offset told.one other.1) in
        let mine = pair_one_op told.f told.b old offset real (subst (λ (h : ℕ). Contains (t.offsets h) (old, offset)) same at) in
        let number : told.k ≡ mine.0 = one_op told.b.from.body told.b.old_texts told.b.old_places told.b.old_row told.k mine.0 old told.one.place mine.1.place in
        let pairs : ◌≡◌ {A = Option (ℕ × ℕ)} (Some (old, offset)) (Some (old, told.offset)) = sym mine.1.pair ∙ ap (slice_get (t.offsets told.f)) (sym number) ∙ told.one.pair in
        let offsets : offset ≡ told.offset = ap (λ (o : ℕ × ℕ). o.1) (some_inj (old, offset) (old, told.offset) pairs) in
        let body : y ≡ told.b.to.body = body_one told.f told.b y (subst (λ (h : ℕ). IsBody h y) same is) in
        here ∙ ap (λ (k : wire.Body). k.start + offset) body ∙ ap (λ (n : ℕ). told.b.to.body.start + n) offsets ∙ told.place

    told_is_op : (old new : ℕ) → Told old new → IsOp old new
    told_is_op old new told =
        (told.f, told.b.to.body, told.offset, (told.b.to.number, told.b.to.index, told.b.to.has), got_contains (t.offsets told.f) told.k (old, told.offset) told.one.pair, sym told.place)

    -- ---- all of it

    no_pairs : AllPairs (λ (a : ℕ × ℕ) (b : ℕ × ℕ). a.0 < b.0) []
    no_pairs i j d lt below = absurd (omega (arith, below))

    rising : AllPairs (λ (a : ℕ × ℕ) (b : ℕ × ℕ). a.0 < b.0) x.instruction_map
    rising = by tells
      where
        by : TrueOf (imported_functions z) t.offsets CountStandsAt true x output z written u → AllPairs (λ (a : ℕ × ℕ) (b : ℕ × ℕ). a.0 < b.0) x.instruction_map
        by (inl (f, local, told)) = told.locations_rise
        by (inr (none, is)) = subst (λ (y : Transform). AllPairs (λ (a : ℕ × ℕ) (b : ℕ × ℕ). a.0 < b.0) y.instruction_map) (sym is) no_pairs

    sound : (old new : ℕ) → Contains x.instruction_map (old, new) → (old < 2 ^ 32 - 1) × Moves comes old new
    sound old new at = by tells
      where
        by : TrueOf (imported_functions z) t.offsets CountStandsAt true x output z written u → (old < 2 ^ 32 - 1) × Moves comes old new
        by (inl (f, local, told)) = place_moves old new (λ e. ((told.locations refl old).0 (new, at)).0 e) (told.last old new at).0
        by (inr (none, is)) = absurd (Contains-none (old, new) (subst (λ (y : Transform). Contains y.instruction_map (old, new)) is at))

    complete : (old new : ℕ) → (old < 2 ^ 32 - 1) × Moves comes old new → Contains x.instruction_map (old, new)
    complete old new (lt, mv) = by tells
      where
        found : Told old new
        found = is_told old new lt mv

        by : TrueOf (imported_functions z) t.offsets CountStandsAt true x output z written u → Contains x.instruction_map (old, new)
        by (inl (f, local, told)) =
            let at = (told.locations refl old).1 (real_by old lt, (new, told_is_op old new found)) in
            subst (λ (n : ℕ). Contains x.instruction_map (old, n)) (same_place old new at.0 lt found (told.last old at.0 at.1).0) at.1
        by (inr (none, is)) = absurd (none found.f (ap is_some found.b.stays.after))

    pub tells_moves : (places : List (ℕ × ℕ)) → places ≡ x.instruction_map → TellsMoves c bytes output places
    tells_moves places is = subst (λ (l : List (ℕ × ℕ)). TellsMoves c bytes output l) (sym is) (record { comes = comes; each = each_moves c bytes output comes; rising = rising; are = λ old new. (sound old new, complete old new) })
