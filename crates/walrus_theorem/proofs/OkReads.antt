-- What may be written reads back: what reading needs of bodies, no cause to refuse says of the module, and the spelling of their locals.
use Rattle.std.proofs.Common.{◌≡◌, ◌≢◌, ℕ, ◌+◌, ◌<◌, ◌^◌, Bool, true, false, List, length, get_or, refl, sym, ap, ◌∙◌, subst, arith}
use Rattle.std.specs.Prelude.{Option, Some, IsSome, All, AllPairs, Contains}
use Rattle.std.specs.List.{range_with_len}
use Rattle.std.proofs.lemmas.List.FromFn.{length-range_with_len, get_or-range_with_len}
use Rattle.wasm_writer.specs.Spelling.{SectionFits}
use Rattle.walrus_base.specs.Types.{ValType, map_val}
use Rattle.walrus_base.specs.Operators.{Types, Functions, Item, type_item}
use Rattle.walrus_bodies.specs.Blocks.{are_nested, blocks_hold}
use Rattle.walrus_bodies.specs.Features.{are_allowed}
use Rattle.walrus_bodies.specs.FunctionTypes.{is_function_comp, is_function_def}
use Rattle.walrus_model.specs.Abstract.{Abstract, Body, Function, LocalFunction}
use Rattle.walrus_model.specs.Config.{Config}
use Rattle.walrus_model.specs.Live.{IsLive}
use Rattle.walrus_model.specs.Names.{body_of}
use Rattle.walrus_model.specs.Out.{IsTheSegment}
use Rattle.walrus_model.specs.Refers.{IsUsed, used_locals, written_in}
use Rattle.walrus_model.specs.Renaming.{Renaming, renamed}
use Rattle.walrus_model.specs.Rules.{Holds}
use Rattle.walrus_model.specs.Same.{SameType}
use Rattle.walrus_model.proofs.Follow.{names_follow_lem, used_follow}
use Rattle.walrus_model.proofs.Seen.{same_sub}
use Rattle.walrus_model.proofs.TakingOver.{Contains-map_back, came, live_after}
use Rattle.walrus_model.proofs.TypeRules.{body_came, body_was, body_names_chosen}
use Rattle.walrus_theorem.specs.Features.{features_of}
use Rattle.walrus_theorem.specs.OkLaws.{OkReads, RulesWritten}
use Rattle.walrus_theorem.specs.Once.{Premises}
use Rattle.walrus_theorem.specs.Pinned.{IsWrittenAs}
use Rattle.walrus_theorem.specs.Refused.{HasNoCause, IllFormed}
use Rattle.walrus_theorem.specs.SpelledLaws.{BodiesNest}
use Rattle.walrus_theorem.specs.Spelling.{IsSpelling, UsesAll}
use Rattle.walrus_theorem.specs.Text.{Text, said_by, sections_of}
use Rattle.walrus_theorem.specs.WellMade.{IsWellFormed}
use Rattle.walrus_theorem.proofs.BodiesBack.{BodiesHold}
use Rattle.walrus_theorem.proofs.BytesOnce.{living_keeps}
use Rattle.walrus_base.proofs.Counting.{no_longer}
use Rattle.walrus_theorem.proofs.FitsTold.{ok_fits}
use Rattle.walrus_model.proofs.NestedBack.{blocks_renamed, function_comp_stays}
use Rattle.walrus_theorem.proofs.OneSpelling.{as_told}
use Rattle.walrus_theorem.proofs.ReadsOnce.{reads_once_lem}
use Rattle.walrus_theorem.proofs.Shaped.{Side}
use Rattle.walrus_theorem.proofs.SpelledReads.{nested_reads}
use Rattle.walrus_theorem.proofs.TextFits.{UsesFew, few_uses}
use Rattle.walrus_theorem.proofs.TextShaped.{side}
use Rattle.walrus_theorem.proofs.Things.{both_there}
use Rattle.walrus_theorem.proofs.WellStays.{blocks_stay}
use Rattle.walrus_theorem.proofs.WrittenHolds.{written_keeps, written_nest}
use Rattle.walrus_theorem.proofs.WrittenOver.{written_over}
use Rattle.walrus_base.proofs.Lookups.{still_some as there_by}
use Rattle.walrus_model.proofs.ItemRules.{functions_no_types, functions_no_elements}

-- what can't be false is true
is_true : (b : Bool) → ((b ≡ true → ⊥) → ⊥) → b ≡ true
is_true true h = refl
is_true false h = absurd (h (λ e. let no : false ≡ true = e in cc))

-- ---- a body that uses all that it declares declares no more than it has uses

module _ (b : Body) (uses : UsesAll b) where
  abbrev declared : List ℕ
  declared = range_with_len (length b.parameters) b.declared

  long : length declared ≡ b.declared
  long = length-range_with_len (length b.parameters) b.declared

  apart : AllPairs (λ (x : ℕ) (y : ℕ). x ≢ y) declared
  apart j k d before last same =
      let second : k < b.declared = omega (arith, last, long) in
      let first : j < b.declared = omega (arith, before, second) in
      omega (arith, before, same, get_or-range_with_len (length b.parameters) b.declared j d first, get_or-range_with_len (length b.parameters) b.declared k d second)

  are_used : All (Contains (used_locals b)) declared
  are_used k d last =
      let within : k < b.declared = omega (arith, last, long) in
      let is : get_or declared k d ≡ length b.parameters + k = omega (arith, get_or-range_with_len (length b.parameters) b.declared k d within) in
      subst (Contains (used_locals b)) (sym is) (uses (length b.parameters + k) (omega arith) (omega (arith, within)))

  few_declared : UsesFew b → b.declared < 2 ^ 32
  few_declared few = omega (arith, few, long, no_longer declared (used_locals b) apart are_used)

-- ---- what there is no cause to refuse

module _ (c : Config) (v n : Abstract) (none : HasNoCause c v) (s : Side c v n) where
  abbrev q : Renaming
  q = s.is.written.renaming

  premises : Premises v
  premises = living_keeps v none.all_there

  well_formed : (f : ℕ) (g : Function) (b : Body) → v.functions f ≡ Some g → g.kind ≡ LocalFunction b → (IsWellFormed c v g.ty b → ⊥) → ⊥
  well_formed f g b at is ill = none.spelled (IllFormed none.all_there f g b at is ill)

  nest : BodiesNest c n
  nest = written_nest c v n premises s (λ f g b at is. (
    is_true (are_nested b.operators) (λ no. well_formed f g b at is (λ formed. no formed.read.operators.nested)),
    is_true (are_allowed (features_of c) b.operators) (λ no. well_formed f g b at is (λ formed. no formed.read.operators.allowed)),
  ))

  function_stays : (t : ℕ) → IsLive v (Types, t) → is_function_def (n.types (q.numbers Types t)) ≡ is_function_def (v.types t)
  function_stays t live =
      let z = both_there (SameType (q.numbers Types) t) (v.types t) (n.types (q.numbers Types t)) (s.is.written.carried.types.same t live) in
      ap is_function_def z.3
      ∙ ap (λ x. is_function_comp x.comp) (same_sub (q.numbers Types) t z.0 z.1 z.4)
      ∙ function_comp_stays (q.numbers Types) z.0.sub.comp
      ∙ ap is_function_def (sym z.2)

  blocks : (f : ℕ) (b : Body) → body_of n f ≡ Some b → blocks_hold (λ t. is_function_def (n.types t)) b.operators ≡ true
  blocks f b here =
      let over = written_over c v n premises s in
      let w = body_came over f b here in
      let was : ℕ → Bool = λ t. is_function_def (v.types t) in
      let is : ℕ → Bool = λ t. is_function_def (n.types t) in
      ap (blocks_hold is) w.same.operators
      ∙ blocks_renamed q (q.locals w.from) is w.body.operators
      ∙ blocks_stay was (λ t. is (q.numbers Types t)) w.body.operators
      (λ t at. function_stays t (body_names_chosen over f b w (type_item t) at))
      (is_true (blocks_hold was w.body.operators) (λ no. well_formed w.from w.function w.body w.is w.has (λ formed. no formed.read.operators.blocks)))

  written : (f : ℕ) (g : Function) (y : Item) → n.functions f ≡ Some g → Contains (written_in n (Functions, f)) y → IsLive n y
  written f g y at has =
      let over = written_over c v n premises s in
      let w = came over Functions functions_no_types functions_no_elements f g at in
      let here : Contains (written_in n (Functions, q.numbers Functions w.from)) y = subst (λ (k : ℕ). Contains (written_in n (Functions, k)) y) (sym w.number) has in
      let x : (x : Item) × Contains (written_in v (Functions, w.from)) x × (renamed q x ≡ y) = Contains-map_back (renamed q) (written_in v (Functions, w.from)) y
      (subst (λ l. Contains l y) (names_follow_lem (IsLive v) (λ z. IsTheSegment s.is.written.segment z) q v n s.is.written.carried Functions w.from w.chosen) here) in
      subst (IsLive n) x.2 (live_after over x.0 (premises.written (Functions, w.from) x.0 x.1))

  locals : (f : ℕ) (b : Body) (x : ℕ) → body_of n f ≡ Some b → IsUsed b x → IsSome (b.local_type x)
  locals f b x here used =
      let over = written_over c v n premises s in
      let w = body_came over f b here in
      let u : (u : ℕ) × Contains (used_locals w.body) u × (q.locals w.from u ≡ x) = Contains-map_back (q.locals w.from) (used_locals w.body) x (subst (λ l. Contains l x) (used_follow q w.from w.body b w.same) used) in
      let old : IsSome (w.body.local_type u.0) = premises.locals w.from w.body u.0 (body_was over f b w) u.1 in
      subst (λ (y : ℕ). IsSome (b.local_type y)) u.2
      (subst (λ (o : Option (ValType ℕ)). IsSome o) (sym (w.same.types u.0 u.1)) (there_by (map_val (q.numbers Types)) (w.body.local_type u.0) old))

module _ (c : Config) (v : Abstract) (t : Text) (none : HasNoCause c v) (spells : IsSpelling (said_by t) t) (is : IsWrittenAs c v (said_by t)) where
  abbrev here : Side c v (said_by t)
  here = side c v t spells is

  fits : All SectionFits (sections_of t)
  fits = ok_fits c v (said_by t) t none is spells

  own_few : (f : ℕ) (b : Body) → body_of (said_by t) f ≡ Some b → UsesFew b
  own_few = subst (λ (z : Abstract). (f : ℕ) (b : Body) → body_of z f ≡ Some b → UsesFew b) (sym (as_told t)) (few_uses t (subst (λ z. IsSpelling z t) (as_told t) spells) fits)

  bodies_there : BodiesHold (said_by t)
  bodies_there = record {
    written = written c v (said_by t) none here;
    locals = locals c v (said_by t) none here;
    blocks = blocks c v (said_by t) none here;
    few = λ f b at. few_declared b (spells.used f b at) (own_few f b at);
  }

pub ok_reads : OkReads
ok_reads c v n bytes none written_as spelled =
    let says = spelled.spells.says in
    let spells : IsSpelling (said_by spelled.text) spelled.text = subst (λ z. IsSpelling z spelled.text) says spelled.spells in
    let as_text : IsWrittenAs c v (said_by spelled.text) = subst (IsWrittenAs c v) says written_as in
    let bodies : BodiesHold n = subst BodiesHold (sym says) (bodies_there c v spelled.text none spells as_text) in
    let nested : BodiesNest c n = subst (BodiesNest c) (sym says) (nest c v (said_by spelled.text) none (here c v spelled.text none spells as_text)) in
    let reads = nested_reads c n bytes spelled (ok_fits c v n spelled.text none written_as spelled.spells) nested bodies in
    record { reads = reads; alone = λ m other. reads_once_lem c bytes n m reads other }

pub rules_written : RulesWritten
rules_written c v n bytes rules are_counted written_as spelled =
    let says = spelled.spells.says in
    let spells : IsSpelling (said_by spelled.text) spelled.text = subst (λ z. IsSpelling z spelled.text) says spelled.spells in
    subst Holds (sym says) (written_keeps c v (said_by spelled.text) rules are_counted (side c v spelled.text spells (subst (IsWrittenAs c v) says written_as)))
