-- The bodies that a well-made module is written with are well formed.
use Rattle.std.proofs.Common.{◌≡◌, ◌≢◌, ℕ, ◌<◌, ◌≤◌, List, ◌++◌, length, map, refl, sym, ap, ◌∙◌, subst, arith, length-append, ⊎_elim}
use Rattle.std.specs.Prelude.{Some, IsSome, AllPairs, Contains, slice_get}
use Rattle.std.specs.List.{range_with_len}
use Rattle.std.proofs.lemmas.Bool.{cases_lt}
use Rattle.std.proofs.lemmas.List.FromFn.{length-range_with_len, get_or-range_with_len}
use Rattle.walrus_base.specs.Types.{ValType}
use Rattle.walrus_base.specs.Operators.{Arg, Local, Op}
use Rattle.walrus_model.specs.BlockHandlers.{params_of}
use Rattle.walrus_model.specs.Abstract.{Abstract, Body}
use Rattle.walrus_model.specs.Config.{Config}
use Rattle.walrus_model.specs.Names.{body_of, body_of_function, body_of_kind}
use Rattle.walrus_model.specs.Refers.{IsUsed}
use Rattle.walrus_model.specs.Renaming.{unchanged}
use Rattle.walrus_model.specs.Rules.{Holds}
use Rattle.walrus_model.specs.Sections.{Said, body_with}
use Rattle.walrus_base.proofs.Lists.{map-itself}
use Rattle.walrus_theorem.specs.Chain.{IsWholeBody}
use Rattle.walrus_theorem.specs.Pinned.{DeclaresLocal, IsWrittenAs}
use Rattle.walrus_theorem.specs.SpelledLaws.{BodiesNest, HasBodies, WrittenBodies}
use Rattle.walrus_theorem.specs.Spelling.{IsSpelling, UsesAll}
use Rattle.walrus_theorem.specs.Text.{said, namings_of}
use Rattle.walrus_theorem.specs.WellMade.{IsCounted, IsWellFormed}
use Rattle.walrus_theorem.proofs.BodiesBack.{bodies_hold, bodies_back}
use Rattle.walrus_model.proofs.MovedBody.{moved_arg, moved_op}
use Rattle.walrus_theorem.proofs.OneSections.{laid}
use Rattle.walrus_theorem.proofs.OneSpelling.{told, as_told}
use Rattle.walrus_theorem.proofs.ReadBodies.{IsRead, is_read_by}
use Rattle.walrus_theorem.proofs.ReadFits.{some_there}
use Rattle.walrus_base.proofs.RangeBounds.{range_has, range_in}
use Rattle.walrus_theorem.proofs.WellFormedWhole.{well_formed}
use Rattle.walrus_theorem.proofs.WrittenHolds.{written_holds, made_nest}

arg_itself : (a : Arg) → moved_arg (λ x. x) a ≡ a
arg_itself (Local n) = refl
arg_itself a = refl

op_itself : (o : Op) → moved_op (λ x. x) o ≡ o
op_itself o = ap (λ (args : List Arg). let x : Op = record { op = o.op; args = args } in x) (map-itself (moved_arg (λ x. x)) o.args arg_itself)

-- a body that uses all that it declares declares what it uses
module _ (ps : List (ValType ℕ)) (words : Said) (uses : UsesAll (body_with ps words)) (typed : (x : ℕ) → IsUsed (body_with ps words) x → IsSome (slice_get (ps ++ words.0) x)) where
  abbrev b : Body
  b = body_with ps words

  abbrev declared : List ℕ
  declared = range_with_len (length ps) (length words.0)

  long : length b.parameters ≡ length ps
  long = length-range_with_len 0 (length ps)

  distinct : AllPairs (λ (x : ℕ) (y : ℕ). x ≢ y) declared
  distinct j k d before last same =
      let n : length declared ≡ length words.0 = length-range_with_len (length ps) (length words.0) in
      let second : k < length words.0 = omega (arith, last, n) in
      let first : j < length words.0 = omega (arith, before, second) in
      omega (arith, before, same, get_or-range_with_len (length ps) (length words.0) j d first, get_or-range_with_len (length ps) (length words.0) k d second)

  is_declared : (x : ℕ) → Contains declared x → DeclaresLocal b x
  is_declared x at =
      let within = range_in (length ps) (length words.0) x at in (
        uses x (omega (arith, within.0, long)) (omega (arith, within.1, long)),
        λ parameter. omega (arith, within.0, (range_in 0 (length ps) x parameter).1),
      )

  was_declared : (x : ℕ) → DeclaresLocal b x → Contains declared x
  was_declared x d =
      let high : x < length (ps ++ words.0) = some_there (ps ++ words.0) x (typed x d.0) in
      ⊎_elim
      (λ (low : x < length ps). absurd (d.1 (range_has 0 (length ps) x (omega arith) (omega (arith, low)))))
      (λ (past : length ps ≤ x). range_has (length ps) (length words.0) x past (omega (arith, high, length-append ps words.0)))
      (cases_lt x (length ps))

  counted : IsCounted b
  counted = record {
    locals = declared;
    distinct = distinct;
    are = λ x. (is_declared x, was_declared x);
    count = sym (length-range_with_len (length ps) (length words.0));
  }

  pub whole_itself : (f : ℕ) → IsWholeBody unchanged f b b
  whole_itself f = record {
    parameters = sym (map-itself (λ x. x) b.parameters (λ x. refl));
    types = λ x v at. at;
    counted = counted;
    rise = λ x y a b lt. lt;
  }

module _ (c : Config) (n : Abstract) (holds : Holds n) (read : IsRead c n) (uses : (f : ℕ) (b : Body) → body_of n f ≡ Some b → UsesAll b) where
  read_formed : HasBodies c n
  read_formed f g b at is =
      let a = read.bodies f g b at is in
      let ps : List (ValType ℕ) = params_of (n.types g.ty) in
      let here : body_of n f ≡ Some (body_with ps a.said) = ap body_of_function at ∙ ap body_of_kind is ∙ ap Some a.is in
      let whole = whole_itself ps a.said (uses f (body_with ps a.said) here) (λ x used. holds.indices.locals f (body_with ps a.said) x here used) f in
      subst (IsWellFormed c n g.ty) (sym a.is)
      (well_formed c n g.ty ps a.said (body_with ps a.said) unchanged f whole (sym (map-itself (moved_op (λ x. x)) a.said.1 op_itself)) refl (holds.function_types.functions f g at) read.names a.text a.read)

pub written_bodies : WrittenBodies
written_bodies c u n t made nothing written spelling =
    let is = spelling.says in
    let as_text = subst (IsWrittenAs c u) is written in
    let says = subst (λ x. IsSpelling x t) is spelling in
    let own = subst (λ x. IsSpelling x t) (as_told t) says in
    let holds = subst Holds (as_told t) (written_holds c u t made nothing as_text says) in
    let nest = subst (BodiesNest c) (as_told t) (made_nest c u t made as_text says) in
    let read = is_read_by c (laid t) (map said t.bodies) t.producers (namings_of t.names) (bodies_back c t own (bodies_hold (told t) holds) nest) in
    subst (HasBodies c) (sym (is ∙ as_told t)) (read_formed c (told t) holds read own.used)
