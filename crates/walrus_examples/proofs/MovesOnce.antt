-- No bytes that come to an output have two lists of moves.
use Rattle.std.proofs.Common.{◌≡◌, ℕ, List, sym, ap, ◌∙◌, subst}
use Rattle.std.specs.Prelude.{Contains, Some, slice_get}
use Rattle.walrus.specs.Frames.Record as wire
use Rattle.walrus.proofs.Frames.Modules.{one_record_lem}
use Rattle.walrus.specs.Base.Operators.{Functions, Op}
use Rattle.walrus.specs.Model.Abstract.{Abstract, Body}
use Rattle.walrus.specs.Model.Config.{Config}
use Rattle.walrus.specs.Model.Kept.{Kept}
use Rattle.walrus.specs.Model.Names.{body_of}
use Rattle.walrus.specs.Model.Renaming.{Renaming, renamed_op, renamed_ops}
use Rattle.walrus.proofs.Base.Standing.{some_inj}
use Rattle.walrus.specs.Theorem.Headline.{ComesTo, ReadsModule}
use Rattle.walrus.proofs.Theorem.ReadsOnce.{reads_once_lem}
use Rattle.walrus.proofs.Model.RisingLists.{same_members}
use Rattle.walrus_examples.specs.Moves.{Moves, MovesOnce, OperatorStands, TellsMoves}
use Rattle.walrus.proofs.Model.Looked.{map_at}
use Rattle.walrus_examples.proofs.OneNumber.{Numbers, comes_out, numbers_one, out_numbers}
use Rattle.walrus_examples.proofs.ReadBodies.{has_function, op_stands}

module _ (c : Config) (bytes output : List ℕ) (m n : Abstract) (reads : ReadsModule c bytes m) (output_reads : ReadsModule c output n) (r t : Renaming) (h : Numbers m n r) (k : Numbers m n t)
    (f number place : ℕ) (o : Op) (kept : Kept m (Functions, f)) (stood : OperatorStands reads.sections f number place o) where
  body : (b : Body) × (body_of m f ≡ Some b)
  body = let b = has_function c bytes m reads stood.number stood.body stood.has in (b.0, ap (body_of m) stood.index ∙ b.1)

  pub index_same : r.numbers Functions f ≡ t.numbers Functions f
  index_same = numbers_one m n r t h k c output output_reads f (kept, body)

  -- both rename the operator in one way
  pub op_same : renamed_op r (r.locals f) o ≡ renamed_op t (t.locals f) o
  op_same =
      let a = body.0 in
      let x = comes_out m n r h f a body.1 kept in
      let y = comes_out m n t k f a body.1 kept in
      let one : x.0 ≡ y.0 = some_inj x.0 y.0 (sym x.1.0 ∙ ap (body_of n) index_same ∙ y.1.0) in
      let ops : renamed_ops r (r.locals f) a.operators ≡ renamed_ops t (t.locals f) a.operators = sym x.1.1.operators ∙ ap (λ (b : Body). b.operators) one ∙ y.1.1.operators in
      let at = op_stands c bytes m reads f a body.1 number place o stood in
      some_inj (renamed_op r (r.locals f) o) (renamed_op t (t.locals f) o)
      (sym (map_at (renamed_op r (r.locals f)) a.operators number o at) ∙ ap (λ (l : List Op). slice_get l number) ops ∙ map_at (renamed_op t (t.locals f)) a.operators number o at)

module _ (c : Config) (bytes output : List ℕ) (a b : ComesTo c bytes output) where
  same_numbers : Numbers a.module_read a.module_written b.out.renaming
  same_numbers =
      subst (λ (m : Abstract). Numbers m a.module_written b.out.renaming) (reads_once_lem c bytes a.module_read b.module_read a.reads b.reads)
      (subst (λ (n : Abstract). Numbers b.module_read n b.out.renaming) (reads_once_lem c output a.module_written b.module_written a.output_reads b.output_reads) (out_numbers c b.module_read b.module_written b.out))

  also_moves : (old new : ℕ) → Moves a old new → Moves b old new
  also_moves old new mv =
      let index = index_same c bytes output a.module_read a.module_written a.reads a.output_reads a.out.renaming b.out.renaming (out_numbers c a.module_read a.module_written a.out) same_numbers mv.f mv.k old mv.o mv.kept mv.stood in
      let op = op_same c bytes output a.module_read a.module_written a.reads a.output_reads a.out.renaming b.out.renaming (out_numbers c a.module_read a.module_written a.out) same_numbers mv.f mv.k old mv.o mv.kept mv.stood in
      record {
        f = mv.f;
        kept = subst (λ (m : Abstract). Kept m (Functions, mv.f)) (sym (reads_once_lem c bytes a.module_read b.module_read a.reads b.reads)) mv.kept;
        k = mv.k;
        o = mv.o;
        stood = subst (λ (s : wire.Module). OperatorStands s mv.f mv.k old mv.o) (one_record_lem bytes a.reads.sections b.reads.sections a.reads.framed b.reads.framed) mv.stood;
        stands = subst (λ (s : wire.Module). OperatorStands s (b.out.renaming.numbers Functions mv.f) mv.k new (renamed_op b.out.renaming (b.out.renaming.locals mv.f) mv.o))
            (one_record_lem output a.output_reads.sections b.output_reads.sections a.output_reads.framed b.output_reads.framed)
            (subst (λ (i : ℕ). OperatorStands a.output_reads.sections i mv.k new (renamed_op b.out.renaming (b.out.renaming.locals mv.f) mv.o)) index
            (subst (λ (y : Op). OperatorStands a.output_reads.sections (a.out.renaming.numbers Functions mv.f) mv.k new y) op mv.stands));
      }

also_told : (c : Config) (bytes output : List ℕ) (places others : List (ℕ × ℕ)) → TellsMoves c bytes output places → TellsMoves c bytes output others → (z : ℕ × ℕ) → Contains places z → Contains others z
also_told c bytes output places others a b (old, new) at = let told = (a.are old new).0 at in (b.are old new).1 (told.0, also_moves c bytes output a.comes b.comes old new told.1)

pub moves_once : MovesOnce
moves_once c bytes output places others a b =
    same_members (λ (e : ℕ × ℕ). e.0) places others a.rising b.rising (also_told c bytes output places others a b) (also_told c bytes output others places b a)
