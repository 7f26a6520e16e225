-- Each operator of a function that is kept has a place in the output.
use Rattle.std.proofs.Common.{◌≡◌, ℕ, List, sym, ap, ◌∙◌, subst}
use Rattle.std.specs.Prelude.{Some, slice_get}
use Rattle.walrus.specs.Base.Operators.{Functions, Op}
use Rattle.walrus.specs.Code.FromRaw.{op_of}
use Rattle.walrus.specs.Model.Abstract.{Body}
use Rattle.walrus.specs.Model.Config.{Config}
use Rattle.walrus.specs.Model.Kept.{Kept}
use Rattle.walrus.specs.Model.Names.{body_of}
use Rattle.walrus.specs.Model.Renaming.{Renaming, renamed_op}
use Rattle.walrus.specs.Theorem.Headline.{ComesTo}
use Rattle.walrus_tools.specs.Stands.{StandsIn}
use Rattle.walrus_examples.specs.Moves.{Moves, OperatorStands}
use Rattle.walrus.proofs.Model.Looked.{at_map, map_at}
use Rattle.walrus_examples.proofs.OneNumber.{comes_out, out_numbers}
use Rattle.walrus_tools.proofs.PlacedOps.{place_there, row_in, stands_in}
use Rattle.walrus_examples.proofs.ReadBodies.{has_bytes, has_function, op_stands, ops_stand}

module _ (c : Config) (bytes output : List ℕ) (comes : ComesTo c bytes output) where
  abbrev r : Renaming
  r = comes.out.renaming

  abbrev s : ℕ → ℕ
  s = r.numbers Functions

  -- the operator of a body of the output stands at a place
  stands_there : (f : ℕ) (e : Body) → body_of comes.module_written f ≡ Some e → (k : ℕ) (o : Op) → slice_get e.operators k ≡ Some o → (place : ℕ) × OperatorStands comes.output_reads.sections f k place o
  stands_there f e is k o at =
      let h = has_bytes c output comes.module_written comes.output_reads f e is in
      let read = h.read in
      let placed = row_in h.body read.front read.back read.declared read.operators.texts read.parts read.declares read.operators.spelled in
      let texts = read.operators.texts in
      let text = at_map op_of texts k o (ap (λ (l : List Op). slice_get l k) (sym (ops_stand c output comes.module_written comes.output_reads f e h texts placed.0 placed.1)) ∙ at) in
      let place = place_there h.body texts placed.0 placed.1 k text.0 text.1.0 in (
        place.0,
        record {
          number = h.number;
          index = h.index;
          body = h.body;
          has = h.has;
          stands = subst (λ (y : Op). StandsIn h.body k place.0 y) text.1.1 (stands_in h.body texts placed.0 placed.1 k place.0 text.0 text.1.0 place.1);
        },
      )

  pub each_moves : (f k old : ℕ) (o : Op) → Kept comes.module_read (Functions, f) → OperatorStands comes.reads.sections f k old o → (new : ℕ) × Moves comes old new
  each_moves f k old o kept stood =
      let b = has_function c bytes comes.module_read comes.reads stood.number stood.body stood.has in
      let read : body_of comes.module_read f ≡ Some b.0 = ap (body_of comes.module_read) stood.index ∙ b.1 in
      let e = comes_out comes.module_read comes.module_written r (out_numbers c comes.module_read comes.module_written comes.out) f b.0 read kept in
      let at = op_stands c bytes comes.module_read comes.reads f b.0 read k old o stood in
      let renamed = ap (λ (l : List Op). slice_get l k) e.1.1.operators ∙ map_at (renamed_op r (r.locals f)) b.0.operators k o at in
      let new = stands_there (s f) e.0 e.1.0 k (renamed_op r (r.locals f) o) renamed in
      (new.0, record { f = f; kept = kept; k = k; o = o; stood = stood; stands = new.1 })
