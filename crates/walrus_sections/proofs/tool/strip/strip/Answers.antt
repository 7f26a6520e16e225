use Rattle.std.proofs.Common.{List, map, refl, subst}
use Rattle.wasm_frames.specs.Pieces.{piece_record}
use Rattle.wasm_frames.specs.declared.pieces.RawPiece.{RawPiece}
use Rattle.walrus_sections.specs.Choice.{choices_seen}
use Rattle.walrus_sections.specs.StripAnswers.{AllFit, AreLeft, OneFitsNone}
use Rattle.walrus_sections.proofs.tool.strip.strip.Goals as goal

pub returns-then-not-all_fit : goal.returns-then-not-all_fit
returns-then-not-all_fit c =
    record {
      pieces = map piece_record c.in_ok-pieces.pieces.items;
      framed = c.in_ok-pieces.ensures;
      none = subst (λ (l : List RawPiece). OneFitsNone (map piece_record l) (choices_seen c.args.choices.now)) c.deref.ensures.value (c.if-not-all_fit.ensures.none refl);
    }

pub returns : goal.returns
returns c =
    record {
      pieces = map piece_record c.in_ok-pieces.pieces.items;
      framed = c.in_ok-pieces.ensures;
      left = subst (λ (l : List RawPiece). AreLeft (choices_seen c.args.choices.now) (map piece_record l) c.in_ok-what_is_left.field-0.items) c.deref-2.ensures.value c.in_ok-what_is_left.ensures;
      fit = subst (λ (l : List RawPiece). AllFit (map piece_record l) (choices_seen c.args.choices.now)) c.deref.ensures.value (c.if-not-all_fit.ensures.all refl);
    }
