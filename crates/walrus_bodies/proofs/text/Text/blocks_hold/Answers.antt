use Rattle.std.proofs.Common.{ℕ, List, ap₂, ◌∙◌, subst}
use Rattle.std.specs.Prelude.{◌≢◌}
use Rattle.std.specs.List.{All, list_all}
use Rattle.std.proofs.lemmas.Result.{IfOk-weaker}
use Rattle.wasm_text.specs.Marks.{args_at, kind_of}
use Rattle.walrus_bodies.specs.Blocks.{block_holds}
use Rattle.walrus_bodies.specs.Text.{bytes_of, marks_of}
use Rattle.walrus_code.specs.FromRaw.{arg_of}
use Rattle.walrus_bodies.proofs.OrderLemmas.{in_order}
use Rattle.walrus_bodies.proofs.NamesShown.{blocks_shown, none_hold}
use Rattle.walrus_bodies.proofs.text.Text.blocks_hold.Goals as goal

pub marks_hold-requires : goal.marks_hold-requires
marks_hold-requires g c = rw (c.bytes.ensures, c.marks-marks.ensures) (in_order c.args.self.now)

-- no mark is that of a block
pub returns-then-not-has_blocks : goal.returns-then-not-has_blocks
returns-then-not-has_blocks g c =
    let holds = g.T.FunctionTypes.function_types c.args.types.now in
    let text = c.args.self.now in
    let none = c.has_blocks.ensures c.if-not-has_blocks.true in
    none_hold holds (bytes_of text) (marks_of text) (in_order text) (subst (λ (ms : List ℕ). All (λ mark. kind_of mark ≢ 10) ms) c.marks-marks.ensures none) ∙ blocks_shown holds text

pub returns : goal.returns
returns g c =
    let holds = g.T.FunctionTypes.function_types c.args.types.now in
    let same = ap₂ (λ b m. list_all (λ arg. block_holds holds (arg_of arg)) (args_at b m)) c.bytes.ensures c.marks-marks.ensures ∙ blocks_shown holds c.args.self.now in
    IfOk-weaker c.marks_hold.result _ _ (λ hold is. is ∙ same) c.marks_hold.ensures
