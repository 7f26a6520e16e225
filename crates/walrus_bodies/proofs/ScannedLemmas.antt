-- A scanned body: what its bytes show reads as its operators.
use Rattle.std.proofs.Common.{◌≡◌, ℕ, ◌+◌, true, List, length, map, refl, ap₂, ◌∙◌, sym, subst}
use Rattle.std.proofs.Math.Logic.{∥∥₁_elim}
use Rattle.std.proofs.Props.{props}
use Rattle.wasm_text.specs.declared.limits.Limits.{Limits}
use Rattle.walrus_base.specs.Operators.{Op}
use Rattle.walrus_code.specs.declared.location.InstrLocId.{InstrLocId}
use Rattle.walrus_bodies.specs.Body.{Located, OperatorsRead}
use Rattle.walrus_bodies.specs.Blocks.{blocks_hold}
use Rattle.walrus_bodies.specs.Texts.{texts_at, places_at}
use Rattle.walrus_bodies.specs.Placed.{placed_ops}
use Rattle.walrus_bodies.specs.PlainBody.{IsPlainBody}
use Rattle.walrus_bodies.specs.Text.{bytes_of, entry_of, texts_of, first_local_of, local_count_of, ops_in, start_of, at_place, locations_in}
use Rattle.walrus_bodies.specs.Scanned.{IsPlace, IsScanned}
use Rattle.walrus_bodies.specs.declared.plain_code.LeftOut.{LeftOut}
use Rattle.walrus_bodies.specs.declared.text.Text.{Text}
use Rattle.walrus_bodies.proofs.TextLemmas.{row_of}
use Rattle.walrus_bodies.proofs.HeldLemmas.{whole_so, nested_so, simple_so, named_so}
use Rattle.walrus_bodies.proofs.PlainLemmas.{nested_moved, texts_allowed}
use Rattle.walrus_bodies.proofs.LocationLemmas.{stand}

pub is_scanned : (limits : Limits) (out : LeftOut) (first start : ℕ) (bytes marks : List ℕ) (text : Text) → bytes_of text ≡ bytes → text.first_local ≡ first → (entry_of text).locals ≡ limits.locals → start_of text ≡ start
    → ∥ IsPlainBody limits out bytes marks (entry_of text).count ∥₁ → IsScanned limits first start bytes text
unfolding texts_of first_local_of local_count_of locations_in
is_scanned limits out first start bytes marks text same begins counted starts body =
    let count = (entry_of text).count in
    let texts = texts_at count bytes in
    let whole = ∥∥₁_elim body (hlevel props) (λ b. whole_so limits out bytes marks count b) in
    let row = row_of count bytes whole in
    let simple = ∥∥₁_elim body (hlevel props) (λ b. simple_so limits out bytes marks count b) in
    let ops : ops_in text ≡ placed_ops first texts = ap₂ (λ (n : ℕ) (bs : List ℕ). placed_ops n (texts_at count bs)) begins same in
    let locs : locations_in text ≡ map at_place (places_at (start + length bytes) (length texts) bytes) = rw (starts, same, row.1) refl in
    record {
      begins = begins;
      counted = counted;
      reads = λ c locals in_place from blocks. subst (λ (os : List Op). OperatorsRead c locals bytes os) (sym ops) (record {
        texts = texts;
        spelled = row.0;
        named = ∥∥₁_elim body (hlevel props) (λ b. named_so limits out bytes marks count b first c.names locals in_place from);
        nested = nested_moved first texts ∙ ∥∥₁_elim body (hlevel props) (λ b. nested_so limits out bytes marks count b);
        allowed = texts_allowed c.features first texts simple;
        blocks = subst (λ (os : List Op). blocks_hold c.is_function_type os ≡ true) ops blocks;
      });
      located = subst (λ (ls : List InstrLocId). Located IsPlace start bytes ls) (sym locs) (stand start (start + length bytes) bytes texts refl row.0);
    }
