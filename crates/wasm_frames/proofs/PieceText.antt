-- Sections as they stand: what is read of one in front is what is spelled, and every such front is read.
use Rattle.std.proofs.Common.{◌≡◌, ℕ, ◌-◌, Bool, true, false, List, ◌∷◌, ◌++◌, length, take, refl, sym, ap, subst, ◌∙◌, arith, length-append, eqb-true}
use Rattle.std.proofs.Math.Seq.{take-append_seam}
use Rattle.std.specs.Prelude.{Option, Some, None, nat_eq, if◌then◌else◌}
use Rattle.wasm_forms.specs.Reading.{◌>>=◌, byte_at}
use Rattle.wasm_forms.specs.Grammar.{Block, U32, name, at, IsExact}
use Rattle.wasm_forms.proofs.Bind.{some_same, some_not_none, bind_some, bind_at, byte_takes}
use Rattle.wasm_forms.proofs.Exact.{exact}
use Rattle.wasm_frames.specs.Pieces.{Piece, is_list, IsNamed, IsCounted, IsPiece}
use Rattle.wasm_frames.specs.PieceSteps.{name_in, count_in, piece_at}

true_not_false : true ≡ false → ⊥
true_not_false e = cc

-- names

abbrev with_name : List ℕ × List ℕ → Option (Option (List ℕ))
with_name n = Some (Some n.0)

name_takes_by : (test : Bool) (id : ℕ) (content : List ℕ) (n : Option (List ℕ)) → nat_eq id 0 ≡ test
    → (if test then (at name content >>= with_name) else Some None) ≡ Some n → IsNamed id content n
name_takes_by true id content n t e =
    let p = bind_some (at name content) with_name n e in
    let u = (exact name).takes content p.0 p.1 in
    subst (IsNamed id content) (some_same (Some p.0.0) n p.2) (eqb-true id 0 t, (u.0, (p.0.1, (u.1.0, u.1.1))))
name_takes_by false id content n t e =
    subst (IsNamed id content) (some_same None n e) (λ (z : id ≡ 0). true_not_false (sym (ap (λ (i : ℕ). nat_eq i 0) z) ∙ t))

name_takes : (id : ℕ) (content : List ℕ) (n : Option (List ℕ)) → name_in id content ≡ Some n → IsNamed id content n
unfolding name_in
name_takes id content n e = name_takes_by (nat_eq id 0) id content n refl e

no_name : (test : Bool) (id : ℕ) (read : Option (Option (List ℕ))) → nat_eq id 0 ≡ test → (id ≡ 0 → ⊥)
    → (if test then read else Some None) ≡ Some None
no_name true id read t h = absurd (h (eqb-true id 0 t))
no_name false id read t h = refl

name_again : (id : ℕ) (content : List ℕ) (n : Option (List ℕ)) → IsNamed id content n → name_in id content ≡ Some n
unfolding name_in
name_again id content (Some n) h =
    ap (λ (i : ℕ). if nat_eq i 0 then (at name content >>= with_name) else Some None) h.0
    ∙ bind_at (at name content) with_name (n, h.1.1.0) (ap (at name) h.1.1.1.0 ∙ (exact name).again h.1.0 h.1.1.0 n h.1.1.1.1)
name_again id content None h = no_name (nat_eq id 0) id (at name content >>= with_name) refl h

-- counts

abbrev with_count : ℕ × List ℕ → Option ℕ
with_count n = Some n.0

counted_by : (test : Bool) (read : Option (ℕ × List ℕ)) (id : ℕ) (content : List ℕ) → is_list id ≡ test → at U32 content ≡ read
    → IsCounted id content (if test then (read >>= with_count) else None)
counted_by true (Some x) id content t e = let u = (exact U32).takes content x e in (t, (u.0, (x.1, (u.1.0, u.1.1))))
counted_by true None id content t e = λ l front back n s i.
    some_not_none (n, back) (sym ((exact U32).again front back n i) ∙ ap (at U32) (sym s) ∙ e)
counted_by false read id content t e = λ l front back n s i. true_not_false (sym l ∙ t)

pub counted : (id : ℕ) (content : List ℕ) → IsCounted id content (count_in id content)
unfolding count_in
counted id content = counted_by (is_list id) (at U32 content) id content refl refl

no_count : (test : Bool) (read : Option (ℕ × List ℕ)) (id : ℕ) (content : List ℕ) → is_list id ≡ test → at U32 content ≡ read
    → IsCounted id content None → (if test then (read >>= with_count) else None) ≡ None
no_count true (Some x) id content t e h = let u = (exact U32).takes content x e in absurd (h t u.0 x.1 x.0 u.1.0 u.1.1)
no_count true None id content t e h = refl
no_count false read id content t e h = refl

count_again : (id : ℕ) (content : List ℕ) (n : Option ℕ) → IsCounted id content n → count_in id content ≡ n
unfolding count_in
count_again id content (Some n) h =
    ap (λ (b : Bool). if b then (at U32 content >>= with_count) else None) h.0
    ∙ bind_at (at U32 content) with_count (n, h.1.1.0) (ap (at U32) h.1.1.1.0 ∙ (exact U32).again h.1.0 h.1.1.0 n h.1.1.1.1)
count_again id content None h = no_count (is_list id) (at U32 content) id content refl refl h

-- sections

abbrev piece_of : ℕ → ℕ → List ℕ → List ℕ × List ℕ → Option (List ℕ) → Piece
piece_of id place bytes c n = record { id = id; name = n; entries = count_in id c.0; start = place; bytes = take (length bytes - length c.1) bytes }

abbrev named_piece : ℕ → ℕ → List ℕ → List ℕ × List ℕ → Option (List ℕ) → Option (Piece × List ℕ)
named_piece id place bytes c n = Some (piece_of id place bytes c n, c.1)

abbrev sized_piece : ℕ → ℕ → List ℕ → List ℕ × List ℕ → Option (Piece × List ℕ)
sized_piece id place bytes c = name_in id c.0 >>= named_piece id place bytes c

abbrev led_piece : ℕ → List ℕ → ℕ × List ℕ → Option (Piece × List ℕ)
led_piece place bytes i = at Block i.1 >>= sized_piece i.0 place bytes

-- what stands before the rest
before_rest : (bytes front rest : List ℕ) → bytes ≡ front ++ rest → take (length bytes - length rest) bytes ≡ front
before_rest bytes front rest e =
    let far : length bytes - length rest ≡ length front = omega (arith, ap length e, length-append front rest) in
    ap (λ (k : ℕ). take k bytes) far ∙ ap (take (length front)) e ∙ take-append_seam front rest

abbrev made_as : Piece → Option ℕ → ℕ → List ℕ → Piece
made_as p entries start bytes = record { id = p.id; name = p.name; entries = entries; start = start; bytes = bytes }

same_piece : (p : Piece) (entries : Option ℕ) (start : ℕ) (bytes : List ℕ) → entries ≡ p.entries → start ≡ p.start → bytes ≡ p.bytes
    → made_as p entries start bytes ≡ p
same_piece p entries start bytes e f g =
    ap (λ (n : Option ℕ). made_as p n start bytes) e ∙ ap (λ (s : ℕ). made_as p p.entries s bytes) f
    ∙ ap (λ (l : List ℕ). made_as p p.entries p.start l) g

pub piece_exact : (place : ℕ) → IsExact (IsPiece place) (piece_at place)
unfolding piece_at
piece_exact place = record {
  takes = λ bytes x e.
      let i = bind_some (byte_at bytes) (led_piece place bytes) x e in
      let c = bind_some (at Block i.0.1) (sized_piece i.0.0 place bytes) x i.2 in
      let n = bind_some (name_in i.0.0 c.0.0) (named_piece i.0.0 place bytes c.0) x c.2 in
      let u = (exact Block).takes i.0.1 c.0 c.1 in
      let read : bytes ≡ (i.0.0 ∷ u.0) ++ c.0.1 = byte_takes bytes i.0 i.1 ∙ ap (λ l. i.0.0 ∷ l) u.1.0 in
      let H : Piece × List ℕ → Type 0 = λ y. (bytes ≡ (i.0.0 ∷ u.0) ++ y.1) × IsPiece place (i.0.0 ∷ u.0) y.0 in (
        i.0.0 ∷ u.0,
        subst H (some_same (piece_of i.0.0 place bytes c.0 n.0, c.0.1) x n.2) (
          read,
          record {
            size = u.1.1.0;
            content = c.0.0;
            spelled = ap (λ l. i.0.0 ∷ l) u.1.1.1.0;
            sized = u.1.1.1.1;
            named = name_takes i.0.0 c.0.0 n.0 n.1;
            counted = counted i.0.0 c.0.0;
            starts = refl;
            held = before_rest bytes (i.0.0 ∷ u.0) c.0.1 read;
          },
        ),
      );
  again = λ front rest p h.
      let bytes : List ℕ = front ++ rest in
      let read : bytes ≡ p.id ∷ ((h.size ++ h.content) ++ rest) = ap (λ l. l ++ rest) h.spelled in
      let same : piece_of p.id place bytes (h.content, rest) p.name ≡ p =
      same_piece p (count_in p.id h.content) place (take (length bytes - length rest) bytes) (count_again p.id h.content p.entries h.counted)
      (sym h.starts) (before_rest bytes front rest refl ∙ sym h.held) in
      bind_at (byte_at bytes) (led_piece place bytes) (p.id, (h.size ++ h.content) ++ rest) (ap byte_at read)
      ∙ bind_at (at Block ((h.size ++ h.content) ++ rest)) (sized_piece p.id place bytes) (h.content, rest)
      ((exact Block).again (h.size ++ h.content) rest h.content (h.size, (refl, h.sized)))
      ∙ bind_at (name_in p.id h.content) (named_piece p.id place bytes (h.content, rest)) p.name (name_again p.id h.content p.name h.named)
      ∙ ap (λ (q : Piece). Some (q, rest)) same;
}
