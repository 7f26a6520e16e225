-- What the scan of a body keeps from operator to operator.
use Rattle.std.proofs.Common.{◌≡◌, ℕ, ◌+◌, ◌-◌, ◌^◌, ◌<◌, ◌≤◌, Bool, true, false, List, [], ◌∷◌, ◌++◌, length, take, drop, map, Some, refl, sym, ap, ap₂, subst, ◌∙◌, arith, append_assoc, inl, inr}
use Rattle.std.specs.Prelude.{nat_eq, ◌&&◌, Vec, vec_len, vec_capacity}
use Rattle.std.specs.List.{list_all}
use Rattle.std.specs.declared.alloc.Global.{Global}
use Rattle.std.proofs.lemmas.Bool.{ne_eqb}
use Rattle.std.proofs.lemmas.List.{append-nil, length-append, length-map, length-reverse}
use Rattle.std.proofs.lemmas.List.Folds.{list_all-append}
use Rattle.std.proofs.lemmas.Grind.{flat_map-append}
use Rattle.std.proofs.Math.Seq.{take-length}
use Rattle.wasm_forms.specs.Grammar.{Form}
use Rattle.wasm_forms.specs.Writing.{EachFits}
use Rattle.wasm_operators.specs.declared.operator.RawArg.{RawArg}
use Rattle.wasm_operators.specs.Operators.{Op}
use Rattle.wasm_operators.specs.Forms.{args_form}
use Rattle.wasm_operators.specs.Table.{kinds_of}
use Rattle.wasm_operators.specs.declared.kind.Kind.{Kind}
use Rattle.wasm_operators.specs.declared.kind.Kind.TheVariants as kinds
use Rattle.wasm_opcodes.specs.declared.one_byte.TheConstants.{IF}
use Rattle.wasm_text.specs.declared.class.Class.{Class}
use Rattle.wasm_text.specs.declared.class.Class.TheVariants as class
use Rattle.wasm_text.specs.declared.limits.Limits.{Limits}
use Rattle.wasm_text.specs.Places.{between, IfPlace}
use Rattle.wasm_text.specs.Classes.{is_plain, class_kinds, Fits, IsOneByte}
use Rattle.wasm_text.specs.Marks.{AreInOrder, Holds, all_args, shifted}
use Rattle.wasm_text.specs.Scans.{Begins, HasArgs, HasOperator, HasPrefixed, HasRoom, IsWithin, ScansArgs, ScansClass}
use Rattle.wasm_text.specs.Bodies.{blocks_of, behind_else, behind_end, blocks_behind, Turns, IsNext, Nest, IsBody}
use Rattle.wasm_text.proofs.Between.{length_between}
use Rattle.wasm_text.proofs.Operator.{one_byte_found, one_byte_args, prefixed_found}
use Rattle.wasm_text.specs.Unmarked.{AreLeft, AreNamed, Flags, HasLeft, ScansLeft}
use Rattle.wasm_text.specs.declared.unmarked.Unmarked.{Unmarked}
use Rattle.wasm_text.proofs.Leaving.{all_left, left_few, left_behind, left_still, nothing_flagged, named_more}
use Rattle.wasm_text.proofs.Read.{scanned_more}
use Rattle.wasm_text.proofs.Scans.{place_as}
use Rattle.wasm_text.proofs.Showing.{holds_none}
use Rattle.wasm_text.proofs.Together.{bare_args}

-- ---- room

-- each mark stands for a byte or more
marks_fit : (bytes : List ℕ) (from : ℕ) (marks : List ℕ) → AreInOrder bytes from marks → from + length marks ≤ length bytes
marks_fit bytes from [] h = omega (arith, h)
marks_fit bytes from (mark ∷ marks) (le, (arg, (behind, (stands, more)))) = omega (arith, le, stands.forward, marks_fit bytes behind marks more)

-- where there is room from a place on, there is behind the arguments that begin there
pub room_behind : (form : Form (List RawArg)) (limits : Limits) (before after : Vec ℕ Global) (bytes : List ℕ) (at behind : ℕ) → HasRoom before bytes at → vec_capacity after ≡ vec_capacity before
    → HasArgs form limits bytes at behind before.items after.items → HasRoom after bytes behind
room_behind form limits before after bytes at behind (there, small, room) same h =
    let few : 0 + length h.marks ≤ length (between at behind bytes) = marks_fit (between at behind bytes) 0 h.marks h.shown.ordered in
    let long : length (between at behind bytes) ≡ behind - at = length_between bytes at behind h.within in
    let all : length after.items ≡ length before.items + length h.marks =
    ap length h.put ∙ length-append before.items (map (shifted at) h.marks) ∙ ap (λ (n : ℕ). length before.items + n) (length-map h.marks (shifted at)) in
    (h.within, small, omega (arith, few, long, all, room, same, before.ok.0, after.ok.0, h.forward, h.within))

-- ---- the operators so far

-- The operators up to a place, with these blocks open behind them: what nests in these blocks, nests with these operators in front in a function. Their
-- marks are left that are needed, and what is flagged is named by them.
pub record UpTo (limits : Limits) (unmarked : Unmarked) (bytes left : List ℕ) (count at : ℕ) (blocks : List Bool) : Type 0 where
  pub texts : List Op
  pub counted : count ≡ length texts
  pub marks : List ℕ
  pub holds : Holds (between 0 at bytes) marks texts
  pub are_left : AreLeft unmarked.first unmarked.accessed bytes marks left
  pub named : AreNamed unmarked (all_args texts)
  pub plain : list_all (λ o. is_plain o.op) texts ≡ true
  pub nesting : (rest : List Op) → Nest limits blocks rest → Nest limits (false ∷ []) (texts ++ rest)
  pub within : at ≤ length bytes

pub nothing_yet : (limits : Limits) (unmarked : Unmarked) (bytes left : List ℕ) (blocks : List Bool) → left ≡ [] → AreNamed unmarked [] → blocks ≡ false ∷ [] → UpTo limits unmarked bytes left 0 0 blocks
nothing_yet limits unmarked bytes left blocks none unnamed alone = record {
  texts = [];
  counted = refl;
  marks = [];
  holds = holds_none;
  are_left = none;
  named = unnamed;
  plain = refl;
  nesting = λ rest h. subst (λ (bs : List Bool). Nest limits bs rest) alone h;
  within = omega arith;
}

-- there is room behind the first byte of the next operator
pub room_next : (limits : Limits) (unmarked : Unmarked) (left : Vec ℕ Global) (bytes : List ℕ) (count at : ℕ) (blocks : List Bool) → UpTo limits unmarked bytes left.items count at blocks → length bytes < 2 ^ 28 → length bytes < vec_capacity left
    → at < length bytes → HasRoom left bytes (at + 1)
room_next limits unmarked left bytes count at blocks so_far small room more =
    let fewer : length left.items ≤ length so_far.marks = left_few unmarked.first unmarked.accessed bytes so_far.marks left.items so_far.are_left in
    let few : 0 + length so_far.marks ≤ length (between 0 at bytes) = marks_fit (between 0 at bytes) 0 so_far.marks so_far.holds.shown.ordered in
    let long : length (between 0 at bytes) ≡ at - 0 = length_between bytes 0 at so_far.within in
    (omega (arith, more), small, omega (arith, fewer, few, long, room, more, left.ok.0))

-- ---- how blocks turn

far : (op k : ℕ) → k < 65536 → 65536 ≤ op → nat_eq op k ≡ false
far op k small large = ne_eqb op k (λ e. omega (arith, e))

-- an operator behind a prefix opens and closes nothing
prefixed_stays : (op : ℕ) (blocks : List Bool) → 65536 ≤ op → blocks_behind op blocks ≡ Some blocks
prefixed_stays op blocks large =
    rw (
      far op 2 (omega arith) large,
      far op 3 (omega arith) large,
      far op 4 (omega arith) large,
      far op 31 (omega arith) large,
      far op 5 (omega arith) large,
      far op 11 (omega arith) large,
    ) refl

-- what the first byte of an operator does, the operator does
first_does : (bytes : List ℕ) (at op b : ℕ) (blocks : List Bool) → Begins bytes at op → drop at bytes ≡ b ∷ drop (at + 1) bytes → blocks_behind op blocks ≡ blocks_behind b blocks
first_does bytes at op b blocks (inl e) first =
    let same : op ≡ b = cc in
    ap (λ (n : ℕ). blocks_behind n blocks) same
first_does bytes at op b blocks (inr (e, large)) first =
    let same : b ≡ 252 = cc in
    prefixed_stays op blocks large ∙ sym (ap (λ (n : ℕ). blocks_behind n blocks) same)

-- an operator whose marks are all left, where nothing is flagged
marked_next : (limits : Limits) (unmarked : Unmarked) (bytes : List ℕ) (at behind : ℕ) (old new : List ℕ) (blocks after : List Bool) → (found : HasOperator limits bytes at behind old new)
    → blocks_behind found.text.op blocks ≡ Some after → IsNext limits unmarked unmarked bytes at behind blocks after old new
marked_next limits unmarked bytes at behind old new blocks after found turns = record {
  marks = map (shifted at) found.marks;
  found = record { text = found.text; marks = found.marks; holds = found.holds; put = refl; fit = found.fit; plain = found.plain; begins = found.begins; forward = found.forward; within = found.within };
  turns = turns;
  left = map (shifted at) found.marks;
  are_left = all_left unmarked.first unmarked.accessed bytes (map (shifted at) found.marks);
  put = found.put;
  flags = nothing_flagged unmarked found.text.args;
}

-- an operator of one byte and its arguments
one_next : (c : Class) (b : ℕ) (limits : Limits) (unmarked : Unmarked) (bytes : List ℕ) (at behind : ℕ) (old new : List ℕ) (blocks after : List Bool) → b < 256 → drop at bytes ≡ b ∷ drop (at + 1) bytes → IsOneByte b (class_kinds c)
    → HasArgs (args_form (class_kinds c)) limits bytes (at + 1) behind old new → blocks_behind b blocks ≡ Some after → IsNext limits unmarked unmarked bytes at behind blocks after old new
one_next c b limits unmarked bytes at behind old new blocks after small first fits h turns =
    let found = one_byte_found b limits bytes at behind old new (class_kinds c) small first fits h in
    marked_next limits unmarked bytes at behind old new blocks after found (first_does bytes at found.text.op b blocks found.begins first ∙ turns)

pub block_next : (c : Class) (b : ℕ) (limits : Limits) (unmarked : Unmarked) (bytes : List ℕ) (at behind : ℕ) (old new : List ℕ) (blocks after : List Bool) → b < 256 → drop at bytes ≡ b ∷ drop (at + 1) bytes → c ≡ class.Block → Fits c b → Turns c b
    → ScansArgs (args_form (kinds.Block ∷ [])) limits bytes (at + 1) old new behind → after ≡ nat_eq b IF ∷ blocks → IfPlace behind (IsNext limits unmarked unmarked bytes at behind blocks after old new)
block_next c b limits unmarked bytes at behind old new blocks after small first is fits turns s opens =
    let fits' : IsOneByte b (kinds.Block ∷ []) = subst (λ (k : Class). Fits k b) is fits in
    let turns' : (blocks : List Bool) → blocks_behind b blocks ≡ Some (nat_eq b IF ∷ blocks) = subst (λ (k : Class). Turns k b) is turns in
    place_as behind (λ (h : HasArgs (args_form (kinds.Block ∷ [])) limits bytes (at + 1) behind old new). one_next class.Block b limits unmarked bytes at behind old new blocks after small first fits' h (turns' blocks ∙ ap (λ (bs : List Bool). Some bs) (sym opens))) s

-- else and end
turning_next : (b : ℕ) (limits : Limits) (unmarked : Unmarked) (bytes : List ℕ) (at behind : ℕ) (old : List ℕ) (blocks after : List Bool) → b < 256 → at < length bytes → drop at bytes ≡ b ∷ drop (at + 1) bytes → IsOneByte b []
    → behind ≡ at + 1 → blocks_behind b blocks ≡ Some after → IsNext limits unmarked unmarked bytes at behind blocks after old old
turning_next b limits unmarked bytes at behind old blocks after small there first fits e turns =
    one_next class.Bare b limits unmarked bytes at behind old old blocks after small first fits
    (subst (λ (k : ℕ). HasArgs (args_form []) limits bytes (at + 1) k old old) (sym e) (bare_args limits bytes (at + 1) old (omega (arith, there)))) turns

pub else_next : (c : Class) (b : ℕ) (limits : Limits) (unmarked : Unmarked) (bytes : List ℕ) (at behind : ℕ) (old : List ℕ) (blocks after : List Bool) → b < 256 → at < length bytes → drop at bytes ≡ b ∷ drop (at + 1) bytes → c ≡ class.Else → Fits c b → Turns c b
    → IfPlace behind ((behind ≡ at + 1) × (behind_else blocks ≡ Some after)) → IfPlace behind (IsNext limits unmarked unmarked bytes at behind blocks after old old)
else_next c b limits unmarked bytes at behind old blocks after small there first is fits turns s =
    let fits' : IsOneByte b [] = subst (λ (k : Class). Fits k b) is fits in
    let turns' : (blocks : List Bool) → blocks_behind b blocks ≡ behind_else blocks = subst (λ (k : Class). Turns k b) is turns in
    place_as behind (λ (h : (behind ≡ at + 1) × (behind_else blocks ≡ Some after)). turning_next b limits unmarked bytes at behind old blocks after small there first fits' h.0 (turns' blocks ∙ h.1)) s

pub end_next : (c : Class) (b : ℕ) (limits : Limits) (unmarked : Unmarked) (bytes : List ℕ) (at behind : ℕ) (old : List ℕ) (blocks after : List Bool) → b < 256 → at < length bytes → drop at bytes ≡ b ∷ drop (at + 1) bytes → c ≡ class.End → Fits c b → Turns c b
    → IfPlace behind ((behind ≡ at + 1) × (behind_end blocks ≡ Some after)) → IfPlace behind (IsNext limits unmarked unmarked bytes at behind blocks after old old)
end_next c b limits unmarked bytes at behind old blocks after small there first is fits turns s =
    let fits' : IsOneByte b [] = subst (λ (k : Class). Fits k b) is fits in
    let turns' : (blocks : List Bool) → blocks_behind b blocks ≡ behind_end blocks = subst (λ (k : Class). Turns k b) is turns in
    place_as behind (λ (h : (behind ≡ at + 1) × (behind_end blocks ≡ Some after)). turning_next b limits unmarked bytes at behind old blocks after small there first fits' h.0 (turns' blocks ∙ h.1)) s

-- an operator of one byte and its arguments, with those of their marks that are needed
left_next : (listed : List Kind) (b : ℕ) (limits : Limits) (before after : Unmarked) (bytes : List ℕ) (at behind : ℕ) (old new : List ℕ) (blocks : List Bool) → b < 256 → drop at bytes ≡ b ∷ drop (at + 1) bytes → IsOneByte b listed
    → blocks_behind b blocks ≡ Some blocks → HasLeft listed limits before after bytes (at + 1) behind old new → IsNext limits before after bytes at behind blocks blocks old new
left_next listed b limits before after bytes at behind old new blocks small first fits turns h =
    let found = one_byte_found b limits bytes at behind [] h.all listed small first fits h.found in
    record {
      marks = h.all;
      found = found;
      turns = first_does bytes at found.text.op b blocks found.begins first ∙ turns;
      left = h.left;
      are_left = h.are_left;
      put = h.put;
      flags = subst (λ (xs : List RawArg). Flags before after xs) (sym (one_byte_args b limits bytes at behind [] h.all listed small first fits h.found)) h.flags;
    }

pub local_next : (c : Class) (b : ℕ) (limits : Limits) (before after : Unmarked) (bytes : List ℕ) (at behind : ℕ) (old new : List ℕ) (blocks : List Bool) → b < 256 → drop at bytes ≡ b ∷ drop (at + 1) bytes → c ≡ class.Local → Fits c b → Turns c b
    → ScansLeft (kinds.Local ∷ []) limits before after bytes (at + 1) old new behind → IfPlace behind (IsNext limits before after bytes at behind blocks blocks old new)
local_next c b limits before after bytes at behind old new blocks small first is fits turns =
    let fits' : IsOneByte b (kinds.Local ∷ []) = subst (λ (k : Class). Fits k b) is fits in
    let turns' : (blocks : List Bool) → blocks_behind b blocks ≡ Some blocks = subst (λ (k : Class). Turns k b) is turns in
    place_as behind (left_next (kinds.Local ∷ []) b limits before after bytes at behind old new blocks small first fits' (turns' blocks))

pub access_next : (c : Class) (b : ℕ) (limits : Limits) (before after : Unmarked) (bytes : List ℕ) (at behind : ℕ) (old new : List ℕ) (blocks : List Bool) → b < 256 → drop at bytes ≡ b ∷ drop (at + 1) bytes → c ≡ class.Access → Fits c b → Turns c b
    → ScansLeft (kinds.Access ∷ []) limits before after bytes (at + 1) old new behind → IfPlace behind (IsNext limits before after bytes at behind blocks blocks old new)
access_next c b limits before after bytes at behind old new blocks small first is fits turns =
    let fits' : IsOneByte b (kinds.Access ∷ []) = subst (λ (k : Class). Fits k b) is fits in
    let turns' : (blocks : List Bool) → blocks_behind b blocks ≡ Some blocks = subst (λ (k : Class). Turns k b) is turns in
    place_as behind (left_next (kinds.Access ∷ []) b limits before after bytes at behind old new blocks small first fits' (turns' blocks))

-- all others, which leave the blocks as they are
pub class_next : (c : Class) (b : ℕ) (limits : Limits) (unmarked : Unmarked) (bytes : List ℕ) (at behind : ℕ) (old new : List ℕ) (blocks : List Bool) → b < 256 → drop at bytes ≡ b ∷ drop (at + 1) bytes → Fits c b → Turns c b
    → ScansClass c limits bytes (at + 1) old new behind → IfPlace behind (IsNext limits unmarked unmarked bytes at behind blocks blocks old new)
class_next class.Other b limits unmarked bytes at behind old new blocks small first fits turns e = inl e
class_next class.Block b limits unmarked bytes at behind old new blocks small first fits turns e = inl e
class_next class.Else b limits unmarked bytes at behind old new blocks small first fits turns e = inl e
class_next class.End b limits unmarked bytes at behind old new blocks small first fits turns e = inl e
class_next class.Prefix b limits unmarked bytes at behind old new blocks small first fits turns s =
    place_as behind (λ (h : HasPrefixed limits bytes (at + 1) behind old new).
    let found = prefixed_found b limits bytes at behind old new first fits h in
    marked_next limits unmarked bytes at behind old new blocks blocks found (first_does bytes at found.text.op b blocks found.begins first ∙ turns blocks)) s
class_next c b limits unmarked bytes at behind old new blocks small first fits turns s =
    place_as behind (λ (h : HasArgs (args_form (class_kinds c)) limits bytes (at + 1) behind old new). one_next c b limits unmarked bytes at behind old new blocks blocks small first fits h (turns blocks)) s

-- limits with as many labels as they have
pub with_labels : (limits : Limits) (many : ℕ) → limits.labels ≡ many → limits ≡ record limits { labels = many }
with_labels limits many e = ap (λ (n : ℕ). record limits { labels = n }) e

-- as many blocks are open as there are flags
pub many_open : (opened : Vec Bool Global) → vec_len opened ≡ length (blocks_of opened)
many_open opened = opened.ok.0 ∙ sym (length-reverse opened.items)

-- ---- one operator more

nested_more : (limits here : Limits) (many : ℕ) (blocks after : List Bool) (o : Op) (rest : List Op) → here ≡ record limits { labels = many } → 0 < many → many ≡ length blocks → EachFits (IsWithin here) o.args
    → blocks_behind o.op blocks ≡ Some after → Nest limits after rest → Nest limits blocks (o ∷ rest)
nested_more limits here many [] after o rest same some long fit turns h = absurd (omega (arith, some, long))
nested_more limits here many (block ∷ around) after o rest same some long fit turns h =
    (subst (λ (l : Limits). EachFits (IsWithin l) o.args) (same ∙ ap (λ (n : ℕ). record limits { labels = n }) long) fit, (after, (turns, h)))

-- those that were left are, where more is flagged, and those of the operator behind
left_more : (before after : Unmarked) (bytes all left all' left' : List ℕ) (named : List RawArg) → Flags before after named → AreLeft before.first before.accessed bytes all left → AreLeft after.first after.accessed bytes all' left'
    → AreLeft after.first after.accessed bytes (all ++ all') (left ++ left')
left_more before after bytes all left all' left' named flags h k =
    left_behind after.first after.accessed bytes all left all' left'
    (left_still after.first before.accessed after.accessed bytes all left flags.stays (subst (λ (n : ℕ). AreLeft n before.accessed bytes all left) (sym flags.same) h)) k

pub one_more : (limits here : Limits) (before after : Unmarked) (bytes old new : List ℕ) (count at behind many : ℕ) (blocks blocks_after : List Bool) → UpTo limits before bytes old count at blocks → here ≡ record limits { labels = many } → 0 < many → many ≡ length blocks
    → IsNext here before after bytes at behind blocks blocks_after old new → UpTo limits after bytes new (count + 1) behind blocks_after
one_more limits here before after bytes old new count at behind many blocks blocks_after so_far same some long next =
    let found = next.found in
    let text : Op = found.text in
    let all : List ℕ = so_far.marks ++ next.marks in
    let behind_all : HasOperator here bytes at behind so_far.marks all = record {
      text = text;
      marks = found.marks;
      holds = found.holds;
      put = ap (λ ms. so_far.marks ++ ms) found.put;
      fit = found.fit;
      plain = found.plain;
      begins = found.begins;
      forward = found.forward;
      within = found.within;
    } in
    let named : AreNamed after (all_args so_far.texts ++ text.args) = named_more before after (all_args so_far.texts) text.args so_far.named next.flags in
    let args_more : all_args (so_far.texts ++ text ∷ []) ≡ all_args so_far.texts ++ text.args = flat_map-append (λ (o : Op). o.args) so_far.texts (text ∷ []) ∙ ap (λ xs. all_args so_far.texts ++ xs) (append-nil text.args) in
    record {
      texts = so_far.texts ++ text ∷ [];
      counted = ap (λ n. n + 1) so_far.counted ∙ sym (length-append so_far.texts (text ∷ []));
      marks = all;
      holds = scanned_more here bytes so_far.marks all at behind so_far.texts so_far.holds behind_all;
      are_left = subst (λ (l : List ℕ). AreLeft after.first after.accessed bytes all l) (sym next.put) (left_more before after bytes so_far.marks old next.marks next.left text.args next.flags so_far.are_left next.are_left);
      named = subst (λ (xs : List RawArg). AreNamed after xs) (sym args_more) named;
      plain = list_all-append (λ (o : Op). is_plain o.op) so_far.texts (text ∷ []) ∙ ap₂ (λ x y. x && (y && true)) so_far.plain found.plain;
      nesting = λ rest h. subst (λ (os : List Op). Nest limits (false ∷ []) os) (sym (append_assoc so_far.texts (text ∷ []) rest))
          (so_far.nesting (text ∷ rest) (nested_more limits here many blocks blocks_after text rest same some long found.fit next.turns h));
      within = found.within;
    }

-- ---- the end

end_is_bare : IsOneByte 11 []
unfolding kinds_of
end_is_bare = record { has = record { kinds = refl; plain = refl }; alone = refl }

whole_body : (limits : Limits) (unmarked : Unmarked) (bytes left : List ℕ) (count at : ℕ) → at ≡ length bytes → UpTo limits unmarked bytes left count at [] → IsBody limits unmarked bytes left count
whole_body limits unmarked bytes left count at last so_far =
    let long : at - 0 ≡ length bytes = omega (arith, last) in
    let whole : between 0 at bytes ≡ bytes = ap (λ n. take n bytes) long ∙ take-length bytes in
    record {
      texts = so_far.texts;
      counted = so_far.counted;
      marks = so_far.marks;
      holds = subst (λ (b : List ℕ). Holds b so_far.marks so_far.texts) whole so_far.holds;
      are_left = so_far.are_left;
      named = so_far.named;
      plain = so_far.plain;
      nested = subst (λ (os : List Op). Nest limits (false ∷ []) os) (append-nil so_far.texts) (so_far.nesting [] refl);
    }

-- the end of the function, where it alone is open and no byte stands behind
pub ended : (limits here : Limits) (unmarked : Unmarked) (bytes left : List ℕ) (count at many : ℕ) (blocks : List Bool) → UpTo limits unmarked bytes left count at blocks → here ≡ record limits { labels = many } → many ≡ 1 → many ≡ length blocks
    → drop at bytes ≡ 11 ∷ drop (at + 1) bytes → at + 1 ≡ length bytes → IsBody limits unmarked bytes left (count + 1)
ended limits here unmarked bytes left count at many [] so_far same alone long first last = absurd (omega (arith, alone, long))
ended limits here unmarked bytes left count at many (block ∷ []) so_far same alone long first last =
    whole_body limits unmarked bytes left (count + 1) (at + 1) last
    (one_more limits here unmarked unmarked bytes left left count at (at + 1) many (block ∷ []) [] so_far same (omega (arith, alone)) long
    (turning_next 11 here unmarked bytes at (at + 1) left (block ∷ []) [] (omega arith) (omega (arith, last)) first end_is_bare refl refl))
ended limits here unmarked bytes left count at many (block ∷ other ∷ around) so_far same alone long first last = absurd (omega (arith, alone, long))
