-- A body with a call in front: it reads back, and declares what it did.
use Rattle.std.proofs.Common.{◌≡◌, ℕ, ◌<◌, ◌^◌, Bool, List, [], ◌∷◌, ◌++◌, refl, ap, ◌∙◌}
use Rattle.std.specs.Prelude.{Option, Some}
use Rattle.walrus.specs.Forms.Reading.{◌>>=◌}
use Rattle.walrus.specs.Forms.Grammar.{Is}
use Rattle.walrus.proofs.Forms.Bind.{bind_at}
use Rattle.walrus.specs.Operators.Operators as wire
use Rattle.walrus.specs.Operators.RawArg.TheVariants as raw
use Rattle.walrus.specs.Operators.Forms.{operator}
use Rattle.walrus.specs.Operators.Spelling.{op_bytes}
use Rattle.walrus.specs.Operators.Standing.{spells}
use Rattle.walrus.specs.Operators.Table.{kinds_of}
use Rattle.walrus.proofs.Operators.Stands.{operator_stands}
use Rattle.walrus.specs.Base.Types.{ValType}
use Rattle.walrus.specs.Base.Operators.{Functions, Arg, Index, Op}
use Rattle.walrus.specs.Code.FromRaw.{op_of, ops_of}
use Rattle.walrus.specs.Code.Names.{Lookup, named_op, named_ops}
use Rattle.walrus.specs.Modules.Features.{Features}
use Rattle.walrus.specs.Modules.Body.{BodyReads, context}
use Rattle.walrus.specs.Ir.Instructions.{call_op}
use Rattle.walrus.specs.Model.Abstract.{Body}
use Rattle.walrus.specs.Theorem.WellMade.{IsCounted}

-- the body with a call of function n in front
abbrev pub with_call : ℕ → Body → Body
with_call n b = record b { operators = call_op n ∷ b.operators }

-- it declares what it did, since the call names no local
pub counted_call : (n : ℕ) (b : Body) → IsCounted b → IsCounted (with_call n b)
counted_call n b h = record { locals = h.locals; distinct = h.distinct; are = h.are; count = h.count }

-- ---- its bytes

abbrev call_text : ℕ → wire.Op
call_text k = record { op = (call_op 0).op; args = raw.Function k ∷ [] }

call_spelled : (k : ℕ) → k < 2 ^ 32 → Is operator (op_bytes (call_text k)) (call_text k)
unfolding spells kinds_of
call_spelled k small = operator_stands (call_text k) (small, tt) refl

abbrev pub text_with : {names : Lookup} {p : ℕ → Bool} {f : Features} {locals : ℕ → Option ℕ} {text : List ℕ} {types : List (ValType ℕ)} {ops : List Op} → ℕ → BodyReads (context names p f) locals text types ops → List ℕ
text_with k h = h.front ++ (op_bytes (call_text k) ++ h.back)

module _ (names : Lookup) (p : ℕ → Bool) (f : Features) (locals : ℕ → Option ℕ) (k n : ℕ) (small : k < 2 ^ 32) (leads : names Functions k ≡ Some n) where
  call_named : named_op names locals (op_of (call_text k)) ≡ Some (call_op n)
  call_named = ap (λ (o : Option ℕ). ((o >>= λ i. Some (Index (Functions, i))) >>= λ (x : Arg). Some (x ∷ [])) >>= λ (args : List Arg). let q : Op = record { op = (call_op 0).op; args = args } in Some q) leads

  -- index k leads to function n: so the bytes with a call of k in front are the body with a call of n in front
  pub call_reads : (text : List ℕ) (types : List (ValType ℕ)) (ops : List Op) (h : BodyReads (context names p f) locals text types ops) → BodyReads (context names p f) locals (text_with k h) types (call_op n ∷ ops)
  call_reads text types ops h = record {
    front = h.front;
    back = op_bytes (call_text k) ++ h.back;
    parts = refl;
    declared = h.declared;
    declares = h.declares;
    typed = h.typed;
    operators = record {
      texts = call_text k ∷ h.operators.texts;
      spelled = (op_bytes (call_text k), (h.back, (refl, call_spelled k small, h.operators.spelled)));
      named =
          bind_at (named_op names locals (op_of (call_text k))) (λ x. named_ops names locals (ops_of h.operators.texts) >>= λ rest. Some (x ∷ rest)) (call_op n) call_named
          ∙ bind_at (named_ops names locals (ops_of h.operators.texts)) (λ rest. Some (call_op n ∷ rest)) ops h.operators.named;
      nested = h.operators.nested;
      allowed = h.operators.allowed;
      blocks = h.operators.blocks;
    };
  }
