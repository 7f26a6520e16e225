-- Bytes that read as the body that traps.
use Rattle.std.proofs.Common.{ℕ, Bool, [], ◌∷◌, refl}
use Rattle.std.specs.Prelude.{Option}
use Rattle.walrus.specs.Forms.Number.{number_at, leb_at}
use Rattle.walrus.specs.Forms.Grammar.{Is, row_at}
use Rattle.walrus.specs.Operators.Operators as wire
use Rattle.walrus.specs.Operators.Forms.{args_form, operator_of, operator_from, operator}
use Rattle.walrus.specs.Operators.Table.{kinds_of}
use Rattle.walrus.specs.Code.Names.{Lookup}
use Rattle.walrus.specs.Modules.Body.{context, declarations, BodyReads}
use Rattle.walrus.specs.Model.Config.{Config}
use Rattle.walrus.specs.Theorem.Features.{features_of}
use Rattle.walrus_tools.specs.Trap.{trap_ops}
use Rattle.walrus.proofs.Theorem.ReadExample.{reads_whole}

abbrev the_trap : wire.Op
the_trap = record { op = 0x00; args = [] }

abbrev the_end : wire.Op
the_end = record { op = 0x0B; args = [] }

trap_read : Is operator (0x00 ∷ []) the_trap
unfolding operator operator_from operator_of args_form kinds_of
trap_read = reads_whole operator (0x00 ∷ []) the_trap refl

end_read : Is operator (0x0B ∷ []) the_end
unfolding operator operator_from operator_of args_form kinds_of
end_read = reads_whole operator (0x0B ∷ []) the_end refl

no_declarations : Is declarations (0x00 ∷ []) []
unfolding declarations number_at leb_at row_at
no_declarations = reads_whole declarations (0x00 ∷ []) [] refl

pub trap_reads : (c : Config) (names : Lookup) (p : ℕ → Bool) (locals : ℕ → Option ℕ) → BodyReads (context names p (features_of c)) locals (0x00 ∷ 0x00 ∷ 0x0B ∷ []) [] trap_ops
trap_reads c names p locals = record {
  front = 0x00 ∷ [];
  back = 0x00 ∷ 0x0B ∷ [];
  parts = refl;
  declared = [];
  declares = no_declarations;
  typed = refl;
  operators = record { texts = the_trap ∷ the_end ∷ []; spelled = (0x00 ∷ [], (0x0B ∷ [], (refl, trap_read, (0x0B ∷ [], ([], (refl, end_read, refl)))))); named = refl; nested = refl; allowed = refl; blocks = refl };
}
