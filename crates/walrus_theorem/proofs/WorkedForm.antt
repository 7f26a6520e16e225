-- The module of one function that the worked run writes is in settled form, that of two functions is not, nor is the one under other words.
use Rattle.std.proofs.Common.{◌≡◌, true, [], ◌++◌, refl, subst, ⊎_elim}
use Rattle.std.specs.Prelude.{Some, None, codes, decimal}
use Rattle.walrus_base.specs.Operators.{Functions}
use Rattle.walrus_model.specs.Config.{Config}
use Rattle.walrus_model.specs.Examples as small
use Rattle.walrus_model.specs.Examples.{two_functions}
use Rattle.walrus_model.specs.Producers.{produced}
use Rattle.walrus_theorem.specs.Examples.{one_function_bytes, two_functions_bytes}
use Rattle.walrus_theorem.specs.Headline.{ComesTo}
use Rattle.walrus_theorem.specs.SettledForm.{IsSettledForm, SettledExamples}
use Rattle.walrus_model.proofs.Examples.{kept_and_out}
use Rattle.walrus_theorem.proofs.AgainAll.{comes_out_settled}
use Rattle.walrus_theorem.proofs.ReadExample.{one_function_read}
use Rattle.walrus_theorem.proofs.ReadsOnce.{reads_once_lem}
use Rattle.walrus_theorem.proofs.WorkedRun.{row_runs}

one_settled : (c : Config) → ComesTo c two_functions_bytes one_function_bytes → IsSettledForm c small.one_function
one_settled c run = subst (IsSettledForm c) (reads_once_lem c one_function_bytes small.one_function run.module_written (one_function_read c) run.output_reads) (comes_out_settled c two_functions_bytes one_function_bytes run)

two_not : (c : Config) → IsSettledForm c two_functions → ⊥
two_not c form = ⊎_elim (λ k. kept_and_out.2 k) (λ none. none) (form.kept (Functions, 0) refl)

no_program : (c : Config) → IsSettledForm (record c { writes_producers = true }) small.one_function → ⊥
no_program c form = let none : [] ≡ produced [] = form.form.producers in absurd (cc)

no_name : (c : Config) → IsSettledForm (record c { writes_names = true; synthetic_names = true }) small.one_function → ⊥
no_name c form = let none : None ≡ Some (codes "f" ++ decimal 0) = form.form.names.items (Functions, 0) refl tt in absurd (cc)

pub settled_examples : SettledExamples
settled_examples c names producers = (one_settled c (row_runs c names producers).comes, two_not c, no_program c, no_name c)
