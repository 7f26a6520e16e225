use Rattle.walrus_theorem.proofs.ReadExample.{two_functions_read, one_function_read, left_spelled}
use Rattle.walrus_theorem.proofs.Worked.{one_spelled, are_refused}
use Rattle.walrus_theorem.proofs.WorkedWritten.{is_written_once}
use Rattle.walrus_theorem.proofs.spelling.worked_row.Goals as goal

pub returns-clause-one : goal.returns-clause-one
returns-clause-one c = one_spelled

pub returns-clause-refused : goal.returns-clause-refused
returns-clause-refused c = are_refused

pub returns-clause-written : goal.returns-clause-written
returns-clause-written c = is_written_once

pub returns-clause-read : goal.returns-clause-read
returns-clause-read c = record { reads = two_functions_read; written_reads = one_function_read; spelled = left_spelled }
